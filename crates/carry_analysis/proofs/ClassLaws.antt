-- The class of a let by what was seen of it.
use Rattle.std.proofs.Common.{◌≡◌, ◌≤◌, ◌+◌, ℕ, zero, suc, false, List, [], ◌∷◌, length, map, take, replicate, refl, ap, ◌∙◌, arith}
use Rattle.vert_tree.specs.declared.statement.AssignOp.TheVariants as assign
use Rattle.vert_tree.specs.declared.program.Decl.{Decl}
use Rattle.carry_analysis.specs.declared.seen.Use.{Use}
use Rattle.carry_analysis.specs.declared.seen.Use.TheVariants.{Read, Assigned}
use Rattle.carry_analysis.specs.declared.seen.Seen.TheVariants.{Nowhere, Always, Mixed}
use Rattle.carry_analysis.specs.declared.classes.Class.TheVariants.{Carried}
use Rattle.carry_analysis.specs.Classes.{Mark, class_of, let_classes, uses_of}
use Rattle.carry_analysis.specs.Walks.{class_seen, seen_after, walk_after}
use Rattle.carry_analysis.proofs.SightLaws.{lets-seen, lets_after, sight}

mixed : (us : List Use) → class_seen (seen_after Mixed us) ≡ Carried
mixed [] = refl
mixed (u ∷ us) = mixed us

always : (u : Use) (us : List Use) → class_seen (seen_after (Always u) us) ≡ class_of (u ∷ us)
always Read [] = refl
always (Assigned assign.Set) [] = refl
always (Assigned assign.Add) [] = refl
always (Assigned assign.Least) [] = refl
always (Assigned assign.Greatest) [] = refl
always Read (Read ∷ us) = always Read us
always Read (Assigned assign.Set ∷ us) = mixed us
always Read (Assigned assign.Add ∷ us) = mixed us
always Read (Assigned assign.Least ∷ us) = mixed us
always Read (Assigned assign.Greatest ∷ us) = mixed us
always (Assigned assign.Set) (Read ∷ us) = mixed us
always (Assigned assign.Set) (Assigned assign.Set ∷ us) = always (Assigned assign.Set) us
always (Assigned assign.Set) (Assigned assign.Add ∷ us) = mixed us
always (Assigned assign.Set) (Assigned assign.Least ∷ us) = mixed us
always (Assigned assign.Set) (Assigned assign.Greatest ∷ us) = mixed us
always (Assigned assign.Add) (Read ∷ us) = mixed us
always (Assigned assign.Add) (Assigned assign.Set ∷ us) = mixed us
always (Assigned assign.Add) (Assigned assign.Add ∷ us) = always (Assigned assign.Add) us
always (Assigned assign.Add) (Assigned assign.Least ∷ us) = mixed us
always (Assigned assign.Add) (Assigned assign.Greatest ∷ us) = mixed us
always (Assigned assign.Least) (Read ∷ us) = mixed us
always (Assigned assign.Least) (Assigned assign.Set ∷ us) = mixed us
always (Assigned assign.Least) (Assigned assign.Add ∷ us) = mixed us
always (Assigned assign.Least) (Assigned assign.Least ∷ us) = always (Assigned assign.Least) us
always (Assigned assign.Least) (Assigned assign.Greatest ∷ us) = mixed us
always (Assigned assign.Greatest) (Read ∷ us) = mixed us
always (Assigned assign.Greatest) (Assigned assign.Set ∷ us) = mixed us
always (Assigned assign.Greatest) (Assigned assign.Add ∷ us) = mixed us
always (Assigned assign.Greatest) (Assigned assign.Least ∷ us) = mixed us
always (Assigned assign.Greatest) (Assigned assign.Greatest ∷ us) = always (Assigned assign.Greatest) us

class_is : (us : List Use) → class_seen (seen_after Nowhere us) ≡ class_of us
class_is [] = refl
class_is (u ∷ us) = always u us

classes_from : (ds : List Decl) (i n : ℕ) (ms : List Mark) → length ds ≤ n →
    map class_seen (take (length ds) (lets_after i (replicate n Nowhere) ms)) ≡ let_classes i ds ms
classes_from [] i n ms le = refl
classes_from (d ∷ ds) i zero ms le = absurd (omega arith)
classes_from (d ∷ ds) i (suc n) ms le =
    ap (λ x. x ∷ map class_seen (take (length ds) (lets_after (i + 1) (replicate n Nowhere) ms)))
    (class_is (uses_of i ms))
    ∙ ap (λ l. class_of (uses_of i ms) ∷ l) (classes_from ds (i + 1) n ms (omega arith))

-- the classes of all lets, after a walk that began with nothing seen
pub classes_are : (ds : List Decl) (ms : List Mark) → length ds ≤ 8 →
    map class_seen (take (length ds) (walk_after (sight (replicate 8 Nowhere) false) ms).lets) ≡ let_classes 0 ds ms
classes_are ds ms le =
    ap (λ l. map class_seen (take (length ds) l)) (lets-seen (sight (replicate 8 Nowhere) false) ms)
    ∙ classes_from ds 0 8 ms le
