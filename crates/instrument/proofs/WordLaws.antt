-- The words of lets by their classes: what the runs of a segment and of the whole loop do to them.
use Rattle.std.proofs.Common.{◌≡◌, ◌≢◌, ℕ, zero, suc, ℤ, Bool, true, false, List, [], ◌∷◌, length, All, refl, sym, ap, ◌∙◌, Option, None, Some, arith}
use Rattle.std.specs.Prelude.{FitsSigned, slice_get, slice_set}
use Rattle.std.specs.Int.{int_wrap, w64}
use Rattle.std.proofs.lemmas.Int.{ints, clamps, int_wrap_fits}
use Rattle.std.proofs.lemmas.List.Elements.{All-tail}
use Rattle.vert_base.specs.declared.value.Combine.{Combine}
use Rattle.vert_base.specs.declared.value.Combine.TheVariants as combine
use Rattle.vert_tree.specs.declared.statement.AssignOp.{AssignOp}
use Rattle.vert_tree.specs.declared.statement.AssignOp.TheVariants as assign
use Rattle.carry_analysis.specs.declared.classes.Class.{Class}
use Rattle.carry_analysis.specs.declared.classes.Class.TheVariants.{Constant, Reduced, Carried}
use Rattle.carry_analysis.specs.Classes.{carried_in}
use Rattle.slot_merge.specs.Combine.{combined_of, neutral}
use Rattle.slot_merge.proofs.CombineLaws.{combined_of-assoc, combined_of-comm, Min≢First, Max≢First, Sum≢First}
use Rattle.vert_eval.specs.Values.{word_at}
use Rattle.vert_eval.specs.Words.{assigned}
use Rattle.instrument.specs.Segments.{carried_words, received_over, with_neutral}
use Rattle.instrument.specs.Continued.{AreLeft, IsLeft, combined_word, combined_words}

-- ---- what each class allows

abbrev pub is_operator : Combine → AssignOp → Bool
is_operator combine.Sum assign.Add = true
is_operator combine.Min assign.Least = true
is_operator combine.Max assign.Greatest = true
is_operator _ _ = false

-- whether a loop body may read a let of this class
abbrev pub is_readable : Option Class → Bool
is_readable None = true
is_readable (Some Constant) = true
is_readable (Some (Reduced op)) = false
is_readable (Some Carried) = true

-- whether it may assign so to it
abbrev pub is_assignable : Option Class → AssignOp → Bool
is_assignable None op = true
is_assignable (Some Constant) op = false
is_assignable (Some (Reduced kind)) op = is_operator kind op
is_assignable (Some Carried) op = true

-- ---- one word

combine_after : (op : Combine) (other : AssignOp) (b x v : ℤ) → is_operator op other ≡ true →
    assigned other (combined_of op b x) v ≡ combined_of op b (assigned other x v)
combine_after combine.Sum assign.Add b x v e = combined_of-assoc combine.Sum b x v
combine_after combine.Min assign.Least b x v e = combined_of-assoc combine.Min b x v
combine_after combine.Max assign.Greatest b x v e = combined_of-assoc combine.Max b x v
combine_after combine.Sum assign.Set b x v e = cc
combine_after combine.Sum assign.Least b x v e = cc
combine_after combine.Sum assign.Greatest b x v e = cc
combine_after combine.Min assign.Set b x v e = cc
combine_after combine.Min assign.Add b x v e = cc
combine_after combine.Min assign.Greatest b x v e = cc
combine_after combine.Max assign.Set b x v e = cc
combine_after combine.Max assign.Add b x v e = cc
combine_after combine.Max assign.Least b x v e = cc
combine_after combine.First other b x v e = cc

-- ---- the words of a segment over those before it

pub read_same : (cs : List Class) (before xs : List ℤ) (i : ℕ) → is_readable (slice_get cs i) ≡ true →
    word_at (combined_words cs before xs) i ≡ word_at xs i
read_same [] before xs i h = refl
read_same (c ∷ cs) [] xs i h = refl
read_same (c ∷ cs) (b ∷ before) [] i h = refl
read_same (Constant ∷ cs) (b ∷ before) (x ∷ xs) zero h = refl
read_same (Reduced op ∷ cs) (b ∷ before) (x ∷ xs) zero h = cc
read_same (Carried ∷ cs) (b ∷ before) (x ∷ xs) zero h = refl
read_same (c ∷ cs) (b ∷ before) (x ∷ xs) (suc i) h = read_same cs before xs i h

-- an assignment before or after the words are combined
pub assign_same : (cs : List Class) (before xs : List ℤ) (i : ℕ) (op : AssignOp) (v : ℤ) →
    is_assignable (slice_get cs i) op ≡ true →
    slice_set (combined_words cs before xs) i
    (assigned op (word_at (combined_words cs before xs) i) v) ≡ combined_words cs before
    (slice_set xs i (assigned op (word_at xs i) v))
assign_same [] before xs i op v h = refl
assign_same (c ∷ cs) [] xs i op v h = refl
assign_same (c ∷ cs) (b ∷ before) [] i op v h = refl
assign_same (Constant ∷ cs) (b ∷ before) (x ∷ xs) zero op v h = cc
assign_same (Reduced kind ∷ cs) (b ∷ before) (x ∷ xs) zero op v h =
    ap (λ y. y ∷ combined_words cs before xs) (combine_after kind op b x v h)
assign_same (Carried ∷ cs) (b ∷ before) (x ∷ xs) zero op v h = refl
assign_same (c ∷ cs) (b ∷ before) (x ∷ xs) (suc i) op v h =
    ap (λ l. combined_word c b x ∷ l) (assign_same cs before xs i op v h)

pub carried_same : (cs : List Class) (before xs : List ℤ) →
    carried_words cs (combined_words cs before xs) ≡ carried_words cs xs
carried_same [] before xs = refl
carried_same (c ∷ cs) [] xs = refl
carried_same (c ∷ cs) (b ∷ before) [] = refl
carried_same (Constant ∷ cs) (b ∷ before) (x ∷ xs) = carried_same cs before xs
carried_same (Reduced op ∷ cs) (b ∷ before) (x ∷ xs) = carried_same cs before xs
carried_same (Carried ∷ cs) (b ∷ before) (x ∷ xs) = ap (λ l. x ∷ l) (carried_same cs before xs)

-- ---- words from which a segment can go on

-- one operand more comes behind what changes nothing
swapped : (op : Combine) (x v : ℤ) → op ≢ combine.First → combined_of op x (neutral op) ≡ x →
    combined_of op (combined_of op x v) (neutral op) ≡ combined_of op x v
swapped op x v other h =
    combined_of-assoc op x v (neutral op)
    ∙ ap (combined_of op x) (combined_of-comm op other v (neutral op))
    ∙ sym (combined_of-assoc op x (neutral op) v)
    ∙ ap (λ y. combined_of op y v) h

neutral_stays : (op : Combine) (other : AssignOp) (x v : ℤ) → is_operator op other ≡ true →
    combined_of op x (neutral op) ≡ x →
    combined_of op (assigned other x v) (neutral op) ≡ assigned other x v
neutral_stays combine.Sum assign.Add x v e h = swapped combine.Sum x v Sum≢First h
neutral_stays combine.Min assign.Least x v e h = swapped combine.Min x v Min≢First h
neutral_stays combine.Max assign.Greatest x v e h = swapped combine.Max x v Max≢First h
neutral_stays combine.Sum assign.Set x v e h = cc
neutral_stays combine.Sum assign.Least x v e h = cc
neutral_stays combine.Sum assign.Greatest x v e h = cc
neutral_stays combine.Min assign.Set x v e h = cc
neutral_stays combine.Min assign.Add x v e h = cc
neutral_stays combine.Min assign.Greatest x v e h = cc
neutral_stays combine.Max assign.Set x v e h = cc
neutral_stays combine.Max assign.Add x v e h = cc
neutral_stays combine.Max assign.Least x v e h = cc
neutral_stays combine.First other x v e h = cc

-- an assignment leaves such words
pub left_after : (cs : List Class) (own xs : List ℤ) (i : ℕ) (op : AssignOp) (v : ℤ) →
    is_assignable (slice_get cs i) op ≡ true →
    AreLeft cs own xs → AreLeft cs own (slice_set xs i (assigned op (word_at xs i) v))
left_after [] [] [] i op v h p = p
left_after [] [] (x ∷ xs) i op v h p = absurd p
left_after [] (o ∷ own) xs i op v h p = absurd p
left_after (c ∷ cs) [] xs i op v h p = absurd p
left_after (c ∷ cs) (o ∷ own) [] i op v h p = absurd p
left_after (Constant ∷ cs) (o ∷ own) (x ∷ xs) zero op v h p = cc
left_after (Reduced kind ∷ cs) (o ∷ own) (x ∷ xs) zero op v h p = (neutral_stays kind op x v h p.0, p.1)
left_after (Carried ∷ cs) (o ∷ own) (x ∷ xs) zero op v h p = (tt, p.1)
left_after (c ∷ cs) (o ∷ own) (x ∷ xs) (suc i) op v h p = (p.0, left_after cs own xs i op v h p.1)

-- the lets' own values are such words
own_is_left : (c : Class) (o : ℤ) → FitsSigned w64 o → IsLeft c o o
own_is_left Constant o f = refl
own_is_left Carried o f = tt
own_is_left (Reduced combine.Sum) o f = ap (int_wrap w64) (omega (arith, ints)) ∙ int_wrap_fits w64 o f
own_is_left (Reduced combine.Min) o f = omega (arith, ints, clamps)
own_is_left (Reduced combine.Max) o f = omega (arith, ints, clamps)
own_is_left (Reduced combine.First) o f = refl

pub own_are_left : (cs : List Class) (own : List ℤ) → length cs ≡ length own → All (FitsSigned w64) own →
    AreLeft cs own own
own_are_left [] [] e all = tt
own_are_left [] (o ∷ own) e all = absurd (omega arith)
own_are_left (c ∷ cs) [] e all = absurd (omega arith)
own_are_left (c ∷ cs) (o ∷ own) e all =
    (own_is_left c o (all 0 o (omega arith)), own_are_left cs own (omega arith) (All-tail (FitsSigned w64) o own all))

-- what a segment begins with, given what the loop left, over which it is combined
abbrev pub restarted : List Class → List ℤ → List ℤ → List ℤ
restarted cs own xs = with_neutral cs (received_over cs (carried_words cs xs) own)

pub rejoined : (cs : List Class) (own xs : List ℤ) → AreLeft cs own xs → combined_words cs xs (restarted cs own xs) ≡ xs
rejoined [] [] [] p = refl
rejoined [] [] (x ∷ xs) p = absurd p
rejoined [] (o ∷ own) xs p = absurd p
rejoined (c ∷ cs) [] xs p = absurd p
rejoined (c ∷ cs) (o ∷ own) [] p = absurd p
rejoined (Constant ∷ cs) (o ∷ own) (x ∷ xs) p = ap (λ l. o ∷ l) (rejoined cs own xs p.1) ∙ ap (λ y. y ∷ xs) (sym p.0)
rejoined (Reduced op ∷ cs) (o ∷ own) (x ∷ xs) p =
    ap (λ l. combined_of op x (neutral op) ∷ l) (rejoined cs own xs p.1) ∙ ap (λ y. y ∷ xs) p.0
rejoined (Carried ∷ cs) (o ∷ own) (x ∷ xs) p = ap (λ l. x ∷ l) (rejoined cs own xs p.1)

-- words received that are those of the lets change nothing
pub own_over : (cs : List Class) (own : List ℤ) → received_over cs (carried_words cs own) own ≡ own
own_over [] own = refl
own_over (c ∷ cs) [] = refl
own_over (Constant ∷ cs) (o ∷ own) = ap (λ l. o ∷ l) (own_over cs own)
own_over (Reduced op ∷ cs) (o ∷ own) = ap (λ l. o ∷ l) (own_over cs own)
own_over (Carried ∷ cs) (o ∷ own) = ap (λ l. o ∷ l) (own_over cs own)

pub length-carried_words : (cs : List Class) (xs : List ℤ) → length xs ≡ length cs →
    length (carried_words cs xs) ≡ carried_in cs
length-carried_words [] xs e = refl
length-carried_words (c ∷ cs) [] e = absurd (omega arith)
length-carried_words (Constant ∷ cs) (x ∷ xs) e = length-carried_words cs xs (omega arith)
length-carried_words (Reduced op ∷ cs) (x ∷ xs) e = length-carried_words cs xs (omega arith)
length-carried_words (Carried ∷ cs) (x ∷ xs) e = ap suc (length-carried_words cs xs (omega arith))
