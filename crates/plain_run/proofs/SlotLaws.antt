-- What the partials of slots give.
use Rattle.std.proofs.Common.{◌≡◌, ℕ, ℤ, zero, suc, ◌+◌, ◌<◌, List, [], ◌∷◌, ◌++◌, map, length, take, refl, sym, ap, ◌∙◌, Option, None, add-one, arith}
use Rattle.std.proofs.Math.ListN.{length-map}
use Rattle.vert_base.specs.declared.value.Combine.{Combine}
use Rattle.vert_tree.specs.declared.program.SlotDecl.{SlotDecl}
use Rattle.slot_merge.specs.Partials.{empty_partial}
use Rattle.vert_eval.specs.Rounds.{no_values}

-- empty partials have no values
pub empty_values : (ops : List Combine) → map (λ p. p.value) (map empty_partial ops) ≡ no_values ops
empty_values [] = refl
empty_values (op ∷ ops) = ap (λ vs. None ∷ vs) (empty_values ops)

-- no value for one slot more
none_next : (slots : List SlotDecl) (i : ℕ) → i < length slots → no_values (map (λ s. s.op) (take (suc i) slots))
    ≡ no_values (map (λ s. s.op) (take i slots)) ++ None ∷ []
none_next [] i lt = absurd (omega arith)
none_next (slot ∷ slots) zero lt = refl
none_next (slot ∷ slots) (suc i) lt = ap (λ vs. None ∷ vs) (none_next slots i (omega arith))

pub none_more :
    (slots : List SlotDecl) (i : ℕ) (values more : List (Option ℤ)) → i < length slots →
    values ≡ no_values (map (λ s. s.op) (take i slots)) → more ≡ values ++ None ∷ [] →
    more ≡ no_values (map (λ s. s.op) (take (i + 1) slots))
none_more slots i values more lt so_far is =
    is ∙ ap (λ vs. vs ++ None ∷ []) so_far ∙ sym (none_next slots i lt)
    ∙ ap (λ k. no_values (map (λ s. s.op) (take k slots))) (sym (add-one i))

pub length_empty : (slots : List SlotDecl) → length (map empty_partial (map (λ s. s.op) slots)) ≡ length slots
length_empty slots = length-map (map (λ s. s.op) slots) empty_partial ∙ length-map slots (λ s. s.op)
