-- How the emissions to a slot, or the values of a total, become one.
use Rattle.std.specs.Prelude.{ℕ, Bool, true, false, ℤ, pos, negsuc, ◌+◌, ◌-◌, ◌^◌, ◌==◌, ◌+ℤ◌, List, [], ◌∷◌, map, filter, fold, Option, Some, None}
use Rattle.std.specs.Int.{w64, int_wrap, int_min, int_max}
use Rattle.vert_base.specs.declared.value.Combine.{Combine}
use Rattle.vert_base.specs.declared.value.Combine.TheVariants.{Min, Max, Sum, First}

-- two words of one slot, the first one emitted first
abbrev pub combined_of : Combine → ℤ → ℤ → ℤ
combined_of Min x y = int_min x y
combined_of Max x y = int_max x y
combined_of Sum x y = int_wrap w64 (x +ℤ y)
combined_of First x y = x

-- the value of the words of a slot: absent where there is none, else their wrapping sum, least,
-- greatest or first
abbrev pub combined : Combine → List ℤ → Option ℤ
combined op [] = None
combined op (x ∷ xs) = Some (fold (combined_of op) x xs)

-- First alone depends on the order of its words
abbrev pub is_first : Combine → Bool
is_first First = true
is_first _ = false

-- what a total begins with
abbrev pub neutral : Combine → ℤ
neutral Min = pos (2 ^ 63 - 1)
neutral Max = negsuc (2 ^ 63 - 1)
neutral Sum = pos 0
neutral First = pos 0

-- the total of words
abbrev pub total_of : Combine → List ℤ → ℤ
total_of op words = fold (combined_of op) (neutral op) words

-- a word for a slot
pub record Emission : Type 0 where
  pub slot : ℕ
  pub word : ℤ

-- the words that were emitted to a slot
abbrev pub words_for : ℕ → List Emission → List ℤ
words_for slot es = map (λ e. e.word) (filter (λ e. e.slot == slot) es)

-- the values of the slots from number `at` on
abbrev pub slot_values : ℕ → List Combine → List Emission → List (Option ℤ)
slot_values at [] es = []
slot_values at (op ∷ ops) es = combined op (words_for at es) ∷ slot_values (at + 1) ops es
