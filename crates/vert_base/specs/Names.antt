-- The order of names.
use Rattle.std.specs.Prelude.{ℕ, ◌==◌, ◌&&◌, ◌||◌, nat_lt, Bool, true, false, List, [], ◌∷◌}
use Rattle.vert_base.specs.declared.message.Name.{Name}
use Rattle.vert_base.specs.declared.message.NameKind.{NameKind}
use Rattle.vert_base.specs.declared.message.NameKind.TheVariants.{Refresh, Dep, Update, Push, Tally, Verdict}

-- the place of a kind in the order of names
abbrev pub kind_place : NameKind → ℕ
kind_place Refresh = 0
kind_place Dep = 1
kind_place Update = 2
kind_place Push = 3
kind_place Tally = 4
kind_place Verdict = 5

-- the numbers of a name, in the order in which they count: kind and round, and those behind them
abbrev pub last_numbers : Name → List ℕ
last_numbers x = x.step ∷ x.half ∷ x.from ∷ x.to ∷ []

abbrev pub numbers_of : Name → List ℕ
numbers_of x = kind_place x.kind ∷ x.round ∷ last_numbers x

-- lists of numbers in the order of words: the first number that differs decides
abbrev pub is_below : List ℕ → List ℕ → Bool
is_below [] [] = false
is_below [] (y ∷ ys) = true
is_below (x ∷ xs) [] = false
is_below (x ∷ xs) (y ∷ ys) = nat_lt x y || (x == y && is_below xs ys)

abbrev pub same_numbers : List ℕ → List ℕ → Bool
same_numbers [] [] = true
same_numbers [] (y ∷ ys) = false
same_numbers (x ∷ xs) [] = false
same_numbers (x ∷ xs) (y ∷ ys) = x == y && same_numbers xs ys

abbrev pub is_before : Name → Name → Bool
is_before a b = is_below (numbers_of a) (numbers_of b)

abbrev pub same_name : Name → Name → Bool
same_name a b = same_numbers (numbers_of a) (numbers_of b)
