-- Names that stand where a test is.
use Rattle.std.proofs.Common.{◌≡◌, ◌<◌, ℕ, Bool, true, false, nat_lt, refl, inl, inr, arith}
use Rattle.std.proofs.lemmas.Bool.Decides.{nat_tests}
use Rattle.vert_base.specs.declared.message.Name.{Name}
use Rattle.circulant_plan.specs.Table.{name_if}
use Rattle.circulant_plan.proofs.Members.{Has}

pub has_name_if_cases : (b : Bool) (y x : Name) → Has (name_if b y) x → (b ≡ true) × (y ≡ x)
has_name_if_cases true y x (inl e) = (refl, e)
has_name_if_cases true y x (inr h) = absurd h
has_name_if_cases false y x h = absurd h

pub has_name_if : (b : Bool) (y : Name) → b ≡ true → Has (name_if b y) y
has_name_if true y e = inl refl
has_name_if false y e = absurd (grind arith)

pub below_from : (a b : ℕ) → nat_lt a b ≡ true → a < b
below_from a b e = grind (arith, nat_tests)
