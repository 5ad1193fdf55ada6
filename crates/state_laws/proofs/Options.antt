-- What is there, by its test.
use Rattle.std.proofs.Common.{◌≡◌, Bool, true, false, ◌||◌, Option, Some, None, refl}
use Rattle.std.specs.Prelude.{if◌then◌else◌, is_none, is_some}

pub none_of : {X : Type 0} (o : Option X) → is_none o ≡ true → o ≡ None
none_of None e = refl
none_of (Some x) e = cc

pub none_found : {X : Type 0} (o : Option X) → is_some o ≡ false → o ≡ None
none_found None e = refl
none_found (Some x) e = cc

pub some_of : {X : Type 0} (o : Option X) → is_some o ≡ true → (x : X) × (o ≡ Some x)
some_of None e = cc
some_of (Some x) e = (x, refl)

pub some_if : {X : Type 0} (b : Bool) (x : X) (o : Option X) → is_some (if b then Some x else o) ≡ (b || is_some o)
some_if true x o = refl
some_if false x o = refl
