-- The uses of one let among marks.
use Rattle.std.proofs.Common.{◌≡◌, ◌==◌, ℕ, Bool, true, false, ◌&&◌, IsTrue, List, [], ◌∷◌, ◌++◌, refl}
use Rattle.std.specs.Prelude.{if◌then◌else◌}
use Rattle.std.specs.List.{list_all}
use Rattle.std.proofs.lemmas.Bool.{and_parts}
use Rattle.carry_analysis.specs.Classes.{Mark, Uses, Breaks, is_read, uses_of}

-- what a test takes
abbrev pub Taken : {X : Type 0} → (X → Bool) → Type 0
Taken {X} p = X

-- a use of a let
abbrev pub Use : Type 0
Use = Taken is_read

module _ {U : Type 0} (p : U → Bool) where
  with_left : (t : Bool) (u : U) (us vs : List U) → (IsTrue (list_all p vs) → IsTrue (list_all p us)) →
      IsTrue (list_all p (if t then u ∷ vs else vs)) → IsTrue (list_all p (if t then u ∷ us else us))
  with_left true u us vs f h =
      both (p u) (and_parts (p u) (list_all p vs) h).0 (f (and_parts (p u) (list_all p vs) h).1)
    where
      both : (b : Bool) → IsTrue b → IsTrue (list_all p us) → IsTrue (b && list_all p us)
      both true x y = y
      both false x y = x
  with_left false u us vs f h = f h

  pub without : (t : Bool) (u : U) (us : List U) → IsTrue (list_all p (if t then u ∷ us else us)) →
      IsTrue (list_all p us)
  without true u us h = (and_parts (p u) (list_all p us) h).1
  without false u us h = h

  pub refused : (t : Bool) (u : U) → p u ≡ false → IsTrue (list_all p (if t then u ∷ [] else [])) → t ≡ false
  refused true u fails h = cc
  refused false u fails h = refl

-- these marks assign no let of this place
abbrev pub Idle : ℕ → List Mark → Type 0
Idle i ms = IsTrue (list_all is_read (uses_of i ms))

pub idle_left : (i : ℕ) (a b : List Mark) → Idle i (a ++ b) → Idle i a
idle_left i [] b h = refl
idle_left i (Uses j u ∷ a) b h = with_left is_read (i == j) u (uses_of i a) (uses_of i (a ++ b)) (idle_left i a b) h
idle_left i (Breaks ∷ a) b h = idle_left i a b h

pub idle_right : (i : ℕ) (a b : List Mark) → Idle i (a ++ b) → Idle i b
idle_right i [] b h = h
idle_right i (Uses j u ∷ a) b h = idle_right i a b (without is_read (i == j) u (uses_of i (a ++ b)) h)
idle_right i (Breaks ∷ a) b h = idle_right i a b h
