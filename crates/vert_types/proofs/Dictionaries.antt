-- What stands beside a name is what the dictionary says of its text.
use Rattle.std.proofs.Common.{◌≡◌, ◌<◌, ℕ, zero, suc, Bool, true, false, List, [], ◌∷◌, length, get_or, Option, None, refl, sym, ap, ◌∙◌, arith}
use Rattle.std.specs.Prelude.{if◌then◌else◌}
use Rattle.std.specs.Str.{bytes_eq}
use Rattle.std.specs.String.{string_bytes}
use Rattle.std.specs.declared.alloc.Global.{Global}
use Rattle.std.specs.declared.string.String.{String}
use Rattle.std.proofs.lemmas.Slice.Eq.{bytes_eq-Decides}
use Rattle.vert_tree.specs.Views.{text_of}
use Rattle.vert_types.specs.declared.scope.Meaning.{Meaning}
use Rattle.vert_types.specs.Scopes.{AreApart, beside}

pub bytes_eq-refl : (text : List ℕ) → bytes_eq text text ≡ true
bytes_eq-refl text = (bytes_eq-Decides text text).1 refl

-- a test that can't hold
pub is_false : (b : Bool) → (b ≡ true → ⊥) → b ≡ false
is_false true never = absurd (never refl)
is_false false never = refl

apart_rest : (name : String Global) (names : List (String Global)) → AreApart (name ∷ names) → AreApart names
apart_rest name names apart i j p q e =
    let same : suc i ≡ suc j = apart (suc i) (suc j) (omega arith) (omega arith) e in omega arith

pub beside_at : (names : List (String Global)) (ms : List (Option Meaning)) → length ms ≡ length names →
    AreApart names → (i : ℕ) → i < length names → get_or ms i None ≡ beside names ms (text_of names i)
beside_at [] ms wide apart i lt = absurd (omega arith)
beside_at (name ∷ names) [] wide apart i lt = absurd (omega arith)
beside_at (name ∷ names) (m ∷ ms) wide apart zero lt = ap (λ b. if b then m else beside names ms (string_bytes name))
    (sym (bytes_eq-refl (string_bytes name)))
beside_at (name ∷ names) (m ∷ ms) wide apart (suc i) lt =
    let other : bytes_eq (string_bytes name) (text_of names i) ≡ false =
    is_false _ (λ h. let same : zero ≡ suc i = apart zero (suc i) (omega arith) lt
    ((bytes_eq-Decides (string_bytes name) (text_of names i)).0 h) in omega arith) in
    beside_at names ms (omega arith) (apart_rest name names apart) i (omega arith)
    ∙ ap (λ b. if b then m else beside names ms (text_of names i)) (sym other)
