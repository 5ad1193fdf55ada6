-- Texts as Strings, the place of each, and what stands there.
use Rattle.std.proofs.Common.{◌≡◌, ◌≤◌, ◌+◌, ℕ, suc, Bool, true, false, ◌||◌, List, [], ◌∷◌, ◌++◌, length, map, Option, Some, None, refl, sym, ap, ◌∙◌, arith, length-append}
use Rattle.std.specs.Prelude.{if◌then◌else◌, option_map, slice_get}
use Rattle.std.specs.List.{AllByRecursion, list_any}
use Rattle.std.specs.Str.{IsAscii, bytes_eq}
use Rattle.std.specs.String.{string_bytes}
use Rattle.std.specs.declared.alloc.Global.{Global}
use Rattle.std.specs.declared.string.String.{String}
use Rattle.std.proofs.Handle.{handle}
use Rattle.std.proofs.StringFromBytes.{spelled}
use Rattle.std.proofs.lemmas.List.Folds.{list_any-append}
use Rattle.std.proofs.lemmas.Slice.Eq.{bytes_eq-Decides}
use Rattle.std.proofs.lemmas.Str.{IsUtf8-from_ascii}
use Rattle.indexmap.specs.IndexSet.{insert_all, insert_key}
use Rattle.vert_base.proofs.Orders.{all_append}
use Rattle.vert_tree.specs.Views.{text_in}
use Rattle.vert_types.specs.Filled.{what_in}
use Rattle.vert_types.specs.Typing.{Dictionary}
use Rattle.vert_types.proofs.Dictionaries.{bytes_eq-refl}
use Rattle.vert_parse.specs.Names.{Texts}
use Rattle.program_reader.proofs.Made.{few_enough}

-- a text that a String can hold
pub record IsPlain (text : List ℕ) : Type 0 where
  pub ascii : IsAscii text
  pub few : length text ≤ 65536

abbrev pub make_strings : (ts : Texts) → AllByRecursion IsPlain ts → List (String Global)
make_strings [] h = []
make_strings (t ∷ ts) h =
    spelled handle t ∣ IsUtf8-from_ascii t h.0.ascii ∣₁ (few_enough (length t) h.0.few) ∷ make_strings ts h.1

pub strings_are : (ts : Texts) (h : AllByRecursion IsPlain ts) → map string_bytes (make_strings ts h) ≡ ts
strings_are [] h = refl
strings_are (t ∷ ts) h = ap (λ l. t ∷ l) (strings_are ts h.1)

-- ---- texts that are inserted
-- the text is one of these
abbrev pub IsIn : Texts → List ℕ → Type 0
IsIn ts t = list_any (bytes_eq t) ts ≡ true

module _ (t : List ℕ) where
  key_kept : (ts : Texts) (x : List ℕ) → IsIn ts t → IsIn (insert_key bytes_eq ts x) t
  key_kept ts x h = go (list_any (bytes_eq x) ts)
    where
      go : (b : Bool) → IsIn (if b then ts else ts ++ x ∷ []) t
      go true = h
      go false = list_any-append (bytes_eq t) ts (x ∷ []) ∙ ap (λ b. b || list_any (bytes_eq t) (x ∷ [])) h

  all_kept : (more ts : Texts) → IsIn ts t → IsIn (insert_all bytes_eq ts more) t
  all_kept [] ts h = h
  all_kept (x ∷ more) ts h = all_kept more (insert_key bytes_eq ts x) (key_kept ts x h)

  key_there : (ts : Texts) → IsIn (insert_key bytes_eq ts t) t
  key_there ts = go (list_any (bytes_eq t) ts) refl
    where
      last : (b : Bool) → (b || (bytes_eq t t || false)) ≡ true
      last true = refl
      last false = ap (λ b. b || false) (bytes_eq-refl t)

      go : (b : Bool) → list_any (bytes_eq t) ts ≡ b → IsIn (if b then ts else ts ++ t ∷ []) t
      go true e = e
      go false e = list_any-append (bytes_eq t) ts (t ∷ []) ∙ last (list_any (bytes_eq t) ts)

-- each of them is there afterwards
pub all_there : (more ts : Texts) → AllByRecursion (IsIn (insert_all bytes_eq ts more)) more
all_there [] ts = tt
all_there (t ∷ more) ts =
    (all_kept t more (insert_key bytes_eq ts t) (key_there t ts), all_there more (insert_key bytes_eq ts t))

module _ (P : List ℕ → Type 0) where
  key_holds : (ts : Texts) (t : List ℕ) → P t → AllByRecursion P ts → AllByRecursion P (insert_key bytes_eq ts t)
  key_holds ts t p h = go (list_any (bytes_eq t) ts)
    where
      go : (b : Bool) → AllByRecursion P (if b then ts else ts ++ t ∷ [])
      go true = h
      go false = all_append P ts (t ∷ []) h (p, tt)

  pub all_hold : (more ts : Texts) → AllByRecursion P more → AllByRecursion P ts
      → AllByRecursion P (insert_all bytes_eq ts more)
  all_hold [] ts h k = k
  all_hold (t ∷ more) ts h k = all_hold more (insert_key bytes_eq ts t) h.1 (key_holds ts t h.0 k)

key_few : (ts : Texts) (t : List ℕ) → length (insert_key bytes_eq ts t) ≤ suc (length ts)
key_few ts t = go (list_any (bytes_eq t) ts)
  where
    go : (b : Bool) → length (if b then ts else ts ++ t ∷ []) ≤ suc (length ts)
    go true = omega arith
    go false = let e = length-append ts (t ∷ []) in omega (arith, e)

pub all_few : (more ts : Texts) → length (insert_all bytes_eq ts more) ≤ length ts + length more
all_few [] ts = omega arith
all_few (t ∷ more) ts = let h = all_few more (insert_key bytes_eq ts t) in let k = key_few ts t in omega (arith, h, k)

-- ---- the place of a text
abbrev pub place_in : Texts → List ℕ → ℕ
place_in [] t = 0
place_in (x ∷ xs) t = if bytes_eq t x then 0 else suc (place_in xs t)

-- at this place stands a String of this text
abbrev Stands : List (String Global) → List ℕ → ℕ → Type 0
Stands names t n = option_map string_bytes (slice_get names n) ≡ Some t

pub stands : (names : List (String Global)) (t : List ℕ) → IsIn (map string_bytes names) t
    → Stands names t (place_in (map string_bytes names) t)
stands [] t h = cc
stands (x ∷ xs) t h = go (stands xs t) (bytes_eq t (string_bytes x)) refl
  where
    rest : bytes_eq t (string_bytes x) ≡ false → IsIn (map string_bytes xs) t
    rest e = ap (λ b. b || list_any (bytes_eq t) (map string_bytes xs)) (sym e) ∙ h

    go : (IsIn (map string_bytes xs) t → Stands xs t (place_in (map string_bytes xs) t)) → (b : Bool)
        → bytes_eq t (string_bytes x) ≡ b
        → Stands (x ∷ xs) t (if b then 0 else suc (place_in (map string_bytes xs) t))
    go later true e = ap Some (sym ((bytes_eq-Decides t (string_bytes x)).0 e))
    go later false e = later (rest e)

-- a text that is there, and what it stands for
pub told : (d : Dictionary) (t : List ℕ) (o : Option (String Global)) → option_map string_bytes o ≡ Some t
    → (text_in o ≡ t) × (option_map (λ text. what_in (d (string_bytes text))) o ≡ Some (what_in (d t)))
told d t None h = absurd cc
told d t (Some text) h =
    let same : string_bytes text ≡ t = cc in
    (same, ap (λ x. Some (what_in (d x))) same)
