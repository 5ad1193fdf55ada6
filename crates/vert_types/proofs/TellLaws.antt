-- The dictionary that the checker holds is that of the program's declarations.
use Rattle.std.proofs.Common.{◌≡◌, ◌≤◌, ◌<◌, ◌⊎◌, inl, inr, ℕ, zero, suc, Bool, true, false, List, [], ◌∷◌, length, map, get_or, Option, None, Some, refl, sym, ap, ◌∙◌, arith}
use Rattle.std.proofs.Math.Path.{fun_ext}
use Rattle.std.specs.Prelude.{if◌then◌else◌, is_some, option_map, slice_get}
use Rattle.std.specs.Str.{bytes_eq}
use Rattle.std.specs.String.{string_bytes}
use Rattle.std.specs.declared.alloc.Global.{Global}
use Rattle.std.specs.declared.string.String.{String}
use Rattle.std.proofs.lemmas.Bool.{cases_lt}
use Rattle.std.proofs.lemmas.List.{length-map}
use Rattle.std.proofs.lemmas.Option.{slice_get-get_or, slice_get_past}
use Rattle.std.proofs.lemmas.Slice.Eq.{bytes_eq-Decides}
use Rattle.vert_tree.specs.Views.{text_in, text_of}
use Rattle.vert_types.specs.declared.scope.Meaning.{Meaning}
use Rattle.vert_types.specs.Filled.{what_in, what_of}
use Rattle.vert_types.specs.Scopes.{AreApart, beside, what_at}
use Rattle.vert_types.specs.Tables.{Item, known_at, table_after, twice_in}
use Rattle.vert_types.specs.Typing.{stands_for, twice}
use Rattle.vert_types.proofs.Definitions.{AreKnown, define, enter, or_else, table_tells, table_wide, twice_tells}
use Rattle.vert_types.proofs.Dictionaries.{beside_at, is_false}

-- a text is that of a name, or of none
decide : (xs ys : List ℕ) → (xs ≡ ys) ⊎ (xs ≡ ys → ⊥)
decide xs ys =
    let Goal : Type 0 = (xs ≡ ys) ⊎ (xs ≡ ys → ⊥) in
    let cases : (b : Bool) → bytes_eq xs ys ≡ b → Goal =
    λ b. elim b as (λ c. bytes_eq xs ys ≡ c → Goal) [
      | true ↦ (λ is. inl ((bytes_eq-Decides xs ys).0 is))
      | false ↦ (λ is. inr (λ e. let both = sym is ∙ (bytes_eq-Decides xs ys).1 e in
          let lie : false ≡ true = both in cc))
    ] in
    cases (bytes_eq xs ys) refl

abbrev NoName : List (String Global) → List ℕ → Type 0
NoName names text = (i : ℕ) → i < length names → text_of names i ≡ text → ⊥

find_text : (names : List (String Global)) (text : List ℕ) → ((i : ℕ) × (i < length names) × (text_of names i ≡ text))
    ⊎ NoName names text
find_text [] text = inr (λ i lt e. absurd (omega arith))
find_text (name ∷ names) text =
    elim (decide (string_bytes name) text) [
      | inl same ↦ (let first : 0 < length (name ∷ names) = omega arith in inl (0, first, same))
      | inr differs ↦ (elim (find_text names text) [
        | inl found ↦ (let next : suc found.0 < length (name ∷ names) = omega (arith, found.1) in
            inl (suc found.0, next, found.2))
        | inr none ↦ inr (none_more name names text differs none)
      ])
    ] where
      none_more : (name : String Global) (names : List (String Global)) (text : List ℕ) →
          (string_bytes name ≡ text → ⊥) → NoName names text → NoName (name ∷ names) text
      none_more name names text differs none zero lt e = differs e
      none_more name names text differs none (suc i) lt e = none i (omega arith) e

beside_none : (names : List (String Global)) (ms : List (Option Meaning)) (text : List ℕ) → NoName names text →
    beside names ms text ≡ None
beside_none [] ms text none = refl
beside_none (name ∷ names) [] text none = refl
beside_none (name ∷ names) (m ∷ ms) text none =
    let first : 0 < length (name ∷ names) = omega arith in
    let other : bytes_eq (string_bytes name) text ≡ false =
    is_false _ (λ h. none 0 first ((bytes_eq-Decides (string_bytes name) text).0 h)) in
    ap (λ b. if b then m else beside names ms text) other
    ∙ beside_none names ms text (λ i lt e.
    let next : suc i < length (name ∷ names) = omega arith in none (suc i) next e)

stands_none : (names : List (String Global)) (items : List Item) (text : List ℕ) → AreKnown (length names) items →
    NoName names text → stands_for (map (define names) items) text ≡ None
stands_none names [] text known none = refl
stands_none names (e ∷ items) text known none =
    let other : bytes_eq (text_of names e.name.name) text ≡ false =
    is_false _ (λ h. none e.name.name known.0 ((bytes_eq-Decides (text_of names e.name.name) text).0 h)) in
    ap (λ b. if b then Some e.meaning else stands_for (map (define names) items) text) other
    ∙ stands_none names items text known.1 none

-- the table before any declaration
abbrev pub blank : List (String Global) → List (Option Meaning)
blank names = map (λ name. let none : Option Meaning = None in none) names

blank_none : (names : List (String Global)) (i : ℕ) → known_at (blank names) i ≡ None
blank_none [] i = refl
blank_none (name ∷ names) zero = refl
blank_none (name ∷ names) (suc i) = blank_none names i

pub blank_wide : (names : List (String Global)) → length (blank names) ≡ length names
blank_wide names = length-map names (λ name. let none : Option Meaning = None in none)

module _ (names : List (String Global)) (apart : AreApart names) (items : List Item)
    (known : AreKnown (length names) items) where
  abbrev table : List (Option Meaning)
  table = table_after (blank names) items

  pub wide : length table ≡ length names
  wide = table_wide items (blank names) ∙ blank_wide names

  told_at : (i : ℕ) → i < length names → known_at table i ≡ stands_for (map (define names) items) (text_of names i)
  told_at i lt = table_tells names apart items (blank names) i (blank_wide names) known lt
      ∙ ap (λ o. or_else o (stands_for (map (define names) items) (text_of names i))) (blank_none names i)

  pub same_dictionary : beside names table ≡ stands_for (map (define names) items)
  same_dictionary = fun_ext same_at where
    same_at : (text : List ℕ) → beside names table text ≡ stands_for (map (define names) items) text
    same_at text =
        elim (find_text names text) [
          | inl found ↦
              (sym (ap (beside names table) found.2) ∙ sym (beside_at names table wide apart found.0 found.1)
              ∙ told_at found.0 found.1
              ∙ ap (stands_for (map (define names) items)) found.2)
          | inr none ↦ (beside_none names table text none ∙ sym (stands_none names items text known none))
        ]

  pub same_twice : twice_in (blank names) items ≡ twice [] (map (enter names) items)
  same_twice = twice_tells names apart items (blank names) [] (blank_wide names) known (λ i lt.
      ap is_some (blank_none names i))

-- what the table says of each name is what the dictionary says
got : {X : Type 0} (xs : List X) (i : ℕ) → i < length xs → (x : X) × (slice_get xs i ≡ Some x)
got [] i lt = absurd (omega arith)
got (x ∷ xs) zero lt = (x, refl)
got (x ∷ xs) (suc i) lt = got xs i (omega arith)

pub same_whats : (names : List (String Global)) (table : List (Option Meaning)) → length table ≡ length names →
    AreApart names → what_at table ≡ what_of (beside names table) names
same_whats names table wide apart = fun_ext same_at where
  same_at : (n : ℕ) → what_at table n ≡ what_of (beside names table) names n
  same_at n =
      elim (cases_lt n (length names)) [
        | inl lt ↦ (
            let x = got names n lt in
            let within : n < length table = omega arith in
            let d = beside names table in
            let text : text_of names n ≡ string_bytes x.0 = ap text_in x.1 in
            let told : get_or table n None ≡ d (string_bytes x.0) = beside_at names table wide apart n lt ∙ ap d text in
            ap (option_map what_in) (slice_get-get_or table n None within) ∙ ap (λ o. Some (what_in o)) told
            ∙ sym (ap (option_map (λ t. what_in (d (string_bytes t)))) x.1))
        | inr ge ↦ (
            let past : length table ≤ n = omega arith in
            ap (option_map what_in) (slice_get_past table n past)
            ∙ sym (ap (option_map (λ t. what_in (beside names table (string_bytes t))))
            (slice_get_past names n ge)))
      ]
