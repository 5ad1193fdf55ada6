-- The table of a program's names says what its dictionary says.
use Rattle.std.proofs.Common.{◌≡◌, ◌<◌, ◌⊎◌, inl, inr, ℕ, true, false, ◌||◌, List, [], ◌∷◌, ◌++◌, length, map, set, Option, None, Some, refl, sym, ap, ◌∙◌, arith, get_or-set_other, get_or-set_same}
use Rattle.std.specs.Prelude.{if◌then◌else◌, is_some}
use Rattle.std.specs.Str.{bytes_eq}
use Rattle.std.specs.declared.alloc.Global.{Global}
use Rattle.std.specs.declared.string.String.{String}
use Rattle.std.proofs.lemmas.List.{length-set}
use Rattle.std.proofs.lemmas.Slice.Eq.{bytes_eq-Decides}
use Rattle.vert_tree.specs.Views.{text_of, view_name}
use Rattle.vert_types.specs.declared.fault.Finding.{Finding}
use Rattle.vert_types.specs.declared.scope.Meaning.{Meaning}
use Rattle.vert_types.specs.Findings.{declared_before, fault}
use Rattle.vert_types.specs.Scopes.{AreApart}
use Rattle.vert_types.specs.Tables.{Item, known_at, table_after, twice_in, with_item}
use Rattle.vert_types.specs.Typing.{Defined, Entry, is_text_among, stands_for, twice}
use Rattle.vert_types.proofs.Dictionaries.{bytes_eq-refl, is_false}

abbrev pub define : List (String Global) → Item → Defined
define names e = record { text = text_of names e.name.name; meaning = e.meaning }

abbrev pub enter : List (String Global) → Item → Entry
enter names e = record { name = view_name names e.name; kind = e.meaning.kind }

abbrev pub or_else : Option Meaning → Option Meaning → Option Meaning
or_else (Some m) o = Some m
or_else None o = o

-- each item is one of the names
abbrev pub AreKnown : ℕ → List Item → Type 0
AreKnown n [] = Unit {0}
AreKnown n (e ∷ es) = (e.name.name < n) × AreKnown n es

with_item_wide : (table : List (Option Meaning)) (e : Item) → length (with_item table e) ≡ length table
with_item_wide table e =
    elim (is_some (known_at table e.name.name)) as (λ b.
    length (if b then table else set table e.name.name (Some e.meaning)) ≡ length table)
    [ true ↦ refl | false ↦ length-set table e.name.name (Some e.meaning) ]

pub table_wide : (items : List Item) (table : List (Option Meaning)) → length (table_after table items) ≡ length table
table_wide [] table = refl
table_wide (e ∷ items) table = table_wide items (with_item table e) ∙ with_item_wide table e

-- a case on what stands at a place
known_cases : (o : Option Meaning) → (o ≡ None) ⊎ ((m : Meaning) × (o ≡ Some m))
known_cases None = inl refl
known_cases (Some m) = inr (m, refl)

number_cases : (i j : ℕ) → (i ≡ j) ⊎ (i ≡ j → ⊥)
number_cases i j = grind arith

module _ (names : List (String Global)) (apart : AreApart names) where
  others_differ : (i j : ℕ) → i < length names → j < length names → (i ≡ j → ⊥) →
      bytes_eq (text_of names i) (text_of names j) ≡ false
  others_differ i j p q ne = is_false _ (λ h.
      ne (apart i j p q ((bytes_eq-Decides (text_of names i) (text_of names j)).0 h)))

  -- what stands at a place after one more declaration
  one_more : (table : List (Option Meaning)) (e : Item) (o : Option Meaning) (i : ℕ) → length table ≡ length names →
      e.name.name < length names → i < length names →
      or_else (known_at (with_item table e) i) o
      ≡ or_else (known_at table i) (if bytes_eq (text_of names e.name.name) (text_of names i) then Some e.meaning
      else o)
  one_more table e o i wide known lt =
      let k = e.name.name in
      elim (known_cases (known_at table k)) [
        | inl none ↦ (
            let is : with_item table e ≡ set table k (Some e.meaning) =
            ap (λ x. if is_some x then table else set table k (Some e.meaning)) none in
            let put = ap (λ t. or_else (known_at t i) o) is in
            elim (number_cases k i) [
              | inl same ↦
                  let within : k < length table = omega arith in
                  let here : known_at (set table k (Some e.meaning)) i ≡ Some e.meaning =
                  ap (known_at (set table k (Some e.meaning))) (sym same)
                  ∙ get_or-set_same table k (Some e.meaning) None within in
                  let old : known_at table i ≡ None = ap (known_at table) (sym same) ∙ none in
                  let hit : bytes_eq (text_of names k) (text_of names i) ≡ true =
                  ap (λ j. bytes_eq (text_of names k) (text_of names j)) (sym same)
                  ∙ bytes_eq-refl (text_of names k) in
                  put ∙ ap (λ x. or_else x o) here
                  ∙ sym (ap (λ x. or_else x (if bytes_eq (text_of names k) (text_of names i) then Some e.meaning
                  else o)) old ∙ ap (λ b. if b then Some e.meaning else o) hit)
              | inr differs ↦
                  let other : i ≡ k → ⊥ = λ h. differs (sym h) in
                  let miss = others_differ k i known lt differs in
                  put ∙ ap (λ x. or_else x o) (get_or-set_other table k i (Some e.meaning) None other)
                  ∙ sym (ap (λ b. or_else (known_at table i) (if b then Some e.meaning else o)) miss)
            ])
        | inr some ↦ (
            let is : with_item table e ≡ table =
            ap (λ x. if is_some x then table else set table k (Some e.meaning)) some.1 in
            let kept = ap (λ t. or_else (known_at t i) o) is in
            elim (number_cases k i) [
              | inl same ↦
                  let old : known_at table i ≡ Some some.0 = ap (known_at table) (sym same) ∙ some.1 in
                  kept ∙ ap (λ x. or_else x o) old
                  ∙ sym (ap (λ x. or_else x (if bytes_eq (text_of names k) (text_of names i) then Some e.meaning
                  else o)) old)
              | inr differs ↦
                  kept ∙ sym (ap (λ b. or_else (known_at table i) (if b then Some e.meaning else o))
                  (others_differ k i known lt differs))
            ])
      ]

  pub table_tells : (items : List Item) (table : List (Option Meaning)) (i : ℕ) → length table ≡ length names →
      AreKnown (length names) items → i < length names →
      known_at (table_after table items) i
      ≡ or_else (known_at table i) (stands_for (map (define names) items) (text_of names i))
  table_tells [] table i wide known lt = elim (known_at table i) as (λ x. x ≡ or_else x None)
      [ None ↦ refl | Some m ↦ refl ]
  table_tells (e ∷ items) table i wide known lt =
      table_tells items (with_item table e) i (with_item_wide table e ∙ wide) known.1 lt
      ∙ one_more table e (stands_for (map (define names) items) (text_of names i)) i wide known.0 lt

  -- the texts that were declared, and the places of the table that are taken
  abbrev AreTaken : List (Option Meaning) → List (List ℕ) → Type 0
  AreTaken table before = (i : ℕ) → i < length names →
      is_some (known_at table i) ≡ is_text_among (text_of names i) before

  taken_more : (table : List (Option Meaning)) (before : List (List ℕ)) (e : Item) → length table ≡ length names →
      e.name.name < length names → AreTaken table before →
      AreTaken (with_item table e) (text_of names e.name.name ∷ before)
  taken_more table before e wide known taken i lt =
      let k = e.name.name in
      let old = taken i lt in
      elim (number_cases k i) [
        | inl same ↦
            let hit : bytes_eq (text_of names k) (text_of names i) ≡ true =
            ap (λ j. bytes_eq (text_of names k) (text_of names j)) (sym same) ∙ bytes_eq-refl (text_of names k) in
            let within : k < length table = omega arith in
            let now : is_some (known_at (with_item table e) k) ≡ true =
            elim (known_cases (known_at table k)) [
              | inl none ↦
                  ap (λ t. is_some (known_at t k))
                  (ap (λ x. if is_some x then table else set table k (Some e.meaning)) none)
                  ∙ ap is_some (get_or-set_same table k (Some e.meaning) None within)
              | inr some ↦ ap (λ t. is_some (known_at t k))
                  (ap (λ x. if is_some x then table else set table k (Some e.meaning)) some.1) ∙ ap is_some some.1
            ] in
            ap (λ j. is_some (known_at (with_item table e) j)) (sym same) ∙ now
            ∙ sym (ap (λ b. b || is_text_among (text_of names i) before) hit)
        | inr differs ↦
            let other : i ≡ k → ⊥ = λ h. differs (sym h) in
            let still : known_at (with_item table e) i ≡ known_at table i =
            elim (is_some (known_at table k)) as (λ b. known_at (if b then table else set table k (Some e.meaning)) i
            ≡ known_at table i)
            [ true ↦ refl | false ↦ get_or-set_other table k i (Some e.meaning) None other ] in
            ap is_some still ∙ old ∙ sym (ap (λ b. b || is_text_among (text_of names i) before)
            (others_differ k i known lt differs))
      ]

  pub twice_tells : (items : List Item) (table : List (Option Meaning)) (before : List (List ℕ)) →
      length table ≡ length names → AreKnown (length names) items → AreTaken table before →
      twice_in table items ≡ twice before (map (enter names) items)
  twice_tells [] table before wide known taken = refl
  twice_tells (e ∷ items) table before wide known taken =
      let rest : List Finding = twice_in (with_item table e) items in
      ap (λ b. (if b then fault declared_before e.name.span else []) ++ rest) (taken e.name.name known.0)
      ∙ ap (λ fs. (if is_text_among (text_of names e.name.name) before then fault declared_before e.name.span else [])
      ++ fs)
      (twice_tells items (with_item table e) (text_of names e.name.name ∷ before) (with_item_wide table e ∙ wide)
      known.1 (taken_more table before e wide known.0 taken))
