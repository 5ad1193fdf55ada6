-- The declarations of a program in memory are those of its trees.
use Rattle.std.proofs.Common.{◌≡◌, ◌⊎◌, inl, inr, ℕ, zero, suc, ◌+◌, Bool, true, false, List, [], ◌∷◌, ◌++◌, map, Option, None, Some, refl, sym, ap, ◌∙◌, subst, arith, zero-add}
use Rattle.std.specs.Prelude.{if◌then◌else◌, option_map, slice_get}
use Rattle.std.specs.Str.{bytes_eq}
use Rattle.std.specs.declared.alloc.Global.{Global}
use Rattle.std.specs.declared.string.String.{String}
use Rattle.std.proofs.lemmas.List.{map-append}
use Rattle.vert_base.specs.declared.value.ValueType.{ValueType}
use Rattle.vert_base.specs.declared.value.ValueType.TheVariants as kind
use Rattle.vert_tree.specs.declared.name.What.{What}
use Rattle.vert_tree.specs.declared.name.What.TheVariants as what
use Rattle.vert_tree.specs.declared.program.Decl.{Decl}
use Rattle.vert_tree.specs.declared.program.Dense.{Dense}
use Rattle.vert_tree.specs.declared.program.Program.{Program}
use Rattle.vert_tree.specs.declared.program.SlotDecl.{SlotDecl}
use Rattle.vert_tree.specs.declared.program.Sparse.{Sparse}
use Rattle.vert_tree.specs.declared.program.TotalDecl.{TotalDecl}
use Rattle.vert_tree.specs.Trees.{ProgramTree, TotalDeclaration}
use Rattle.vert_tree.specs.Views.{view_declaration, view_dense, view_name, view_program, view_slot, view_sparse, view_total}
use Rattle.vert_types.specs.declared.scope.Meaning.{Meaning}
use Rattle.vert_types.specs.Tables.{Typed, all_items, items_from, typed_decl, typed_slot, typed_total}
use Rattle.vert_tree.specs.Places.{sends_in, lets_in}
use Rattle.vert_types.specs.Typing.{Defined, Entry, all_entries, definitions, dictionary, entries, lets_of, placed_from, sends_of, slot_entries, stands_for, total_entries}
use Rattle.vert_types.proofs.Definitions.{define, enter, or_else}
use Rattle.vert_types.proofs.PartLaws.{IsListed}

module _ (names : List (String Global)) where
  abbrev entry : Typed → Entry
  entry t = record { name = view_name names t.name; kind = t.kind }

  define_from : (sort : ℕ → What) (i : ℕ) (ts : List Typed) → map (define names) (items_from sort i ts)
      ≡ placed_from sort i (map entry ts)
  define_from sort i [] = refl
  define_from sort i (t ∷ ts) = ap (λ ds. define names
      (record { name = t.name; meaning = record { what = sort i; kind = t.kind } }) ∷ ds) (define_from sort (i + 1) ts)

  enter_from : (sort : ℕ → What) (i : ℕ) (ts : List Typed) → map (enter names) (items_from sort i ts) ≡ map entry ts
  enter_from sort i [] = refl
  enter_from sort i (t ∷ ts) = ap (λ es. entry t ∷ es) (enter_from sort (i + 1) ts)

  decls_entered : (ds : List Decl) → map entry (map typed_decl ds) ≡ entries (map (view_declaration names) ds)
  decls_entered [] = refl
  decls_entered (e ∷ es) = ap (λ l. entry (typed_decl e) ∷ l) (decls_entered es)

  slots_entered : (ds : List SlotDecl) → map entry (map typed_slot ds) ≡ slot_entries (map (view_slot names) ds)
  slots_entered [] = refl
  slots_entered (e ∷ es) = ap (λ l. entry (typed_slot e) ∷ l) (slots_entered es)

  totals_entered : (ds : List TotalDecl) → map entry (map typed_total ds) ≡ total_entries (map (view_total names) ds)
  totals_entered [] = refl
  totals_entered (e ∷ es) = ap (λ l. entry (typed_total e) ∷ l) (totals_entered es)

  lets_are : (o : Option Dense) → map (view_declaration names) (lets_in o) ≡ lets_of (option_map (view_dense names) o)
  lets_are None = refl
  lets_are (Some b) = refl

  sends_are : (o : Option Sparse) → map (view_declaration names) (sends_in o)
      ≡ sends_of (option_map (view_sparse names) o)
  sends_are None = refl
  sends_are (Some b) = refl

  -- a list of five parts, part by part
  module _ {X Y : Type 0} (f : X → Y) (a b c d e : List X) (a' b' c' d' e' : List Y) where
    pub five : map f a ≡ a' → map f b ≡ b' → map f c ≡ c' → map f d ≡ d' → map f e ≡ e' →
        map f (a ++ (b ++ (c ++ (d ++ e)))) ≡ a' ++ (b' ++ (c' ++ (d' ++ e')))
    five p q r s t =
        map-append f a (b ++ (c ++ (d ++ e)))
        ∙ ap (λ l. l ++ map f (b ++ (c ++ (d ++ e)))) p
        ∙ ap (λ l. a' ++ l) (map-append f b (c ++ (d ++ e)) ∙ ap (λ l. l ++ map f (c ++ (d ++ e))) q
        ∙ ap (λ l. b' ++ l) (map-append f c (d ++ e) ∙ ap (λ l. l ++ map f (d ++ e)) r
        ∙ ap (λ l. c' ++ l) (map-append f d e ∙ ap (λ l. l ++ map f e) s ∙ ap (λ l. d' ++ l) t)))

pub definitions_are : (p : Program) → map (define p.names.items) (all_items p) ≡ definitions (view_program p)
definitions_are p =
    let names = p.names.items in
    five names (define names) _ _ _ _ _ _ _ _ _ _
    (define_from names what.Field 0 (map typed_decl p.fields.items)
    ∙ ap (placed_from what.Field 0) (decls_entered names p.fields.items))
    (define_from names what.Slot 0 (map typed_slot p.slots.items)
    ∙ ap (placed_from what.Slot 0) (slots_entered names p.slots.items))
    (define_from names what.Total 0 (map typed_total p.totals.items)
    ∙ ap (placed_from what.Total 0) (totals_entered names p.totals.items))
    (define_from names what.Local 0 (map typed_decl (lets_in p.dense))
    ∙ ap (placed_from what.Local 0) (decls_entered names (lets_in p.dense) ∙ ap entries (lets_are names p.dense)))
    (define_from names what.Send 0 (map typed_decl (sends_in p.sparse))
    ∙ ap (placed_from what.Send 0) (decls_entered names (sends_in p.sparse)
    ∙ ap entries (sends_are names p.sparse)))

pub entries_are : (p : Program) → map (enter p.names.items) (all_items p) ≡ all_entries (view_program p)
entries_are p =
    let names = p.names.items in
    five names (enter names) _ _ _ _ _ _ _ _ _ _
    (enter_from names what.Field 0 (map typed_decl p.fields.items) ∙ decls_entered names p.fields.items)
    (enter_from names what.Slot 0 (map typed_slot p.slots.items) ∙ slots_entered names p.slots.items)
    (enter_from names what.Total 0 (map typed_total p.totals.items) ∙ totals_entered names p.totals.items)
    (enter_from names what.Local 0 (map typed_decl (lets_in p.dense))
    ∙ (decls_entered names (lets_in p.dense) ∙ ap entries (lets_are names p.dense)))
    (enter_from names what.Send 0 (map typed_decl (sends_in p.sparse))
    ∙ (decls_entered names (sends_in p.sparse) ∙ ap entries (sends_are names p.sparse)))

-- ---- what a text stands for is declared
abbrev pub kinds_in : List Entry → List ValueType
kinds_in es = map (λ e. e.kind) es

pub stands_for-append : (a b : List Defined) (text : List ℕ) →
    stands_for (a ++ b) text ≡ or_else (stands_for a text) (stands_for b text)
stands_for-append [] b text = refl
stands_for-append (d ∷ a) b text =
    elim (bytes_eq d.text text) as (λ t. (if t then Some d.meaning else stands_for (a ++ b) text)
    ≡ or_else (if t then Some d.meaning else stands_for a text) (stands_for b text))
    [ true ↦ refl | false ↦ stands_for-append a b text ]

-- in a list from this place on
in_part : (sort : ℕ → What) (i : ℕ) (es : List Entry) (text : List ℕ) (m : Meaning) →
    stands_for (placed_from sort i es) text ≡ Some m → (j : ℕ) × (m.what ≡ sort (i + j)) ×
    (slice_get (kinds_in es) j ≡ Some m.kind)
in_part sort i [] text m h = cc
in_part sort i (e ∷ es) text m h =
    let here : Meaning = record { what = sort i; kind = e.kind } in
    let Goal : Type 0 = (j : ℕ) × (m.what ≡ sort (i + j)) × (slice_get (kinds_in (e ∷ es)) j ≡ Some m.kind) in
    let back = in_part sort (i + 1) es text m in
    let cases : (b : Bool) → (if b then Some here else stands_for (placed_from sort (i + 1) es) text) ≡ Some m → Goal =
    λ b. elim b as (λ c. (if c then Some here else stands_for (placed_from sort (i + 1) es) text) ≡ Some m → Goal) [
      | true ↦ (λ is. let same : here ≡ m = cc in
          let first : i ≡ i + 0 = omega arith in
          (0, sym (ap (λ x. x.what) same) ∙ ap sort first, ap (λ x. Some x.kind) same))
      | false ↦ (λ is. let r = back is in
          let next : i + 1 + r.0 ≡ i + suc r.0 = omega arith in
          (suc r.0, r.1 ∙ ap sort next, r.2))
    ] in
    cases (bytes_eq e.name.text text) h

either : (a b : Option Meaning) (m : Meaning) → or_else a b ≡ Some m → (a ≡ Some m) ⊎ (b ≡ Some m)
either (Some x) b m h = inl h
either None b m h = inr h

totals_are_ints : (ts : List TotalDeclaration) (j : ℕ) (k : ValueType) → slice_get (kinds_in (total_entries ts)) j
    ≡ Some k → k ≡ kind.Int
totals_are_ints [] j k h = cc
totals_are_ints (t ∷ ts) zero k h = cc
totals_are_ints (t ∷ ts) (suc j) k h = totals_are_ints ts j k h

module _ (t : ProgramTree) where
  abbrev field_kinds : List ValueType
  field_kinds = kinds_in (entries t.fields)

  abbrev let_kinds : List ValueType
  let_kinds = kinds_in (entries (lets_of t.dense))

  abbrev send_kinds : List ValueType
  send_kinds = kinds_in (entries (sends_of t.sparse))

  at_what : (m : Meaning) (w : What) → m.what ≡ w → IsListed field_kinds let_kinds send_kinds w m.kind →
      IsListed field_kinds let_kinds send_kinds m.what m.kind
  at_what m w is h = subst (λ x. IsListed field_kinds let_kinds send_kinds x m.kind) (sym is) h

  pub all_listed : (text : List ℕ) (m : Meaning) → dictionary t text ≡ Some m →
      IsListed field_kinds let_kinds send_kinds m.what m.kind
  all_listed text m h =
      let A = placed_from what.Field 0 (entries t.fields) in
      let B = placed_from what.Slot 0 (slot_entries t.slots) in
      let C = placed_from what.Total 0 (total_entries t.totals) in
      let D = placed_from what.Local 0 (entries (lets_of t.dense)) in
      let E = placed_from what.Send 0 (entries (sends_of t.sparse)) in
      elim (either _ _ m (sym (stands_for-append A (B ++ (C ++ (D ++ E))) text) ∙ h)) [
        | inl f ↦ (let r = in_part what.Field 0 (entries t.fields) text m f in
            at_what m (what.Field r.0) (r.1 ∙ ap what.Field (zero-add r.0)) r.2)
        | inr g ↦ (elim (either _ _ m (sym (stands_for-append B (C ++ (D ++ E)) text) ∙ g)) [
          | inl f ↦ (let r = in_part what.Slot 0 (slot_entries t.slots) text m f in
              at_what m (what.Slot r.0) (r.1 ∙ ap what.Slot (zero-add r.0)) tt)
          | inr g ↦ (elim (either _ _ m (sym (stands_for-append C (D ++ E) text) ∙ g)) [
            | inl f ↦ (let r = in_part what.Total 0 (total_entries t.totals) text m f in
                at_what m (what.Total r.0) (r.1 ∙ ap what.Total (zero-add r.0))
                (totals_are_ints t.totals r.0 m.kind r.2))
            | inr g ↦ (elim (either _ _ m (sym (stands_for-append D E text) ∙ g)) [
              | inl f ↦ (let r = in_part what.Local 0 (entries (lets_of t.dense)) text m f in
                  at_what m (what.Local r.0) (r.1 ∙ ap what.Local (zero-add r.0)) r.2)
              | inr f ↦ (let r = in_part what.Send 0 (entries (sends_of t.sparse)) text m f in
                  at_what m (what.Send r.0) (r.1 ∙ ap what.Send (zero-add r.0)) r.2)
            ])
          ])
        ])
      ]
