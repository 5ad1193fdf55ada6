-- The names of a program: declared once, known, and told by the table as by the dictionary.
use Rattle.std.proofs.Common.{◌≡◌, ◌≤◌, inl, inr, ℕ, ◌+◌, Bool, true, false, ◌&&◌, ◌||◌, not, List, [], ◌∷◌, ◌++◌, length, map, Option, None, Some, refl, sym, ap, ◌∙◌, arith}
use Rattle.std.specs.Prelude.{◌==◌, if◌then◌else◌, nat_le, option_map}
use Rattle.std.specs.List.{list_all}
use Rattle.std.specs.Str.{bytes_eq}
use Rattle.std.specs.declared.alloc.Global.{Global}
use Rattle.std.specs.declared.string.String.{String}
use Rattle.std.proofs.lemmas.Bool.{and_parts, and_from}
use Rattle.std.proofs.lemmas.Bool.Decides.{Decides-eqb, Decides-ltb, leb_tells}
use Rattle.std.proofs.lemmas.List.{length-map}
use Rattle.vert_base.specs.declared.text.Span.{Span}
use Rattle.vert_tree.specs.declared.name.What.{What}
use Rattle.vert_tree.specs.declared.name.What.TheVariants as what
use Rattle.vert_tree.specs.declared.program.Decl.{Decl}
use Rattle.vert_tree.specs.declared.program.Dense.{Dense}
use Rattle.vert_tree.specs.declared.program.Program.{Program}
use Rattle.vert_tree.specs.declared.program.SlotDecl.{SlotDecl}
use Rattle.vert_tree.specs.declared.program.Sparse.{Sparse}
use Rattle.vert_tree.specs.declared.program.TotalDecl.{TotalDecl}
use Rattle.vert_tree.specs.Places.{option_all, lets_in, sends_in}
use Rattle.vert_tree.specs.Readable.{all_differ, declares_once, is_among, let_names, names_of, send_names}
use Rattle.vert_tree.specs.Views.{text_of, view_declaration, view_dense, view_program, view_slot, view_sparse, view_total}
use Rattle.vert_types.specs.declared.fault.Finding.{Finding}
use Rattle.vert_types.specs.Findings.{declared_before, fault}
use Rattle.vert_types.specs.Parsed.{IsParsed, decl_known, decls_known, dense_known, expr_known, name_known, sparse_known, totals_known}
use Rattle.vert_types.specs.Tables.{AreDeclared, Item, Typed, all_items, items_from, typed_decl, typed_slot, typed_total}
use Rattle.vert_types.specs.Typing.{all_entries, is_text_among, twice}
use Rattle.vert_types.proofs.DeclaredLaws.{entries_are, five}
use Rattle.vert_types.proofs.Definitions.{AreKnown, enter}
use Rattle.vert_types.proofs.Dictionaries.{bytes_eq-refl, is_false}
use Rattle.vert_types.proofs.GoodLaws.{never, none_left, none_right}

-- ---- declared once
abbrev numbers : List Item → List ℕ
numbers items = map (λ e. e.name.name) items

not_twice : (b : Bool) (s : Span) → (if b then fault declared_before s else []) ≡ [] → b ≡ false
not_twice true s h = cc
not_twice false s h = refl

or_right : (a b : Bool) → (a || b) ≡ false → b ≡ false
or_right true b h = cc
or_right false b h = h

module _ (names : List (String Global)) where
  record Once (items : List Item) (before : List (List ℕ)) : Type 0 where
    differ : all_differ (numbers items) ≡ true
    fresh : (n : ℕ) → is_among n (numbers items) ≡ true → is_text_among (text_of names n) before ≡ false

  once : (items : List Item) (before : List (List ℕ)) → twice before (map (enter names) items) ≡ [] → Once items before
  once [] before h = record { differ = refl; fresh = λ n is. absurd (never is) }
  once (e ∷ items) before h =
      let number = e.name.name in
      let text = text_of names number in
      let A : List Finding = if is_text_among text before then fault declared_before e.name.span else [] in
      let B : List Finding = twice (text ∷ before) (map (enter names) items) in
      let new : is_text_among text before ≡ false =
      not_twice (is_text_among text before) e.name.span (none_left A B h) in
      let more = once items (text ∷ before) (none_right A B h) in
      let alone : is_among number (numbers items) ≡ false =
      is_false _ (λ is. let none = more.fresh number is in
      never (sym none ∙ ap (λ b. b || is_text_among text before) (bytes_eq-refl text))) in
      record {
        differ = and_from _ _ (ap not alone) more.differ;
        fresh = λ n is.
            let Goal : Type 0 = is_text_among (text_of names n) before ≡ false in
            let cases : (b : Bool) → (n == number) ≡ b → (if b then true else is_among n (numbers items)) ≡ true →
            Goal =
            λ b. elim b as (λ c. (n == number) ≡ c → (if c then true else is_among n (numbers items)) ≡ true → Goal) [
              | true ↦ (λ same is. ap (λ m. is_text_among (text_of names m) before) ((Decides-eqb n number).0 same)
                  ∙ new)
              | false ↦ (λ other is. or_right (bytes_eq text (text_of names n))
                  (is_text_among (text_of names n) before) (more.fresh n is))
            ] in
            cases (n == number) refl is;
      }

  numbers_from : (sort : ℕ → What) (i : ℕ) (ts : List Typed) →
      numbers (items_from sort i ts) ≡ map (λ t. t.name.name) ts
  numbers_from sort i [] = refl
  numbers_from sort i (t ∷ ts) = ap (λ l. t.name.name ∷ l) (numbers_from sort (i + 1) ts)

  decl_numbers : (ds : List Decl) → map (λ t. t.name.name) (map typed_decl ds) ≡ names_of ds
  decl_numbers [] = refl
  decl_numbers (e ∷ es) = ap (λ l. e.name.name ∷ l) (decl_numbers es)

  slot_numbers : (ds : List SlotDecl) → map (λ t. t.name.name) (map typed_slot ds) ≡ map (λ s. s.name.name) ds
  slot_numbers [] = refl
  slot_numbers (e ∷ es) = ap (λ l. e.name.name ∷ l) (slot_numbers es)

  total_numbers : (ds : List TotalDecl) → map (λ t. t.name.name) (map typed_total ds) ≡ map (λ s. s.name.name) ds
  total_numbers [] = refl
  total_numbers (e ∷ es) = ap (λ l. e.name.name ∷ l) (total_numbers es)

  lets_named : (o : Option Dense) → names_of (lets_in o) ≡ let_names o
  lets_named None = refl
  lets_named (Some b) = refl

  sends_named : (o : Option Sparse) → names_of (sends_in o) ≡ send_names o
  sends_named None = refl
  sends_named (Some b) = refl

pub once_declared : (p : Program) → twice [] (all_entries (view_program p)) ≡ [] → declares_once p ≡ true
once_declared p h =
    let names = p.names.items in
    let all : numbers (all_items p) ≡ names_of p.fields.items
    ++ (map (λ s. s.name.name) p.slots.items
    ++ (map (λ t. t.name.name) p.totals.items ++ (let_names p.dense ++ send_names p.sparse))) =
    five names (λ (e : Item). e.name.name) _ _ _ _ _ _ _ _ _ _
    (numbers_from names what.Field 0 (map typed_decl p.fields.items) ∙ decl_numbers names p.fields.items)
    (numbers_from names what.Slot 0 (map typed_slot p.slots.items) ∙ slot_numbers names p.slots.items)
    (numbers_from names what.Total 0 (map typed_total p.totals.items) ∙ total_numbers names p.totals.items)
    (numbers_from names what.Local 0 (map typed_decl (lets_in p.dense))
    ∙ (decl_numbers names (lets_in p.dense) ∙ lets_named names p.dense))
    (numbers_from names what.Send 0 (map typed_decl (sends_in p.sparse))
    ∙ (decl_numbers names (sends_in p.sparse) ∙ sends_named names p.sparse)) in
    sym (ap all_differ all) ∙ (once names (all_items p) [] (ap (twice []) (entries_are p) ∙ h)).differ

-- ---- known
known_append : (n : ℕ) (a b : List Item) → AreKnown n a → AreKnown n b → AreKnown n (a ++ b)
known_append n [] b p q = q
known_append n (e ∷ a) b p q = (p.0, known_append n a b p.1 q)

known_from : {X : Type 0} (n : ℕ) (sort : ℕ → What) (i : ℕ) (typed : X → Typed) (xs : List X) →
    list_all (λ x. name_known n (typed x).name) xs ≡ true → AreKnown n (items_from sort i (map typed xs))
known_from n sort i typed [] h = tt
known_from n sort i typed (x ∷ xs) h =
    let f = and_parts (name_known n (typed x).name) (list_all (λ x. name_known n (typed x).name) xs) h in
    ((Decides-ltb (typed x).name.name n).0 f.0, known_from n sort (i + 1) typed xs f.1)

pub items_known : (p : Program) → AreDeclared p → AreKnown (length p.names.items) (all_items p)
items_known p h =
    let n = length p.names.items in
    known_append n _ _ (known_from n what.Field 0 typed_decl p.fields.items h.fields)
    (known_append n _ _ (known_from n what.Slot 0 typed_slot p.slots.items h.slots)
    (known_append n _ _ (known_from n what.Total 0 typed_total p.totals.items h.totals)
    (known_append n _ _ (known_from n what.Local 0 typed_decl (lets_in p.dense) h.lets)
    (known_from n what.Send 0 typed_decl (sends_in p.sparse) h.sends))))

decls_named : (n : ℕ) (ds : List Decl) → decls_known n ds ≡ true → list_all (λ e. name_known n e.name) ds ≡ true
decls_named n [] h = refl
decls_named n (e ∷ es) h =
    let f = and_parts (decl_known n e) (decls_known n es) h in
    and_from _ _ (and_parts (name_known n e.name) (expr_known n e.value) f.0).0 (decls_named n es f.1)

totals_named : (n : ℕ) (ts : List TotalDecl) → totals_known n ts ≡ true → list_all (λ e. name_known n e.name) ts ≡ true
totals_named n [] h = refl
totals_named n (e ∷ es) h =
    let f = and_parts (name_known n e.name && expr_known n e.value) (totals_known n es) h in
    and_from _ _ (and_parts (name_known n e.name) (expr_known n e.value) f.0).0 (totals_named n es f.1)

at_most : (a b : ℕ) → nat_le a b ≡ true → a ≤ b
at_most a b h = elim (leb_tells a b) [ inl t ↦ t.1 | inr f ↦ absurd (never (sym f.0 ∙ h)) ]

few : {X Y : Type 0} (f : X → Y) (xs : List X) (n : ℕ) → nat_le (length (map f xs)) n ≡ true → length xs ≤ n
few f xs n h = at_most (length xs) n (ap (λ l. nat_le l n) (sym (length-map xs f)) ∙ h)

lets_known : (n : ℕ) (o : Option Dense) → option_all (dense_known n) o ≡ true →
    list_all (λ e. name_known n e.name) (lets_in o) ≡ true
lets_known n None h = refl
lets_known n (Some b) h =
    let f = and_parts (expr_known n b.when_test) _ h in
    decls_named n b.lets.items (and_parts (decls_known n b.lets.items) _ f.1).0

sends_known : (n : ℕ) (o : Option Sparse) → option_all (sparse_known n) o ≡ true →
    list_all (λ e. name_known n e.name) (sends_in o) ≡ true
sends_known n None h = refl
sends_known n (Some b) h =
    let f = and_parts (expr_known n b.when_test) _ h in
    decls_named n b.sends.items (and_parts (decls_known n b.sends.items) _ f.1).0

few_lets : (names : List (String Global)) (o : Option Dense) →
    option_all (λ b. nat_le (length b.lets) 8) (option_map (view_dense names) o) ≡ true → length (lets_in o) ≤ 8
few_lets names None h = omega arith
few_lets names (Some b) h = few (view_declaration names) b.lets.items 8 h

few_sends : (names : List (String Global)) (o : Option Sparse) →
    option_all (λ b. nat_le (length b.sends) 8) (option_map (view_sparse names) o) ≡ true → length (sends_in o) ≤ 8
few_sends names None h = omega arith
few_sends names (Some b) h = few (view_declaration names) b.sends.items 8 h

pub declared : (p : Program) → IsParsed p → AreDeclared p
declared p h =
    let names = p.names.items in
    let n = length names in
    let a = and_parts (decls_known n p.fields.items) _ h.known in
    let b = and_parts (list_all (λ s. name_known n s.name) p.slots.items) _ a.1 in
    let c = and_parts (totals_known n p.totals.items) _ b.1 in
    let d = and_parts (expr_known n p.start) _ c.1 in
    let e = and_parts (option_all (dense_known n) p.dense) _ d.1 in
    let f = and_parts (option_all (sparse_known n) p.sparse) _ e.1 in
    let u = and_parts (nat_le (length (map (view_declaration names) p.fields.items)) 16) _ h.counted in
    let v = and_parts (nat_le (length (map (view_slot names) p.slots.items)) 8) _ u.1 in
    let x = and_parts (nat_le (length (map (view_total names) p.totals.items)) 4) _ v.1 in
    let y = and_parts (option_all (λ b. nat_le (length b.lets) 8) (option_map (view_dense names) p.dense)) _ x.1 in
    record {
      fields = decls_named n p.fields.items a.0;
      slots = b.0;
      totals = totals_named n p.totals.items c.0;
      lets = lets_known n p.dense e.0;
      sends = sends_known n p.sparse f.0;
      few_fields = few (view_declaration names) p.fields.items 16 u.0;
      few_slots = few (view_slot names) p.slots.items 8 v.0;
      few_totals = few (view_total names) p.totals.items 4 x.0;
      few_lets = few_lets names p.dense y.0;
      few_sends = few_sends names p.sparse y.1;
    }
