-- A filled program without faults is a typed program.
use Rattle.std.proofs.Common.{◌≡◌, ℕ, Bool, true, false, ◌&&◌, ◌||◌, List, [], ◌∷◌, ◌++◌, length, map, Option, None, Some, refl, sym, ap, ◌∙◌}
use Rattle.std.specs.Prelude.{if◌then◌else◌, is_some, nat_le, nat_lt, option_map, slice_get}
use Rattle.std.specs.List.{list_all}
use Rattle.std.specs.String.{string_bytes}
use Rattle.std.specs.declared.alloc.Global.{Global}
use Rattle.std.specs.declared.string.String.{String}
use Rattle.std.proofs.lemmas.Bool.{and_parts, and_from}
use Rattle.std.proofs.lemmas.Bool.Decides.{Decides-ltb}
use Rattle.std.proofs.lemmas.List.{length-map}
use Rattle.std.proofs.lemmas.Option.{slice_get_within}
use Rattle.vert_base.specs.declared.text.Span.{Span}
use Rattle.vert_base.specs.declared.value.Mode.{Mode}
use Rattle.vert_base.specs.declared.value.ValueType.{ValueType}
use Rattle.vert_base.specs.declared.value.ValueType.TheVariants as kind
use Rattle.vert_tree.specs.declared.expression.Expr.{Expr}
use Rattle.vert_tree.specs.declared.name.Ident.{Ident}
use Rattle.vert_tree.specs.declared.name.What.{What}
use Rattle.vert_tree.specs.declared.program.Decl.{Decl}
use Rattle.vert_tree.specs.declared.program.Dense.{Dense}
use Rattle.vert_tree.specs.declared.program.Program.{Program}
use Rattle.vert_tree.specs.declared.program.SlotDecl.{SlotDecl}
use Rattle.vert_tree.specs.declared.program.Sparse.{Sparse}
use Rattle.vert_tree.specs.declared.program.TotalDecl.{TotalDecl}
use Rattle.vert_tree.specs.Kinds.{Kinds, dense_typed, expr_has, field_kinds, is_kinded, kinds_of, sparse_typed}
use Rattle.vert_tree.specs.Limits.{is_limited, is_shallow, mode_stands, names_stand, version_stands}
use Rattle.vert_tree.specs.Places.{Counts, body_placed, dense_placed, expr_placed, is_placed, no_counts, option_all, round_counts, row_counts, sparse_placed, stop_counts, update_rights}
use Rattle.vert_tree.specs.Readable.{declares_once, dense_read, expr_read, in_fields, in_stop, in_tests, is_readable, sparse_read, totals_combine}
use Rattle.vert_tree.specs.Typed.{is_typed}
use Rattle.vert_tree.specs.Trees.{ProgramTree}
use Rattle.vert_tree.specs.Views.{view, view_declaration, view_dense, view_program, view_slot, view_sparse, view_total}
use Rattle.vert_types.specs.declared.fault.Finding.{Finding}
use Rattle.vert_types.specs.Filled.{body_filled, decl_filled, decls_filled, dense_filled, expr_filled, is_filled, name_filled, says, sparse_filled, totals_filled, what_in, what_of}
use Rattle.vert_types.specs.Findings.{blockless, fault, half_blocked, first_from, first_of, sooner, unless}
use Rattle.vert_types.specs.Parsed.{are_totals, is_counted, is_of_version, is_shallow_program}
use Rattle.vert_types.specs.Typing.{Dictionary, all_entries, at_field, at_start, at_stop, at_test, at_total, at_update, block_faults, body_faults, declaration_faults, dense_faults, dictionary, entries, faults, faults_as, header_faults, lets_of, mode_faults, names_of_rounds, names_of_rows, sends_of, sparse_faults, stop_faults, total_faults, twice}
use Rattle.vert_types.proofs.DeclaredLaws.{all_listed, kinds_in}
use Rattle.vert_types.proofs.FineLaws.{FineAll, fine_block}
use Rattle.vert_types.proofs.GoodLaws.{never, none_left, none_right, none_unless}
use Rattle.vert_types.proofs.NameLaws.{once_declared}
use Rattle.vert_types.specs.declared.scope.Meaning.{Meaning}
use Rattle.vert_types.proofs.PartLaws.{Base, Holds, IsListed, DeclsTyped, DenseTyped, SparseTyped, TotalsTyped, Typed, agrees, base_holds, decls_good, dense_good, expr_good, no_less, sparse_good, totals_good}
use Rattle.vert_types.proofs.SameLaws.{ops_are_same, shallow_same, some_same, version_same}

-- ---- no fault at all
some_found : (x : Finding) (fs : List Finding) → first_from (Some x) fs ≡ None → ⊥
some_found x [] h = cc
some_found x (f ∷ fs) h = some_found (sooner (Some x) f) fs h

pub none_found : (fs : List Finding) → first_of fs ≡ None → fs ≡ []
none_found [] h = refl
none_found (f ∷ fs) h = absurd (some_found f fs h)

-- ---- names are known where they are filled
module _ (names : List (String Global)) (d : Dictionary) where
  abbrev w : ℕ → Option What
  w = what_of d names

  said_within : (x : What) (n : ℕ) (o : Option (String Global)) → slice_get names n ≡ o →
      says x (option_map (λ text. what_in (d (string_bytes text))) o) ≡ true → nat_lt n (length names) ≡ true
  said_within x n None e h = absurd (never h)
  said_within x n (Some text) e h = (Decides-ltb n (length names)).1 (slice_get_within names n text e)

  name_within : (name : Ident) → name_filled w name ≡ true → nat_lt name.name (length names) ≡ true
  name_within name h = said_within name.what name.name (slice_get names name.name) refl h

  decls_within : (ds : List Decl) → decls_filled w ds ≡ true → list_all (λ e. nat_lt e.name.name (length names)) ds
      ≡ true
  decls_within [] h = refl
  decls_within (e ∷ es) h =
      let f = and_parts (decl_filled w e) (decls_filled w es) h in
      and_from _ _ (name_within e.name (and_parts (name_filled w e.name) (expr_filled w e.value) f.0).0)
      (decls_within es f.1)

  slots_within : (ds : List SlotDecl) → list_all (λ e. name_filled w e.name) ds ≡ true →
      list_all (λ e. nat_lt e.name.name (length names)) ds ≡ true
  slots_within [] h = refl
  slots_within (e ∷ es) h =
      let f = and_parts (name_filled w e.name) (list_all (λ e. name_filled w e.name) es) h in
      and_from _ _ (name_within e.name f.0) (slots_within es f.1)

  totals_within : (ds : List TotalDecl) → totals_filled w ds ≡ true →
      list_all (λ e. nat_lt e.name.name (length names)) ds ≡ true
  totals_within [] h = refl
  totals_within (e ∷ es) h =
      let f = and_parts (name_filled w e.name && expr_filled w e.value) (totals_filled w es) h in
      and_from _ _ (name_within e.name (and_parts (name_filled w e.name) (expr_filled w e.value) f.0).0)
      (totals_within es f.1)

  lets_within : (o : Option Dense) → option_all (dense_filled w) o ≡ true →
      option_all (λ b. list_all (λ e. nat_lt e.name.name (length names)) b.lets.items) o ≡ true
  lets_within None h = refl
  lets_within (Some b) h = decls_within b.lets.items
      (and_parts (decls_filled w b.lets.items) _ (and_parts (expr_filled w b.when_test) _ h).1).0

  sends_within : (o : Option Sparse) → option_all (sparse_filled w) o ≡ true →
      option_all (λ b. list_all (λ e. nat_lt e.name.name (length names)) b.sends.items) o ≡ true
  sends_within None h = refl
  sends_within (Some b) h = decls_within b.sends.items
      (and_parts (decls_filled w b.sends.items) _ (and_parts (expr_filled w b.when_test) _ h).1).0

  decl_kinds : (ds : List Decl) → kinds_in (entries (map (view_declaration names) ds)) ≡ kinds_of ds
  decl_kinds [] = refl
  decl_kinds (e ∷ es) = ap (λ l. e.kind ∷ l) (decl_kinds es)

-- ---- the blocks that a mode needs
mode_right_where : (b stands : Bool) (s : Span) → (if b then unless stands half_blocked s else fault blockless s) ≡ []
    → stands ≡ true
mode_right_where true stands s h = none_unless stands _ s h
mode_right_where false stands s h = cc

mode_right : (mode : Mode) (dense sparse : Bool) (s : Span) → mode_faults mode dense sparse s ≡ [] →
    mode_stands mode dense sparse ≡ true
mode_right mode dense sparse s h = mode_right_where (dense || sparse) (mode_stands mode dense sparse) s h

module _ (a b c d e f g : Bool) where
  seven : a ≡ true → b ≡ true → c ≡ true → d ≡ true → e ≡ true → f ≡ true → g ≡ true →
      (a && (b && (c && (d && (e && (f && g)))))) ≡ true
  seven p q r s t u v = and_from a _ p
      (and_from b _ q (and_from c _ r (and_from d _ s (and_from e _ t (and_from f g u v)))))

-- a test of a part that may be missing, by another test
option_by : {X : Type 0} (f : X → Bool) (o : Option X) → ((x : X) → o ≡ Some x → f x ≡ true) → option_all f o ≡ true
option_by f None h = refl
option_by f (Some x) h = h x refl

few_lets : (names : List (String Global)) (o : Option Dense) →
    option_all (λ b. nat_le (length b.lets) 8) (option_map (view_dense names) o) ≡ true →
    option_all (λ b. nat_le (length b.lets.items) 8) o ≡ true
few_lets names None h = refl
few_lets names (Some b) h = ap (λ n. nat_le n 8) (sym (length-map b.lets.items (view_declaration names))) ∙ h

few_sends : (names : List (String Global)) (o : Option Sparse) →
    option_all (λ b. nat_le (length b.sends) 8) (option_map (view_sparse names) o) ≡ true →
    option_all (λ b. nat_le (length b.sends.items) 8) o ≡ true
few_sends names None h = refl
few_sends names (Some b) h = ap (λ n. nat_le n 8) (sym (length-map b.sends.items (view_declaration names))) ∙ h

module _ (p : Program) (filled : is_filled p ≡ true) (none : faults (view_program p) ≡ []) where
  abbrev names : List (String Global)
  names = p.names.items

  abbrev t : ProgramTree
  t = view_program p

  abbrev d : Dictionary
  d = dictionary t

  abbrev x : ℕ → Option What
  x = what_of d names

  abbrev k : Kinds
  k = field_kinds p

  -- what is filled
  record Filled : Type 0 where
    fields : decls_filled x p.fields.items ≡ true
    slots : list_all (λ s. name_filled x s.name) p.slots.items ≡ true
    totals : totals_filled x p.totals.items ≡ true
    start : expr_filled x p.start ≡ true
    dense : option_all (dense_filled x) p.dense ≡ true
    sparse : option_all (sparse_filled x) p.sparse ≡ true
    update : body_filled x p.update.items ≡ true
    stop : option_all (expr_filled x) p.stop ≡ true

  all_filled : Filled
  all_filled =
      let a = and_parts (decls_filled x p.fields.items) _ filled in
      let b = and_parts (list_all (λ s. name_filled x s.name) p.slots.items) _ a.1 in
      let c = and_parts (totals_filled x p.totals.items) _ b.1 in
      let e = and_parts (expr_filled x p.start) _ c.1 in
      let f = and_parts (option_all (dense_filled x) p.dense) _ e.1 in
      let g = and_parts (option_all (sparse_filled x) p.sparse) _ f.1 in
      let h = and_parts (body_filled x p.update.items) _ g.1 in
      record {
        fields = a.0;
        slots = b.0;
        totals = c.0;
        start = e.0;
        dense = f.0;
        sparse = g.0;
        update = h.0;
        stop = h.1;
      }

  -- what has no faults
  record Clean : Type 0 where
    header : header_faults t ≡ []
    names_once : twice [] (all_entries t) ≡ []
    fields : declaration_faults d at_field t.fields ≡ []
    totals : total_faults d (at_total t) t.totals ≡ []
    start : faults_as d (at_start t) kind.Bool t.start ≡ []
    dense : dense_faults d t t.dense ≡ []
    sparse : sparse_faults d t t.sparse ≡ []
    update : block_faults d update_rights (at_update t) t.update ≡ []
    stop : stop_faults d t t.stop ≡ []

  clean : Clean
  clean =
      let A : List Finding = declaration_faults d at_field t.fields in
      let B : List Finding = total_faults d (at_total t) t.totals in
      let C : List Finding = faults_as d (at_start t) kind.Bool t.start in
      let D : List Finding = dense_faults d t t.dense in
      let E : List Finding = sparse_faults d t t.sparse in
      let F : List Finding = block_faults d update_rights (at_update t) t.update in
      let G : List Finding = stop_faults d t t.stop in
      let H : List Finding = header_faults t in
      let N : List Finding = twice [] (all_entries t) in
      let rest = none_right H (N ++ body_faults d t) none in
      let a = none_right N (body_faults d t) rest in
      let b = none_right A (B ++ (C ++ (D ++ (E ++ (F ++ G))))) a in
      let c = none_right B (C ++ (D ++ (E ++ (F ++ G)))) b in
      let e = none_right C (D ++ (E ++ (F ++ G))) c in
      let f = none_right D (E ++ (F ++ G)) e in
      let g = none_right E (F ++ G) f in
      record {
        header = none_left H (N ++ body_faults d t) none;
        names_once = none_left N (body_faults d t) rest;
        fields = none_left A (B ++ (C ++ (D ++ (E ++ (F ++ G))))) a;
        totals = none_left B (C ++ (D ++ (E ++ (F ++ G)))) b;
        start = none_left C (D ++ (E ++ (F ++ G))) c;
        dense = none_left D (E ++ (F ++ G)) e;
        sparse = none_left E (F ++ G) f;
        update = none_left F G g;
        stop = none_right F G g;
      }

  -- ---- the places
  abbrev fields_k : List ValueType
  fields_k = kinds_in (entries t.fields)

  abbrev lets_k : List ValueType
  lets_k = kinds_in (entries (lets_of t.dense))

  abbrev sends_k : List ValueType
  sends_k = kinds_in (entries (sends_of t.sparse))

  fields_many : length p.fields.items ≡ length fields_k
  fields_many = sym (ap length (decl_kinds names d p.fields.items) ∙ length-map p.fields.items (λ e. e.kind))

  fields_are : k.fields ≡ fields_k
  fields_are = sym (decl_kinds names d p.fields.items)

  tree_fields : length t.fields ≡ length p.fields.items
  tree_fields = length-map p.fields.items (view_declaration names)

  rows_are : names_of_rows t ≡ row_counts p
  rows_are = ap (λ n. let c : Counts = record {
    fields = n;
    locals = 0;
    sends = 0;
    slots = 0;
    totals = 0;
    other_fields = n;
  } in c) tree_fields

  rounds_are : names_of_rounds t ≡ round_counts p
  rounds_are =
      ap (λ n. let c : Counts = record {
        fields = n;
        locals = 0;
        sends = 0;
        slots = length t.slots;
        totals = length t.totals;
        other_fields = n;
      } in c) tree_fields
      ∙ ap (λ n. let c : Counts = record {
        fields = length p.fields.items;
        locals = 0;
        sends = 0;
        slots = n;
        totals = length t.totals;
        other_fields = length p.fields.items;
      } in c)
      (length-map p.slots.items (view_slot names))
      ∙ ap (λ n. let c : Counts = record {
        fields = length p.fields.items;
        locals = 0;
        sends = 0;
        slots = length p.slots.items;
        totals = n;
        other_fields = length p.fields.items;
      } in c)
      (length-map p.totals.items (view_total names))

  stops_are : (at_stop t).names ≡ stop_counts p
  stops_are = ap (λ n. let c : Counts = record {
    fields = 0;
    locals = 0;
    sends = 0;
    slots = 0;
    totals = n;
    other_fields = 0;
  } in c) (length-map p.totals.items (view_total names))

  tree_others : length t.fields ≡ length fields_k
  tree_others = tree_fields ∙ fields_many

  pub listed_here : (text : List ℕ) (m : Meaning) → d text ≡ Some m → IsListed fields_k lets_k sends_k m.what m.kind
  listed_here = all_listed t

  base : Base d names fields_k lets_k sends_k listed_here (at_test t) k
  base = record { base_fields = fields_are; base_locals = refl; base_sends = refl; base_others = tree_others }

  base_update : Base d names fields_k lets_k sends_k listed_here (at_update t) k
  base_update = record { base_fields = fields_are; base_locals = refl; base_sends = refl; base_others = tree_others }

  base_start : Base d names fields_k lets_k sends_k listed_here (at_start t) k
  base_start = record { base_fields = fields_are; base_locals = refl; base_sends = refl; base_others = tree_others }

  base_total : Base d names fields_k lets_k sends_k listed_here (at_total t) k
  base_total = record { base_fields = fields_are; base_locals = refl; base_sends = refl; base_others = tree_others }

  field_holds : Holds d names fields_k lets_k sends_k listed_here at_field k
  field_holds = record {
    has_fields = fields_are;
    has_lets = λ i lt. absurd (no_less 0 i refl lt);
    has_sends = λ i lt. absurd (no_less 0 i refl lt);
    has_others = λ others. absurd (never others);
  }

  stop_holds : Holds d names fields_k lets_k sends_k listed_here (at_stop t) k
  stop_holds = record {
    has_fields = fields_are;
    has_lets = λ i lt. absurd (no_less 0 i refl lt);
    has_sends = λ i lt. absurd (no_less 0 i refl lt);
    has_others = λ others. absurd (never others);
  }

  -- ---- the parts
  fields_ok : DeclsTyped d names fields_k lets_k sends_k listed_here no_counts in_fields k p.fields.items
  fields_ok = decls_good d names fields_k lets_k sends_k listed_here at_field k field_holds p.fields.items
      all_filled.fields clean.fields

  totals_ok : TotalsTyped d names fields_k lets_k sends_k listed_here (names_of_rows t) in_tests k p.totals.items
  totals_ok = totals_good d names fields_k lets_k sends_k listed_here (at_total t) k
      (base_holds d names fields_k lets_k sends_k listed_here (at_total t) k base_total) p.totals.items
      all_filled.totals clean.totals

  start_ok : Typed d names fields_k lets_k sends_k listed_here (names_of_rows t) in_fields k kind.Bool p.start
  start_ok = expr_good d names fields_k lets_k sends_k listed_here (at_start t) k
      (base_holds d names fields_k lets_k sends_k listed_here (at_start t) k base_start) kind.Bool p.start
      all_filled.start clean.start

  dense_ok : (b : Dense) → p.dense ≡ Some b →
      DenseTyped d names fields_k lets_k sends_k listed_here (names_of_rounds t) k b
  dense_ok b is =
      dense_good d names fields_k lets_k sends_k listed_here (names_of_rounds t) k base refl refl b
      (length (map (view_declaration names) b.lets.items))
      (length-map b.lets.items (view_declaration names))
      (ap (λ o. kinds_in (entries (lets_of (option_map (view_dense names) o)))) is ∙ decl_kinds names d b.lets.items)
      (sym (ap (option_all (dense_filled x)) is) ∙ all_filled.dense)
      (sym (ap (λ o. dense_faults d t (option_map (view_dense names) o)) is) ∙ clean.dense)

  sparse_ok : (b : Sparse) → p.sparse ≡ Some b →
      SparseTyped d names fields_k lets_k sends_k listed_here (names_of_rounds t) k b
  sparse_ok b is =
      sparse_good d names fields_k lets_k sends_k listed_here (names_of_rounds t) k base b
      (length (map (view_declaration names) b.sends.items))
      (length-map b.sends.items (view_declaration names))
      (ap (λ o. kinds_in (entries (sends_of (option_map (view_sparse names) o)))) is ∙ decl_kinds names d b.sends.items)
      (sym (ap (option_all (sparse_filled x)) is) ∙ all_filled.sparse)
      (sym (ap (λ o. sparse_faults d t (option_map (view_sparse names) o)) is) ∙ clean.sparse)

  update_ok : FineAll d names update_rights (at_update t) k
      (agrees d names fields_k lets_k sends_k listed_here (at_update t) k
      (base_holds d names fields_k lets_k sends_k listed_here (at_update t) k base_update)) p.update.items
  update_ok =
      fine_block d names update_rights (at_update t) k
      (agrees d names fields_k lets_k sends_k listed_here (at_update t) k
      (base_holds d names fields_k lets_k sends_k listed_here (at_update t) k base_update)) p.update.items
      all_filled.update clean.update

  stop_ok : (e : Expr) → p.stop ≡ Some e →
      Typed d names fields_k lets_k sends_k listed_here (at_stop t).names in_stop k kind.Bool e
  stop_ok e is =
      expr_good d names fields_k lets_k sends_k listed_here (at_stop t) k stop_holds kind.Bool e
      (sym (ap (option_all (expr_filled x)) is) ∙ all_filled.stop)
      (sym (ap (λ o. stop_faults d t (option_map (view names) o)) is) ∙ clean.stop)

  -- ---- the tests
  placed : is_placed p ≡ true
  placed = seven _ _ _ _ _ _ _
      fields_ok.placed
      (sym (ap (λ (c : Counts). list_all (λ (e : TotalDecl). expr_placed c e.value) p.totals.items) rows_are)
      ∙ totals_ok.placed)
      (sym (ap (λ (c : Counts). expr_placed c p.start) rows_are) ∙ start_ok.placed)
      (option_by (dense_placed (round_counts p)) p.dense (λ b is.
      sym (ap (λ (c : Counts). dense_placed c b) rounds_are) ∙ (dense_ok b is).placed))
      (option_by (sparse_placed (round_counts p)) p.sparse (λ b is.
      sym (ap (λ (c : Counts). sparse_placed c b) rounds_are) ∙ (sparse_ok b is).placed))
      (sym (ap (λ (c : Counts). body_placed update_rights c p.update.items) rounds_are) ∙ update_ok.placed)
      (option_by (expr_placed (stop_counts p)) p.stop (λ e is. sym (ap (λ (c : Counts). expr_placed c e) stops_are)
      ∙ (stop_ok e is).placed))

  kinded : is_kinded p ≡ true
  kinded = seven _ _ _ _ _ _ _
      fields_ok.typed totals_ok.typed start_ok.typed
      (option_by (dense_typed k) p.dense (λ b is. (dense_ok b is).typed))
      (option_by (sparse_typed k) p.sparse (λ b is. (sparse_ok b is).typed))
      update_ok.typed
      (option_by (expr_has k kind.Bool) p.stop (λ e is. (stop_ok e is).typed))

  readable : is_readable p ≡ true
  readable = seven _ _ _ _ _ _ _
      fields_ok.read totals_ok.read start_ok.read
      (option_by dense_read p.dense (λ b is. (dense_ok b is).read))
      (option_by sparse_read p.sparse (λ b is. (sparse_ok b is).read))
      update_ok.read
      (option_by (expr_read in_stop) p.stop (λ e is. (stop_ok e is).read))

  limited : is_counted t ≡ true → is_limited p ≡ true
  limited h =
      let M : List Finding = mode_faults t.mode (is_some t.dense) (is_some t.sparse) t.mode_at in
      let L : List Finding = unless (nat_le t.limit 10000) _ t.limit_at in
      let u = and_parts (nat_le (length t.fields) 16) _ h in
      let v = and_parts (nat_le (length t.slots) 8) _ u.1 in
      let w' = and_parts (nat_le (length t.totals) 4) _ v.1 in
      let y = and_parts (option_all (λ b. nat_le (length b.lets) 8) t.dense) _ w'.1 in
      and_from _ _ (none_unless (nat_le t.limit 10000) _ t.limit_at (none_right M L clean.header))
      (and_from _ _ (ap (λ n. nat_le n 16) (sym tree_fields) ∙ u.0)
      (and_from _ _ (ap (λ n. nat_le n 8) (sym (length-map p.slots.items (view_slot names))) ∙ v.0)
      (and_from _ _ (ap (λ n. nat_le n 4) (sym (length-map p.totals.items (view_total names))) ∙ w'.0)
      (and_from _ _ (few_lets names p.dense y.0) (few_sends names p.sparse y.1)))))

  named : names_stand p ≡ true
  named =
      and_from _ _ (decls_within names d p.fields.items all_filled.fields)
      (and_from _ _ (slots_within names d p.slots.items all_filled.slots)
      (and_from _ _ (totals_within names d p.totals.items all_filled.totals)
      (and_from _ _ (lets_within names d p.dense all_filled.dense) (sends_within names d p.sparse all_filled.sparse))))

  moded : mode_stands p.mode (is_some p.dense) (is_some p.sparse) ≡ true
  moded =
      let M : List Finding = mode_faults t.mode (is_some t.dense) (is_some t.sparse) t.mode_at in
      let L : List Finding = unless (nat_le t.limit 10000) _ t.limit_at in
      ap (λ b. mode_stands p.mode b (is_some p.sparse)) (some_same (view_dense names) p.dense)
      ∙ ap (mode_stands p.mode (is_some t.dense)) (some_same (view_sparse names) p.sparse)
      ∙ mode_right t.mode (is_some t.dense) (is_some t.sparse) t.mode_at (none_left M L clean.header)

  pub typed : is_shallow_program t ≡ true → is_counted t ≡ true → is_of_version t ≡ true → are_totals t ≡ true →
      is_typed p ≡ true
  typed shallow counted version totals =
      and_from (is_placed p) _ placed
      (and_from (is_kinded p) _ kinded
      (and_from (is_limited p) _ (limited counted)
      (and_from (is_shallow p) _ (shallow_same p ∙ shallow)
      (and_from (names_stand p) _ named
      (and_from (version_stands p) _ (version_same p ∙ version)
      (and_from (mode_stands p.mode (is_some p.dense) (is_some p.sparse)) _ moded
      (and_from (is_readable p) _ readable
      (and_from (declares_once p) (totals_combine p) (once_declared p clean.names_once)
      (ops_are_same p ∙ totals)))))))))
