-- Declarations and blocks without faults are typed, where names stand for what is declared.
use Rattle.std.proofs.Common.{◌≡◌, ◌<◌, ◌+◌, ℕ, zero, suc, true, ◌&&◌, List, [], ◌∷◌, ◌++◌, length, map, Option, Some, refl, sym, ap, ◌∙◌, subst, arith, append_assoc, length-append}
use Rattle.std.specs.List.{list_all}
use Rattle.std.specs.Prelude.{nat_lt, slice_get}
use Rattle.std.specs.declared.alloc.Global.{Global}
use Rattle.std.specs.declared.string.String.{String}
use Rattle.std.proofs.lemmas.Bool.{and_parts, and_from}
use Rattle.std.proofs.lemmas.Bool.Decides.{Decides-ltb}
use Rattle.std.proofs.lemmas.Option.{slice_get_within}
use Rattle.vert_base.specs.declared.value.ValueType.{ValueType}
use Rattle.vert_base.specs.declared.value.ValueType.TheVariants as kind
use Rattle.vert_tree.specs.declared.expression.Expr.{Expr}
use Rattle.vert_tree.specs.declared.name.What.{What}
use Rattle.vert_tree.specs.declared.name.What.TheVariants.{Unread, Field, Slot, Local, Send, Total}
use Rattle.vert_tree.specs.declared.program.Decl.{Decl}
use Rattle.vert_tree.specs.declared.program.Dense.{Dense}
use Rattle.vert_tree.specs.declared.program.Sparse.{Sparse}
use Rattle.vert_tree.specs.declared.program.TotalDecl.{TotalDecl}
use Rattle.vert_tree.specs.Kinds.{Kinds, dense_typed, expr_has, has_kind, kinds_of, lets_typed, name_kind, other_kind, sparse_typed}
use Rattle.vert_tree.specs.Places.{Counts, body_placed, dense_placed, expr_placed, is_named, is_other_field, lets_placed, loop_rights, sparse_placed, sparse_rights, tail_rights}
use Rattle.vert_tree.specs.Readable.{Readable, decls_read, dense_read, expr_read, in_loop, in_sparse, in_tests, sparse_read}
use Rattle.vert_tree.specs.Views.{view, view_block, view_declaration, view_total}
use Rattle.vert_types.specs.declared.fault.Finding.{Finding}
use Rattle.vert_types.specs.declared.scope.Meaning.{Meaning}
use Rattle.vert_types.specs.Filled.{body_filled, decls_filled, decl_filled, dense_filled, expr_filled, name_filled, sparse_filled, totals_filled, what_of}
use Rattle.vert_types.specs.Typing.{Dictionary, Place, block_faults, declaration_faults, faults_as, is_field, let_faults, total_faults, with_lets}
use Rattle.vert_types.proofs.FineLaws.{fine_block}
use Rattle.vert_types.proofs.GoodLaws.{Agrees, good_expr, has_own, never, none_left, none_right}

-- What a name stands for is declared, with its type.
abbrev pub IsListed : List ValueType → List ValueType → List ValueType → What → ValueType → Type 0
IsListed fields lets sends (Field i) k = slice_get fields i ≡ Some k
IsListed fields lets sends (Local i) k = slice_get lets i ≡ Some k
IsListed fields lets sends (Send i) k = slice_get sends i ≡ Some k
IsListed fields lets sends (Total i) k = k ≡ kind.Int
IsListed fields lets sends (Slot i) k = Unit {0}
IsListed fields lets sends Unread k = ⊥

-- the first elements of a list
front_get : (a b : List ValueType) (i : ℕ) → i < length a → slice_get (a ++ b) i ≡ slice_get a i
front_get [] b i lt = absurd (omega arith)
front_get (x ∷ a) b zero lt = refl
front_get (x ∷ a) b (suc i) lt = front_get a b i (omega arith)

pub no_less : (n i : ℕ) → n ≡ 0 → nat_lt i n ≡ true → ⊥
no_less n i none lt = let below : i < n = (Decides-ltb i n).0 lt in omega arith

module _ (d : Dictionary) (names : List (String Global)) (fields lets sends : List ValueType)
    (listed : (text : List ℕ) (m : Meaning) → d text ≡ Some m → IsListed fields lets sends m.what m.kind) where
  -- the types that the names have at a place
  pub record Holds (p : Place) (k : Kinds) : Type 0 where
    pub has_fields : k.fields ≡ fields
    pub has_lets : (i : ℕ) → nat_lt i p.names.locals ≡ true → slice_get k.locals i ≡ slice_get lets i
    pub has_sends : (i : ℕ) → nat_lt i p.names.sends ≡ true → slice_get k.sends i ≡ slice_get sends i
    pub has_others : p.words.others ≡ true → p.names.other_fields ≡ length fields

  named_at : (p : Place) (k : Kinds) → Holds p k → (w : What) (t : ValueType) → IsListed fields lets sends w t →
      is_named p.names w ≡ true → name_kind k w ≡ Some t
  named_at p k h (Field i) t is may = ap (λ l. slice_get l i) h.has_fields ∙ is
  named_at p k h (Local i) t is may = h.has_lets i may ∙ is
  named_at p k h (Send i) t is may = h.has_sends i may ∙ is
  named_at p k h (Total i) t is may = ap Some (sym is)
  named_at p k h (Slot i) t is may = absurd (never may)
  named_at p k h Unread t is may = absurd is

  behind_at : (p : Place) (k : Kinds) → Holds p k → (w : What) (t : ValueType) → IsListed fields lets sends w t →
      is_field w ≡ true → p.words.others ≡ true → is_other_field p.names w ≡ true
  behind_at p k h (Field i) t is may others =
      let lt : i < length fields = slice_get_within fields i t is in
      ap (nat_lt i) (h.has_others others) ∙ (Decides-ltb i (length fields)).1 lt
  behind_at p k h (Local i) t is may others = absurd (never may)
  behind_at p k h (Send i) t is may others = absurd (never may)
  behind_at p k h (Total i) t is may others = absurd (never may)
  behind_at p k h (Slot i) t is may others = absurd (never may)
  behind_at p k h Unread t is may others = absurd (never may)

  other_at : (p : Place) (k : Kinds) → Holds p k → (w : What) (t : ValueType) → IsListed fields lets sends w t →
      is_field w ≡ true → other_kind k w ≡ Some t
  other_at p k h (Field i) t is may = ap (λ l. slice_get l i) h.has_fields ∙ is
  other_at p k h (Local i) t is may = absurd (never may)
  other_at p k h (Send i) t is may = absurd (never may)
  other_at p k h (Total i) t is may = absurd (never may)
  other_at p k h (Slot i) t is may = absurd (never may)
  other_at p k h Unread t is may = absurd (never may)

  pub agrees : (p : Place) (k : Kinds) → Holds p k → Agrees d p k
  agrees p k h = record {
    named = λ text m is may. named_at p k h m.what m.kind (listed text m is) may;
    behind = λ text m is may others. behind_at p k h m.what m.kind (listed text m is) may others;
    other = λ text m is may. other_at p k h m.what m.kind (listed text m is) may;
  }

  abbrev w : ℕ → Option What
  w = what_of d names

  -- ---- one expression
  pub record Typed (c : Counts) (r : Readable) (k : Kinds) (t : ValueType) (e : Expr) : Type 0 where
    pub placed : expr_placed c e ≡ true
    pub read : expr_read r e ≡ true
    pub typed : expr_has k t e ≡ true

  pub expr_good : (p : Place) (k : Kinds) → Holds p k → (t : ValueType) (e : Expr) → expr_filled w e ≡ true →
      faults_as d p t (view names e) ≡ [] → Typed p.names p.words k t e
  expr_good p k h t e filled none =
      let g = good_expr d names p k (agrees p k h) t e filled none in
      record { placed = g.placed; read = g.read; typed = ap (has_kind t) g.kinded ∙ has_own t }

  -- ---- fields and sends
  pub record DeclsTyped (c : Counts) (r : Readable) (k : Kinds) (ds : List Decl) : Type 0 where
    pub placed : list_all (λ e. expr_placed c e.value) ds ≡ true
    pub read : decls_read r ds ≡ true
    pub typed : list_all (λ e. expr_has k e.kind e.value) ds ≡ true

  pub decls_good : (p : Place) (k : Kinds) → Holds p k → (ds : List Decl) → decls_filled w ds ≡ true →
      declaration_faults d p (map (view_declaration names) ds) ≡ [] → DeclsTyped p.names p.words k ds
  decls_good p k h [] filled none = record { placed = refl; read = refl; typed = refl }
  decls_good p k h (e ∷ es) filled none =
      let f = and_parts (decl_filled w e) (decls_filled w es) filled in
      let A : List Finding = faults_as d p e.kind (view names e.value) in
      let B : List Finding = declaration_faults d p (map (view_declaration names) es) in
      let g = expr_good p k h e.kind e.value (and_parts (name_filled w e.name) (expr_filled w e.value) f.0).1
      (none_left A B none) in
      let more = decls_good p k h es f.1 (none_right A B none) in
      record {
        placed = and_from _ _ g.placed more.placed;
        read = and_from _ _ g.read more.read;
        typed = and_from _ _ g.typed more.typed;
      }

  -- ---- totals
  pub record TotalsTyped (c : Counts) (r : Readable) (k : Kinds) (ts : List TotalDecl) : Type 0 where
    pub placed : list_all (λ e. expr_placed c e.value) ts ≡ true
    pub read : list_all (λ e. expr_read r e.value) ts ≡ true
    pub typed : list_all (λ e. expr_has k kind.Int e.value) ts ≡ true

  pub totals_good : (p : Place) (k : Kinds) → Holds p k → (ts : List TotalDecl) → totals_filled w ts ≡ true →
      total_faults d p (map (view_total names) ts) ≡ [] → TotalsTyped p.names p.words k ts
  totals_good p k h [] filled none = record { placed = refl; read = refl; typed = refl }
  totals_good p k h (e ∷ es) filled none =
      let f = and_parts (name_filled w e.name && expr_filled w e.value) (totals_filled w es) filled in
      let A : List Finding = faults_as d p kind.Int (view names e.value) in
      let B : List Finding = total_faults d p (map (view_total names) es) in
      let g = expr_good p k h kind.Int e.value (and_parts (name_filled w e.name) (expr_filled w e.value) f.0).1
      (none_left A B none) in
      let more = totals_good p k h es f.1 (none_right A B none) in
      record {
        placed = and_from _ _ g.placed more.placed;
        read = and_from _ _ g.read more.read;
        typed = and_from _ _ g.typed more.typed;
      }

  -- ---- lets
  pub record LetsTyped (c : Counts) (r : Readable) (k : Kinds) (ds : List Decl) : Type 0 where
    pub placed : lets_placed c ds ≡ true
    pub read : decls_read r ds ≡ true
    pub typed : lets_typed k ds ≡ true

  -- the types of the names where these lets stand before
  abbrev with_before : List ValueType → Kinds → Kinds
  with_before before k = record k { locals = before }

  holds_before : (p : Place) (k : Kinds) → Holds p k → (n : ℕ) (before rest : List ValueType) → n ≡ length before →
      lets ≡ before ++ rest → Holds (with_lets n p) (with_before before k)
  holds_before p k h n before rest many all = record {
    has_fields = h.has_fields;
    has_lets = λ i lt.
        let below : i < length before = subst (λ l. i < l) many ((Decides-ltb i n).0 lt) in
        sym (front_get before rest i below) ∙ sym (ap (λ l. slice_get l i) all);
    has_sends = h.has_sends;
    has_others = h.has_others;
  }

  module _ (p : Place) (k : Kinds) where
    pub lets_good : Holds p k → (n : ℕ) (before : List ValueType) (ds : List Decl) → n ≡ length before →
        lets ≡ before ++ kinds_of ds → decls_filled w ds ≡ true →
        let_faults d p n (map (view_declaration names) ds) ≡ [] →
        LetsTyped (with_lets n p).names p.words (with_before before k) ds
    lets_good h n before [] many all filled none = record { placed = refl; read = refl; typed = refl }
    lets_good h n before (e ∷ es) many all filled none =
        let f = and_parts (decl_filled w e) (decls_filled w es) filled in
        let A : List Finding = faults_as d (with_lets n p) e.kind (view names e.value) in
        let B : List Finding = let_faults d p (n + 1) (map (view_declaration names) es) in
        let g = expr_good (with_lets n p) (with_before before k)
        (holds_before p k h n before (kinds_of (e ∷ es)) many all) e.kind e.value
        (and_parts (name_filled w e.name) (expr_filled w e.value) f.0).1 (none_left A B none) in
        let next : n + 1 ≡ length (before ++ e.kind ∷ []) = omega (arith, many, length-append before (e.kind ∷ [])) in
        let more = lets_good h (n + 1) (before ++ e.kind ∷ []) es next
        (all ∙ sym (append_assoc before (e.kind ∷ []) (kinds_of es))) f.1 (none_right A B none) in
        record {
          placed = and_from _ _ g.placed more.placed;
          read = and_from _ _ g.read more.read;
          typed = and_from _ _ g.typed more.typed;
        }

  -- ---- blocks, at the places of a program
  -- Where no let and no send is named: the names of the program, and so many of each sort.
  pub record Base (p : Place) (k : Kinds) : Type 0 where
    pub base_fields : k.fields ≡ fields
    pub base_locals : p.names.locals ≡ 0
    pub base_sends : p.names.sends ≡ 0
    pub base_others : p.names.other_fields ≡ length fields

  pub base_holds : (p : Place) (k : Kinds) → Base p k → Holds p k
  base_holds p k b = record {
    has_fields = b.base_fields;
    has_lets = λ i lt. absurd (no_less p.names.locals i b.base_locals lt);
    has_sends = λ i lt. absurd (no_less p.names.sends i b.base_sends lt);
    has_others = λ others. b.base_others;
  }

  -- with all lets
  lets_hold : (p : Place) (k : Kinds) (r : Readable) (ds : List Decl) (n : ℕ) → Base p k → lets ≡ kinds_of ds →
      n ≡ length ds →
      Holds (record { words = r; names = record p.names { locals = n } }) (with_before (kinds_of ds) k)
  lets_hold p k r ds n b all many = record {
    has_fields = b.base_fields;
    has_lets = λ i lt. sym (ap (λ l. slice_get l i) all);
    has_sends = λ i lt. absurd (no_less p.names.sends i b.base_sends lt);
    has_others = λ others. b.base_others;
  }

  -- with all sends
  sends_hold : (p : Place) (k : Kinds) (r : Readable) (ds : List Decl) (n : ℕ) → Base p k → sends ≡ kinds_of ds →
      n ≡ length ds →
      Holds (record { words = r; names = record p.names { sends = n } }) (record k { sends = kinds_of ds })
  sends_hold p k r ds n b all many = record {
    has_fields = b.base_fields;
    has_lets = λ i lt. absurd (no_less p.names.locals i b.base_locals lt);
    has_sends = λ i lt. sym (ap (λ l. slice_get l i) all);
    has_others = λ others. b.base_others;
  }

  pub record DenseTyped (c : Counts) (k : Kinds) (b : Dense) : Type 0 where
    pub placed : dense_placed c b ≡ true
    pub read : dense_read b ≡ true
    pub typed : dense_typed k b ≡ true

  module _ (c : Counts) (k : Kinds) where
    -- a test's place
    abbrev at : Place
    at = record { words = in_tests; names = c }

    abbrev in_body : Readable → ℕ → Place
    in_body r n = record { words = r; names = record c { locals = n } }

    module _ (base : Base at k) where
      pub dense_good : c ≡ record c { locals = 0 } → k ≡ with_before [] k → (b : Dense) (n : ℕ) →
          n ≡ length b.lets.items → lets ≡ kinds_of b.lets.items → dense_filled w b ≡ true →
          faults_as d at kind.Bool (view names b.when_test) ++ (let_faults d at 0 (map (view_declaration names)
          b.lets.items) ++ (block_faults d loop_rights (in_body in_loop n) (view_block names b.body.items) ++
          block_faults d tail_rights (in_body in_tests n) (view_block names b.tail.items))) ≡ [] →
          DenseTyped c k b
      dense_good fresh plain b n many all filled none =
          let A : List Finding = faults_as d at kind.Bool (view names b.when_test) in
          let B : List Finding = let_faults d at 0 (map (view_declaration names) b.lets.items) in
          let C : List Finding = block_faults d loop_rights (in_body in_loop n) (view_block names b.body.items) in
          let D : List Finding = block_faults d tail_rights (in_body in_tests n) (view_block names b.tail.items) in
          let f = and_parts (expr_filled w b.when_test)
          (decls_filled w b.lets.items && (body_filled w b.body.items && body_filled w b.tail.items)) filled in
          let g = and_parts (decls_filled w b.lets.items) (body_filled w b.body.items && body_filled w
          b.tail.items) f.1
          in
          let e = and_parts (body_filled w b.body.items) (body_filled w b.tail.items) g.1 in
          let rest = none_right A (B ++ (C ++ D)) none in
          let last = none_right B (C ++ D) rest in
          let h = base_holds at k base in
          let test = expr_good at k h kind.Bool b.when_test f.0 (none_left A (B ++ (C ++ D)) none) in
          let before = lets_good at k h 0 [] b.lets.items refl all g.0 (none_left B (C ++ D) rest) in
          let inner : Kinds = with_before (kinds_of b.lets.items) k in
          let body = fine_block d names loop_rights (in_body in_loop n) inner
          (agrees (in_body in_loop n) inner (lets_hold at k in_loop b.lets.items n base all many)) b.body.items e.0
          (none_left C D last) in
          let tail = fine_block d names tail_rights (in_body in_tests n) inner
          (agrees (in_body in_tests n) inner (lets_hold at k in_tests b.lets.items n base all many)) b.tail.items
          e.1 (none_right C D last) in
          let with_n : ℕ → Counts = λ m. record c { locals = m } in
          record {
            placed =
                and_from _ _ test.placed (and_from _ _ (ap (λ (x : Counts). lets_placed x b.lets.items) fresh
                ∙ before.placed)
                (and_from _ _ (ap (λ m. body_placed loop_rights (with_n m) b.body.items) (sym many) ∙ body.placed)
                (ap (λ m. body_placed tail_rights (with_n m) b.tail.items) (sym many) ∙ tail.placed)));
            read = and_from _ _ test.read (and_from _ _ before.read (and_from _ _ body.read tail.read));
            typed = and_from _ _ test.typed (and_from _ _ (ap (λ (x : Kinds). lets_typed x b.lets.items) plain
                ∙ before.typed) (and_from _ _ body.typed tail.typed));
          }

    pub record SparseTyped (b : Sparse) : Type 0 where
      pub placed : sparse_placed c b ≡ true
      pub read : sparse_read b ≡ true
      pub typed : sparse_typed k b ≡ true

    abbrev in_sent : ℕ → Place
    in_sent n = record { words = in_sparse; names = record c { sends = n } }

    pub sparse_good : Base at k → (b : Sparse) (n : ℕ) → n ≡ length b.sends.items → sends ≡ kinds_of b.sends.items →
        sparse_filled w b ≡ true →
        faults_as d at kind.Bool (view names b.when_test)
        ++ (declaration_faults d at (map (view_declaration names) b.sends.items)
        ++ block_faults d sparse_rights (in_sent n) (view_block names b.body.items)) ≡ [] →
        SparseTyped b
    sparse_good base b n many all filled none =
        let A : List Finding = faults_as d at kind.Bool (view names b.when_test) in
        let B : List Finding = declaration_faults d at (map (view_declaration names) b.sends.items) in
        let C : List Finding = block_faults d sparse_rights (in_sent n) (view_block names b.body.items) in
        let f = and_parts (expr_filled w b.when_test) (decls_filled w b.sends.items && body_filled w b.body.items)
        filled in
        let g = and_parts (decls_filled w b.sends.items) (body_filled w b.body.items) f.1 in
        let rest = none_right A (B ++ C) none in
        let h = base_holds at k base in
        let test = expr_good at k h kind.Bool b.when_test f.0 (none_left A (B ++ C) none) in
        let before = decls_good at k h b.sends.items g.0 (none_left B C rest) in
        let inner : Kinds = record k { sends = kinds_of b.sends.items } in
        let body = fine_block d names sparse_rights (in_sent n) inner
        (agrees (in_sent n) inner (sends_hold at k in_sparse b.sends.items n base all many)) b.body.items g.1
        (none_right B C rest) in
        let with_n : ℕ → Counts = λ m. record c { sends = m } in
        record {
          placed = and_from _ _ test.placed
              (and_from _ _ before.placed (ap (λ m. body_placed sparse_rights (with_n m) b.body.items) (sym many)
              ∙ body.placed));
          read = and_from _ _ test.read (and_from _ _ before.read body.read);
          typed = and_from _ _ test.typed (and_from _ _ before.typed body.typed);
        }
