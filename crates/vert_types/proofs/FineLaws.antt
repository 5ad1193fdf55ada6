-- A statement without faults has its places, its words and its types: an induction over statements.
use Rattle.std.proofs.Common.{◌≡◌, ℕ, Bool, true, ◌&&◌, List, [], ◌∷◌, ◌++◌, map, Option, None, Some, refl, sym, ap, ◌∙◌, subst}
use Rattle.std.specs.Global.{Vec}
use Rattle.std.specs.List.{list_all}
use Rattle.std.specs.Prelude.{if◌then◌else◌, nat_lt}
use Rattle.std.specs.declared.alloc.Global.{Global}
use Rattle.std.specs.declared.string.String.{String}
use Rattle.std.proofs.lemmas.Bool.{and_parts, and_from}
use Rattle.std.proofs.lemmas.List.Folds.{list_all-map}
use Rattle.vert_base.specs.declared.text.Span.{Span}
use Rattle.vert_base.specs.declared.value.ValueType.{ValueType}
use Rattle.vert_base.specs.declared.value.ValueType.TheVariants as kind
use Rattle.vert_tree.specs.declared.expression.Expr.{Expr}
use Rattle.vert_tree.specs.declared.name.Ident.{Ident}
use Rattle.vert_tree.specs.declared.name.What.{What}
use Rattle.vert_tree.specs.declared.name.What.TheVariants.{Unread, Field, Slot, Local, Send, Total}
use Rattle.vert_tree.specs.declared.statement.AssignOp.{AssignOp}
use Rattle.vert_tree.specs.declared.statement.AssignOp.TheVariants as assign
use Rattle.vert_tree.specs.declared.statement.Stmt.{Stmt, Stmt-F}
use Rattle.vert_tree.specs.declared.statement.Stmt.TheOpen as level
use Rattle.vert_tree.specs.declared.statement.Stmt.TheVariants.{rolls-Assign, rolls-SetActive, rolls-If, rolls-Emit, rolls-Break}
use Rattle.vert_tree.specs.declared.statement.Stmt.TheViews.{roll-Stmt}
use Rattle.vert_tree.specs.declared.statement.Stmt.TheFolds.{fold-roll-Stmt, ind-Stmt, map-Stmt}
use Rattle.vert_tree.specs.Kinds.{Kinds, assign_typed, body_typed, has_kind, level_typed, name_kind, node_kind, stmt_typed}
use Rattle.vert_tree.specs.Places.{Counts, Rights, body_placed, is_named, is_slot, is_target, level_placed, node_placed, stmt_placed}
use Rattle.vert_tree.specs.Readable.{body_read, level_read, stmt_read}
use Rattle.vert_tree.specs.Trees.{Statement, start}
use Rattle.vert_tree.specs.Views.{text_of, view, view_block, view_statement}
use Rattle.vert_tree.proofs.Rows.{view-If, view-If_else}
use Rattle.vert_types.specs.declared.fault.Finding.{Finding}
use Rattle.vert_types.specs.Filled.{body_filled, expr_filled, level_filled, name_filled, stmt_filled, what_of}
use Rattle.vert_types.specs.Findings.{unless}
use Rattle.vert_types.specs.Typing.{Dictionary, Place, block_faults, faults_as, faults_of, kind_of, kind_of_use, same_faults, statement_faults, target_faults, use_faults, value_faults}
use Rattle.vert_types.proofs.GoodLaws.{Agrees, good, good_as, good_expr, has_own, name_said, none_left, none_right, none_unless, right_kind, used}

-- what may be assigned to has a place
target_named : (r : Rights) (c : Counts) (w : What) → is_target r c w ≡ true → is_named c w ≡ true
target_named r c (Field i) h = (and_parts r.fields (nat_lt i c.fields) h).1
target_named r c (Local i) h = (and_parts r.locals (nat_lt i c.locals) h).1
target_named r c Unread h = h
target_named r c (Slot i) h = h
target_named r c (Send i) h = cc
target_named r c (Total i) h = cc

module _ (d : Dictionary) (names : List (String Global)) (r : Rights) (p : Place) (k : Kinds) (agrees : Agrees d p k)
  where
    abbrev w : ℕ → Option What
    w = what_of d names

    record Fine (s : Stmt) : Type 0 where
      placed : stmt_placed r p.names s ≡ true
      read : stmt_read p.words s ≡ true
      typed : stmt_typed k s ≡ true

    pub record FineAll (ss : List Stmt) : Type 0 where
      pub placed : body_placed r p.names ss ≡ true
      pub read : body_read p.words ss ≡ true
      pub typed : body_typed k ss ≡ true

    record IsFine (s : Stmt) : Type 0 where
      by : stmt_filled w s ≡ true → statement_faults d r p (view_statement names s) ≡ [] → Fine s

    record AreFine (ss : List Stmt) : Type 0 where
      by : body_filled w ss ≡ true → block_faults d r p (view_block names ss) ≡ [] → FineAll ss

    -- ---- one statement as a layer
    abbrev S : Statement → List Finding
    S t = statement_faults d r p t

    -- a layer that has its places, its words and its types
    fine_roll : (z : Stmt-F Stmt) → level_placed r p.names (map-Stmt Stmt Bool (stmt_placed r p.names) z) ≡ true →
        level_read p.words (map-Stmt Stmt Bool (stmt_read p.words) z) ≡ true →
        level_typed k (map-Stmt Stmt Bool (stmt_typed k) z) ≡ true → Fine (roll-Stmt z)
    fine_roll z a b c = record {
      placed = fold-roll-Stmt Bool (level_placed r p.names) z ∙ a;
      read = fold-roll-Stmt Bool (level_read p.words) z ∙ b;
      typed = fold-roll-Stmt Bool (level_typed k) z ∙ c;
    }

    filled_roll : (z : Stmt-F Stmt) → stmt_filled w (roll-Stmt z) ≡ true →
        level_filled w (map-Stmt Stmt Bool (stmt_filled w) z) ≡ true
    filled_roll z h = sym (fold-roll-Stmt Bool (level_filled w) z) ∙ h

    -- ---- assignments
    assign_ok : (op : AssignOp) (t : ValueType) (target : Ident) (e : Expr) → expr_filled w e ≡ true →
        target_faults op (Some t) target.span ≡ [] → value_faults d p op (Some t) (view names e) ≡ [] →
        (node_placed p.names e.node ≡ true) × (stmt_read p.words (roll-Stmt (level.Assign target op e)) ≡ true) ×
        (assign_typed op (Some t) (node_kind k e.node) ≡ true)
    assign_ok assign.Set t target e filled none h =
        let F = faults_of d p (view names e) in
        let M = same_faults (Some t) (kind_of d p (view names e)) (start (view names e)) in
        let g = good d names p k agrees e.span e.node filled (none_left F M h) in
        let j = good_as d names p k t e.span e.node (start (view names e)) g (none_right F M h) in (
          j.placed,
          fold-roll-Stmt Bool (level_read p.words) (level.Assign target assign.Set e) ∙ j.read,
          ap (has_kind t) j.kinded ∙ has_own t,
        )
    assign_ok assign.Add t target e filled none h =
        let j = good_expr d names p k agrees kind.Int e filled h in
        let is = right_kind kind.Int t target.span none in (
          j.placed,
          fold-roll-Stmt Bool (level_read p.words) (level.Assign target assign.Add e) ∙ j.read,
          and_from _ _ (ap (λ x. has_kind kind.Int (Some x)) is) (ap (has_kind kind.Int) j.kinded),
        )
    assign_ok assign.Least t target e filled none h =
        let j = good_expr d names p k agrees kind.Int e filled h in
        let is = right_kind kind.Int t target.span none in (
          j.placed,
          fold-roll-Stmt Bool (level_read p.words) (level.Assign target assign.Least e) ∙ j.read,
          and_from _ _ (ap (λ x. has_kind kind.Int (Some x)) is) (ap (has_kind kind.Int) j.kinded),
        )
    assign_ok assign.Greatest t target e filled none h =
        let j = good_expr d names p k agrees kind.Int e filled h in
        let is = right_kind kind.Int t target.span none in (
          j.placed,
          fold-roll-Stmt Bool (level_read p.words) (level.Assign target assign.Greatest e) ∙ j.read,
          and_from _ _ (ap (λ x. has_kind kind.Int (Some x)) is) (ap (has_kind kind.Int) j.kinded),
        )

    fine_assign : (target : Ident) (op : AssignOp) (e : Expr) → IsFine (roll-Stmt (level.Assign target op e))
    fine_assign target op e = record {
      by = λ filled none.
          let z : Stmt-F Stmt = level.Assign target op e in
          let f = and_parts (name_filled w target) (expr_filled w e) (filled_roll z filled) in
          let o = d (text_of names target.name) in
          let N : List Finding = use_faults (is_target r p.names) o target.span in
          let t = kind_of_use (is_target r p.names) o in
          let T : List Finding = target_faults op t target.span in
          let V : List Finding = value_faults d p op t (view names e) in
          let h : N ++ (T ++ V) ≡ [] = sym (ap (λ s. S (view_statement names s)) (rolls-Assign target op e)) ∙ none in
          let m = used (is_target r p.names) o target.span (none_left N (T ++ V) h) in
          let rest = none_right N (T ++ V) h in
          let told : t ≡ Some m.0.kind = ap (kind_of_use (is_target r p.names)) m.1
          ∙ ap (λ b. if b then Some m.0.kind else None) m.2 in
          let is = name_said d names target m.0 f.0 m.1 in
          let ok = assign_ok op m.0.kind target e f.1
          (sym (ap (λ x. target_faults op x target.span) told) ∙ none_left T V rest)
          (sym (ap (λ x. value_faults d p op x (view names e)) told) ∙ none_right T V rest) in
          let kinded : name_kind k target.what ≡ Some m.0.kind = ap (name_kind k) is
          ∙ agrees.named (text_of names target.name) m.0 m.1 (target_named r p.names m.0.what m.2) in
          record {
            placed = fold-roll-Stmt Bool (level_placed r p.names) z
                ∙ and_from _ _ (ap (is_target r p.names) is ∙ m.2) ok.0;
            read = ok.1;
            typed = fold-roll-Stmt Bool (level_typed k) z ∙ ap (λ x. assign_typed op x (node_kind k e.node)) kinded
                ∙ ok.2;
          };
    }

    -- ---- the other statements
    fine_active : (s : Span) (e : Expr) → IsFine (roll-Stmt (level.SetActive s e))
    fine_active s e = record {
      by = λ filled none.
          let z : Stmt-F Stmt = level.SetActive s e in
          let U : List Finding = unless r.active _ s in
          let A : List Finding = faults_as d p kind.Bool (view names e) in
          let h : U ++ A ≡ [] = sym (ap (λ x. S (view_statement names x)) (rolls-SetActive s e)) ∙ none in
          let j = good_expr d names p k agrees kind.Bool e (filled_roll z filled) (none_right U A h) in
          fine_roll z (and_from _ _ (none_unless r.active _ s (none_left U A h)) j.placed) j.read
          (ap (has_kind kind.Bool) j.kinded);
    }

    fine_emit : (s : Span) (slot : Ident) (e : Expr) → IsFine (roll-Stmt (level.Emit s slot e))
    fine_emit s slot e = record {
      by = λ filled none.
          let z : Stmt-F Stmt = level.Emit s slot e in
          let f = and_parts (name_filled w slot) (expr_filled w e) (filled_roll z filled) in
          let o = d (text_of names slot.name) in
          let U : List Finding = unless r.emits _ s in
          let N : List Finding = use_faults (is_slot p.names) o slot.span in
          let A : List Finding = faults_as d p kind.Int (view names e) in
          let h : U ++ (N ++ A) ≡ [] = sym (ap (λ x. S (view_statement names x)) (rolls-Emit s slot e)) ∙ none in
          let rest = none_right U (N ++ A) h in
          let m = used (is_slot p.names) o slot.span (none_left N A rest) in
          let is = name_said d names slot m.0 f.0 m.1 in
          let j = good_expr d names p k agrees kind.Int e f.1 (none_right N A rest) in
          fine_roll z (and_from _ _ (none_unless r.emits _ s (none_left U (N ++ A) h))
          (and_from _ _ (ap (is_slot p.names) is ∙ m.2) j.placed)) j.read (ap (has_kind kind.Int) j.kinded);
    }

    fine_break : (s : Span) → IsFine (roll-Stmt (level.Break s))
    fine_break s = record {
      by = λ filled none.
          let h : unless r.breaks _ s ≡ [] = sym (ap (λ x. S (view_statement names x)) (rolls-Break s)) ∙ none in
          fine_roll (level.Break s) (none_unless r.breaks _ s h) refl refl;
    }

    -- ---- an `if`
    each : (f : Stmt → Bool) (ss : List Stmt) → list_all f ss ≡ true → list_all (λ b. b) (map f ss) ≡ true
    each f ss h = list_all-map (λ b. b) f ss ∙ h

    each_back : (f : Stmt → Bool) (ss : List Stmt) → list_all (λ b. b) (map f ss) ≡ true → list_all f ss ≡ true
    each_back f ss h = sym (list_all-map (λ b. b) f ss) ∙ h

    fine_if : (s : Span) (test : Expr) (held : Vec Stmt) → AreFine held.items →
        IsFine (roll-Stmt (level.If s test held None))
    fine_if s test held helds = record {
      by = λ filled none.
          let z : Stmt-F Stmt = level.If s test held None in
          let f = and_parts (expr_filled w test) (list_all (λ b. b) (map (stmt_filled w) held.items) && true)
          (filled_roll z filled) in
          let e = and_parts (list_all (λ b. b) (map (stmt_filled w) held.items)) true f.1 in
          let A : List Finding = faults_as d p kind.Bool (view names test) in
          let B : List Finding = block_faults d r p (view_block names held.items) in
          let h : A ++ B ≡ [] = sym (ap S (view-If names s test held))
          ∙ sym (ap (λ x. S (view_statement names x)) (rolls-If s test held None)) ∙ none in
          let j = good_expr d names p k agrees kind.Bool test f.0 (none_left A B h) in
          let all = helds.by (each_back (stmt_filled w) held.items e.0) (none_right A B h) in
          fine_roll z
          (and_from _ _ j.placed (and_from _ _ (each (stmt_placed r p.names) held.items all.placed) refl))
          (and_from _ _ j.read (and_from _ _ (each (stmt_read p.words) held.items all.read) refl))
          (and_from _ _ (ap (has_kind kind.Bool) j.kinded)
          (and_from _ _ (each (stmt_typed k) held.items all.typed) refl));
    }

    fine_if_else : (s : Span) (test : Expr) (held otherwise : Vec Stmt) → AreFine held.items → AreFine otherwise.items →
        IsFine (roll-Stmt (level.If s test held (Some otherwise)))
    fine_if_else s test held otherwise helds others = record {
      by = λ filled none.
          let z : Stmt-F Stmt = level.If s test held (Some otherwise) in
          let X = list_all (λ b. b) (map (stmt_filled w) held.items) in
          let Y = list_all (λ b. b) (map (stmt_filled w) otherwise.items) in
          let f = and_parts (expr_filled w test) (X && Y) (filled_roll z filled) in
          let e = and_parts X Y f.1 in
          let A : List Finding = faults_as d p kind.Bool (view names test) in
          let B : List Finding = block_faults d r p (view_block names held.items) in
          let C : List Finding = block_faults d r p (view_block names otherwise.items) in
          let h : A ++ (B ++ C) ≡ [] = sym (ap S (view-If_else names s test held otherwise))
          ∙ sym (ap (λ x. S (view_statement names x)) (rolls-If s test held (Some otherwise))) ∙ none in
          let rest = none_right A (B ++ C) h in
          let j = good_expr d names p k agrees kind.Bool test f.0 (none_left A (B ++ C) h) in
          let one = helds.by (each_back (stmt_filled w) held.items e.0) (none_left B C rest) in
          let two = others.by (each_back (stmt_filled w) otherwise.items e.1) (none_right B C rest) in
          fine_roll z
          (and_from _ _ j.placed (and_from _ _ (each (stmt_placed r p.names) held.items one.placed)
          (each (stmt_placed r p.names) otherwise.items two.placed)))
          (and_from _ _ j.read (and_from _ _ (each (stmt_read p.words) held.items one.read)
          (each (stmt_read p.words) otherwise.items two.read)))
          (and_from _ _ (ap (has_kind kind.Bool) j.kinded)
          (and_from _ _ (each (stmt_typed k) held.items one.typed) (each (stmt_typed k) otherwise.items two.typed)));
    }

    -- ---- the induction
    abbrev Held : Type 0
    Held = (s : Stmt) × IsFine s

    abbrev below : Stmt-F Held → Stmt-F Stmt
    below y = map-Stmt Held Stmt (λ s. s.0) y

    fine_more : (s : Stmt) (ss : List Stmt) → IsFine s → AreFine ss → AreFine (s ∷ ss)
    fine_more s ss one more = record {
      by = λ filled none.
          let f = and_parts (stmt_filled w s) (body_filled w ss) filled in
          let A : List Finding = statement_faults d r p (view_statement names s) in
          let B : List Finding = block_faults d r p (view_block names ss) in
          let g = one.by f.0 (none_left A B none) in
          let h = more.by f.1 (none_right A B none) in
          record {
            placed = and_from _ _ g.placed h.placed;
            read = and_from _ _ g.read h.read;
            typed = and_from _ _ g.typed h.typed;
          };
    }

    fine_none : AreFine []
    fine_none = record { by = λ filled none. record { placed = refl; read = refl; typed = refl } }

    all_fine : (ss : List Held) → AreFine (map (λ s. s.0) ss)
    all_fine [] = fine_none
    all_fine (s ∷ ss) = fine_more s.0 (map (λ s. s.0) ss) s.1 (all_fine ss)

    level_fine : (y : Stmt-F Held) → IsFine (roll-Stmt (below y))
    level_fine (level.Assign target op e) = fine_assign target op e
    level_fine (level.SetActive s e) = fine_active s e
    level_fine (level.If s test held None) = fine_if s test _ (all_fine held.items)
    level_fine (level.If s test held (Some otherwise)) = fine_if_else s test _ _ (all_fine held.items)
        (all_fine otherwise.items)
    level_fine (level.Emit s slot e) = fine_emit s slot e
    level_fine (level.Break s) = fine_break s

    fine : (s : Stmt) → IsFine s
    fine = ind-Stmt IsFine (λ x y is. subst (λ z. IsFine (roll-Stmt z)) is (level_fine y))

    fine_body : (ss : List Stmt) → AreFine ss
    fine_body [] = fine_none
    fine_body (s ∷ ss) = fine_more s ss (fine s) (fine_body ss)

    -- the statements of a block without faults
    pub fine_block : (ss : List Stmt) → body_filled w ss ≡ true → block_faults d r p (view_block names ss) ≡ [] →
        FineAll ss
    fine_block ss = (fine_body ss).by
