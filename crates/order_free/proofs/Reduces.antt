-- A loop without a carry: its body only combines what it reads, so its members may come in any order.
use Rattle.std.proofs.Common.{◌≡◌, ℕ, Bool, true, false, ◌&&◌, IsTrue, List, [], ◌∷◌, ◌++◌, IsPermutation, refl, sym, ap, subst, ◌∙◌, append_assoc, Some}
use Rattle.std.specs.Prelude.{if◌then◌else◌}
use Rattle.std.specs.List.{flat_map, list_all}
use Rattle.std.proofs.lemmas.List.Sorted.{IsPermutation-append_comm, IsPermutation-append_left, IsPermutation-append_right, IsPermutation-refl, IsPermutation-trans}
use Rattle.std.proofs.lemmas.Bool.{and_from, and_parts}
use Rattle.vert_base.specs.declared.graph.Edge.{Edge}
use Rattle.vert_base.specs.declared.text.Span.{Span}
use Rattle.vert_base.specs.Neighbours.{source}
use Rattle.vert_tree.specs.declared.name.Ident.{Ident}
use Rattle.vert_tree.specs.declared.name.What.{What}
use Rattle.vert_tree.specs.declared.name.What.TheVariants as what
use Rattle.vert_tree.specs.declared.expression.Expr.{Expr}
use Rattle.vert_tree.specs.declared.expression.Node.{Node}
use Rattle.vert_tree.specs.declared.expression.Node.TheVariants as nodes
use Rattle.vert_tree.specs.declared.statement.AssignOp.{AssignOp}
use Rattle.vert_tree.specs.declared.statement.AssignOp.TheVariants as assign
use Rattle.vert_tree.specs.declared.statement.Stmt.{Stmt}
use Rattle.vert_tree.specs.declared.statement.Stmt as statements
use Rattle.vert_tree.specs.declared.statement.Stmt.TheOpen as level
use Rattle.vert_tree.specs.Places.{Counts, body_placed, expr_placed, level_placed, loop_rights}
use Rattle.carry_analysis.specs.declared.classes.Class.{Class}
use Rattle.carry_analysis.specs.declared.classes.Class.TheVariants.{Constant, Reduced, Carried}
use Rattle.vert_base.specs.declared.value.Combine.TheVariants as combine
use Rattle.carry_analysis.specs.Classes.{Mark, body_marks, expr_marks, node_marks, statement_marks}
use Rattle.slot_merge.specs.Combine.{Emission}
use Rattle.slot_merge.proofs.Permutations.{IsKept, permutation-kept}
use Rattle.vert_eval.specs.declared.environment.Env.{Env}
use Rattle.vert_eval.specs.declared.environment.Flow.TheVariants.{Going}
use Rattle.vert_eval.specs.Rounds.{Scene, at_member, loop, reading}
use Rattle.vert_eval.specs.Runs.{Act, Ran, act_step, after, emission, followed_by, leaves, run}
use Rattle.vert_eval.specs.Values.{node_value, value_of}
use Rattle.vert_eval.specs.Words.{is_set}
use Rattle.order_laws.specs.Agreement.{Agree, SameButNeighbour}
use Rattle.order_free.specs.Fixed.{is_constant, uses_held}
use Rattle.order_laws.proofs.Loops.{SameButNeighbour-sym, SameButNeighbour-trans}
use Rattle.order_free.proofs.Changes.{Change, Fits, change_fits, changed, changes_beside, changes_hold, changes_permuted, changes_rest, is_still, takes_op, with_append, with_changes}
use Rattle.order_free.proofs.Fits.{mark_fits, takes}
use Rattle.order_free.proofs.Statements.{Closed, run_holds}
use Rattle.order_free.proofs.Values.{all_both, all_left, all_right, value_relet}

-- what a run does: changes of locals, and emissions
pub record Trace : Type 0 where
  pub changes : List Change
  pub emitted : List Emission

abbrev nothing : Trace
nothing = record { changes = []; emitted = [] }

abbrev joined : Trace → Trace → Trace
joined t u = record { changes = t.changes ++ u.changes; emitted = t.emitted ++ u.emitted }

abbrev pub made : Trace → Env → Ran
made t env = record { env = with_changes t.changes env; emitted = t.emitted; reads = []; flow = Going }

module _ (kind : ℕ → Class) where
  -- an act that only does such changes, and the same whatever such changes came before
  pub record Reduces (f : Act) : Type 0 where
    pub trace : Env → Trace
    pub does : (a : Env) → f a ≡ made (trace a) a
    pub fits : (a : Env) → Fits kind (trace a).changes
    pub steady : (a : Env) (cs : List Change) → Fits kind cs → trace (with_changes cs a) ≡ trace a

  reduces_leaves : Reduces leaves
  reduces_leaves = record { trace = λ a. nothing; does = λ a. refl; fits = λ a. refl; steady = λ a cs h. refl }

  reduces_next : (f g : Act) → Reduces f → Reduces g → Reduces (λ env. followed_by (f env) g)
  reduces_next f g p q = record {
    trace = λ a. joined (p.trace a) (q.trace a);
    does = λ a.
        let t = p.trace a in
        let u = q.trace a in
        let b = with_changes t.changes a in
        let es = t.emitted ++ u.emitted in
        let second : g b ≡ made u b = q.does b ∙ ap (λ x. made x b) (q.steady a t.changes (p.fits a)) in
        ap (λ r. followed_by r g) (p.does a) ∙ ap (after (made t a)) second
        ∙ ap (λ e. let r : Ran = record { env = e; emitted = es; reads = []; flow = Going } in r)
        (sym (with_append t.changes u.changes a));
    fits = λ a. all_both (change_fits kind) (p.trace a).changes (q.trace a).changes (p.fits a) (q.fits a);
    steady = λ a cs h. ap (λ t. joined t (q.trace (with_changes cs a))) (p.steady a cs h)
        ∙ ap (joined (p.trace a)) (q.steady a cs h);
  }

  choice_does : (b : Bool) (f g : Act) (t u : Trace) (a : Env) → f a ≡ made t a → g a ≡ made u a →
      (if b then f a else g a) ≡ made (if b then t else u) a
  choice_does true f g t u a p q = p
  choice_does false f g t u a p q = q

  choice_fits : (b : Bool) (t u : Trace) → Fits kind t.changes → Fits kind u.changes →
      Fits kind (if b then t else u).changes
  choice_fits true t u p q = p
  choice_fits false t u p q = q

  -- ---- an expression that reads only lets that stay
  read_still : (k : Class) → IsTrue (takes k true false false false) → IsTrue (is_constant (Some k))
  read_still Constant h = refl
  read_still (Reduced combine.Sum) h = cc
  read_still (Reduced combine.Min) h = cc
  read_still (Reduced combine.Max) h = cc
  read_still (Reduced combine.First) h = cc
  read_still Carried h = cc

  abbrev all_fit : List Mark → Bool
  all_fit ms = list_all (mark_fits kind) ms

  abbrev all_still : List Mark → Bool
  all_still ms = list_all (uses_held (is_still kind)) ms

  name_still : (at : Span) (n : ℕ) (w : What) →
      let name : Ident = record { span = at; name = n; what = w } in
      IsTrue (all_fit (node_marks (nodes.Name name))) → IsTrue (all_still (node_marks (nodes.Name name)))
  name_still at n (what.Local i) h = and_from (is_still kind i) true (read_still (kind i) (and_parts _ true h).0) refl
  name_still at n (what.Field i) h = refl
  name_still at n (what.Slot i) h = refl
  name_still at n (what.Send i) h = refl
  name_still at n (what.Total i) h = refl
  name_still at n what.Unread h = refl

  two_still : (a b : List Mark) → (IsTrue (all_fit a) → IsTrue (all_still a)) →
      (IsTrue (all_fit b) → IsTrue (all_still b)) → IsTrue (all_fit (a ++ b)) → IsTrue (all_still (a ++ b))
  two_still a b p q h =
      all_both (uses_held (is_still kind)) a b (p (all_left (mark_fits kind) a b h))
      (q (all_right (mark_fits kind) a b h))

  node_still : (e : Node) → IsTrue (all_fit (node_marks e)) → IsTrue (all_still (node_marks e))
  node_still (nodes.Int x) h = refl
  node_still (nodes.Bool b) h = refl
  node_still (nodes.Word w) h = refl
  node_still (nodes.Name name) h = name_still name.span name.name name.what h
  node_still (nodes.Got name) h = refl
  node_still (nodes.Value name) h = refl
  node_still (nodes.OtherField name) h = refl
  node_still (nodes.OtherWord w) h = refl
  node_still (nodes.Draw at tag) h = refl
  node_still (nodes.Neg' _ _ a) h = node_still a h
  node_still (nodes.Not' _ _ a) h = node_still a h
  node_still (nodes.Binary' op _ _ a _ _ b) h = two_still (node_marks a) (node_marks b) (node_still a) (node_still b) h
  node_still (nodes.Cond' _ _ test _ _ a _ _ b) h =
      two_still (node_marks test) (node_marks a ++ node_marks b) (node_still test)
      (two_still (node_marks a) (node_marks b) (node_still a) (node_still b)) h
  node_still (nodes.Least' _ _ a _ _ b) h = two_still (node_marks a) (node_marks b) (node_still a) (node_still b) h
  node_still (nodes.Greatest' _ _ a _ _ b) h = two_still (node_marks a) (node_marks b) (node_still a) (node_still b) h
  node_still (nodes.Group' _ _ a) h = node_still a h

  value_steady : (e : Node) → IsTrue (all_fit (node_marks e)) → (a : Env) (cs : List Change) → Fits kind cs →
      node_value e (with_changes cs a) ≡ node_value e a
  value_steady e h a cs fit =
      ap (node_value e) (changes_rest cs a)
      ∙ value_relet (is_still kind) (with_changes cs a).locals (with_changes cs a).touched a
      (changes_hold kind cs a fit) e (node_still e h)

  reduces_choice : (test : Node) (f g : Act) → IsTrue (all_fit (node_marks test)) → Reduces f → Reduces g →
      Reduces (λ env. if is_set (node_value test env) then f env else g env)
  reduces_choice test f g h p q = record {
    trace = λ a. if is_set (node_value test a) then p.trace a else q.trace a;
    does = λ a. choice_does (is_set (node_value test a)) f g (p.trace a) (q.trace a) a (p.does a) (q.does a);
    fits = λ a. choice_fits (is_set (node_value test a)) (p.trace a) (q.trace a) (p.fits a) (q.fits a);
    steady = λ a cs fit.
        let b = with_changes cs a in
        ap (λ x. if is_set x then p.trace b else q.trace b) (value_steady test h a cs fit)
        ∙ ap (λ t. if is_set (node_value test a) then t else q.trace b) (p.steady a cs fit)
        ∙ ap (λ t. if is_set (node_value test a) then p.trace a else t) (q.steady a cs fit);
  }

  -- ---- statements
  module _ (c : Counts) where
    record Reducing (t : Bool) (ms : List Mark) (f : Act) : Type 0 where
      act : IsTrue t → IsTrue (all_fit ms) → Reduces f

    op_taken : (i : ℕ) (op : AssignOp) (e : Expr) (at : Span) (n : ℕ) →
        let target : Ident = record { span = at; name = n; what = what.Local i } in
        IsTrue (all_fit (statement_marks (statements.Assign target op e))) → IsTrue (takes_op (kind i) op)
    op_taken i assign.Set e at n h = (and_parts _ true (all_right (mark_fits kind) (expr_marks e) _ h)).0
    op_taken i assign.Add e at n h = (and_parts _ true (all_right (mark_fits kind) (expr_marks e) _ h)).0
    op_taken i assign.Least e at n h = (and_parts _ true (all_right (mark_fits kind) (expr_marks e) _ h)).0
    op_taken i assign.Greatest e at n h = (and_parts _ true (all_right (mark_fits kind) (expr_marks e) _ h)).0

    reduces_assign : (at : Span) (n : ℕ) (w : What) (op : AssignOp) (e : Expr) →
        let target : Ident = record { span = at; name = n; what = w } in
        IsTrue (level_placed loop_rights c (level.Assign target op e)) →
        IsTrue (all_fit (statement_marks (statements.Assign target op e))) →
        Reduces (act_step (level.Assign target op e))
    reduces_assign at n (what.Local i) op e placed h = record {
      trace = λ a. record { changes = record { place = i; op = op; word = value_of e a } ∷ []; emitted = [] };
      does = λ a. refl;
      fits = λ a. and_from (takes_op (kind i) op) true (op_taken i op e at n h) refl;
      steady = λ a cs fit.
          ap (λ x. let t : Trace = record { changes = record { place = i; op = op; word = x } ∷ []; emitted = [] } in t)
          (value_steady e.node (all_left (mark_fits kind) (expr_marks e) _ h) a cs fit);
    }
    reduces_assign at n (what.Field i) op e placed h = cc
    reduces_assign at n (what.Slot i) op e placed h = cc
    reduces_assign at n (what.Send i) op e placed h = cc
    reduces_assign at n (what.Total i) op e placed h = cc
    reduces_assign at n what.Unread op e placed h = cc

    reducing : Closed loop_rights c Reducing
    reducing = record {
      nothing = record { act = λ t h. reduces_leaves };
      next = λ t u ms ns f g p q. record {
        act = λ both h. reduces_next f g (p.act (and_parts t u both).0 (all_left (mark_fits kind) ms ns h))
            (q.act (and_parts t u both).1 (all_right (mark_fits kind) ms ns h));
      };
      choice = λ t u test ms ns f g p q. record {
        act = λ all h.
            let both = (and_parts (expr_placed c test) (t && u) all).1 in
            let inner = all_right (mark_fits kind) (expr_marks test) (ms ++ ns) h in
            reduces_choice test.node f g (all_left (mark_fits kind) (expr_marks test) (ms ++ ns) h)
            (p.act (and_parts t u both).0 (all_left (mark_fits kind) ms ns inner))
            (q.act (and_parts t u both).1 (all_right (mark_fits kind) ms ns inner));
      };
      assign = λ target op e. record { act = reduces_assign target.span target.name target.what op e };
      active = λ s e. record { act = λ t h. cc };
      emits = λ s slot e. record {
        act = λ t h.
            record {
              trace = λ a. record { changes = []; emitted = emission slot.what (value_of e a) };
              does = λ a. refl;
              fits = λ a. refl;
              steady = λ a cs fit. ap
                  (λ x. let t : Trace = record { changes = []; emitted = emission slot.what x } in t)
                  (value_steady e.node h a cs fit);
            };
      };
      breaks = λ s. record { act = λ t h. cc };
    }

    pub run_reduces : (body : List Stmt) → IsTrue (body_placed loop_rights c body) →
        IsTrue (all_fit (body_marks body)) → Reduces (run body)
    run_reduces body = (run_holds loop_rights c Reducing reducing body).act

  -- ---- the loop
  at_changes : (s : Scene) (m : Edge) (cs : List Change) (a : Env) →
      at_member s m (with_changes cs a) ≡ with_changes cs (at_member s m a)
  at_changes s m [] a = refl
  at_changes s m (c ∷ cs) a = at_changes s m cs (changed c a)

  same_flat : {X Y : Type 0} (f g : X → List Y) → ((x : X) → f x ≡ g x) → (xs : List X) → flat_map f xs ≡ flat_map g xs
  same_flat f g same [] = refl
  same_flat f g same (x ∷ xs) = ap (λ l. l ++ flat_map f xs) (same x) ∙ ap (λ l. g x ++ l) (same_flat f g same xs)

  module _ (s : Scene) (body : List Stmt) (red : Reduces (run body)) where
    abbrev at : Env → Edge → Trace
    at a m = red.trace (at_member s m a)

    abbrev all_changes : Env → List Edge → List Change
    all_changes a ms = flat_map (λ m. (at a m).changes) ms

    abbrev all_emitted : Env → List Edge → List Emission
    all_emitted a ms = flat_map (λ m. (at a m).emitted) ms

    record LoopIs (ms : List Edge) (a : Env) : Type 0 where
      env : SameButNeighbour (with_changes (all_changes a ms) a) (loop s body ms a).env
      emitted : (loop s body ms a).emitted ≡ all_emitted a ms

    module _ (m : Edge) (ms : List Edge) (more : (a : Env) → LoopIs ms a) (a : Env) where
      abbrev now : Trace
      now = at a m

      abbrev here : Env
      here = at_member s m a

      abbrev next : Env
      next = with_changes now.changes here

      at_same : (k : Edge) → at next k ≡ at a k
      at_same k = ap red.trace (at_changes s k now.changes here)
          ∙ red.steady (at_member s k a) now.changes (red.fits here)

      abbrev first : Ran
      first = record (made now here) { reads = source m ∷ [] }

      loop_is : loop s body (m ∷ ms) a ≡ after first (loop s body ms next)
      loop_is = ap (λ r. followed_by (reading (source m) r) (loop s body ms)) (red.does here)

      step : LoopIs (m ∷ ms) a
      step =
          let rest = all_changes a ms in
          let same : all_changes next ms ≡ rest =
          same_flat (λ k. (at next k).changes) (λ k. (at a k).changes) (λ k. ap (λ t. t.changes) (at_same k)) ms in
          let last = (loop s body ms next).env in
          let one : SameButNeighbour (with_changes rest next) last =
          subst (λ cs. SameButNeighbour (with_changes cs next) last) same (more next).env in
          let two : SameButNeighbour (with_changes rest (with_changes now.changes a)) (with_changes rest next) =
          changes_beside rest (with_changes now.changes a) next (changes_beside now.changes a here refl) in
          let both : SameButNeighbour (with_changes rest (with_changes now.changes a)) last =
          SameButNeighbour-trans (with_changes rest (with_changes now.changes a))
          (with_changes rest next) last two one in
          record {
            env = subst (λ r. SameButNeighbour (with_changes (now.changes ++ rest) a) r.env) (sym loop_is)
                (subst (λ e. SameButNeighbour e last) (sym (with_append now.changes rest a)) both);
            emitted = ap (λ r. r.emitted) loop_is
                ∙ ap (λ es. now.emitted ++ es)
                ((more next).emitted ∙ same_flat (λ k. (at next k).emitted) (λ k. (at a k).emitted)
                (λ k. ap (λ t. t.emitted) (at_same k)) ms);
          }

    loop_does : (ms : List Edge) (a : Env) → LoopIs ms a
    loop_does [] a = record { env = refl; emitted = refl }
    loop_does (m ∷ ms) a = step m ms (loop_does ms) a

    all_fit_changes : (a : Env) (ms : List Edge) → Fits kind (all_changes a ms)
    all_fit_changes a [] = refl
    all_fit_changes a (m ∷ ms) =
        all_both (change_fits kind) (at a m).changes (all_changes a ms) (red.fits (at_member s m a))
        (all_fit_changes a ms)

  flat_kept : {X Y : Type 0} (f : X → List Y) → IsKept (λ xs ys. IsPermutation (flat_map f xs) (flat_map f ys))
  flat_kept f = record {
    same = λ xs. IsPermutation-refl (flat_map f xs);
    under = λ x xs ys h. IsPermutation-append_right (f x) (flat_map f xs) (flat_map f ys) h;
    flip = λ x y xs.
        subst (IsPermutation (f x ++ (f y ++ flat_map f xs))) (append_assoc (f y) (f x) (flat_map f xs))
        (subst (λ l. IsPermutation l ((f y ++ f x) ++ flat_map f xs)) (append_assoc (f x) (f y) (flat_map f xs))
        (IsPermutation-append_left (flat_map f xs) (f x ++ f y) (f y ++ f x) (IsPermutation-append_comm (f x) (f y))));
    both = λ xs ys zs h k. IsPermutation-trans (flat_map f xs) (flat_map f ys) (flat_map f zs) h k;
  }

  flat_permuted : {X Y : Type 0} (f : X → List Y) (xs ys : List X) → IsPermutation xs ys →
      IsPermutation (flat_map f xs) (flat_map f ys)
  flat_permuted f = permutation-kept (λ us vs. IsPermutation (flat_map f us) (flat_map f vs)) (flat_kept f)

  pub reduced : (s : Scene) (body : List Stmt) → Reduces (run body) → (members others : List Edge) (a : Env) →
      IsPermutation members others → Agree (loop s body members a) (loop s body others a)
  reduced s body red members others a h =
      let one = loop_does s body red members a in
      let two = loop_does s body red others a in
      let cs = all_changes s body red a members in
      let ds = all_changes s body red a others in
      let left = (loop s body members a).env in
      let right = (loop s body others a).env in
      let swapped = changes_permuted kind cs ds (flat_permuted (λ m. (at s body red a m).changes) members others h)
      (all_fit_changes s body red a members) a in
      record {
        env = SameButNeighbour-trans left (with_changes cs a) right
            (SameButNeighbour-sym (with_changes cs a) left one.env)
            (SameButNeighbour-trans (with_changes cs a) (with_changes ds a) right swapped two.env);
        emitted = subst (λ es. IsPermutation es (loop s body others a).emitted) (sym one.emitted)
            (subst (IsPermutation (all_emitted s body red a members)) (sym two.emitted)
            (flat_permuted (λ m. (at s body red a m).emitted) members others h));
      }
