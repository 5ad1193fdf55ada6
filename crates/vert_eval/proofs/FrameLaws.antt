-- What a run of statements leaves as it is: an induction over statements.
use Rattle.std.proofs.Common.{◌≡◌, ℤ, Bool, true, false, ◌&&◌, IsTrue, List, [], ◌∷◌, ◌++◌, length, map, refl, sym, ap, subst, ◌∙◌, Some, None, nat_lt}
use Rattle.std.specs.Prelude.{if◌then◌else◌}
use Rattle.std.specs.List.{list_all}
use Rattle.std.proofs.lemmas.List.{length-set}
use Rattle.vert_base.specs.declared.graph.Edge.{Edge}
use Rattle.vert_base.specs.Neighbours.{source}
use Rattle.vert_tree.specs.declared.statement.AssignOp.{AssignOp}
use Rattle.vert_tree.specs.declared.name.What.{What}
use Rattle.vert_tree.specs.declared.name.What.TheVariants as what
use Rattle.vert_tree.specs.declared.statement.Stmt.{Stmt, Stmt-F}
use Rattle.vert_tree.specs.declared.statement.Stmt.TheOpen as level
use Rattle.vert_tree.specs.declared.statement.Stmt.TheViews.{roll-Stmt}
use Rattle.vert_tree.specs.declared.statement.Stmt.TheFolds.{fold-roll-Stmt, ind-Stmt, map-Stmt}
use Rattle.vert_tree.specs.Places.{Counts, Rights, body_placed, expr_placed, is_slot, is_target, level_placed, stmt_placed, no_counts}
use Rattle.vert_eval.specs.declared.environment.Env.{Env}
use Rattle.vert_eval.specs.declared.environment.Flow.{Flow}
use Rattle.vert_eval.specs.declared.environment.Flow.TheVariants.{Going, Broke}
use Rattle.vert_eval.specs.Frames.{SameFrame, WithinRights, beside}
use Rattle.vert_eval.specs.Rounds.{Scene, at_member, loop, member_act, reading}
use Rattle.vert_eval.specs.Runs.{Act, Ran, act_of, act_step, after, by_flow, followed_by, in_turn, leaves, run, with_target}
use Rattle.vert_eval.specs.Values.{counts_of, value_of, word_at}
use Rattle.vert_eval.specs.Words.{assigned, is_set}

left_true : (t u : Bool) → IsTrue (t && u) → IsTrue t
left_true true u h = refl
left_true false u h = h

right_true : (t u : Bool) → IsTrue (t && u) → IsTrue u
right_true true u h = h
right_true false u h = cc

-- ---- frames
pub SameFrame-refl : (env : Env) → SameFrame env env
SameFrame-refl env = record {
  counts = refl;
  id = refl;
  n = refl;
  round = refl;
  indeg = refl;
  outdeg = refl;
  draws = refl;
  active = refl;
  other = refl;
  other_row = refl;
  sends = refl;
  slots = refl;
  totals = refl;
  key = refl;
}

pub SameFrame-trans : (a b c : Env) → SameFrame a b → SameFrame b c → SameFrame a c
SameFrame-trans a b c p q = record {
  counts = q.counts ∙ p.counts;
  id = q.id ∙ p.id;
  n = q.n ∙ p.n;
  round = q.round ∙ p.round;
  indeg = q.indeg ∙ p.indeg;
  outdeg = q.outdeg ∙ p.outdeg;
  draws = q.draws ∙ p.draws;
  active = q.active ∙ p.active;
  other = q.other ∙ p.other;
  other_row = q.other_row ∙ p.other_row;
  sends = q.sends ∙ p.sends;
  slots = q.slots ∙ p.slots;
  totals = q.totals ∙ p.totals;
  key = q.key ∙ p.key;
}

pub beside-trans : (a b c : Env) → SameFrame (beside a b) b → SameFrame (beside b c) c → SameFrame (beside a c) c
beside-trans a b c p q = record {
  counts = q.counts ∙ ap (λ k. let counts : Counts = record k { other_fields = length c.other_row.words.items } in
      counts) p.counts;
  id = q.id ∙ p.id;
  n = q.n ∙ p.n;
  round = q.round ∙ p.round;
  indeg = q.indeg ∙ p.indeg;
  outdeg = q.outdeg ∙ p.outdeg;
  draws = q.draws ∙ p.draws;
  active = q.active ∙ p.active;
  other = refl;
  other_row = refl;
  sends = q.sends ∙ p.sends;
  slots = q.slots ∙ p.slots;
  totals = q.totals ∙ p.totals;
  key = q.key ∙ p.key;
}

target_keeps : (w : What) (op : AssignOp) (x : ℤ) (env : Env) → SameFrame env (with_target w op x env)
target_keeps (what.Field i) op x env = record {
  counts = ap (λ n. record (counts_of env) { fields = n })
      (length-set env.row.words.items i (assigned op (word_at env.row.words.items i) x));
  id = refl;
  n = refl;
  round = refl;
  indeg = refl;
  outdeg = refl;
  draws = refl;
  active = refl;
  other = refl;
  other_row = refl;
  sends = refl;
  slots = refl;
  totals = refl;
  key = refl;
}
target_keeps (what.Local i) op x env = record {
  counts = ap (λ n. record (counts_of env) { locals = n })
      (length-set env.locals.items i (assigned op (word_at env.locals.items i) x));
  id = refl;
  n = refl;
  round = refl;
  indeg = refl;
  outdeg = refl;
  draws = refl;
  active = refl;
  other = refl;
  other_row = refl;
  sends = refl;
  slots = refl;
  totals = refl;
  key = refl;
}
target_keeps what.Unread op x env = SameFrame-refl env
target_keeps (what.Slot i) op x env = SameFrame-refl env
target_keeps (what.Send i) op x env = SameFrame-refl env
target_keeps (what.Total i) op x env = SameFrame-refl env

-- ---- rights
leaves_within : (r : Rights) (env : Env) → WithinRights r env (leaves env)
leaves_within r env = record {
  fields = λ no. refl;
  locals = λ no. refl;
  touched = λ no. refl;
  active = λ no. refl;
  emits = λ no. refl;
  breaks = λ no. refl;
}

after_within : (r : Rights) (env : Env) (a b : Ran) → WithinRights r env a → WithinRights r a.env b →
    WithinRights r env (after a b)
after_within r env a b p q = record {
  fields = λ no. q.fields no ∙ p.fields no;
  locals = λ no. q.locals no ∙ p.locals no;
  touched = λ no. q.touched no ∙ p.touched no;
  active = λ no. q.active no ∙ p.active no;
  emits = λ no. ap (λ es. es ++ b.emitted) (p.emits no) ∙ q.emits no;
  breaks = q.breaks;
}

target_within : (r : Rights) (c : Counts) (w : What) (op : AssignOp) (x : ℤ) (env : Env) → IsTrue (is_target r c w) →
    WithinRights r env (leaves (with_target w op x env))
target_within r c (what.Field i) op x env h =
    let may : r.fields ≡ true = left_true r.fields (nat_lt i c.fields) h in
    record {
      fields = λ no. cc;
      locals = λ no. refl;
      touched = λ no. refl;
      active = λ no. refl;
      emits = λ no. refl;
      breaks = λ no. refl;
    }
target_within r c (what.Local i) op x env h =
    let may : r.locals ≡ true = left_true r.locals (nat_lt i c.locals) h in
    record {
      fields = λ no. refl;
      locals = λ no. cc;
      touched = λ no. cc;
      active = λ no. refl;
      emits = λ no. refl;
      breaks = λ no. refl;
    }
target_within r c what.Unread op x env h = cc
target_within r c (what.Slot i) op x env h = cc
target_within r c (what.Send i) op x env h = cc
target_within r c (what.Total i) op x env h = cc

-- ---- acts
-- what an act keeps, and what it does where its test is true
record Tame (r : Rights) (test : Bool) (act : Act) : Type 0 where
  frame : (env : Env) → SameFrame env (act env).env
  reads : (env : Env) → (act env).reads ≡ []
  within : IsTrue test → (env : Env) → WithinRights r env (act env)

tame_nothing : (r : Rights) → Tame r true leaves
tame_nothing r = record { frame = SameFrame-refl; reads = λ env. refl; within = λ h. leaves_within r }

tame_under : (r : Rights) (more t : Bool) (f : Act) → Tame r t f → Tame r (more && t) f
tame_under r more t f p = record { frame = p.frame; reads = p.reads; within = λ h. p.within (right_true more t h) }

next_frame : (flow : Flow) (env : Env) (a b : Ran) → SameFrame env a.env → SameFrame a.env b.env →
    SameFrame env (by_flow flow a (after a b)).env
next_frame Broke env a b p q = p
next_frame Going env a b p q = SameFrame-trans env a.env b.env p q

pub next_reads : (flow : Flow) (a b : Ran) → a.reads ≡ [] → b.reads ≡ [] → (by_flow flow a (after a b)).reads ≡ []
next_reads Broke a b p q = p
next_reads Going a b p q = ap (λ us. us ++ b.reads) p ∙ q

next_within : (flow : Flow) (r : Rights) (env : Env) (a b : Ran) → WithinRights r env a → WithinRights r a.env b →
    WithinRights r env (by_flow flow a (after a b))
next_within Broke r env a b p q = p
next_within Going r env a b p q = after_within r env a b p q

tame_next : (r : Rights) (t u : Bool) (f g : Act) → Tame r t f → Tame r u g →
    Tame r (t && u) (λ env. followed_by (f env) g)
tame_next r t u f g p q = record {
  frame = λ env. next_frame (f env).flow env (f env) (g (f env).env) (p.frame env) (q.frame (f env).env);
  reads = λ env. next_reads (f env).flow (f env) (g (f env).env) (p.reads env) (q.reads (f env).env);
  within = λ h env. next_within (f env).flow r env (f env) (g (f env).env) (p.within (left_true t u h) env)
      (q.within (right_true t u h) (f env).env);
}

choice_frame : (b : Bool) (f g : Act) (env : Env) → SameFrame env (f env).env → SameFrame env (g env).env →
    SameFrame env (if b then f env else g env).env
choice_frame true f g env p q = p
choice_frame false f g env p q = q

choice_reads : (b : Bool) (f g : Act) (env : Env) → (f env).reads ≡ [] → (g env).reads ≡ [] →
    (if b then f env else g env).reads ≡ []
choice_reads true f g env p q = p
choice_reads false f g env p q = q

choice_within : (b : Bool) (r : Rights) (f g : Act) (env : Env) → WithinRights r env (f env) →
    WithinRights r env (g env) → WithinRights r env (if b then f env else g env)
choice_within true r f g env p q = p
choice_within false r f g env p q = q

tame_choice : (r : Rights) (t u : Bool) (test : Env → Bool) (f g : Act) → Tame r t f → Tame r u g →
    Tame r (t && u) (λ env. if test env then f env else g env)
tame_choice r t u test f g p q = record {
  frame = λ env. choice_frame (test env) f g env (p.frame env) (q.frame env);
  reads = λ env. choice_reads (test env) f g env (p.reads env) (q.reads env);
  within = λ h env. choice_within (test env) r f g env (p.within (left_true t u h) env)
      (q.within (right_true t u h) env);
}

-- ---- statements
module _ (r : Rights) (c : Counts) where
  abbrev Held : Type 0
  Held = (s : Stmt) × Tame r (stmt_placed r c s) (act_of s)

  abbrev stmts : List Held → List Stmt
  stmts ss = map (λ s. s.0) ss

  abbrev below : Stmt-F Held → Stmt-F Stmt
  below y = map-Stmt Held Stmt (λ s. s.0) y

  all_tame : (ss : List Held) → Tame r (list_all (λ b. b) (map (stmt_placed r c) (stmts ss)))
      (in_turn (map act_of (stmts ss)))
  all_tame [] = tame_nothing r
  all_tame (s ∷ ss) =
      tame_next r (stmt_placed r c s.0) (list_all (λ b. b) (map (stmt_placed r c) (stmts ss))) (act_of s.0)
      (in_turn (map act_of (stmts ss))) s.1 (all_tame ss)

  level_tame : (y : Stmt-F Held) → Tame r (level_placed r c (map-Stmt Stmt Bool (stmt_placed r c) (below y)))
      (act_step (map-Stmt Stmt Act act_of (below y)))
  level_tame (level.Assign t op e) = record {
    frame = λ env. target_keeps t.what op (value_of e env) env;
    reads = λ env. refl;
    within = λ h env. target_within r c t.what op (value_of e env) env
        (left_true (is_target r c t.what) (expr_placed c e) h);
  }
  level_tame (level.SetActive at e) = record {
    frame = λ env. record {
      counts = refl;
      id = refl;
      n = refl;
      round = refl;
      indeg = refl;
      outdeg = refl;
      draws = refl;
      active = refl;
      other = refl;
      other_row = refl;
      sends = refl;
      slots = refl;
      totals = refl;
      key = refl;
    };
    reads = λ env. refl;
    within = λ h env. let may : r.active ≡ true = left_true r.active (expr_placed c e) h in
        record {
          fields = λ no. refl;
          locals = λ no. refl;
          touched = λ no. refl;
          active = λ no. cc;
          emits = λ no. refl;
          breaks = λ no. refl;
        };
  }
  level_tame (level.If at test held None) =
      tame_under r (expr_placed c test) _ _
      (tame_choice r _ true (λ env. is_set (value_of test env)) (in_turn (map act_of (stmts held.items))) leaves
      (all_tame held.items) (tame_nothing r))
  level_tame (level.If at test held (Some body)) =
      tame_under r (expr_placed c test) _ _
      (tame_choice r _ _ (λ env. is_set (value_of test env)) (in_turn (map act_of (stmts held.items)))
      (in_turn (map act_of (stmts body.items))) (all_tame held.items) (all_tame body.items))
  level_tame (level.Emit at slot e) = record {
    frame = SameFrame-refl;
    reads = λ env. refl;
    within = λ h env. let may : r.emits ≡ true = left_true r.emits (is_slot c slot.what && expr_placed c e) h in
        record {
          fields = λ no. refl;
          locals = λ no. refl;
          touched = λ no. refl;
          active = λ no. refl;
          emits = λ no. cc;
          breaks = λ no. refl;
        };
  }
  level_tame (level.Break at) = record {
    frame = SameFrame-refl;
    reads = λ env. refl;
    within = λ h env.
        record {
          fields = λ no. refl;
          locals = λ no. refl;
          touched = λ no. refl;
          active = λ no. refl;
          emits = λ no. refl;
          breaks = λ no. cc;
        };
  }

  act_tame : (s : Stmt) → Tame r (stmt_placed r c s) (act_of s)
  act_tame = ind-Stmt (λ s. Tame r (stmt_placed r c s) (act_of s)) (λ x y is.
      subst (λ z. Tame r (stmt_placed r c (roll-Stmt z)) (act_of (roll-Stmt z))) is
      (subst (λ t. Tame r t (act_of (roll-Stmt (below y)))) (sym (fold-roll-Stmt Bool (level_placed r c) (below y)))
      (subst (Tame r (level_placed r c (map-Stmt Stmt Bool (stmt_placed r c) (below y))))
      (sym (fold-roll-Stmt Act act_step (below y)))
      (level_tame y))))

  run_tame : (body : List Stmt) → Tame r (body_placed r c body) (run body)
  run_tame [] = tame_nothing r
  run_tame (s ∷ ss) = tame_next r (stmt_placed r c s) (body_placed r c ss) (act_of s) (run ss) (act_tame s)
      (run_tame ss)

  pub run_within : (body : List Stmt) (env : Env) → IsTrue (body_placed r c body) → WithinRights r env (run body env)
  run_within body env h = (run_tame body).within h env

  -- the loop has the rights of its body
  pub loop_within : (s : Scene) (body : List Stmt) (members : List Edge) (env : Env) → IsTrue (body_placed r c body) →
      WithinRights r env (loop s body members env)
  loop_within s body [] env h = leaves_within r env
  loop_within s body (e ∷ es) env h =
      let one = member_act s body e env in
      next_within one.flow r env one (loop s body es one.env) (at_one (run_within body (at_member s e env) h))
      (loop_within s body es one.env h)
    where
      at_one : {ran : Ran} → WithinRights r (at_member s e env) ran → WithinRights r env (reading (source e) ran)
      at_one p = record {
        fields = p.fields;
        locals = p.locals;
        touched = p.touched;
        active = p.active;
        emits = p.emits;
        breaks = p.breaks;
      }

abbrev no_rights : Rights
no_rights = record { locals = false; fields = false; active = false; emits = false; breaks = false }

pub run_keeps : (body : List Stmt) (env : Env) → SameFrame env (run body env).env
run_keeps body env = (run_tame no_rights no_counts body).frame env

-- a run of statements reads no neighbour, only the loop does
pub run_reads : (body : List Stmt) (env : Env) → (run body env).reads ≡ []
run_reads body env = (run_tame no_rights no_counts body).reads env

next_beside : (flow : Flow) (env : Env) (a b : Ran) → SameFrame (beside env a.env) a.env →
    SameFrame (beside a.env b.env) b.env →
    SameFrame (beside env (by_flow flow a (after a b)).env) (by_flow flow a (after a b)).env
next_beside Broke env a b p q = p
next_beside Going env a b p q = beside-trans env a.env b.env p q

-- a loop keeps the frame but for the neighbour that it is at
pub loop_keeps : (s : Scene) (body : List Stmt) (members : List Edge) (env : Env) →
    SameFrame (beside env (loop s body members env).env) (loop s body members env).env
loop_keeps s body [] env = SameFrame-refl env
loop_keeps s body (e ∷ es) env =
    let one = member_act s body e env in
    next_beside one.flow env one (loop s body es one.env) (at_one (run_keeps body (at_member s e env)))
    (loop_keeps s body es one.env)
  where
    at_one : {left : Env} → SameFrame (at_member s e env) left → SameFrame (beside env left) left
    at_one {left} p = record {
      counts = p.counts ∙ ap (λ row. counts_of (record env { other_row = row })) (sym p.other_row);
      id = p.id;
      n = p.n;
      round = p.round;
      indeg = p.indeg;
      outdeg = p.outdeg;
      draws = p.draws;
      active = p.active;
      other = refl;
      other_row = refl;
      sends = p.sends;
      slots = p.slots;
      totals = p.totals;
      key = p.key;
    }
