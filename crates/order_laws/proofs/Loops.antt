-- Loops that agree: from two members that change places to any order.
use Rattle.std.proofs.Common.{List, [], ◌∷◌, IsPermutation, refl, sym, ap, subst, ◌∙◌}
use Rattle.std.proofs.lemmas.List.Sorted.{IsPermutation-refl, IsPermutation-trans, IsPermutation-append, IsPermutation-append_right}
use Rattle.vert_base.specs.declared.graph.Edge.{Edge}
use Rattle.vert_tree.specs.declared.statement.Stmt.{Stmt}
use Rattle.slot_merge.proofs.Permutations.{IsKept, permutation-kept}
use Rattle.vert_eval.specs.declared.environment.Env.{Env}
use Rattle.vert_eval.specs.declared.environment.Flow.{Flow}
use Rattle.vert_eval.specs.declared.environment.Flow.TheVariants.{Going, Broke}
use Rattle.vert_eval.specs.Rounds.{Scene, at_member, loop, member_act}
use Rattle.vert_eval.specs.Runs.{Act, Ran, after, by_flow, followed_by, run}
use Rattle.vert_eval.proofs.RunLaws.{loop-append}
use Rattle.order_laws.specs.Agreement.{Agree, AgreeToEnd, FlipsPairs, FlipsTwo, LoopAgrees, SameButNeighbour}
use Rattle.order_laws.proofs.Blindness.{SameButMarks, SameRun, run_unmarked}

pub SameButNeighbour-trans : (a b c : Env) → SameButNeighbour a b → SameButNeighbour b c → SameButNeighbour a c
SameButNeighbour-trans a b c p q =
    q ∙ ap (λ x. let left : Env = record x { other = c.other; other_row = c.other_row; touched = c.touched } in left) p

pub SameButNeighbour-sym : (a b : Env) → SameButNeighbour a b → SameButNeighbour b a
SameButNeighbour-sym a b p =
    sym (ap (λ x. let left : Env = record x { other = a.other; other_row = a.other_row; touched = a.touched } in left)
    p)

pub Agree-refl : (r : Ran) → Agree r r
Agree-refl r = record { env = refl; emitted = IsPermutation-refl r.emitted }

pub Agree-trans : (r q t : Ran) → Agree r q → Agree q t → Agree r t
Agree-trans r q t a b = record {
  env = SameButNeighbour-trans r.env q.env t.env a.env b.env;
  emitted = IsPermutation-trans r.emitted q.emitted t.emitted a.emitted b.emitted;
}

-- after the same run
agree_by_flow : (flow : Flow) (r a b : Ran) → Agree a b →
    Agree (by_flow flow r (after r a)) (by_flow flow r (after r b))
agree_by_flow Broke r a b h = Agree-refl r
agree_by_flow Going r a b h =
    record { env = h.env; emitted = IsPermutation-append_right r.emitted a.emitted b.emitted h.emitted }

pub agree_followed : (r : Ran) (f g : Act) → Agree (f r.env) (g r.env) → Agree (followed_by r f) (followed_by r g)
agree_followed r f g h = agree_by_flow r.flow r (f r.env) (g r.env) h

-- the loops over two lists agree from every environment
abbrev OverBoth : List Stmt → List Edge → List Edge → Type 0
OverBoth body es fs = (s : Scene) (env : Env) → Agree (loop s body es env) (loop s body fs env)

-- two members in front may change places, and so all may
pub loop_agrees : (body : List Stmt) → FlipsTwo body → LoopAgrees body
loop_agrees body flips s es fs env moved = permutation-kept (OverBoth body) kept es fs moved s env
  where
    kept : IsKept (OverBoth body)
    kept = record {
      same = λ xs t a. Agree-refl (loop t body xs a);
      under = λ x xs ys h t a. agree_followed (member_act t body x a) (loop t body xs) (loop t body ys)
          (h t (member_act t body x a).env);
      flip = λ x y xs t a. flips t x y xs a;
      both = λ xs ys zs h k t a. Agree-trans (loop t body xs a) (loop t body ys a) (loop t body zs a) (h t a) (k t a);
    }

-- ---- two members alone
marked_between : (s : Scene) (e : Edge) (a b : Env) → SameButNeighbour a b →
    SameButMarks (at_member s e a) (at_member s e b)
marked_between s e a b h = ap (at_member s e) h

moved_from_marked : (a b : Env) → SameButMarks a b → SameButNeighbour a b
moved_from_marked a b h = subst (SameButNeighbour a) (sym h) refl

agree_from_marked : (r q : Ran) → SameRun SameButMarks r q → Agree r q
agree_from_marked r q h = record {
  env = moved_from_marked r.env q.env h.env;
  emitted = subst (IsPermutation r.emitted) (sym h.emitted) (IsPermutation-refl r.emitted);
}

-- runs that do the same, and then runs that agree
agree_next : (flow : Flow) (r q a b : Ran) → AgreeToEnd r q → Agree a b →
    Agree (by_flow flow r (after r a)) (by_flow flow q (after q b))
agree_next Broke r q a b h k = h.agree
agree_next Going r q a b h k = record {
  env = k.env;
  emitted = IsPermutation-append r.emitted q.emitted a.emitted b.emitted h.agree.emitted k.emitted;
}

agree_both : (r q : Ran) (f : Act) → AgreeToEnd r q → Agree (f r.env) (f q.env) →
    Agree (followed_by r f) (followed_by q f)
agree_both r q f h k =
    subst (λ flow. Agree (followed_by r f) (by_flow flow q (after q (f q.env)))) (sym h.flow)
    (agree_next r.flow r q (f r.env) (f q.env) h k)

-- a loop does the same from an environment at another neighbour, with other marks
loop_anywhere : (s : Scene) (body : List Stmt) (members : List Edge) (a b : Env) → SameButNeighbour a b →
    Agree (loop s body members a) (loop s body members b)
loop_anywhere s body [] a b h = record { env = h; emitted = IsPermutation-refl [] }
loop_anywhere s body (e ∷ es) a b h =
    let same = run_unmarked body (at_member s e a) (at_member s e b) (marked_between s e a b h) in
    let here = agree_from_marked (run body (at_member s e a)) (run body (at_member s e b)) same in
    agree_both (member_act s body e a) (member_act s body e b) (loop s body es)
    (record { agree = record { env = here.env; emitted = here.emitted }; flow = same.flow })
    (loop_anywhere s body es (run body (at_member s e a)).env (run body (at_member s e b)).env here.env)

flips_two : (body : List Stmt) → FlipsPairs body → FlipsTwo body
flips_two body pairs s e f members env =
    let ef = loop s body (e ∷ f ∷ []) env in
    let fe = loop s body (f ∷ e ∷ []) env in
    subst (λ r. Agree r (loop s body (f ∷ e ∷ members) env)) (sym (loop-append s body (e ∷ f ∷ []) members env))
    (subst (Agree (followed_by ef (loop s body members))) (sym (loop-append s body (f ∷ e ∷ []) members env))
    (agree_both ef fe (loop s body members) (pairs s e f env)
    (loop_anywhere s body members ef.env fe.env (pairs s e f env).agree.env)))

-- two members alone may change places, and so all may
pub loop_agrees_pairs : (body : List Stmt) → FlipsPairs body → LoopAgrees body
loop_agrees_pairs body pairs = loop_agrees body (flips_two body pairs)
