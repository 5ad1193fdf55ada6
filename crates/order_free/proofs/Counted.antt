-- A loop whose body only does, where a test is true, what reads no neighbour: it counts its members.
use Rattle.std.proofs.Common.{◌≡◌, ℕ, zero, suc, Bool, true, false, IsTrue, List, [], ◌∷◌, ◌++◌, IsPermutation, refl, sym, ap, subst, ◌∙◌}
use Rattle.std.specs.Prelude.{if◌then◌else◌}
use Rattle.std.specs.List.{list_all}
use Rattle.std.proofs.lemmas.List.Sorted.{IsPermutation-refl}
use Rattle.vert_base.specs.declared.graph.Edge.{Edge}
use Rattle.vert_tree.specs.declared.expression.Node.{Node}
use Rattle.vert_tree.specs.declared.statement.Stmt.{Stmt}
use Rattle.carry_analysis.specs.Classes.{node_marks}
use Rattle.slot_merge.proofs.Permutations.{IsKept, permutation-kept}
use Rattle.vert_eval.specs.declared.environment.Env.{Env}
use Rattle.vert_eval.specs.declared.environment.Flow.TheVariants.{Going}
use Rattle.vert_eval.specs.Rounds.{Scene, at_member, loop, member_act}
use Rattle.vert_eval.specs.Runs.{Act, Ran, after, by_flow, followed_by, leaves, run}
use Rattle.vert_eval.specs.Values.{node_value, word_at}
use Rattle.vert_eval.specs.Words.{is_set}
use Rattle.order_laws.specs.Agreement.{Agree, SameButNeighbour}
use Rattle.order_laws.proofs.Loops.{SameButNeighbour-trans}
use Rattle.order_free.proofs.Blind.{Alike, Blind, alike_sym, alike_trans, next_alike}
use Rattle.order_free.specs.Fixed.{uses_held}
use Rattle.order_free.proofs.Values.{SameHeld, relet, value_relet}

-- ---- counting
pub hits : {X : Type 0} → (X → Bool) → List X → ℕ
hits p [] = 0
hits p (x ∷ xs) = if p x then suc (hits p xs) else hits p xs

hits_flip : (b c : Bool) (n : ℕ) →
    (if b then suc (if c then suc n else n) else (if c then suc n else n)) ≡
    (if c then suc (if b then suc n else n) else (if b then suc n else n))
hits_flip true true n = refl
hits_flip true false n = refl
hits_flip false true n = refl
hits_flip false false n = refl

hits_kept : {X : Type 0} (p : X → Bool) → IsKept (λ xs ys. hits p ys ≡ hits p xs)
unfolding hits
hits_kept p = record {
  same = λ xs. refl;
  under = λ x xs ys h. ap (λ n. if p x then suc n else n) h;
  flip = λ x y xs. hits_flip (p y) (p x) (hits p xs);
  both = λ xs ys zs h k. k ∙ h;
}

pub same_hits : {X : Type 0} (p : X → Bool) (xs ys : List X) → IsPermutation xs ys → hits p ys ≡ hits p xs
same_hits p xs ys h = permutation-kept (λ us vs. hits p vs ≡ hits p us) (hits_kept p) xs ys h

-- so many times, up to a break
abbrev pub times : ℕ → Act → Act
times zero f env = leaves env
times (suc n) f env = followed_by (f env) (times n f)

-- ---- the loop
-- a run that emitted nothing and goes on
silent : (x r y : Ran) → r.emitted ≡ [] → r.flow ≡ Going → Alike x y → Alike x (by_flow r.flow r (after r y))
silent x r y none goes h =
    let k : Alike x (after r y) =
    record { env = h.env; emitted = ap (λ es. es ++ y.emitted) none ∙ h.emitted; flow = h.flow } in
    subst (λ v. Alike x (by_flow v r (after r y))) (sym goes) k

agreed : (a b : Ran) → Alike a b → Agree a b
agreed a b h = record {
  env = h.env;
  emitted = subst (IsPermutation a.emitted) (sym h.emitted)
      (IsPermutation-refl a.emitted);
}

module _ (s : Scene) (body : List Stmt) (test : Node) (f : Act) (held : ℕ → Bool)
    (is : (env : Env) → Alike (if is_set (node_value test env) then f env else leaves env) (run body env))
    (blind : Blind f)
    (reads : IsTrue (list_all (uses_held held) (node_marks test)))
    (rest : (a : Env) → (f a).env ≡ relet (f a).env.locals (f a).env.touched a)
    (words : (a : Env) → SameHeld held a.locals.items (f a).env.locals.items)
    (start : Env) where
  -- an environment that the loop may reach from the start
  record Reached (e : Env) : Type 0 where
    from : e ≡ record start { other = e.other; other_row = e.other_row; locals = e.locals; touched = e.touched }
    lets : SameHeld held start.locals.items e.locals.items

  -- whether a member passes the test
  abbrev passes : Edge → Bool
  passes m = is_set (node_value test (at_member s m start))

  test_same : (m : Edge) (e : Env) → Reached e → is_set (node_value test (at_member s m e)) ≡ passes m
  test_same m e h =
      ap (λ x. is_set (node_value test (at_member s m x))) h.from
      ∙ ap is_set (value_relet held e.locals e.touched (at_member s m start) h.lets test reads)

  reached_beside : (a b : Env) → SameButNeighbour a b → Reached a → Reached b
  reached_beside a b p h =
      let ls = ap (λ x. x.locals) p in
      record {
        from = p ∙ ap (λ (x : Env). record x { other = b.other; other_row = b.other_row; touched = b.touched }) h.from
            ∙ ap (λ l. record start { other = b.other; other_row = b.other_row; locals = l; touched = b.touched })
            (sym ls);
        lets = record { same = λ i k. ap (λ l. word_at l.items i) ls ∙ h.lets.same i k };
      }

  reached_at : (m : Edge) (e : Env) → Reached e → Reached (at_member s m e)
  reached_at m e h = record { from = ap (at_member s m) h.from; lets = h.lets }

  reached_by : (a : Env) → Reached a → Reached (f a).env
  reached_by a h = record {
    from = rest a ∙ ap (relet (f a).env.locals (f a).env.touched) h.from
        ∙ other_is;
    lets = record { same = λ i k. (words a).same i k ∙ h.lets.same i k };
  }
    where
      other_is : record start {
        other = a.other;
        other_row = a.other_row;
        locals = (f a).env.locals;
        touched =
            (f a).env.touched;
      } ≡ record
          start {
            other = (f a).env.other;
            other_row = (f a).env.other_row;
            locals = (f a).env.locals;
            touched =
                (f a).env.touched;
          }
      other_is = ap (λ (x : Env). record
          start { other = x.other; other_row = x.other_row; locals = (f a).env.locals; touched = (f a).env.touched })
          (sym (rest a))

  -- what the loop over some members does is what a count of them does
  abbrev CountsOver : List Edge → Type 0
  CountsOver ms = (e b : Env) → SameButNeighbour b e → Reached e → Alike (times (hits passes ms) f b) (loop s body ms e)

  module _ (m : Edge) (ms : List Edge) (more : CountsOver ms) (e b : Env) (p : SameButNeighbour b e)
      (h : Reached e) where
    abbrev here : Env
    here = at_member s m e

    abbrev one : Ran
    one = member_act s body m e

    step : (t : Bool) → is_set (node_value test here) ≡ t →
        Alike (times (if t then suc (hits passes ms) else hits passes ms) f b) (followed_by one (loop s body ms))
    step true is_true =
        let first : Alike (f here) (run body here) =
        subst (λ t. Alike (if t then f here else leaves here) (run body here)) is_true (is here) in
        let both : Alike (f b) (run body here) =
        alike_trans (f b) (f here) (run body here)
        (blind.alike b here (SameButNeighbour-trans b e here p refl)) first in
        let now : Alike (f b) one = record { env = both.env; emitted = both.emitted; flow = both.flow } in
        next_alike (f b) one (times (hits passes ms) f (f b).env) (loop s body ms one.env) (f b).flow one.flow
        now.flow now
        (more one.env (f b).env now.env
        (reached_beside (f here).env one.env first.env (reached_by here (reached_at m e h))))
    step false is_false =
        let first : Alike (leaves here) (run body here) =
        subst (λ t. Alike (if t then f here else leaves here) (run body here)) is_false (is here) in
        silent (times (hits passes ms) f b) one (loop s body ms one.env) first.emitted first.flow
        (more one.env b (SameButNeighbour-trans b here one.env (SameButNeighbour-trans b e here p refl) first.env)
        (reached_beside here one.env first.env (reached_at m e h)))

  counts : (ms : List Edge) → CountsOver ms
  unfolding hits
  counts [] e b p h = record { env = p; emitted = refl; flow = refl }
  counts (m ∷ ms) e b p h = step m ms (counts ms) e b p h (passes m) (test_same m e h)

  pub counted : (members others : List Edge) → IsPermutation members others →
      Agree (loop s body members start) (loop s body others start)
  counted members others h =
      let fresh : Reached start = record { from = refl; lets = record { same = λ i k. refl } } in
      let one = counts members start start refl fresh in
      let two = counts others start start refl fresh in
      agreed (loop s body members start) (loop s body others start)
      (alike_trans (loop s body members start) (times (hits passes members) f start) (loop s body others start)
      (alike_sym (times (hits passes members) f start) (loop s body members start) one)
      (subst (λ n. Alike (times n f start) (loop s body others start)) (same_hits passes members others h) two))
