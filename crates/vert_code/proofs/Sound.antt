-- The code of expressions and statements: what it does, how high it rises and what it names, by one
-- induction over trees.
use Rattle.std.proofs.Common.{◌≡◌, ℕ, ℤ, pos, ◌+◌, ◌≤◌, ◌%◌, Bool, true, false, ◌&&◌, List, [], ◌∷◌, ◌++◌, length, map, refl, sym, ap, ◌∙◌, subst, arith, Some, None, is_some, unwrap_or, nat_lt}
use Rattle.std.specs.Prelude.{max, neg_ℤ, not, if◌then◌else◌}
use Rattle.std.specs.Int.{int_min, int_max}
use Rattle.std.specs.List.{list_all}
use Rattle.std.proofs.Math.Nat.{mod-eq_of_lt}
use Rattle.std.proofs.lemmas.Bool.{ltb-true}
use Rattle.std.proofs.lemmas.List.Folds.{list_all-append}
use Rattle.std.specs.Cmp.Derive.{both_true}
use Rattle.draw_source.specs.Draws.{draw_word}
use Rattle.vert_tree.specs.declared.name.What.{What}
use Rattle.vert_tree.specs.declared.name.What.TheVariants as what
use Rattle.vert_tree.specs.declared.expression.Node.{Node}
use Rattle.vert_tree.specs.declared.expression.Node.TheVariants as nodes
use Rattle.vert_tree.specs.declared.statement.AssignOp.{AssignOp}
use Rattle.vert_tree.specs.declared.statement.Stmt.{Stmt, Stmt-F}
use Rattle.vert_tree.specs.declared.statement.Stmt.TheOpen as level
use Rattle.vert_tree.specs.declared.statement.Stmt.TheViews.{roll-Stmt}
use Rattle.vert_tree.specs.declared.statement.Stmt.TheFolds.{fold-roll-Stmt, ind-Stmt, map-Stmt}
use Rattle.vert_tree.specs.Limits.{deepest, level_depth, node_depth, stmt_depth}
use Rattle.vert_tree.specs.Places.{Counts, Rights, body_placed, expr_placed, is_named, is_other_field, is_slot, is_target, level_placed, node_placed, stmt_placed}
use Rattle.vert_eval.specs.declared.environment.Env.{Env}
use Rattle.vert_eval.specs.declared.environment.Flow.TheVariants.{Broke}
use Rattle.vert_eval.specs.Runs.{Act, act_of, act_step, emission, followed_by, in_turn, leaves, run, with_target, after}
use Rattle.vert_eval.specs.Values.{builtin, named, node_value, other_builtin, other_field, slot_value, value_of}
use Rattle.vert_eval.specs.Words.{binary, is_set, word_of, wrapped}
use Rattle.vert_code.specs.declared.instr.Instr.{Instr}
use Rattle.vert_code.specs.declared.instr.Instr.TheVariants.{Push, Word, Field, Local, Sent, Total, Got, Value, OtherField, OtherWord, Draw, Neg, Not, Op, Least, Greatest, ToLocal, ToField, ToActive, Emit, Break}
use Rattle.vert_code.specs.Listing.{Piece, body_code, chain, choice, emit, expr_code, joined, just, level_code, load, load_got, load_other, load_value, node_code, nothing, only_if, stmt_code, store}
use Rattle.vert_code.specs.Machine.{top, under}
use Rattle.vert_code.specs.Valid.{Onward, breaks_where, has_names, way_of}
use Rattle.vert_code.proofs.Levels.{Rises, rises_chain, rises_choice, rises_just, rises_nothing, rises_only_if, rises_pair, rises_still, rises_use}
use Rattle.vert_code.proofs.Works.{Rest, Works, acts, chain_acts, choice_acts, choice_value, nothing_acts, only_if_acts, stepped, value, works_as, works_chain, works_just}

pub left_true : (t u : Bool) → (t && u) ≡ true → t ≡ true
left_true true u h = refl
left_true false u h = h

pub right_true : (t u : Bool) → (t && u) ≡ true → u ≡ true
right_true true u h = h
right_true false u h = cc

-- an instruction names only what is there, and breaks only where it may
abbrev pub is_allowed : Bool → Counts → Instr → Bool
is_allowed b c i = has_names c i && breaks_where b i

-- what a piece does, how high it rises, and that it names only what there is
pub record Good (b : Bool) (c : Counts) (p : Piece) (k : Rest → Rest) (need up : ℕ) : Type 0 where
  pub works : Works p k
  pub rises : Rises p need up
  pub allowed : (place : ℕ) → list_all (is_allowed b c) (p place) ≡ true

-- an operator on the two topmost values
abbrev on_two : (ℤ → ℤ → ℤ) → Rest → Rest
on_two f r stack env = r (f (top (under stack)) (top stack) ∷ under (under stack)) env

module _ (b : Bool) (c : Counts) where
  all_allowed : (xs ys : List Instr) → list_all (is_allowed b c) xs ≡ true → list_all (is_allowed b c) ys ≡ true →
      list_all (is_allowed b c) (xs ++ ys) ≡ true
  all_allowed xs ys p q = list_all-append (is_allowed b c) xs ys ∙ both_true p q

  one_allowed : (i : Instr) → is_allowed b c i ≡ true → list_all (is_allowed b c) (i ∷ []) ≡ true
  one_allowed i h = both_true h refl

  chain_allowed : (p q : Piece) → ((place : ℕ) → list_all (is_allowed b c) (p place) ≡ true) →
      ((place : ℕ) → list_all (is_allowed b c) (q place) ≡ true) →
      (place : ℕ) → list_all (is_allowed b c) (chain p q place) ≡ true
  chain_allowed p q f g place = all_allowed (p place) (q (place + length (p place))) (f place)
      (g (place + length (p place)))

  choice_allowed : (t p q : Piece) → ((place : ℕ) → list_all (is_allowed b c) (t place) ≡ true) →
      ((place : ℕ) → list_all (is_allowed b c) (p place) ≡ true) →
      ((place : ℕ) → list_all (is_allowed b c) (q place) ≡ true) →
      (place : ℕ) → list_all (is_allowed b c) (choice t p q place) ≡ true
  choice_allowed t p q f g h place =
      let tested = t place in
      let branch = p (place + length tested + 1) in
      let second = place + length tested + 1 + length branch + 1 in
      all_allowed tested _ (f place) (both_true refl
      (all_allowed branch _ (g (place + length tested + 1)) (both_true refl (h second))))

  only_if_allowed : (t p : Piece) → ((place : ℕ) → list_all (is_allowed b c) (t place) ≡ true) →
      ((place : ℕ) → list_all (is_allowed b c) (p place) ≡ true) →
      (place : ℕ) → list_all (is_allowed b c) (only_if t p place) ≡ true
  only_if_allowed t p f g place =
      let tested = t place in
      all_allowed tested _ (f place) (both_true refl (g (place + length tested + 1)))

  -- ---- expressions
  leaf_good : (i : Instr) (v : Env → ℤ) → way_of i ≡ Onward 0 1 → has_names c i ≡ true → breaks_where b i ≡ true →
      ((place : ℕ) (next : ℕ → Rest) → (λ stack env. stepped i place next stack env) ≡ value v (next 0)) →
      Good b c (just i) (value v) 1 1
  leaf_good i v way ok calm does = record {
    works = works_just i (value v) does;
    rises = rises_just i way;
    allowed = λ place. one_allowed i (both_true ok calm);
  }

  module _ (p : Piece) (i : Instr) (v : Env → ℤ) (k l : Rest → Rest) (need gives : ℕ) where
    use_good : way_of i ≡ Onward 1 gives → has_names c i ≡ true → breaks_where b i ≡ true →
        ((place : ℕ) (next : ℕ → Rest) → (λ stack env. stepped i place next stack env) ≡ k (next 0)) →
        ((r : Rest) (stack : List ℤ) (env : Env) → k r (v env ∷ stack) env ≡ l r stack env) → 1 ≤ need →
        Good b c p (value v) need 1 → Good b c (chain p (just i)) l need gives
    use_good way ok calm does same some g = record {
      works = works_as (chain p (just i)) (λ r. value v (k r)) l same
          (works_chain p (just i) (value v) k g.works (works_just i k does));
      rises = rises_use p i need gives way some g.rises;
      allowed = chain_allowed p (just i) g.allowed (λ place. one_allowed i (both_true ok calm));
    }

  module _ (p q : Piece) (i : Instr) (f : ℤ → ℤ → ℤ) (v w : Env → ℤ) (need_p need_q : ℕ) where
    pair_good : way_of i ≡ Onward 2 1 → has_names c i ≡ true → breaks_where b i ≡ true →
        ((place : ℕ) (next : ℕ → Rest) → (λ stack env. stepped i place next stack env) ≡ on_two f (next 0)) →
        1 ≤ need_q → Good b c p (value v) need_p 1 → Good b c q (value w) need_q 1 →
        Good b c (chain p (chain q (just i))) (value (λ env. f (v env) (w env))) (max need_p need_q + 1) 1
    pair_good way ok calm does some g h =
        let k = on_two f in
        let le_p : need_p ≤ max need_p need_q + 1 = omega arith in
        let le_q : need_q + 1 ≤ max need_p need_q + 1 = omega arith in
        record {
          works = works_chain p (chain q (just i)) (value v) (λ r. value w (k r)) g.works
              (works_chain q (just i) (value w) k h.works (works_just i k does));
          rises = rises_pair p q i need_p need_q (max need_p need_q + 1) way some le_p le_q g.rises h.rises;
          allowed = chain_allowed p (chain q (just i)) g.allowed
              (chain_allowed q (just i) h.allowed (λ place. one_allowed i (both_true ok calm)));
        }

  module _ (t p q : Piece) (test v w : Env → ℤ) (need_t need_p need_q : ℕ) where
    choice_good : 1 ≤ need_t → Good b c t (value test) need_t 1 → Good b c p (value v) need_p 1 →
        Good b c q (value w) need_q 1 →
        Good b c (choice t p q) (value (λ env. if is_set (test env) then v env else w env)) (max need_t (max
        need_p need_q) + 1) 1
    choice_good some f g h =
        let need = max need_t (max need_p need_q) + 1 in
        let le_t : need_t ≤ need = omega arith in
        let le_p : need_p ≤ need = omega arith in
        let le_q : need_q ≤ need = omega arith in
        let up : 1 ≤ need = omega arith in
        record {
          works = choice_value t p q test v w f.works g.works h.works;
          rises = rises_choice t p q need_t need_p need_q need 1 some le_t le_p le_q up f.rises g.rises h.rises;
          allowed = choice_allowed t p q f.allowed g.allowed h.allowed;
        }

  more_good : (p : Piece) (k : Rest → Rest) (need up : ℕ) → Good b c p k need up → Good b c p k (need + 1) up
  more_good p k need up g = record {
    works = g.works;
    rises = record {
      rises = λ place height next rest e room l.
          let low : height + need ≤ 64 = omega arith in g.rises.rises place height next rest e low l;
    };
    allowed = g.allowed;
  }

  load_good : (w : What) → is_named c w ≡ true → Good b c (just (load w)) (value (named w)) 1 1
  load_good (what.Field i) h = leaf_good (Field i) (named (what.Field i)) refl h refl (λ place next. refl)
  load_good (what.Local i) h = leaf_good (Local i) (named (what.Local i)) refl h refl (λ place next. refl)
  load_good (what.Send i) h = leaf_good (Sent i) (named (what.Send i)) refl h refl (λ place next. refl)
  load_good (what.Total i) h = leaf_good (Total i) (named (what.Total i)) refl h refl (λ place next. refl)
  load_good what.Unread h = cc
  load_good (what.Slot i) h = cc

  got_good : (w : What) → is_slot c w ≡ true →
      Good b c (just (load_got w)) (value (λ env. word_of (is_some (slot_value w env)))) 1 1
  got_good (what.Slot i) h = leaf_good (Got i) (λ env. word_of (is_some (slot_value (what.Slot i) env))) refl h refl
      (λ place next. refl)
  got_good (what.Field i) h = cc
  got_good (what.Local i) h = cc
  got_good (what.Send i) h = cc
  got_good (what.Total i) h = cc
  got_good what.Unread h = cc

  value_good : (w : What) → is_slot c w ≡ true →
      Good b c (just (load_value w)) (value (λ env. unwrap_or (slot_value w env) (pos 0))) 1 1
  value_good (what.Slot i) h = leaf_good (Value i) (λ env. unwrap_or (slot_value (what.Slot i) env) (pos 0)) refl h
      refl (λ place next. refl)
  value_good (what.Field i) h = cc
  value_good (what.Local i) h = cc
  value_good (what.Send i) h = cc
  value_good (what.Total i) h = cc
  value_good what.Unread h = cc

  other_good : (w : What) → is_other_field c w ≡ true → Good b c (just (load_other w)) (value (other_field w)) 1 1
  other_good (what.Field i) h = leaf_good (OtherField i) (other_field (what.Field i)) refl h refl (λ place next. refl)
  other_good (what.Slot i) h = cc
  other_good (what.Local i) h = cc
  other_good (what.Send i) h = cc
  other_good (what.Total i) h = cc
  other_good what.Unread h = cc

  draw_good : (number : ℕ) → nat_lt number 256 ≡ true →
      Good b c (just (Draw (number % 256))) (value (λ env. pos (draw_word env.draws env.round env.id.0 number))) 1 1
  draw_good number h =
      let low = mod-eq_of_lt (ltb-true number 256 h) in
      leaf_good (Draw (number % 256)) (λ env. pos (draw_word env.draws env.round env.id.0 number)) refl refl refl
      (λ place next. ap (λ (k : ℕ). λ (stack : List ℤ) (env : Env).
      next 0 (pos (draw_word env.draws env.round env.id.0 k) ∷ stack) env) low)

  deep : (n : Node) → 1 ≤ node_depth n
  deep (nodes.Int x) = omega arith
  deep (nodes.Bool x) = omega arith
  deep (nodes.Word w) = omega arith
  deep (nodes.Name name) = omega arith
  deep (nodes.Got name) = omega arith
  deep (nodes.Value name) = omega arith
  deep (nodes.OtherField name) = omega arith
  deep (nodes.OtherWord w) = omega arith
  deep (nodes.Draw at number) = omega arith
  deep (nodes.Neg' _ _ a) = omega arith
  deep (nodes.Not' _ _ a) = omega arith
  deep (nodes.Binary' op _ _ a _ _ d) = omega arith
  deep (nodes.Cond' _ _ test _ _ a _ _ d) = omega arith
  deep (nodes.Least' _ _ a _ _ d) = omega arith
  deep (nodes.Greatest' _ _ a _ _ d) = omega arith
  deep (nodes.Group' _ _ a) = omega arith

  pub node_good : (n : Node) → node_placed c n ≡ true → Good b c (node_code n) (value (node_value n)) (node_depth n) 1
  node_good (nodes.Int x) h = leaf_good (Push x) (λ env. x) refl refl refl (λ place next. refl)
  node_good (nodes.Bool x) h = leaf_good (Push (word_of x)) (λ env. word_of x) refl refl refl (λ place next. refl)
  node_good (nodes.Word w) h = leaf_good (Word w) (builtin w) refl refl refl (λ place next. refl)
  node_good (nodes.Name name) h = load_good name.what h
  node_good (nodes.Got name) h = got_good name.what h
  node_good (nodes.Value name) h = value_good name.what h
  node_good (nodes.OtherField name) h = other_good name.what h
  node_good (nodes.OtherWord w) h = leaf_good (OtherWord w) (other_builtin w) refl refl refl (λ place next. refl)
  node_good (nodes.Draw at number) h = draw_good number h
  node_good (nodes.Neg' _ _ a) h =
      more_good (chain (node_code a) (just Neg)) (value (λ env. wrapped (neg_ℤ (node_value a env)))) (node_depth a) 1
      (use_good (node_code a) Neg (node_value a) (λ r stack env. r (wrapped (neg_ℤ (top stack)) ∷ under stack) env)
      (value (λ env. wrapped (neg_ℤ (node_value a env)))) (node_depth a) 1 refl refl refl (λ place next. refl)
      (λ r stack env. refl) (deep a) (node_good a h))
  node_good (nodes.Not' _ _ a) h =
      more_good (chain (node_code a) (just Not)) (value (λ env. word_of (not (is_set (node_value a env)))))
      (node_depth a) 1
      (use_good (node_code a) Not (node_value a) (λ r stack env.
      r (word_of (not (is_set (top stack))) ∷ under stack) env)
      (value (λ env. word_of (not (is_set (node_value a env))))) (node_depth a) 1 refl refl refl (λ place next.
      refl) (λ r stack env. refl) (deep a) (node_good a h))
  node_good (nodes.Binary' op _ _ a _ _ d) h =
      pair_good (node_code a) (node_code d) (Op op) (binary op) (node_value a) (node_value d) (node_depth a)
      (node_depth d) refl refl refl (λ place next. refl) (deep d)
      (node_good a (left_true (node_placed c a) (node_placed c d) h))
      (node_good d (right_true (node_placed c a) (node_placed c d) h))
  node_good (nodes.Cond' _ _ test _ _ a _ _ d) h =
      let two = right_true (node_placed c test) (node_placed c a && node_placed c d) h in
      choice_good (node_code test) (node_code a) (node_code d) (node_value test) (node_value a) (node_value d)
      (node_depth test) (node_depth a) (node_depth d) (deep test)
      (node_good test (left_true (node_placed c test) (node_placed c a && node_placed c d) h))
      (node_good a (left_true (node_placed c a) (node_placed c d) two))
      (node_good d (right_true (node_placed c a) (node_placed c d) two))
  node_good (nodes.Least' _ _ a _ _ d) h =
      pair_good (node_code a) (node_code d) Least int_min (node_value a) (node_value d) (node_depth a) (node_depth d)
      refl refl refl (λ place next. refl) (deep d)
      (node_good a (left_true (node_placed c a) (node_placed c d) h))
      (node_good d (right_true (node_placed c a) (node_placed c d) h))
  node_good (nodes.Greatest' _ _ a _ _ d) h =
      pair_good (node_code a) (node_code d) Greatest int_max (node_value a) (node_value d) (node_depth a)
      (node_depth d) refl refl refl (λ place next. refl) (deep d)
      (node_good a (left_true (node_placed c a) (node_placed c d) h))
      (node_good d (right_true (node_placed c a) (node_placed c d) h))
  node_good (nodes.Group' _ _ a) h = more_good (node_code a) (value (node_value a)) (node_depth a) 1 (node_good a h)

  -- ---- statements
  chain_good : (p q : Piece) (f g : Act) (need_p need_q : ℕ) → Good b c p (acts f) need_p 0 →
      Good b c q (acts g) need_q 0 →
      Good b c (chain p q) (acts (λ env. followed_by (f env) g)) (max need_p need_q) 0
  chain_good p q f g need_p need_q x y =
      let le_p : need_p ≤ max need_p need_q = omega arith in
      let le_q : need_q ≤ max need_p need_q = omega arith in
      record {
        works = chain_acts p q f g x.works y.works;
        rises = rises_chain p q need_p need_q (max need_p need_q) le_p le_q x.rises y.rises;
        allowed = chain_allowed p q x.allowed y.allowed;
      }

  nothing_good : Good b c nothing (acts leaves) 0 0
  nothing_good = record { works = nothing_acts; rises = rises_nothing; allowed = λ place. refl }

  module _ (t p q : Piece) (test : Env → ℤ) (f g : Act) (need_t need_p need_q : ℕ) where
    if_good : 1 ≤ need_t → Good b c t (value test) need_t 1 → Good b c p (acts f) need_p 0 →
        Good b c q (acts g) need_q 0 →
        Good b c (choice t p q) (acts (λ env. if is_set (test env) then f env else g env)) (max need_t (max
        need_p need_q) + 1) 0
    if_good some x y z =
        let need = max need_t (max need_p need_q) + 1 in
        let le_t : need_t ≤ need = omega arith in
        let le_p : need_p ≤ need = omega arith in
        let le_q : need_q ≤ need = omega arith in
        let up : 0 ≤ need = omega arith in
        record {
          works = choice_acts t p q test f g x.works y.works z.works;
          rises = rises_choice t p q need_t need_p need_q need 0 some le_t le_p le_q up x.rises y.rises z.rises;
          allowed = choice_allowed t p q x.allowed y.allowed z.allowed;
        }

  module _ (t p : Piece) (test : Env → ℤ) (f : Act) (need_t need_p : ℕ) where
    only_if_good : 1 ≤ need_t → Good b c t (value test) need_t 1 → Good b c p (acts f) need_p 0 →
        Good b c (only_if t p) (acts (λ env. if is_set (test env) then f env else leaves env)) (max need_t (max
        need_p 0) + 1) 0
    only_if_good some x y =
        let need = max need_t (max need_p 0) + 1 in
        let le_t : need_t ≤ need = omega arith in
        let le_p : need_p ≤ need = omega arith in
        record {
          works = only_if_acts t p test f x.works y.works;
          rises = rises_only_if t p need_t need_p need some le_t le_p x.rises y.rises;
          allowed = only_if_allowed t p x.allowed y.allowed;
        }

  module _ (r : Rights) where
    store_good : (w : What) (op : AssignOp) (p : Piece) (v : Env → ℤ) (need : ℕ) → is_target r c w ≡ true →
        1 ≤ need → Good b c p (value v) need 1 →
        Good b c (store w op p) (acts (λ env. leaves (with_target w op (v env) env))) need 0
    store_good (what.Local i) op p v need h some g =
        use_good p (ToLocal op i) v (λ k stack env. k (under stack) (with_target (what.Local i) op (top stack) env))
        (acts (λ env. leaves (with_target (what.Local i) op (v env) env))) need 0 refl
        (right_true r.locals (nat_lt i c.locals) h) refl (λ place next. refl) (λ k stack env. refl) some g
    store_good (what.Field i) op p v need h some g =
        use_good p (ToField op i) v (λ k stack env. k (under stack) (with_target (what.Field i) op (top stack) env))
        (acts (λ env. leaves (with_target (what.Field i) op (v env) env))) need 0 refl
        (right_true r.fields (nat_lt i c.fields) h) refl (λ place next. refl) (λ k stack env. refl) some g
    store_good what.Unread op p v need h some g = cc
    store_good (what.Slot i) op p v need h some g = cc
    store_good (what.Send i) op p v need h some g = cc
    store_good (what.Total i) op p v need h some g = cc

  emit_good : (w : What) (p : Piece) (v : Env → ℤ) (need : ℕ) → is_slot c w ≡ true → 1 ≤ need →
      Good b c p (value v) need 1 →
      Good b c (emit w p) (acts (λ env. record (leaves env) { emitted = emission w (v env) })) need 0
  emit_good (what.Slot i) p v need h some g =
      use_good p (Emit i) v (λ k stack env.
      after (record (leaves env) { emitted = emission (what.Slot i) (top stack) }) (k (under stack) env))
      (acts (λ env. record (leaves env) { emitted = emission (what.Slot i) (v env) })) need 0 refl h refl
      (λ place next. refl) (λ k stack env. refl) some g
  emit_good what.Unread p v need h some g = cc
  emit_good (what.Field i) p v need h some g = cc
  emit_good (what.Local i) p v need h some g = cc
  emit_good (what.Send i) p v need h some g = cc
  emit_good (what.Total i) p v need h some g = cc

-- the code of a statement or a block, where its test is true
record Sound (r : Rights) (c : Counts) (test : Bool) (p : Piece) (act : Act) (need : ℕ) : Type 0 where
  good : test ≡ true → Good r.breaks c p (acts act) need 0

module _ (r : Rights) (c : Counts) where
  abbrev Held : Type 0
  Held = (s : Stmt) × Sound r c (stmt_placed r c s) (stmt_code s) (act_of s) (stmt_depth s)

  abbrev stmts : List Held → List Stmt
  stmts ss = map (λ s. s.0) ss

  abbrev below : Stmt-F Held → Stmt-F Stmt
  below y = map-Stmt Held Stmt (λ s. s.0) y

  all_sound : (ss : List Held) → Sound r c (list_all (λ t. t) (map (stmt_placed r c) (stmts ss)))
      (joined (map stmt_code (stmts ss))) (in_turn (map act_of (stmts ss))) (deepest (map stmt_depth (stmts ss)))
  all_sound [] = record { good = λ h. nothing_good r.breaks c }
  all_sound (s ∷ ss) = record {
    good = λ h.
        let rest = list_all (λ t. t) (map (stmt_placed r c) (stmts ss)) in
        chain_good r.breaks c (stmt_code s.0) (joined (map stmt_code (stmts ss))) (act_of s.0)
        (in_turn (map act_of (stmts ss))) (stmt_depth s.0) (deepest (map stmt_depth (stmts ss)))
        (s.1.good (left_true (stmt_placed r c s.0) rest h))
        ((all_sound ss).good (right_true (stmt_placed r c s.0) rest h));
  }

  level_sound : (y : Stmt-F Held) → Sound r c (level_placed r c (map-Stmt Stmt Bool (stmt_placed r c) (below y)))
      (level_code (map-Stmt Stmt Piece stmt_code (below y))) (act_step (map-Stmt Stmt Act act_of (below y)))
      (level_depth (map-Stmt Stmt ℕ stmt_depth (below y)))
  level_sound (level.Assign t op e) = record {
    good = λ h. store_good r.breaks c r t.what op (expr_code e) (value_of e) (node_depth e.node)
        (left_true (is_target r c t.what) (expr_placed c e) h) (deep r.breaks c e.node)
        (node_good r.breaks c e.node (right_true (is_target r c t.what) (expr_placed c e) h));
  }
  level_sound (level.SetActive at e) = record {
    good = λ h. use_good r.breaks c (expr_code e) ToActive (value_of e) (λ k stack env.
        k (under stack) (record env { next_active = is_set (top stack) }))
        (acts (λ env. leaves (record env { next_active = is_set (value_of e env) }))) (node_depth e.node) 0
        refl refl refl (λ place next. refl) (λ k stack env. refl) (deep r.breaks c e.node)
        (node_good r.breaks c e.node (right_true r.active (expr_placed c e) h));
  }
  level_sound (level.If at test held None) = record {
    good = λ h.
        let inner = list_all (λ t. t) (map (stmt_placed r c) (stmts held.items)) in
        only_if_good r.breaks c (expr_code test) (joined (map stmt_code (stmts held.items))) (value_of test)
        (in_turn (map act_of (stmts held.items))) (node_depth test.node)
        (deepest (map stmt_depth (stmts held.items))) (deep r.breaks c test.node)
        (node_good r.breaks c test.node (left_true (expr_placed c test) (inner && true) h))
        ((all_sound held.items).good (left_true inner true (right_true (expr_placed c test) (inner && true) h)));
  }
  level_sound (level.If at test held (Some body)) = record {
    good = λ h.
        let inner = list_all (λ t. t) (map (stmt_placed r c) (stmts held.items)) in
        let other = list_all (λ t. t) (map (stmt_placed r c) (stmts body.items)) in
        let two = right_true (expr_placed c test) (inner && other) h in
        if_good r.breaks c (expr_code test) (joined (map stmt_code (stmts held.items)))
        (joined (map stmt_code (stmts body.items))) (value_of test) (in_turn (map act_of (stmts held.items)))
        (in_turn (map act_of (stmts body.items))) (node_depth test.node)
        (deepest (map stmt_depth (stmts held.items))) (deepest (map stmt_depth (stmts body.items)))
        (deep r.breaks c test.node)
        (node_good r.breaks c test.node (left_true (expr_placed c test) (inner && other) h))
        ((all_sound held.items).good (left_true inner other two))
        ((all_sound body.items).good (right_true inner other two));
  }
  level_sound (level.Emit at slot e) = record {
    good = λ h.
        let two = right_true r.emits (is_slot c slot.what && expr_placed c e) h in
        emit_good r.breaks c slot.what (expr_code e) (value_of e) (node_depth e.node)
        (left_true (is_slot c slot.what) (expr_placed c e) two) (deep r.breaks c e.node)
        (node_good r.breaks c e.node (right_true (is_slot c slot.what) (expr_placed c e) two));
  }
  level_sound (level.Break at) = record {
    good = λ h. record {
      works = works_just Break (acts (λ env. record (leaves env) { flow = Broke })) (λ place next. refl);
      rises = rises_still Break refl;
      allowed = λ place. both_true (both_true refl h) refl;
    };
  }

  stmt_sound : (s : Stmt) → Sound r c (stmt_placed r c s) (stmt_code s) (act_of s) (stmt_depth s)
  stmt_sound = ind-Stmt (λ s. Sound r c (stmt_placed r c s) (stmt_code s) (act_of s) (stmt_depth s)) (λ x y is.
      subst (λ z. Sound r c (stmt_placed r c (roll-Stmt z)) (stmt_code (roll-Stmt z)) (act_of (roll-Stmt z))
      (stmt_depth (roll-Stmt z))) is
      (subst (λ t. Sound r c t (stmt_code (roll-Stmt (below y))) (act_of (roll-Stmt (below y)))
      (stmt_depth (roll-Stmt (below y)))) (sym (fold-roll-Stmt Bool (level_placed r c) (below y)))
      (subst (λ p. Sound r c (level_placed r c (map-Stmt Stmt Bool (stmt_placed r c) (below y))) p
      (act_of (roll-Stmt (below y))) (stmt_depth (roll-Stmt (below y))))
      (sym (fold-roll-Stmt Piece level_code (below y)))
      (subst (λ a. Sound r c (level_placed r c (map-Stmt Stmt Bool (stmt_placed r c) (below y)))
      (level_code (map-Stmt Stmt Piece stmt_code (below y))) a (stmt_depth (roll-Stmt (below y))))
      (sym (fold-roll-Stmt Act act_step (below y)))
      (subst (Sound r c (level_placed r c (map-Stmt Stmt Bool (stmt_placed r c) (below y)))
      (level_code (map-Stmt Stmt Piece stmt_code (below y))) (act_step (map-Stmt Stmt Act act_of (below y))))
      (sym (fold-roll-Stmt ℕ level_depth (below y)))
      (level_sound y))))))

  pub body_good : (body : List Stmt) → body_placed r c body ≡ true →
      Good r.breaks c (body_code body) (acts (run body)) (deepest (map stmt_depth body)) 0
  body_good [] h = nothing_good r.breaks c
  body_good (s ∷ ss) h =
      chain_good r.breaks c (stmt_code s) (body_code ss) (act_of s) (run ss) (stmt_depth s)
      (deepest (map stmt_depth ss))
      ((stmt_sound s).good (left_true (stmt_placed r c s) (body_placed r c ss) h))
      (body_good ss (right_true (stmt_placed r c s) (body_placed r c ss) h))
