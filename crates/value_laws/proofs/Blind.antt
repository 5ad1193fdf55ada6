-- What blocks don't read: the key, and in a sparse body the neighbour's id, degrees and row.
use Rattle.std.proofs.Common.{◌≡◌, ℕ, ℤ, Bool, true, false, IsTrue, List, [], ◌∷◌, ◌++◌, refl, sym, ap, subst, ◌∙◌}
use Rattle.std.specs.Prelude.{◌&&◌, if◌then◌else◌}
use Rattle.std.specs.List.{flat_map}
use Rattle.std.proofs.lemmas.Bool.{and_parts}
use Rattle.vert_base.specs.declared.graph.Edge.{Edge}
use Rattle.vert_base.specs.declared.graph.Neighbour.{Neighbour}
use Rattle.vert_base.specs.declared.value.Combine.{Combine}
use Rattle.vert_base.specs.declared.value.Row.{Row}
use Rattle.vert_base.specs.Neighbours.{source}
use Rattle.vert_tree.specs.declared.expression.Builtin.{Builtin}
use Rattle.vert_tree.specs.declared.expression.Builtin.TheVariants as word
use Rattle.vert_tree.specs.declared.name.What.{What}
use Rattle.vert_tree.specs.declared.name.What.TheVariants as what
use Rattle.vert_tree.specs.declared.program.Dense.{Dense}
use Rattle.vert_tree.specs.declared.statement.AssignOp.{AssignOp}
use Rattle.vert_tree.specs.declared.program.Sparse.{Sparse}
use Rattle.vert_tree.specs.Readable.{in_sparse, in_stop, in_tests, word_read}
use Rattle.vert_eval.specs.declared.environment.Env.{Env}
use Rattle.vert_eval.specs.declared.environment.Flow.{Flow}
use Rattle.vert_eval.specs.declared.environment.Flow.TheVariants.{Going, Broke}
use Rattle.vert_eval.specs.Rounds.{Scene, at_member, dense_at, dense_block, emitted_over, loop, member_act, sender_at, sent_by, with_lets}
use Rattle.vert_eval.specs.Runs.{Act, Ran, after, by_flow, followed_by, leaves, run, with_target}
use Rattle.vert_eval.specs.Values.{builtin, named, other_builtin, other_field, slot_value, value_of}
use Rattle.vert_eval.specs.Words.{is_set}
use Rattle.order_laws.specs.Agreement.{SameButNeighbour}
use Rattle.order_laws.proofs.Blindness.{IsBlind, SameLeaves, SameRun, node_same, run_blind, run_same, tests_blind}
use Rattle.value_laws.specs.Blind.{AlikeRuns, SameButKey, SameWeight}
use Rattle.value_laws.specs.Laws.{DenseAtAnyKey, LetsAtAnyKey, LoopsAtAnyKey, RunsAtAnyKey, SparseAtAnyKey, SparseAtAnyNeighbour, StopsAnywhere, TailsAtAnyNeighbour, TestsAtAnyNeighbour, ValuesAtAnyKey}

-- ---- the key
abbrev Any : Bool → Type 0
Any t = Unit {0}

abbrev keyed : ℕ → Env → Env
keyed k env = record env { key = k }

words_keyed : (k : ℕ) (env : Env) (w : Builtin) → builtin w (keyed k env) ≡ builtin w env
words_keyed k env word.Id = refl
words_keyed k env word.Count = refl
words_keyed k env word.Round = refl
words_keyed k env word.InDeg = refl
words_keyed k env word.OutDeg = refl
words_keyed k env word.Active = refl
words_keyed k env word.Weight = refl

others_keyed : (k : ℕ) (env : Env) (w : Builtin) → other_builtin w (keyed k env) ≡ other_builtin w env
others_keyed k env word.Id = refl
others_keyed k env word.Count = refl
others_keyed k env word.Round = refl
others_keyed k env word.InDeg = refl
others_keyed k env word.OutDeg = refl
others_keyed k env word.Active = refl
others_keyed k env word.Weight = refl

names_keyed : (k : ℕ) (env : Env) (w : What) → named w (keyed k env) ≡ named w env
names_keyed k env what.Unread = refl
names_keyed k env (what.Field i) = refl
names_keyed k env (what.Slot i) = refl
names_keyed k env (what.Local i) = refl
names_keyed k env (what.Send i) = refl
names_keyed k env (what.Total i) = refl

slots_keyed : (k : ℕ) (env : Env) (w : What) → slot_value w (keyed k env) ≡ slot_value w env
slots_keyed k env what.Unread = refl
slots_keyed k env (what.Field i) = refl
slots_keyed k env (what.Slot i) = refl
slots_keyed k env (what.Local i) = refl
slots_keyed k env (what.Send i) = refl
slots_keyed k env (what.Total i) = refl

fields_keyed : (k : ℕ) (env : Env) (w : What) → other_field w (keyed k env) ≡ other_field w env
fields_keyed k env what.Unread = refl
fields_keyed k env (what.Field i) = refl
fields_keyed k env (what.Slot i) = refl
fields_keyed k env (what.Local i) = refl
fields_keyed k env (what.Send i) = refl
fields_keyed k env (what.Total i) = refl

leaves_keyed : (k : ℕ) (env : Env) → SameLeaves Any in_tests env (keyed k env)
leaves_keyed k env = record {
  words = λ w h. words_keyed k env w;
  names = names_keyed k env;
  slots = λ h. slots_keyed k env;
  fields = λ h. fields_keyed k env;
  others = λ w h. others_keyed k env w;
  draws = λ h at tag. refl;
}

pub value_keyed : ValuesAtAnyKey
value_keyed e a b h =
    ap (value_of e) h ∙ node_same Any in_tests (λ t u h. tt) (λ t u h. tt) a (keyed b.key a)
    (leaves_keyed b.key a) e.node tt

target_keyed : (w : What) (op : AssignOp) (x : ℤ) (a : Env) (k : ℕ) →
    SameButKey (with_target w op x a) (with_target w op x (keyed k a))
target_keyed what.Unread op x a k = refl
target_keyed (what.Field i) op x a k = refl
target_keyed (what.Slot i) op x a k = refl
target_keyed (what.Local i) op x a k = refl
target_keyed (what.Send i) op x a k = refl
target_keyed (what.Total i) op x a k = refl

key_blind : IsBlind SameButKey Any in_tests
key_blind = record {
  left = λ t u h. tt;
  right = λ t u h. tt;
  values = λ e h a b k. value_keyed e a b k;
  targets = λ w op x a b k. subst (λ c. SameButKey (with_target w op x a) (with_target w op x c)) (sym k)
      (target_keyed w op x a b.key);
  flags = λ x a b k. ap (λ c. let left : Env = record c { next_active = x } in left) k;
}

alike : (R : Env → Env → Type 0) (x y : Ran) → SameRun R x y → AlikeRuns R x y
alike R x y p = record { env = p.env; emitted = p.emitted; reads = p.reads; flow = p.flow }

pub run_keyed : RunsAtAnyKey
run_keyed body a b h =
    alike SameButKey (run body a) (run body b) (run_same SameButKey Any in_tests key_blind body tt a b h)

pub lets_keyed : LetsAtAnyKey
lets_keyed [] a b h = h
lets_keyed (d ∷ ds) a b h =
    lets_keyed ds _ _ (subst
    (λ c. SameButKey (record a { locals = record { items = a.locals.items ++ value_of d.value a ∷ [] } })
    (record c { locals = record { items = c.locals.items ++ value_of d.value c ∷ [] } })) (sym h)
    (ap (λ x. let left : Env = record (keyed b.key a) { locals = record { items = a.locals.items ++ x ∷ [] } } in left)
    (value_keyed d.value a (keyed b.key a) refl)))

-- runs that are alike, one after another
alike_after : (R : Env → Env → Type 0) (x y z w : Ran) → AlikeRuns R x y → AlikeRuns R z w →
    AlikeRuns R (after x z) (after y w)
alike_after R x y z w p q = record {
  env = q.env;
  emitted = ap (λ es. es ++ w.emitted) p.emitted ∙ ap (λ es. x.emitted ++ es) q.emitted;
  reads = ap (λ us. us ++ w.reads) p.reads ∙ ap (λ us. x.reads ++ us) q.reads;
  flow = q.flow;
}

alike_by_flow : (flow : Flow) (R : Env → Env → Type 0) (x y z w : Ran) → AlikeRuns R x y → AlikeRuns R z w →
    AlikeRuns R (by_flow flow x (after x z)) (by_flow flow y (after y w))
alike_by_flow Broke R x y z w p q = p
alike_by_flow Going R x y z w p q = alike_after R x y z w p q

alike_followed : (R : Env → Env → Type 0) (x y : Ran) (f : Act) → ((a b : Env) → R a b → AlikeRuns R (f a) (f b)) →
    AlikeRuns R x y → AlikeRuns R (followed_by x f) (followed_by y f)
alike_followed R x y f q p =
    subst (λ flow. AlikeRuns R (followed_by x f) (by_flow flow y (after y (f y.env)))) (sym p.flow)
    (alike_by_flow x.flow R x y (f x.env) (f y.env) p (q x.env y.env p.env))

pub loop_keyed : LoopsAtAnyKey
loop_keyed s body [] a b h = record { env = h; emitted = refl; reads = refl; flow = refl }
loop_keyed s body (e ∷ es) a b h =
    alike_followed SameButKey (member_act s body e a) (member_act s body e b) (loop s body es) (loop_keyed s body es)
    (at_one (run_keyed body (at_member s e a) (at_member s e b) (ap (at_member s e) h)))
  where
    at_one : AlikeRuns SameButKey (run body (at_member s e a)) (run body (at_member s e b)) →
        AlikeRuns SameButKey (member_act s body e a) (member_act s body e b)
    at_one p = record { env = p.env; emitted = p.emitted; reads = ap (λ us. source e ∷ us) p.reads; flow = p.flow }

block_keyed : (s : Scene) (d : Dense) (members : List Edge) (a b : Env) → SameButKey a b →
    AlikeRuns SameButKey (dense_block s d members a) (dense_block s d members b)
block_keyed s d members a b h =
    let x = loop s d.body.items members (with_lets d.lets.items a) in
    let y = loop s d.body.items members (with_lets d.lets.items b) in
    let looped = loop_keyed s d.body.items members (with_lets d.lets.items a) (with_lets d.lets.items b)
    (lets_keyed d.lets.items a b h) in
    alike_after SameButKey x y (run d.tail.items x.env) (run d.tail.items y.env) looped
    (run_keyed d.tail.items x.env y.env looped.env)

pub dense_keyed : DenseAtAnyKey
dense_keyed s d members a b h =
    subst (λ v. AlikeRuns SameButKey (dense_at s d members a)
    (if is_set v then dense_block s d members b else leaves b)) (sym (value_keyed d.when_test a b h))
    (by (is_set (value_of d.when_test a)))
  where
    by : (t : Bool) → AlikeRuns SameButKey (if t then dense_block s d members a else leaves a)
        (if t then dense_block s d members b else leaves b)
    by true = block_keyed s d members a b h
    by false = record { env = h; emitted = refl; reads = refl; flow = refl }

received_keyed : (s : Scene) (ops : List Combine) (sparse : Sparse) (a b : Env) → SameButKey a b → (e : Edge) →
    emitted_over s ops sparse b e ≡ emitted_over s ops sparse a e
received_keyed s ops sparse a b h e =
    let sender = sender_at s ops (source e) in
    let sent : Env → Env = λ env. record (at_member s e env) { sends = record { items = sent_by sparse sender } } in
    ap (λ es. if sender.row.active && is_set (value_of sparse.when_test sender) then es else [])
    (run_keyed sparse.body.items (sent a) (sent b) (ap sent h)).emitted

emitted_keyed : (s : Scene) (ops : List Combine) (sparse : Sparse) (a b : Env) → SameButKey a b →
    (members : List Edge) →
    flat_map (emitted_over s ops sparse b) members ≡ flat_map (emitted_over s ops sparse a) members
emitted_keyed s ops sparse a b h [] = refl
emitted_keyed s ops sparse a b h (e ∷ es) =
    ap (λ l. l ++ flat_map (emitted_over s ops sparse b) es) (received_keyed s ops sparse a b h e)
    ∙ ap (λ l. emitted_over s ops sparse a e ++ l) (emitted_keyed s ops sparse a b h es)

pub sparse_keyed : SparseAtAnyKey
sparse_keyed s ops sparse members a b h =
    record { env = h; emitted = emitted_keyed s ops sparse a b h members; reads = refl; flow = refl }

-- ---- the stop test at another vertex
abbrev elsewhere : Env → Env → Env
elsewhere b a = record
    a { id = b.id; indeg = b.indeg; outdeg = b.outdeg; draws = b.draws; other = b.other; other_row = b.other_row }

words_elsewhere : (b a : Env) (w : Builtin) → IsTrue (word_read in_stop w) → builtin w (elsewhere b a) ≡ builtin w a
words_elsewhere b a word.Id h = cc
words_elsewhere b a word.Count h = refl
words_elsewhere b a word.Round h = refl
words_elsewhere b a word.InDeg h = cc
words_elsewhere b a word.OutDeg h = cc
words_elsewhere b a word.Active h = cc
words_elsewhere b a word.Weight h = cc

names_elsewhere : (b a : Env) (w : What) → named w (elsewhere b a) ≡ named w a
names_elsewhere b a what.Unread = refl
names_elsewhere b a (what.Field i) = refl
names_elsewhere b a (what.Slot i) = refl
names_elsewhere b a (what.Local i) = refl
names_elsewhere b a (what.Send i) = refl
names_elsewhere b a (what.Total i) = refl

leaves_elsewhere : (b a : Env) → SameLeaves IsTrue in_stop a (elsewhere b a)
leaves_elsewhere b a = record {
  words = words_elsewhere b a;
  names = names_elsewhere b a;
  slots = λ h. absurd (false_holds h);
  fields = λ h. absurd (false_holds h);
  others = λ w h. absurd (false_holds h);
  draws = λ h at tag. absurd (false_holds h);
}
  where
    false_holds : IsTrue false → ⊥
    false_holds h = cc

pub stop_anywhere : StopsAnywhere
stop_anywhere e h a b k =
    ap (value_of e) k
    ∙ node_same IsTrue in_stop (λ t u r. (and_parts t u r).0) (λ t u r. (and_parts t u r).1) a (elsewhere b a)
    (leaves_elsewhere b a) e.node h

-- ---- a sparse body at another neighbour with the same weight
abbrev beside : Neighbour → Row → Env → Env
beside o row env = record env { other = o; other_row = row }

words_beside : (o : Neighbour) (row : Row) (env : Env) → o.weight ≡ env.other.weight → (w : Builtin) →
    builtin w (beside o row env) ≡ builtin w env
words_beside o row env same word.Id = refl
words_beside o row env same word.Count = refl
words_beside o row env same word.Round = refl
words_beside o row env same word.InDeg = refl
words_beside o row env same word.OutDeg = refl
words_beside o row env same word.Active = refl
words_beside o row env same word.Weight = same

names_beside : (o : Neighbour) (row : Row) (env : Env) (w : What) → named w (beside o row env) ≡ named w env
names_beside o row env what.Unread = refl
names_beside o row env (what.Field i) = refl
names_beside o row env (what.Slot i) = refl
names_beside o row env (what.Local i) = refl
names_beside o row env (what.Send i) = refl
names_beside o row env (what.Total i) = refl

leaves_beside : (o : Neighbour) (row : Row) (env : Env) → o.weight ≡ env.other.weight →
    SameLeaves IsTrue in_sparse env (beside o row env)
leaves_beside o row env same = record {
  words = λ w h. words_beside o row env same w;
  names = names_beside o row env;
  slots = λ h. absurd (false_holds h);
  fields = λ h. absurd (false_holds h);
  others = λ w h. absurd (false_holds h);
  draws = λ h at tag. refl;
}
  where
    false_holds : IsTrue false → ⊥
    false_holds h = cc

target_beside : (w : What) (op : AssignOp) (x : ℤ) (a : Env) (o : Neighbour) (row : Row) → o.weight ≡ a.other.weight →
    SameWeight (with_target w op x a) (with_target w op x (beside o row a))
target_beside what.Unread op x a o row same = record { rest = refl; weight = same }
target_beside (what.Field i) op x a o row same = record { rest = refl; weight = same }
target_beside (what.Slot i) op x a o row same = record { rest = refl; weight = same }
target_beside (what.Local i) op x a o row same = record { rest = refl; weight = same }
target_beside (what.Send i) op x a o row same = record { rest = refl; weight = same }
target_beside (what.Total i) op x a o row same = record { rest = refl; weight = same }

weight_blind : IsBlind SameWeight IsTrue in_sparse
weight_blind = record {
  left = λ t u h. (and_parts t u h).0;
  right = λ t u h. (and_parts t u h).1;
  values = λ e h a b k. ap (value_of e) k.rest
      ∙ node_same IsTrue in_sparse (λ t u r. (and_parts t u r).0) (λ t u r. (and_parts t u r).1) a
      (beside b.other b.other_row a) (leaves_beside b.other b.other_row a k.weight) e.node h;
  targets = λ w op x a b k. subst (λ c. SameWeight (with_target w op x a) (with_target w op x c)) (sym k.rest)
      (target_beside w op x a b.other b.other_row k.weight);
  flags = λ x a b k. record {
    rest = ap
        (λ c. let left : Env = record c { next_active = x } in left) k.rest;
    weight = k.weight;
  };
}

pub sparse_anywhere : SparseAtAnyNeighbour
sparse_anywhere body h a b k =
    alike SameWeight (run body a) (run body b) (run_same SameWeight IsTrue in_sparse weight_blind body h a b k)

-- ---- tests and a tail at another neighbour
pub test_anywhere : TestsAtAnyNeighbour
test_anywhere e h a b k = tests_blind.values e h a b k

pub tail_anywhere : TailsAtAnyNeighbour
tail_anywhere body h a b k = alike SameButNeighbour (run body a) (run body b) (run_blind body h a b k)
