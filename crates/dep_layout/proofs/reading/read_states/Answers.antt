use Rattle.std.proofs.Common.{◌≡◌, ◌+◌, ◌*◌, ◌<◌, ◌≤◌, ◌++◌, ℕ, List, length, get_or, map, take, drop, sym, ap, subst, ◌∙◌, arith}
use Rattle.std.proofs.lemmas.List.{get_or-take, map_push}
use Rattle.dep_layout.specs.Judgement.{pairs_in, started}
use Rattle.dep_layout.specs.Reading.{mark_with, state_with, states_in, words_behind}
use Rattle.dep_layout.specs.States.{state_of, states_of}
use Rattle.dep_layout.proofs.LoopLaws.{length-front, room_for, state_step}
use Rattle.dep_layout.proofs.reading.read_states.Goals as goal

pub loop-vertex-preserved : goal.loop-vertex-preserved
loop-vertex-preserved g c =
    let n = c.args.vertices in
    let i = c.loop-vertex.vertex in
    let rest = c.loop-vertex.rest.now in
    let behind = c.read_state-state.result.1.now in
    let state = c.read_state-state.result.0 in
    let pairs = take n (pairs_in c.args.marks.now) in
    let within : c.loop-vertex.vertex < length (take c.args.vertices (pairs_in c.args.marks.now)) =
    omega (arith, length-front n c.args.marks.now c.requires.marked) in
    let pair : c.mark_with.result ≡ mark_with
    (get_or (take c.args.vertices (pairs_in c.args.marks.now)) c.loop-vertex.vertex 0) =
    c.mark_with.ensures ∙ ap mark_with (c.pair_at.ensures
    ∙ sym (get_or-take n (pairs_in c.args.marks.now) i 0 c.loop-vertex-test.true)) in
    let one = c.read_state-state.ensures.state ∙ ap (λ mark. state_with g.row.W mark rest) pair in
    let left = c.read_state-state.ensures.rest ∙ ap (λ mark. words_behind g.row.W mark rest) pair in
    let P : List ℕ → Type 0 = λ words. 8 * g.row.W * started (drop (i + 1) pairs) ≤ length words in
    record {
      room = subst P (sym left) (room_for g.row.W pairs i rest within c.loop-vertex.invariant.room).1;
      whole = ap (λ items. map state_of items ++ states_in g.row.W (drop (i + 1) pairs) behind)
          c.in_ok-push.ensures.items
          ∙ ap (λ states. states ++ states_in g.row.W (drop (i + 1) pairs) behind)
          (map_push state_of c.loop-vertex.states.items state)
          ∙ state_step g.row.W pairs i (states_of c.loop-vertex.states.items) (state_of state) rest behind _ within
          one left c.loop-vertex.invariant.whole;
    }
