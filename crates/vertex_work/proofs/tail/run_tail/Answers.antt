-- The tail runs where the test is true.
use Rattle.std.proofs.Common.{◌≡◌, true, ap, ◌∙◌, rules}
use Rattle.vert_tree.specs.Places.{Counts, expr_placed, lets_placed, round_counts}
use Rattle.vert_tree.proofs.TypedLaws.{dense_stands, few_lets}
use Rattle.vert_eval.specs.Values.{value_of}
use Rattle.vert_eval.specs.Words.{is_set}
use Rattle.vertex_work.proofs.TailLaws.{lets_stand, tail_names, tail_ran, test_placed}
use Rattle.vertex_work.proofs.tail.run_tail.Goals as goal

pub eval-requires-clause-names : goal.eval-requires-clause-names
eval-requires-clause-names c =
    let p = c.args.split.now.program.program in
    let d = c.args.dense.now in
    ap (λ k. expr_placed k d.when_test) c.requires.counts
    ∙ test_placed (round_counts p) d (dense_stands p c.args.split.now.program.typed d c.requires.block)

pub close_lets-requires-clause-few : goal.close_lets-requires-clause-few
close_lets-requires-clause-few c =
    let p = c.args.split.now.program.program in
    few_lets p c.args.split.now.program.typed c.args.dense.now c.requires.block

pub close_lets-requires-clause-names : goal.close_lets-requires-clause-names
close_lets-requires-clause-names c =
    let p = c.args.split.now.program.program in
    let d = c.args.dense.now in
    let bare : Counts → Counts = λ k. record k { locals = 0 } in
    ap (λ k. lets_placed (bare k) d.lets.items) c.requires.counts
    ∙ lets_stand (round_counts p) d (dense_stands p c.args.split.now.program.typed d c.requires.block)

pub step_block_over-requires-clause-names : goal.step_block_over-requires-clause-names
step_block_over-requires-clause-names c =
    tail_names c.args.split.now.program.program c.args.code.now c.args.dense.now c.requires.block c.requires.code
    c.args.env.now c.close_lets.new.env c.requires.counts c.close_lets.ensures.counts

pub returns-in-Some-clause-slots : goal.returns-in-Some-clause-slots
returns-in-Some-clause-slots c =
    let d = c.args.dense.now in
    let test : is_set (value_of d.when_test c.args.env.now) ≡ true = search rules in
    tail_ran c.args.split.now.program.program c.args.code.now d c.requires.block c.requires.code c.args.carried.now
    c.args.lets.now c.args.env.now c.close_lets.new.env c.args.emits.now.slots.items _ c.close_lets.ensures.env test
    c.step_block_over.ensures.emits
