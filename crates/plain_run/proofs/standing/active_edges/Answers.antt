use Rattle.std.proofs.Common.{◌+◌, ◌<◌, length, get_or, arith}
use Rattle.std.proofs.lemmas.List.{get_or_default}
use Rattle.vert_eval.specs.Rounds.{empty_row}
use Rattle.plain_run.proofs.ActiveLaws.{active_sum-le, active_sum-off, active_sum-on}
use Rattle.plain_run.proofs.standing.active_edges.Goals as goal
use Rattle.plain_run.proofs.standing.active_edges.Goals.{then-rows-v, else-rows-v}

pub overflow_add-edges : goal.overflow_add-edges
overflow_add-edges c =
    let g = c.args.graph.now in
    let rows = c.args.rows.now in
    let v = c.loop-v.v in
    let lt : v < length rows = omega (arith, c.requires) in
    let row = get_or rows v c.index-rows-v.result in
    let at = get_or_default rows v c.index-rows-v.result empty_row lt in
    let on = active_sum-on g rows v row at c.if-rows-v.true in
    omega (
      arith,
      c.loop-v.invariant,
      on,
      active_sum-le g rows (v + 1),
      c.from-edges.ensures,
      c.outdegree.ensures,
      c.edges-edges.ensures.value,
      c.edges-edges.ensures.within,
    )

pub loop-v-preserved : goal.loop-v-preserved
loop-v-preserved c =
    let g = c.args.graph.now in
    let rows = c.args.rows.now in
    let v = c.loop-v.v in
    let lt : v < length rows = omega (arith, c.requires) in
    let row = get_or rows v c.index-rows-v.result in
    let at = get_or_default rows v c.index-rows-v.result empty_row lt in
    elim c.if-rows-v.branch [
      | then-rows-v w ↦ omega (
        arith,
        w.edges-is,
        c.loop-v.invariant,
        active_sum-on g rows v row at w.if-rows-v.true,
        w.from-edges.ensures,
        w.outdegree.ensures,
      )
      | else-rows-v w ↦ omega (arith, w.edges-is, c.loop-v.invariant, active_sum-off g rows v row at w.if-rows-v.false)
    ]

pub returns-clause-few : goal.returns-clause-few
returns-clause-few c = omega (arith, c.loop-v.invariant, active_sum-le c.args.graph.now c.args.rows.now c.loop-v.v)
