use Rattle.std.proofs.Common.{◌≡◌, ◌≤◌, ◌<◌, ◌+◌, ◌∷◌, [], ◌∙◌, ap, sym, drop, sum, arith}
use Rattle.chunk_split.specs.Bounds.{cost_of, costs_of}
use Rattle.chunk_split.proofs.ReachLaws.{none_from, sum_step, values_from}
use Rattle.chunk_split.proofs.bounds.total.Goals as goal

pub loop-v-preserved : goal.loop-v-preserved
loop-v-preserved c =
    let t = c.args.table.now in
    let v = c.loop-v.v in
    let costs = costs_of c.args.machines t.vertices t.list in
    let lt : v < t.vertices = omega (arith, c.vertices-v-end.ensures.value, c.loop-v-test.true) in
    let here : drop v costs ≡ c.cost-sum.result ∷ drop (v + 1) costs =
    values_from (cost_of c.args.machines t.vertices t.list) t.vertices v lt
    ∙ ap (λ q. q ∷ drop (v + 1) costs) (sym c.cost-sum.ensures.value) in
    record {
      sum = omega (arith, c.loop-v.invariant.sum, sum_step c.cost-sum.result (drop v costs) (drop (v + 1) costs) here);
      small = omega (arith, c.loop-v.invariant.small, c.cost-sum.ensures.small);
    }

pub returns-clause-value : goal.returns-clause-value
returns-clause-value c =
    let t = c.args.table.now in
    let le : t.vertices ≤ c.loop-v.v = omega (arith, c.vertices-v-end.ensures.value, c.loop-v-test.false) in
    let none : drop c.loop-v.v (costs_of c.args.machines t.vertices t.list) ≡ [] =
    none_from (cost_of c.args.machines t.vertices t.list) t.vertices c.loop-v.v le in
    omega (arith, c.loop-v.invariant.sum, ap sum none)
