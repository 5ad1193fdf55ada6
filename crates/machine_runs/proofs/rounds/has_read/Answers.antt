use Rattle.std.proofs.Common.{◌≡◌, ◌<◌, ◌≤◌, length, ap, ◌∙◌, arith}
use Rattle.circulant_plan.specs.Ring.{order_of}
use Rattle.machine_runs.proofs.ReadTurns.{read_none, read_none_more, read_some, read_there}
use Rattle.machine_runs.proofs.rounds.has_read.Goals as goal

pub returns-then-not-is_empty : goal.returns-then-not-is_empty
returns-then-not-is_empty g c =
    let w = c.args.cluster.now.world in
    let chunk = c.args.chunk in
    let v = c.args.v.0 in
    let step = c.steps.step in
    let lt : step < length w.sites = omega (arith, c.machines-machines.ensures.count, c.steps-test.true) in
    let turn : c.order.result ≡ order_of chunk step (length w.sites) =
    c.order.ensures ∙ ap (order_of chunk step) c.machines-machines.ensures.count in
    let is = read_there g.S.Site.work w chunk v step c.order.result _ c.reads.result.now turn c.site.ensures
    c.reads.ensures in
    read_some g.S.Site.work w chunk v step c.reads.result.now lt is (search (
      arith,
      c.is_empty.ensures,
      c.if-not-is_empty.true,
    ))

pub steps-preserved : goal.steps-preserved
steps-preserved g c =
    let w = c.args.cluster.now.world in
    let chunk = c.args.chunk in
    let v = c.args.v.0 in
    let step = c.steps.step in
    let lt : step < length w.sites = omega (arith, c.machines-machines.ensures.count, c.steps-test.true) in
    let turn : c.order.result ≡ order_of chunk step (length w.sites) =
    c.order.ensures ∙ ap (order_of chunk step) c.machines-machines.ensures.count in
    let is = read_there g.S.Site.work w chunk v step c.order.result _ c.reads.result.now turn c.site.ensures
    c.reads.ensures in
    read_none_more g.S.Site.work w chunk v step c.reads.result.now lt is (search (
      arith,
      c.is_empty.ensures,
      c.if-not-is_empty.false,
    ))
    c.steps.invariant

pub returns : goal.returns
returns g c =
    let w = c.args.cluster.now.world in
    let all : length w.sites ≤ c.steps.step =
    omega (arith, c.machines-machines.ensures.count, c.steps-test.false) in
    read_none g.S.Site.work w c.args.chunk c.args.v.0 c.steps.step all c.steps.invariant
