use Rattle.std.proofs.Common.{◌≡◌, ◌<◌, ◌≤◌, length, ap, ◌∙◌, arith}
use Rattle.std.specs.List.{range_with_len}
use Rattle.array_text.specs.Reads.{sources_text}
use Rattle.array_text.proofs.WritesLaws.{writes_same}
use Rattle.circulant_plan.specs.Ring.{order_of}
use Rattle.machine_runs.proofs.ReadTurns.{read_there, step_text, steps_text}
use Rattle.command_steps.proofs.TextLaws.{all_numbers, all_put, below_numbers, number_at, one_failed, one_more}
use Rattle.machine_runs.proofs.rounds.write_sources.Goals as goal

pub returns-in_err-write_reads : goal.returns-in_err-write_reads
returns-in_err-write_reads g c =
    let w = c.args.cluster.now.world in
    let work = g.S.Site.work in
    let chunk = c.args.chunk in
    let v = c.args.v.0 in
    let step = c.steps.step in
    let n = length w.sites in
    let lt : step < n = omega (arith, c.machines-machines.ensures.count, c.steps-test.true) in
    let turn : c.order.result ≡ order_of chunk step n =
    c.order.ensures ∙ ap (order_of chunk step) c.machines-machines.ensures.count in
    let is = read_there work w chunk v step c.order.result _ c.reads.result.now turn c.site.ensures c.reads.ensures in
    writes_same (steps_text work w chunk v (range_with_len 0 n))
    (one_failed (step_text work w chunk v) (range_with_len 0 n) step 0 (below_numbers n step lt)
    (ap sources_text is ∙ ap (step_text work w chunk v) (number_at n step lt)) c.steps.invariant
    c.from_residual.result c.from_residual.ensures.0 c.in_err-write_reads.ensures)

pub steps-preserved : goal.steps-preserved
steps-preserved g c =
    let w = c.args.cluster.now.world in
    let work = g.S.Site.work in
    let chunk = c.args.chunk in
    let v = c.args.v.0 in
    let step = c.steps.step in
    let n = length w.sites in
    let lt : step < n = omega (arith, c.machines-machines.ensures.count, c.steps-test.true) in
    let turn : c.order.result ≡ order_of chunk step n =
    c.order.ensures ∙ ap (order_of chunk step) c.machines-machines.ensures.count in
    let is = read_there work w chunk v step c.order.result _ c.reads.result.now turn c.site.ensures c.reads.ensures in
    one_more (step_text work w chunk v) (range_with_len 0 n) step 0 (below_numbers n step lt)
    (ap sources_text is ∙ ap (step_text work w chunk v) (number_at n step lt)) c.steps.invariant
    c.in_ok-write_reads.ensures

pub returns : goal.returns
returns g c =
    let w = c.args.cluster.now.world in
    let work = g.S.Site.work in
    let chunk = c.args.chunk in
    let v = c.args.v.0 in
    let n = length w.sites in
    let all : n ≤ c.steps.step = omega (arith, c.machines-machines.ensures.count, c.steps-test.false) in
    writes_same (steps_text work w chunk v (range_with_len 0 n))
    (all_put (step_text work w chunk v) (range_with_len 0 n) c.steps.step (all_numbers n c.steps.step all)
    c.steps.invariant)
