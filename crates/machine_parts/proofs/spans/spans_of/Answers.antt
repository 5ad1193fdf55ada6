-- The spans so far are those of the edges before the place.
use Rattle.std.proofs.Common.{◌+◌, ap, refl, ◌∙◌, arith}
use Rattle.std.specs.Prelude.{◌==◌}
use Rattle.std.specs.List.{prefix_len}
use Rattle.graph_table.specs.Sides.{key_of}
use Rattle.machine_parts.proofs.SpanLaws.{run_fits, spanning_all, spanning_more, spanning_none}
use Rattle.machine_parts.proofs.spans.spans_of.Goals as goal

pub spans-init : goal.spans-init
spans-init c = spanning_none (key_of c.args.side) c.args.edges.now c.new-spans.result.items c.new-spans.ensures.items

pub overflow_add-end : goal.overflow_add-end
overflow_add-end c =
    let fits = run_fits (key_of c.args.side) c.args.edges.now c.split_at.result.1.now c.spans.start
    c.run_len-len.result
    c.end_of-vertex.result _ c.spans-test.true c.end_of-vertex.ensures c.split_at.ensures.back c.run_len-len.ensures
    in
    omega (arith, fits.0, c.requires.few)

pub overflow_cast-end : goal.overflow_cast-end
overflow_cast-end c =
    let fits = run_fits (key_of c.args.side) c.args.edges.now c.split_at.result.1.now c.spans.start
    c.run_len-len.result
    c.end_of-vertex.result _ c.spans-test.true c.end_of-vertex.ensures c.split_at.ensures.back c.run_len-len.ensures
    in
    omega (arith, fits.0, c.requires.few)

pub spans-smaller : goal.spans-smaller
spans-smaller c =
    let fits = run_fits (key_of c.args.side) c.args.edges.now c.split_at.result.1.now c.spans.start
    c.run_len-len.result
    c.end_of-vertex.result _ c.spans-test.true c.end_of-vertex.ensures c.split_at.ensures.back c.run_len-len.ensures
    in
    omega (arith, fits.0, fits.1)

pub spans-preserved : goal.spans-preserved
spans-preserved c =
    let start = c.spans.start in
    let stop = ap (λ n. start + n) (c.run_len-len.ensures ∙ ap
    (prefix_len (λ e. key_of c.args.side e == c.end_of-vertex.result)) c.split_at.ensures.back) in
    spanning_more (key_of c.args.side) c.args.edges.now c.spans.start _ c.end_of-vertex.result _
    c.spans.spans.items _ _
    c.requires.order c.spans-test.true c.end_of-vertex.ensures stop refl c.in_ok-push.ensures.items
    c.spans.invariant

pub returns : goal.returns
returns c = λ n below. spanning_all (key_of c.args.side) c.args.edges.now c.spans.start n c.spans.spans.items
    c.spans-test.false below c.spans.invariant
