-- The edges of one vertex more.
use Rattle.std.proofs.Common.{◌+◌, ap, sym, ◌∙◌, arith}
use Rattle.machine_parts.specs.Counting.{edges_at}
use Rattle.machine_parts.proofs.CountLaws.{edges_here, sum_more}
use Rattle.machine_parts.proofs.counting.edges_ahead.Goals as goal

pub places-preserved : goal.places-preserved
places-preserved c =
    let rows = c.args.rows.now.rows in
    let degrees = c.args.degrees.now in
    let here = edges_here rows degrees c.places.place c.edges_if-edges.result _ c.is_active.result c.places-test.true
    c.edges_if-edges.ensures.value c.is_active.ensures in
    record {
      edges = ap (λ n. n + c.edges_if-edges.result) c.places.invariant.edges
          ∙ sym (sum_more (edges_at rows degrees) c.places.place c.edges_if-edges.result here);
      few = omega (arith, c.places.invariant.few, c.edges_if-edges.ensures.small);
    }
