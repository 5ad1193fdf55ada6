use Rattle.std.proofs.Common.{ap, arith}
use Rattle.vert_eval.specs.SourceRun.{active_vertices}
use Rattle.std.proofs.lemmas.List.Sums.{length-filter, count_by-le-length}
use Rattle.plain_run.proofs.standing.standing_after.Goals as goal

pub ruling_after-ruling-requires-clause-active : goal.ruling_after-ruling-requires-clause-active
ruling_after-ruling-requires-clause-active c =
    omega (
      arith,
      c.active_vertices-active.ensures,
      ap active_vertices c.deref-2.ensures.value,
      length-filter (λ r. r.active) c.args.rows.items,
      count_by-le-length (λ r. r.active) c.args.rows.items,
      c.requires.rows.each,
    )
