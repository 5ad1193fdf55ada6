use Rattle.std.proofs.Common.{Ok, slice_get}
use Rattle.array_text.specs.Writes.{Writes}
use Rattle.machine_runs.specs.PlainPlays.{lines_to}
use Rattle.machine_runs.proofs.table.write_rows.Given as goal

-- the lines of the vertices so far are written
abbrev pub invariant-vertices : goal.invariant-vertices
invariant-vertices g l = Writes g.O.Sink.held g.O.Sink.faults g.O.Sink.spare l.fn.out l.out
    (lines_to g.S.Site.work l.cluster.world l.v (slice_get l.cluster.world.sites 0)) (Ok tt)
