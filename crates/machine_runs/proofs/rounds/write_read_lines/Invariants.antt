use Rattle.std.proofs.Common.{Ok, map, take}
use Rattle.array_text.specs.Writes.{Writes}
use Rattle.schedule_laws.specs.Layout.{reads_in, vertices_in}
use Rattle.schedule_laws.specs.Texts.{read_lines}
use Rattle.machine_runs.proofs.rounds.write_read_lines.Given as goal

-- the lines of the vertices so far are written
abbrev pub invariant-vertices : goal.invariant-vertices
invariant-vertices g l = Writes g.O.Sink.held g.O.Sink.faults g.O.Sink.spare l.fn.out l.out
    (read_lines l.round 0 (take l.v (map (reads_in g.S.Site.work l.cluster.world) (vertices_in l.cluster.world))))
    (Ok tt)
