use Rattle.std.proofs.Common.{Ok, flat_map, length, take}
use Rattle.std.specs.List.{range_with_len}
use Rattle.array_text.specs.Writes.{Writes}
use Rattle.machine_runs.proofs.ReadTurns.{step_text}
use Rattle.machine_runs.proofs.rounds.write_sources.Given as goal

-- the sources of the steps so far are written
abbrev pub invariant-steps : goal.invariant-steps
invariant-steps g l = Writes g.O.Sink.held g.O.Sink.faults g.O.Sink.spare l.fn.out l.out
    (flat_map (step_text g.S.Site.work l.cluster.world l.chunk l.v.0)
    (take l.step (range_with_len 0 (length l.cluster.world.sites)))) (Ok tt)
