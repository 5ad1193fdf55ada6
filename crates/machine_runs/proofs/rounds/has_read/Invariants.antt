use Rattle.std.proofs.Common.{◌≡◌, [], flat_map, length, take}
use Rattle.std.specs.List.{range_with_len}
use Rattle.machine_runs.proofs.ReadTurns.{read_in_step}
use Rattle.machine_runs.proofs.rounds.has_read.Given as goal

-- in the steps so far none was read
abbrev pub invariant-steps : goal.invariant-steps
invariant-steps g l =
    flat_map (read_in_step g.S.Site.work l.cluster.world l.chunk l.v.0)
    (take l.step (range_with_len 0 (length l.cluster.world.sites))) ≡ []
