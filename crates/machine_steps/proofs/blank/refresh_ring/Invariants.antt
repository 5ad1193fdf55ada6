-- The first states are fresh, and those that are left as they were.
use Rattle.std.proofs.Common.{◌≡◌}
use Rattle.machine_parts.specs.Flat.{fresh_state}
use Rattle.vertex_work.proofs.PassLaws.{passed}
use Rattle.machine_steps.proofs.blank.refresh_ring.Given as goal

abbrev pub invariant-places : goal.invariant-places
invariant-places l = record {
  states : l.ring.states ≡ passed (λ v. fresh_state l.width) 0 l.initial.ring.states l.place;
  width : l.ring.width ≡ l.width;
}
