-- The states so far.
use Rattle.std.proofs.Common.{◌≡◌, ◌<◌, ◌≤◌, ◌+◌, ℕ, length}
use Rattle.machine_parts.specs.Flat.{state_at}
use Rattle.machine_steps.proofs.keeping.copy_states.Given as goal

abbrev pub invariant-states : goal.invariant-states
invariant-states l = record {
  width : l.into.width ≡ l.initial.into.width;
  size : length l.into.states ≡ length l.initial.into.states;
  before : (k : ℕ) → k < l.start → state_at l.into.states k ≡ state_at l.initial.into.states k;
  within : (k : ℕ) → k < l.i → state_at l.into.states (l.start + k) ≡ state_at l.from.states k;
  behind : (k : ℕ) → l.start + l.i ≤ k → state_at l.into.states k ≡ state_at l.initial.into.states k;
}
