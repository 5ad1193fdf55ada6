-- The states so far are read, the bytes of those that are left stand, and these are fresh.
use Rattle.std.proofs.Common.{◌≡◌, ◌≤◌, ◌<◌, ℕ, ◌++◌, length, take, drop}
use Rattle.dep_layout.specs.Judgement.{pairs_in}
use Rattle.dep_layout.specs.Reading.{states_in}
use Rattle.machine_parts.specs.Flat.{fresh_state, state_at}
use Rattle.machine_parts.proofs.ring_half.read_states.Given as goal

abbrev pub invariant-states : goal.invariant-states
invariant-states l = record {
  width : l.half.width ≡ l.initial.half.width;
  count : length l.half.states ≡ length l.initial.half.states;
  fresh : (k : ℕ) → l.place ≤ k → k < length l.initial.half.states
      → state_at l.half.states k ≡ fresh_state l.initial.half.width;
  whole : take l.place l.half.states ++ states_in l.initial.half.width
      (drop l.place (take (length l.initial.half.states) (pairs_in l.marks))) l.rest
      ≡ states_in l.initial.half.width (take (length l.initial.half.states) (pairs_in l.marks)) l.words;
}
