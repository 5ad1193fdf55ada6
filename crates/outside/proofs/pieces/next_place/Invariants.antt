use Rattle.std.proofs.Common.{◌≡◌, ◌-◌, ℕ, length}
use Rattle.outside.specs.Pieces.{first_bytes, without_first, contents, unread}
use Rattle.outside.proofs.pieces.next_place.Given as goal

abbrev pub invariant-loop-at : goal.invariant-loop-at
invariant-loop-at l = record {
  bytes : (size : ℕ) → first_bytes size (unread l.at l.given (contents l.pieces))
      ≡ first_bytes size (unread l.initial.at l.initial.given (contents l.pieces));
  rest : (size : ℕ) → without_first size (unread l.at l.given (contents l.pieces))
      ≡ without_first size (unread l.initial.at l.initial.given (contents l.pieces));
}

abbrev pub decreases-loop-at : goal.decreases-loop-at
decreases-loop-at l = length l.pieces - l.at
