use Rattle.std.proofs.Common.{◌≡◌, ℕ, ◌<◌, ◌≤◌, ◌-◌, length, get_or, true}
use Rattle.vert_lex.specs.Tokens.{is_word}
use Rattle.vert_lex.proofs.length.word_length.Given as goal

abbrev pub invariant-bytes : goal.invariant-bytes
invariant-bytes l = record {
  in_range : l.n ≤ length l.text;
  all : (i : ℕ) → i < l.n →
      is_word (get_or l.text i 0) ≡ true;
}

abbrev pub decreases-bytes : goal.decreases-bytes
decreases-bytes l = length l.text - l.n
