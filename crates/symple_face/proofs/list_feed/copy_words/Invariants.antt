-- The words so far are those that were read.
use Rattle.std.proofs.Common.{◌≡◌, take}
use Rattle.symple_face.proofs.list_feed.copy_words.Given as goal

abbrev pub invariant-loop-word : goal.invariant-loop-word
invariant-loop-word l = l.into.items ≡ take l.word-index l.word-items
