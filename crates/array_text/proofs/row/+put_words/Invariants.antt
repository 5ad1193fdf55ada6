use Rattle.std.proofs.Common.{length}
use Rattle.array_text.proofs.row.+put_words.Given as goal

-- the fields that are left
abbrev pub decreases-put_words : goal.decreases-put_words
decreases-put_words g l = length l.fields.now
