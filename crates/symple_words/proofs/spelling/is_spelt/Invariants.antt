use Rattle.std.proofs.Common.{◌≤◌, drop}
use Rattle.symple_words.specs.Spelling.{nothing_read, read_from}
use Rattle.symple_words.specs.Views.{form_of, tally_view, words_of}
use Rattle.symple_words.proofs.TallyLaws.{Reads}
use Rattle.symple_words.proofs.spelling.is_spelt.Given as goal

abbrev pub invariant-loop-word : goal.invariant-loop-word
invariant-loop-word l = record {
  reads : Reads (form_of l.form) (tally_view l.tally) (words_of (drop l.word-index l.words))
      (read_from (form_of l.form) nothing_read (words_of l.words));
  count : l.tally.count ≤ l.word-index;
}
