-- What was read, of a reading.
use Rattle.symple_words.specs.Spelling.{Given, given_or_none}
use Rattle.symple_words.specs.Views.{form_of, words_of}
use Rattle.symple_words.specs.declared.reading.Reading.{Reading}

abbrev pub given_of : Reading → Given
given_of r = given_or_none (form_of r.form) (words_of r.words.now)
