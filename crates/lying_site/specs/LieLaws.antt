-- A machine that lies about its rows keeps what every kind of machine keeps.
use Rattle.std.specs.Prelude.{◌≡◌, zero, suc, ℤ, pos, List, [], ◌∷◌, Option, Some, None, ⊤, length, slice_set}
use Rattle.std.specs.Int.{int_wrap, w64}
use Rattle.std.proofs.Common.{refl, subst, ◌∙◌}
use Rattle.std.proofs.lemmas.Int.{SFits-int_wrap}
use Rattle.vert_base.specs.declared.value.Row.{Row}
use Rattle.vert_base.specs.declared.value.ValueType.{ValueType}
use Rattle.vert_base.specs.declared.value.ValueType.TheVariants as kind
use Rattle.vert_tree.specs.Kinds.{kinds_of}
use Rattle.word_kinds.specs.Fits.{AreWords, IsRow, IsWord}
use Rattle.symple_face.specs.Lawful.{IsLawful}
use Rattle.symple_face.specs.Restarts.{IsRestartLawful}
use Rattle.symple_face.specs.State.{State}
use Rattle.symple_face.specs.Work.{Work}
use Rattle.lying_site.specs.Lies.{lying_row, lying_work}

-- ---- a row with the lie in it is still of the types of its fields
abbrev IsLieOf : Option ValueType → Type 0
IsLieOf None = ⊤
IsLieOf (Some kind) = IsWord kind (pos 77)

number_fits : IsWord kind.Int (pos 77)
unfolding int_wrap
number_fits = record { fits = SFits-int_wrap w64 (pos 77); truth = tt }

set_first : (kinds : List ValueType) (words : List ℤ) → AreWords (kind.Int ∷ kinds) words →
    AreWords (kind.Int ∷ kinds) (slice_set words 0 (pos 77))
set_first kinds [] are i t e = are i t e
set_first kinds (x ∷ xs) are zero t e = subst IsLieOf e number_fits
set_first kinds (x ∷ xs) are (suc i) t e = are (suc i) t e

set_count : (words : List ℤ) → length (slice_set words 0 (pos 77)) ≡ length words
set_count [] = refl
set_count (x ∷ xs) = refl

lying_typed : (kinds : List ValueType) (row : Row) → IsRow kinds row → IsRow kinds (lying_row kinds row)
lying_typed [] row is = is
lying_typed (kind.Int ∷ kinds) row is = record {
  count = set_count row.words.items ∙ is.count;
  words = set_first kinds row.words.items is.words;
}
lying_typed (kind.Bool ∷ kinds) row is = is

-- ---- what it keeps
pub lies_lawful : (work : Work) (sound : State → Type 0) → IsLawful work sound → IsLawful (lying_work work) sound
lies_lawful work sound laws = record {
  first_part = laws.first_part;
  first_split = laws.first_split;
  first_at = laws.first_at;
  first_held = laws.first_held;
  first_sound = laws.first_sound;
  go_part = laws.go_part;
  go_split = laws.go_split;
  go_at = laws.go_at;
  go_held = laws.go_held;
  go_ruling = laws.go_ruling;
  go_sound = laws.go_sound;
  sent_names = laws.sent_names;
  sent_fit = laws.sent_fit;
  sent_rulings = laws.sent_rulings;
  judge_may = laws.judge_may;
  take_part = laws.take_part;
  take_split = laws.take_split;
  take_at = laws.take_at;
  take_held = laws.take_held;
  take_verdict = laws.take_verdict;
  take_other = laws.take_other;
  take_sound = laws.take_sound;
  row_typed = λ s v is own. lying_typed (kinds_of s.split.program.program.fields.items) (work.row s v)
      (laws.row_typed s v is own);
  report_small = laws.report_small;
}

pub lies_restart : (work : Work) (sound : State → Type 0) → IsRestartLawful work sound →
    IsRestartLawful (lying_work work) sound
lies_restart work sound laws = record {
  begins = laws.begins;
  begins_sound = laws.begins_sound;
  ahead_there = laws.ahead_there;
  ahead_round = laws.ahead_round;
  ahead_ruling = laws.ahead_ruling;
}
