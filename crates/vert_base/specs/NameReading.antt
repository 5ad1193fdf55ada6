-- What the readers of names say of the parts of a text.
use Rattle.std.specs.Prelude.{ℕ, ◌==◌, ◌&&◌, ◌||◌, ◌<◌, Bool, if◌then◌else◌, List, [], ◌∷◌, ◌++◌, ⊤}
use Rattle.std.specs.Char.{digit_value}
use Rattle.vert_base.specs.declared.message.NameKind.{NameKind}
use Rattle.vert_base.specs.declared.message.NameKind.TheVariants.{Refresh, Dep, Update, Push, Tally, Verdict}
use Rattle.vert_base.specs.HeaderBytes.{has_steps}
use Rattle.vert_base.specs.NameTexts.{number_text}

-- no digit stands at the front
abbrev pub EndsNumber : List ℕ → Type 0
EndsNumber [] = ⊤
EndsNumber (byte ∷ bytes) = ¬ (digit_value byte < 10)

-- the first letter of a kind's word
abbrev pub letter_of : NameKind → ℕ
letter_of Refresh = 114
letter_of Dep = 100
letter_of Update = 117
letter_of Push = 112
letter_of Tally = 116
letter_of Verdict = 118

-- the step and the half of a kind that has them
abbrev pub steps_text : NameKind → ℕ → ℕ → List ℕ
steps_text kind step half = if has_steps kind then number_text step ++ number_text half else []

-- each is 0 where the kind has none
abbrev pub are_proper : NameKind → ℕ → ℕ → Bool
are_proper kind step half = has_steps kind || (step == 0 && half == 0)
