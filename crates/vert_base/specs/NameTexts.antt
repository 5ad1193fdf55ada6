-- How the names of messages are spelled as text.
use Rattle.std.specs.Prelude.{◌≡◌, ◌<◌, ℕ, ◌^◌, ◌++◌, true, if◌then◌else◌, List, [], ◌∷◌, codes, decimal, flat_map}
use Rattle.vert_base.specs.declared.message.Name.{Name}
use Rattle.vert_base.specs.declared.message.NameKind.{NameKind}
use Rattle.vert_base.specs.declared.message.NameKind.TheVariants.{Refresh, Dep, Update, Push, Tally, Verdict}
use Rattle.vert_base.specs.HeaderBytes.{has_steps, is_proper}

abbrev pub kind_text : NameKind → List ℕ
kind_text Refresh = codes "refresh"
kind_text Dep = codes "dep"
kind_text Update = codes "update"
kind_text Push = codes "push"
kind_text Tally = codes "tally"
kind_text Verdict = codes "verdict"

-- a number in decimal behind a space, and so each of some numbers
abbrev pub number_text : ℕ → List ℕ
number_text number = codes " " ++ decimal number

abbrev pub numbers_text : List ℕ → List ℕ
numbers_text numbers = flat_map number_text numbers

-- the numbers behind the round: step and half where the kind has them, and both machines
abbrev pub numbers_behind : Name → List ℕ
numbers_behind x = if has_steps x.kind then x.step ∷ x.half ∷ x.from ∷ x.to ∷ [] else x.from ∷ x.to ∷ []

-- a whole name
abbrev pub name_text : Name → List ℕ
name_text x = kind_text x.kind ++ numbers_text (x.round ∷ numbers_behind x)

-- a name without its round
abbrev pub roundless_text : Name → List ℕ
roundless_text x = kind_text x.kind ++ numbers_text (numbers_behind x)

-- a name's numbers have their sizes, and a kind without step and half has 0 there
pub record IsName (x : Name) : Type 0 where
  pub proper : is_proper x ≡ true
  pub round : x.round < 2 ^ 32
  pub step : x.step < 256
  pub half : x.half < 256
  pub from : x.from < 256
  pub to : x.to < 256
