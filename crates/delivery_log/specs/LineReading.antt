-- What the readers of lines say of the parts of a text.
use Rattle.std.specs.Prelude.{◌≡◌, ◌≢◌, ◌≤◌, ◌==◌, ℕ, Bool, List, ⊤}
use Rattle.std.specs.List.{AllByRecursion}
use Rattle.vert_base.specs.declared.message.Name.{Name}
use Rattle.delivery_log.specs.declared.form.Form.{Form}
use Rattle.delivery_log.specs.declared.form.Form.TheVariants.{Whole, Roundless}
use Rattle.delivery_log.specs.ScheduleTexts.{header_line, round_line, most_machines}

-- a line feed
abbrev pub is_line_end : ℕ → Bool
is_line_end byte = byte == 10

-- no line feed is among the bytes
abbrev pub IsLine : List ℕ → Type 0
IsLine bytes = AllByRecursion (λ byte. byte ≢ 10) bytes

-- the line is the first one of a form, with so many machines
pub record IsHeader (form : Form) (machines : ℕ) (line : List ℕ) : Type 0 where
  pub some : 1 ≤ machines
  pub few : machines ≤ most_machines form
  pub spelled : line ≡ header_line form machines

-- the line tells a round that isn't held
abbrev pub TellsRound : Form → ℕ → ℕ → List ℕ → Type 0
TellsRound Whole held round line = ⊥
TellsRound Roundless held round line = (round ≢ held) × (line ≡ round_line round)

-- a name without its round is of the round that is held
abbrev pub IsRoundFor : Form → ℕ → Name → Type 0
IsRoundFor Whole held x = ⊤
IsRoundFor Roundless held x = x.round ≡ held
