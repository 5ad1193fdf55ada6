-- What a recorder holds.
use Rattle.std.specs.Prelude.{◌≡◌, ◌≤◌, ℕ, List, length}
use Rattle.vert_base.specs.declared.message.Event.{Event}
use Rattle.vert_base.specs.declared.limits.TheConstants.{SCHEDULE_BYTES}
use Rattle.delivery_log.specs.declared.form.Form.TheVariants.{Roundless}
use Rattle.delivery_log.specs.ScheduleTexts.{last_round, most_machines, schedule_text}

-- its text, and the round of the last take
pub record Recording : Type 0 where
  pub text : List ℕ
  pub held : ℕ

-- it is the recording of these machines and events
pub record Records (recording : Recording) (machines : ℕ) (events : List Event) : Type 0 where
  pub some : 1 ≤ machines
  pub few : machines ≤ most_machines Roundless
  pub fits : length recording.text ≤ SCHEDULE_BYTES
  pub spelled : recording.text ≡ schedule_text Roundless machines events
  pub held : recording.held ≡ last_round 0 events
