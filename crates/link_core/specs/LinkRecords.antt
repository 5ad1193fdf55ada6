-- What a recorder of links holds.
use Rattle.std.specs.Prelude.{◌≡◌, ◌≤◌, ℕ, List, length}
use Rattle.vert_base.specs.declared.limits.TheConstants.{SCHEDULE_BYTES}
use Rattle.link_core.specs.declared.event.LinkEvent.{LinkEvent}
use Rattle.link_core.specs.LinkTexts.{links_text}

-- the text is the recording of these machines and events
pub record RecordsLinks (text : List ℕ) (machines : ℕ) (events : List LinkEvent) : Type 0 where
  pub some : 1 ≤ machines
  pub few : machines ≤ 64
  pub fits : length text ≤ SCHEDULE_BYTES
  pub spelled : text ≡ links_text machines events
