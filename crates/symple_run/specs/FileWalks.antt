-- What is read of a schedule.
use Rattle.std.specs.Prelude.{◌≡◌, ◌≢◌, ℕ, List, Option, None, Some, Result, Ok, Err}
use Rattle.command_steps.specs.declared.failure.Failure.{Failure}
use Rattle.command_steps.specs.Faults.{fault_of}
use Rattle.command_steps.specs.Notes.{BadHeader, Fault, NoMemory}
use Rattle.delivery_log.specs.declared.fault.ScheduleFault.{ScheduleFault}
use Rattle.delivery_log.specs.declared.fault.ScheduleFault.TheVariants.{Want}
use Rattle.delivery_log.specs.declared.form.Schedule.{Schedule}
use Rattle.delivery_log.specs.Says.{Gives, HasNoHeader, Says}
use Rattle.link_core.specs.declared.event.LinkSchedule.{LinkSchedule}
use Rattle.link_core.specs.declared.fault.LinkTextFault.{LinkTextFault}
use Rattle.link_core.specs.declared.fault.LinkTextFault.TheVariants as link
use Rattle.link_core.specs.LinkSays.{GivesLinks, SaysLinks}
use Rattle.symple_run.specs.Followed.{link_text_fault, text_fault}

-- the text has a fault, or memory was wanting
pub data NotRead (text : List ℕ) (fault : Fault) : Type 0 where
  BadText : (why : ScheduleFault) → why ≢ Want → Gives text (Err why) → fault ≡ text_fault why → NotRead text fault
  WantsToRead : fault ≡ NoMemory → NotRead text fault

abbrev pub Reads : List ℕ → Result Schedule Failure → Type 0
Reads text (Ok schedule) = Says text schedule.machines schedule.events.items
Reads text (Err why) = NotRead text (fault_of why)

-- the same, where a text with no first line may be of another form
abbrev pub TellsEvents : List ℕ → Result (Option Schedule) Failure → Type 0
TellsEvents text (Ok (Some schedule)) = Says text schedule.machines schedule.events.items
TellsEvents text (Ok None) = HasNoHeader text
TellsEvents text (Err why) = NotRead text (fault_of why) × (fault_of why ≢ BadHeader)

-- of a text of form 3
pub data NoLinksRead (text : List ℕ) (fault : Fault) : Type 0 where
  BadLinkText : (why : LinkTextFault) → why ≢ link.Want → GivesLinks text (Err why) → fault ≡ link_text_fault why →
      NoLinksRead text fault
  WantsToReadLinks : fault ≡ NoMemory → NoLinksRead text fault

abbrev pub ReadsLinks : List ℕ → Result LinkSchedule Failure → Type 0
ReadsLinks text (Ok schedule) = SaysLinks text schedule.machines schedule.events.items
ReadsLinks text (Err why) = NoLinksRead text (fault_of why)
