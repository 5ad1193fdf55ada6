-- Texts, and the machines and events for which they stand.
use Rattle.std.specs.Prelude.{◌≡◌, ◌≢◌, ◌≤◌, ℕ, List, length, Result, Ok, Err}
use Rattle.std.specs.List.{AllByRecursion}
use Rattle.vert_base.specs.declared.message.Event.{Event}
use Rattle.vert_base.specs.declared.limits.TheConstants.{SCHEDULE_BYTES}
use Rattle.delivery_log.specs.declared.form.Form.{Form}
use Rattle.delivery_log.specs.declared.form.Schedule.{Schedule}
use Rattle.delivery_log.specs.declared.fault.ScheduleFault.{ScheduleFault}
use Rattle.delivery_log.specs.declared.fault.ScheduleFault.TheVariants.{Header, Line, TooLong, Want}
use Rattle.delivery_log.specs.ScheduleTexts.{IsEvent, IsSchedule, schedule_text}
use Rattle.delivery_log.specs.Says.{Gives, Says}
use Rattle.delivery_log.specs.Records.{Recording, Records}

-- a text stands for one pair
abbrev pub StandsForOne : Type 0
StandsForOne = (text : List ℕ) (m n : ℕ) (es fs : List Event) → Says text m es → Says text n fs → (m ≡ n) × (es ≡ fs)

-- the text says the pair, in this form
abbrev pub SaysIn : Form → List ℕ → ℕ → List Event → Type 0
SaysIn form text machines events = (said : Says text machines events) × (said.form ≡ form)

-- a pair has a text of form 2, and where there are few machines one of form 1, if it isn't too long
abbrev pub HasText : Type 0
HasText = (form : Form) (machines : ℕ) (events : List Event) → IsSchedule form machines events →
    length (schedule_text form machines events) ≤ SCHEDULE_BYTES → (text : List ℕ) × SaysIn form text machines events

-- and no other one of that form
abbrev pub HasOneText : Type 0
HasOneText = (form : Form) (machines : ℕ) (events : List Event) (a b : List ℕ) → SaysIn form a machines events →
    SaysIn form b machines events → a ≡ b

-- the result is this pair, or want of memory
abbrev pub IsReadBack : ℕ → List Event → Result Schedule ScheduleFault → Type 0
IsReadBack machines events (Ok schedule) = (schedule.machines ≡ machines) × (schedule.events.items ≡ events)
IsReadBack machines events (Err TooLong) = ⊥
IsReadBack machines events (Err Header) = ⊥
IsReadBack machines events (Err (Line number)) = ⊥
IsReadBack machines events (Err Want) = Unit {0}

-- what a reader gives at a text that says a pair
abbrev pub ReadsBack : Type 0
ReadsBack = (text : List ℕ) (machines : ℕ) (events : List Event) (result : Result Schedule ScheduleFault) →
    Says text machines events → Gives text result → IsReadBack machines events result

-- a text has one fault
abbrev pub HasOneFault : Type 0
HasOneFault = (text : List ℕ) (a b : ScheduleFault) → a ≢ Want → b ≢ Want → Gives text (Err a) → Gives text (Err b) →
    a ≡ b

-- and so at the text of a recorder
abbrev pub RecordIsRead : Type 0
RecordIsRead = (recording : Recording) (machines : ℕ) (events : List Event)
    (result : Result Schedule ScheduleFault) → Records recording machines events → AllByRecursion IsEvent events →
    Gives recording.text result → IsReadBack machines events result
