-- Texts of form 3, and the runs for which they stand.
use Rattle.std.specs.Prelude.{◌≡◌, ◌≢◌, ◌≤◌, ℕ, List, length, Err}
use Rattle.std.specs.List.{AllByRecursion}
use Rattle.vert_base.specs.declared.limits.TheConstants.{SCHEDULE_BYTES}
use Rattle.link_core.specs.declared.event.LinkEvent.{LinkEvent}
use Rattle.link_core.specs.declared.fault.LinkTextFault.{LinkTextFault}
use Rattle.link_core.specs.declared.fault.LinkTextFault.TheVariants.{Want}
use Rattle.link_core.specs.LinkRecords.{RecordsLinks}
use Rattle.link_core.specs.LinkSays.{GivesLinks, SaysLinks}
use Rattle.link_core.specs.LinkTexts.{IsLinkEvent, IsLinkSchedule, links_text}

-- a text stands for one run
abbrev pub LinksStandForOne : Type 0
LinksStandForOne = (text : List ℕ) (m n : ℕ) (es fs : List LinkEvent) → SaysLinks text m es → SaysLinks text n fs →
    (m ≡ n) × (es ≡ fs)

-- a text has one fault
abbrev pub LinksHaveOneFault : Type 0
LinksHaveOneFault = (text : List ℕ) (a b : LinkTextFault) → a ≢ Want → b ≢ Want → GivesLinks text (Err a) →
    GivesLinks text (Err b) → a ≡ b

-- a run has a text, if it isn't too long
abbrev pub LinksHaveText : Type 0
LinksHaveText = (machines : ℕ) (events : List LinkEvent) → IsLinkSchedule machines events →
    length (links_text machines events) ≤ SCHEDULE_BYTES → SaysLinks (links_text machines events) machines events

-- and no other one
abbrev pub LinksHaveOneText : Type 0
LinksHaveOneText = (machines : ℕ) (events : List LinkEvent) (a b : List ℕ) → SaysLinks a machines events →
    SaysLinks b machines events → a ≡ b

-- what a recorder holds is a text of what was added
abbrev pub LinkRecordSays : Type 0
LinkRecordSays = (text : List ℕ) (machines : ℕ) (events : List LinkEvent) → RecordsLinks text machines events →
    AllByRecursion IsLinkEvent events → SaysLinks text machines events
