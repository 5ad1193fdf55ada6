-- The courses of recorded and of followed runs that the source's run tells.
use Rattle.std.specs.Prelude.{◌≡◌, ℕ, [], false, List, None}
use Rattle.command_steps.specs.Courses.{course_end, course_text}
use Rattle.command_steps.specs.Orders.{Course, Play}
use Rattle.delivery_log.specs.Choosers.{generator_of}
use Rattle.delivery_log.specs.declared.form.Form.{Form}
use Rattle.link_core.specs.declared.event.LinkEvent.{LinkEvent}
use Rattle.link_core.specs.LinkTexts.{links_text}
use Rattle.link_runs.specs.LinkTellings.{listed_links}
use Rattle.link_runs.specs.SourceLinks.{IsFarOrder, by_source_links, ordered_anew}
use Rattle.machine_runs.specs.SourceTellings.{IsDrawnOrder, by_source}
use Rattle.machine_runs.specs.Tellings.{followed, followed_as, recorded, recorded_as}
use Rattle.symple_run.specs.Followed.{ByEachForm}
use Rattle.symple_run.specs.SourceTexts.{HasParts, first_order, play_text, source_on}
use Rattle.symple_words.specs.Ranges.{AreMachines}
use Rattle.vert_base.specs.declared.message.Event.{Event}

-- a run that comes to its end puts the text of the source's run, whatever its events are
abbrev pub PutsSource : Play → Course → Type 0
PutsSource play course = course_end course ≡ None → play.lines.log ≡ false → course_text course ≡ play_text play

-- the events are those that the seed draws, and each is told by the source's run
pub record IsSourceRecord (play : Play) (seed : ℕ) (name : List ℕ) (course : Course) : Type 0 where
  pub on : HasParts play
  pub events : List Event
  pub drawn : IsDrawnOrder (source_on play on) (first_order play on) (generator_of seed) events
  pub course_is : course ≡
      recorded (by_source play.lines (source_on play on)) name play.machines [] (first_order play on) events
  pub text : PutsSource play course

-- the events are those of the text; the source's run tells each, and the first that can't come next, or what is lacking
pub record IsSourceFollowed (play : Play) (form : Form) (events : List Event) (course : Course) : Type 0 where
  pub on : HasParts play
  pub course_is :
      course ≡ followed (by_source play.lines (source_on play on)) form 0 1 (first_order play on) events
  pub text : PutsSource play course

-- The events over links are those that the seed draws, and each is told by the source's run; their text of form 3 is
-- kept.
pub record IsSourceLossy (play : Play) (seed : ℕ) (name : List ℕ) (course : Course) : Type 0 where
  pub on : HasParts play
  pub few : AreMachines play.machines
  pub events : List LinkEvent
  pub drawn : IsFarOrder (source_on play on) play.machines [] (ordered_anew (first_order play on))
      (generator_of seed) events
  pub course_is : course ≡ recorded_as (by_source_links play.lines (source_on play on)) (links_text play.machines) name
      [] (ordered_anew (first_order play on)) events
  pub text : PutsSource play course

-- the events over links are those of a text of form 3
pub record IsSourceLinked (play : Play) (events : List LinkEvent) (course : Course) : Type 0 where
  pub on : HasParts play
  pub course_is : course ≡ followed_as (by_source_links play.lines (source_on play on))
      (ordered_anew (first_order play on)) (listed_links 1 events)
  pub text : PutsSource play course

abbrev pub IsSourceReplay : (ℕ → Play) → List ℕ → Course → Type 0
IsSourceReplay play text course =
    ByEachForm text (λ machines form events. IsSourceFollowed (play machines) form events)
    (λ machines events. IsSourceLinked (play machines) events) course
