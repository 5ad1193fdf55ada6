-- What counting the rounds of a run comes to.
use Rattle.std.specs.Prelude.{◌≡◌, ◌+◌, ℕ, Bool, false, List, [], ◌∷◌, if◌then◌else◌, length}
use Rattle.plain_run.specs.Told.{Told}
use Rattle.schedule_laws.specs.Layout.{told_in}
use Rattle.schedule_laws.specs.ToldRounds.{rounds_ended}
use Rattle.symple_face.specs.Cluster.{IsPlainRun, World, after}
use Rattle.symple_face.specs.Work.{Work}
use Rattle.machine_runs.specs.PlainPlays.{first_report}
use Rattle.symple_run.specs.Shows.{reads_in_all}
use Rattle.vert_base.specs.declared.message.Event.{Event}

-- what machine 0 reports of the round that was judged, if one was
abbrev pub reported : Bool → Work → World → List Told
reported judged work w = if judged then told_in false work w (first_report work w) ∷ [] else []

-- a plain run from a world on that leads to another one, with so many rounds and reads more than one from there
pub record GoesThrough (work : Work) (w v : World) (rounds reads : ℕ) (behind : List Event) : Type 0 where
  pub events : List Event
  pub plain : IsPlainRun work w events
  pub same_end : after work w events ≡ after work v behind
  pub rounds_are : length (rounds_ended false work w events) ≡ rounds + length (rounds_ended false work v behind)
  pub reads_are :
      reads_in_all (rounds_ended false work w events) ≡ reads + reads_in_all (rounds_ended false work v behind)

-- each plain run from the second world on is the end of one from the first
abbrev pub CountsOn : Work → World → World → ℕ → ℕ → Type 0
CountsOn work w v rounds reads =
    (behind : List Event) → IsPlainRun work v behind → GoesThrough work w v rounds reads behind

-- a whole plain run, and what its rounds come to
pub record HasPlayed (work : Work) (w v : World) (rounds reads : ℕ) : Type 0 where
  pub events : List Event
  pub plain : IsPlainRun work w events
  pub world : v ≡ after work w events
  pub rounds_are : length (rounds_ended false work w events) ≡ rounds
  pub reads_are : reads_in_all (rounds_ended false work w events) ≡ reads
