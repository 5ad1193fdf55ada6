-- Each task that cores do goes as the source's run tells.
use Rattle.std.proofs.Common.{◌≡◌, ℕ, List, subst}
use Rattle.check_point.specs.Laws.{StartIsReady}
use Rattle.command_steps.specs.Orders.{Course, Drawn, DrawnLossy, Followed, Imaged, Parted, Plain, Play, Renewed, Resumed, Served, Shown, Task}
use Rattle.link_runs.specs.LinkedPlays.{IsLinkedPlay}
use Rattle.symple_face.specs.CoreWork.{core_work}
use Rattle.symple_face.specs.Restarts.{IsRestartLawful}
use Rattle.symple_face.specs.State.{State}
use Rattle.symple_face.specs.Work.{Work}
use Rattle.symple_run.specs.Followed.{ByEvents, ByLinkText, ByLinks, ByText, IsFaulty, IsFollowed, IsFollowedPlay, LinksAreFaulty, Tells, TellsLinks}
use Rattle.symple_run.specs.Played.{IsPlayed}
use Rattle.symple_run.specs.SourceRuns.{IsSourceRun}
use Rattle.symple_run.specs.SourceSchedules.{IsSourceFollowed, IsSourceLinked, IsSourceReplay}
use Rattle.symple_run.proofs.CoreRuns.{ChosenWell, drawn_source, following_source, imaged_told, plain_source, resumed_told, shown_source}
use Rattle.symple_run.proofs.LinkedCores.{linked_source, lossy_source}

-- ---- a text of any form
module _ (sound : State → Type 0) (laws : ChosenWell core_work sound) (play : ℕ → Play) (text : List ℕ)
    (course : Course) where
  events_source :
      ByText text (λ machines form events. IsFollowedPlay core_work (play machines) form events) course →
      ByText text (λ machines form events course. IsSourceFollowed (play machines) form events course) course
  events_source (Tells machines events says is) =
      Tells machines events says (following_source sound laws (play machines) says.form events course is)
  events_source (IsFaulty why real gives is) = IsFaulty why real gives is

  links_source : ByLinkText text (λ machines events. IsLinkedPlay core_work (play machines) events) course →
      ByLinkText text (λ machines events. IsSourceLinked (play machines) events) course
  links_source (TellsLinks machines events says is) =
      TellsLinks machines events says (linked_source sound laws (play machines) events course is)
  links_source (LinksAreFaulty why real gives is) = LinksAreFaulty why real gives is

  followed_source : IsFollowed core_work play text course → IsSourceReplay play text course
  followed_source (ByEvents some is) = ByEvents some (events_source is)
  followed_source (ByLinks none is) = ByLinks none (links_source is)

-- ---- each task
core_task : (sound : State → Type 0) → ChosenWell core_work sound → IsRestartLawful core_work sound → StartIsReady →
    (task : Task) (course : Course) → IsPlayed core_work task course → IsSourceRun task course
core_task sound laws restarts ready (Plain play) course is = plain_source sound laws.plain play course is
core_task sound laws restarts ready (Imaged play origin image) course is =
    imaged_told sound laws.plain play origin image course is
core_task sound laws restarts ready (Resumed play origin even odd) course is =
    resumed_told sound laws.plain restarts ready play origin even odd course is
core_task sound laws restarts ready (Drawn play seed schedule) course is =
    drawn_source sound laws play seed schedule course is
core_task sound laws restarts ready (DrawnLossy play seed schedule) course is =
    lossy_source sound laws play seed schedule course is
core_task sound laws restarts ready (Followed play schedule) course is =
    followed_source sound laws play schedule course is
core_task sound laws restarts ready (Shown seed machines) course is =
    shown_source sound laws.plain seed machines course is
core_task sound laws restarts ready (Renewed schedule target) course is = is
core_task sound laws restarts ready (Parted play program prefix) course is = is
core_task sound laws restarts ready (Served part rows) course is = is

-- whatever cores do, the source's run tells
module _ (work : Work) (sound : State → Type 0) where
  pub core_runs : work ≡ core_work → ChosenWell work sound → IsRestartLawful work sound → StartIsReady →
      (task : Task) (course : Course) → IsPlayed work task course → IsSourceRun task course
  core_runs core laws restarts ready task course is =
      core_task sound (subst (λ (v : Work). ChosenWell v sound) core laws)
      (subst (λ (v : Work). IsRestartLawful v sound) core restarts) ready task course
      (subst (λ (v : Work). IsPlayed v task course) core is)
