-- What is known of the courses of tasks: of those that machines of a kind take, and of those that the source tells.
use Rattle.std.proofs.Common.{List, None, Option, [], inl, inr, refl, sym, ℕ, ◌∙◌, ◌∷◌, ◌≡◌}
use Rattle.command_steps.specs.Commands.{image_name, names_of}
use Rattle.command_steps.specs.Comes.{Comes}
use Rattle.command_steps.specs.Courses.{TakesNothing, course_end}
use Rattle.command_steps.specs.Notes as note
use Rattle.command_steps.specs.Orders.{Course, Drawn, DrawnLossy, Fails, Followed, Imaged, IsOver, Keeps, Parted, Plain, Play, Prints, Renewed, Resumed, Runs, Served, Shown, Takes, Task, follows}
use Rattle.command_steps.specs.Quiet.{IsNoneOf, IsQuiet, Spares}
use Rattle.command_steps.proofs.ComesLaws.{Must}
use Rattle.command_steps.proofs.OrderLaws.{AreCourses, course_must, ends_alike}
use Rattle.outside.specs.Files.{File}
use Rattle.symple_face.specs.CoreWork.{core_work}
use Rattle.symple_face.specs.Work.{Work}
use Rattle.part_runs.proofs.CourseLaws.{parted_calm, parted_quiet, parted_same, parted_spares, serving_spares}
use Rattle.symple_run.proofs.CourseShapes.{same_alike}
use Rattle.symple_run.proofs.LinkedTasks.{follow_calm, follow_quiet, follow_spares, followed_same, lossy_calm, lossy_same, lossy_spares, replay_calm, replay_quiet, replay_same, replay_spares, source_lossy_calm, source_lossy_same, source_lossy_spares}
use Rattle.symple_run.proofs.SourceTasks.{record_calm, record_same, record_spares}
use Rattle.symple_run.proofs.TextTasks.{drawn_calm, drawn_same, drawn_spares, renew_calm, renew_spares, renewed_same}
use Rattle.symple_run.specs.Played.{IsPlayed}
use Rattle.symple_run.specs.SourceRuns.{IsPrinted, IsSourcePlay, IsSourceRun}
use Rattle.symple_run.specs.KeptImages.{StoresImages}
use Rattle.symple_run.proofs.CoreRuns.{plain_printed}
use Rattle.symple_run.proofs.ShowLaws.{show_printed, source_show_printed}
use Rattle.symple_run.proofs.ImagedRuns.{imaged_stores, resumed_printed, source_stores}

module _ (courses : Task → Course → Type 0) where
  printed_quiet : (course : Course) → IsPrinted course → IsQuiet courses (follows course)
  printed_quiet IsOver is = tt
  printed_quiet (Fails fault) is = absurd is
  printed_quiet (Prints text rest) is = printed_quiet rest is
  printed_quiet (Keeps name bytes rest) is = absurd is
  printed_quiet (Takes used text rest) is = absurd is

  printed_spares : (name : List ℕ) (course : Course) → IsPrinted course → Spares courses name (follows course)
  printed_spares name IsOver is = tt
  printed_spares name (Fails fault) is = absurd is
  printed_spares name (Prints text rest) is = printed_spares name rest is
  printed_spares name (Keeps other bytes rest) is = absurd is
  printed_spares name (Takes used text rest) is = absurd is

printed_calm : (course : Course) → IsPrinted course → TakesNothing course
printed_calm IsOver is = tt
printed_calm (Fails fault) is = absurd is
printed_calm (Prints text rest) is = printed_calm rest is
printed_calm (Keeps name bytes rest) is = absurd is
printed_calm (Takes used text rest) is = absurd is

printed_well : (course : Course) → IsPrinted course → course_end course ≡ None
printed_well IsOver is = refl
printed_well (Fails fault) is = absurd is
printed_well (Prints text rest) is = printed_well rest is
printed_well (Keeps name bytes rest) is = absurd is
printed_well (Takes used text rest) is = absurd is

-- two courses that put texts and are over come out alike
module _ (courses : Task → Course → Type 0) (course other : Course) where
  printed_alike : IsPrinted course → IsPrinted other →
      (files : List File) (input : Option (List ℕ)) (outcome : Option note.Fault) →
      Comes courses (follows course) files input outcome → Must courses (follows other) files input outcome
  printed_alike is same files input outcome =
      ends_alike courses files input outcome course other (printed_calm course is) (printed_calm other same)
      (printed_well course is ∙ sym (printed_well other same))

-- ---- courses that store images
module _ (image : List ℕ) where
  stores_spares : (courses : Task → Course → Type 0) (name : List ℕ) (course : Course) → StoresImages image course →
      IsNoneOf name (image_name image 0 ∷ image_name image 1 ∷ []) → Spares courses name (follows course)
  stores_spares courses name IsOver is none = tt
  stores_spares courses name (Fails fault) is none = absurd is
  stores_spares courses name (Prints text rest) is none = stores_spares courses name rest is none
  stores_spares courses name (Keeps other bytes rest) (inl first, is) none = (
    λ same. none.0 (same ∙ first),
    stores_spares courses name rest is none,
  )
  stores_spares courses name (Keeps other bytes rest) (inr second, is) none = (
    λ same. none.1.0 (same ∙ second),
    stores_spares courses name rest is none,
  )
  stores_spares courses name (Takes used text rest) is none = absurd is

  stores_calm : (course : Course) → StoresImages image course → TakesNothing course
  stores_calm IsOver is = tt
  stores_calm (Fails fault) is = absurd is
  stores_calm (Prints text rest) is = stores_calm rest is
  stores_calm (Keeps other bytes rest) is = stores_calm rest is.1
  stores_calm (Takes used text rest) is = absurd is

  stores_well : (course : Course) → StoresImages image course → course_end course ≡ None
  stores_well IsOver is = refl
  stores_well (Fails fault) is = absurd is
  stores_well (Prints text rest) is = stores_well rest is
  stores_well (Keeps other bytes rest) is = stores_well rest is.1
  stores_well (Takes used text rest) is = absurd is

  module _ (courses : Task → Course → Type 0) (course other : Course) where
    stores_alike : StoresImages image course → StoresImages image other →
        (files : List File) (input : Option (List ℕ)) (outcome : Option note.Fault) →
        Comes courses (follows course) files input outcome → Must courses (follows other) files input outcome
    stores_alike is same files input outcome =
        ends_alike courses files input outcome course other (stores_calm course is) (stores_calm other same)
        (stores_well course is ∙ sym (stores_well other same))

source_printed : (play : Play) (course : Course) → IsSourcePlay play course → IsPrinted course
source_printed play course is = is.printed

-- a name is among names
no_names : (name : List ℕ) → name ∷ [] ≡ [] → ⊥
no_names name none = cc

-- those of machines of a kind
module _ (work : Work) where
  played_must : (task : Task) (files : List File) (input : Option (List ℕ)) (outcome : Option note.Fault) →
      Comes (IsPlayed work) (Runs task follows) files input outcome → Must (IsPlayed work) (Runs task follows) files
      input outcome
  played_must (Plain play) files input outcome (course, is, comes) = λ other same.
      printed_alike (IsPlayed work) course other (plain_printed work play course is) (plain_printed work play other
      same) files input outcome comes
  played_must (Imaged play origin image) files input outcome (course, is, comes) = λ other same.
      stores_alike image (IsPlayed work) course other (imaged_stores work play origin image course is) (imaged_stores
      work play origin image other same) files input outcome comes
  played_must (Resumed play origin even odd) files input outcome (course, is, comes) = λ other same.
      printed_alike (IsPlayed work) course other (resumed_printed work play origin even odd course is)
      (resumed_printed work play origin even odd other same) files input outcome comes
  played_must (Drawn play seed schedule) files input outcome (course, is, comes) = λ other same.
      same_alike (IsPlayed work) course other
      (drawn_same work play seed schedule course other is same) (drawn_calm work play seed schedule course is) files
      input outcome comes
  played_must (DrawnLossy play seed schedule) files input outcome (course, is, comes) = λ other same.
      same_alike (IsPlayed work) course other
      (lossy_same work play seed schedule course other is same) (lossy_calm work play seed schedule course is) files
      input outcome comes
  played_must (Followed play schedule) files input outcome (course, is, comes) = λ other same.
      same_alike (IsPlayed work) course other
      (followed_same work play schedule course other is same) (follow_calm work play schedule course is) files input
      outcome comes
  played_must (Shown seed machines) files input outcome (course, is, comes) = λ other same.
      printed_alike (IsPlayed work) course other (show_printed work seed machines course is)
      (show_printed work seed machines other same) files input outcome comes
  played_must (Renewed schedule target) files input outcome (course, is, comes) = λ other same.
      same_alike (IsPlayed work) course other
      (renewed_same schedule target course other is same) (renew_calm schedule target course is) files input outcome
      comes
  played_must (Parted play program prefix) files input outcome (course, is, comes) = λ other same.
      same_alike (IsPlayed work) course other (parted_same prefix program play course other is same)
      (parted_calm prefix program play course is) files input outcome comes
  played_must (Served part rows) files input outcome each = λ course is.
      course_must (IsPlayed work) files input outcome course files input (each course is)

  played_spares : (task : Task) (course : Course) → IsPlayed work task course → (name : List ℕ) →
      IsNoneOf name (names_of task) → Spares (IsPlayed work) name (follows course)
  played_spares (Plain play) course is = λ name none. printed_spares (IsPlayed work) name course (plain_printed work
      play course is)
  played_spares (Imaged play origin image) course is = λ name none. stores_spares image (IsPlayed work) name course
      (imaged_stores work play origin image course is) none
  played_spares (Resumed play origin even odd) course is = λ name none. printed_spares (IsPlayed work) name course
      (resumed_printed work play origin even odd course is)
  played_spares (Drawn play seed schedule) course is = λ name none.
      drawn_spares work (IsPlayed work) play seed schedule name none.0 course is
  played_spares (DrawnLossy play seed schedule) course is = λ name none.
      lossy_spares work play seed schedule (IsPlayed work) name none.0 course is
  played_spares (Followed play schedule) course is = λ name none.
      follow_spares work play schedule (IsPlayed work) name course is
  played_spares (Shown seed machines) course is = λ name none.
      printed_spares (IsPlayed work) name course (show_printed work seed machines course is)
  played_spares (Renewed schedule target) course is = λ name none.
      renew_spares (IsPlayed work) schedule target name none.0 course is
  played_spares (Parted play program prefix) course is = λ name none.
      parted_spares prefix program play course is (IsPlayed work) name none
  played_spares (Served part rows) course is = λ name none.
      serving_spares work part rows (IsPlayed work) name none.0 course is

  played_quiet : (task : Task) (course : Course) → IsPlayed work task course → names_of task ≡ [] →
      IsQuiet (IsPlayed work) (follows course)
  played_quiet (Plain play) course is = λ none. printed_quiet (IsPlayed work) course (plain_printed work play course is)
  played_quiet (Imaged play origin image) course is = λ none. cc
  played_quiet (Resumed play origin even odd) course is = λ none. printed_quiet (IsPlayed work) course
      (resumed_printed work play origin even odd course is)
  played_quiet (Drawn play seed schedule) course is = λ none. absurd (no_names schedule none)
  played_quiet (DrawnLossy play seed schedule) course is = λ none. absurd (no_names schedule none)
  played_quiet (Followed play schedule) course is = λ none. follow_quiet work play schedule (IsPlayed work) course is
  played_quiet (Shown seed machines) course is = λ none.
      printed_quiet (IsPlayed work) course (show_printed work seed machines course is)
  played_quiet (Renewed schedule target) course is = λ none. absurd (no_names target none)
  played_quiet (Parted play program prefix) course is = λ none. parted_quiet prefix program play course is
      (IsPlayed work) none
  played_quiet (Served part rows) course is = λ none. absurd (no_names rows none)

  pub played_are : AreCourses (IsPlayed work)
  played_are = record { must = played_must; spares = played_spares; quiet = played_quiet }

-- and those that the source tells
told_must : (task : Task) (files : List File) (input : Option (List ℕ)) (outcome : Option note.Fault) →
    Comes IsSourceRun (Runs task follows) files input outcome → Must IsSourceRun (Runs task follows) files input outcome
told_must (Plain play) files input outcome (course, is, comes) = λ other same.
    printed_alike IsSourceRun course other (source_printed play course is) (source_printed play other same) files
    input outcome comes
told_must (Imaged play origin image) files input outcome (course, is, comes) = λ other same.
    stores_alike image IsSourceRun course other (source_stores play origin image course is)
    (source_stores play origin image other same) files input outcome comes
told_must (Resumed play origin even odd) files input outcome (course, is, comes) = λ other same.
    printed_alike IsSourceRun course other is.printed same.printed files input outcome comes
told_must (Drawn play seed schedule) files input outcome (course, is, comes) = λ other same.
    same_alike IsSourceRun course other
    (record_same play seed schedule course other is same) (record_calm play seed schedule course is)
    files input outcome comes
told_must (DrawnLossy play seed schedule) files input outcome (course, is, comes) = λ other same.
    same_alike IsSourceRun course other
    (source_lossy_same play seed schedule course other is same) (source_lossy_calm play seed schedule course is)
    files input outcome comes
told_must (Followed play schedule) files input outcome (course, is, comes) = λ other same.
    same_alike IsSourceRun course other
    (replay_same play schedule course other is same) (replay_calm play schedule course is) files input outcome comes
told_must (Shown seed machines) files input outcome (course, is, comes) = λ other same.
    printed_alike IsSourceRun course other (source_show_printed seed machines course is)
    (source_show_printed seed machines other same) files input outcome comes
told_must (Renewed schedule target) files input outcome (course, is, comes) = λ other same.
    same_alike IsSourceRun course other
    (renewed_same schedule target course other is same) (renew_calm schedule target course is) files input outcome comes
told_must (Parted play program prefix) files input outcome (course, is, comes) = λ other same.
    same_alike IsSourceRun course other (parted_same prefix program play course other is same)
    (parted_calm prefix program play course is) files input outcome comes
told_must (Served part rows) files input outcome each = λ course is.
    course_must IsSourceRun files input outcome course files input (each course is)

told_spares : (task : Task) (course : Course) → IsSourceRun task course → (name : List ℕ) →
    IsNoneOf name (names_of task) → Spares IsSourceRun name (follows course)
told_spares (Plain play) course is = λ name none. printed_spares IsSourceRun name course (source_printed play course is)
told_spares (Imaged play origin image) course is = λ name none.
    stores_spares image IsSourceRun name course (source_stores play origin image course is) none
told_spares (Resumed play origin even odd) course is = λ name none. printed_spares IsSourceRun name course is.printed
told_spares (Drawn play seed schedule) course is = λ name none.
    record_spares play seed schedule IsSourceRun name none.0 course is
told_spares (DrawnLossy play seed schedule) course is = λ name none.
    source_lossy_spares play seed schedule IsSourceRun name none.0 course is
told_spares (Followed play schedule) course is = λ name none.
    replay_spares play schedule IsSourceRun name course is
told_spares (Shown seed machines) course is = λ name none.
    printed_spares IsSourceRun name course (source_show_printed seed machines course is)
told_spares (Renewed schedule target) course is = λ name none.
    renew_spares IsSourceRun schedule target name none.0 course is
told_spares (Parted play program prefix) course is = λ name none.
    parted_spares prefix program play course is IsSourceRun name none
told_spares (Served part rows) course is = λ name none.
    serving_spares core_work part rows IsSourceRun name none.0 course is

told_quiet : (task : Task) (course : Course) → IsSourceRun task course → names_of task ≡ [] →
    IsQuiet IsSourceRun (follows course)
told_quiet (Plain play) course is = λ none. printed_quiet IsSourceRun course (source_printed play course is)
told_quiet (Imaged play origin image) course is = λ none. cc
told_quiet (Resumed play origin even odd) course is = λ none. printed_quiet IsSourceRun course is.printed
told_quiet (Drawn play seed schedule) course is = λ none. absurd (no_names schedule none)
told_quiet (DrawnLossy play seed schedule) course is = λ none. absurd (no_names schedule none)
told_quiet (Followed play schedule) course is = λ none.
    replay_quiet play schedule IsSourceRun course is
told_quiet (Shown seed machines) course is = λ none.
    printed_quiet IsSourceRun course (source_show_printed seed machines course is)
told_quiet (Renewed schedule target) course is = λ none. absurd (no_names target none)
told_quiet (Parted play program prefix) course is = λ none. parted_quiet prefix program play course is IsSourceRun none
told_quiet (Served part rows) course is = λ none. absurd (no_names rows none)

pub told_are : AreCourses IsSourceRun
told_are = record { must = told_must; spares = told_spares; quiet = told_quiet }
