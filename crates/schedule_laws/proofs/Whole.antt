-- Whole runs, from either first world.
use Rattle.std.proofs.Common.{◌≡◌, Bool, true, false, List, length, Some, refl, ap, ◌∙◌, arith, slice_get}
use Rattle.std.specs.Prelude.{if◌then◌else◌, nat_le}
use Rattle.std.specs.List.{All}
use Rattle.symple_words.specs.declared.line.Lines.{Lines}
use Rattle.vert_base.specs.declared.message.Event.{Event}
use Rattle.vert_eval.specs.SourceRun.{source_run}
use Rattle.word_kinds.specs.Fits.{IsFitting}
use Rattle.circulant_plan.specs.Skeleton.{Skeleton, first_skeleton, resumed_skeleton}
use Rattle.instrument.specs.declared.split.Split.{Split}
use Rattle.symple_face.specs.Cluster.{IsOneRun, World, after, all_possible, first_world, is_complete, restarted_world}
use Rattle.symple_face.specs.CoreFirst.{core_first, core_restarted}
use Rattle.symple_face.specs.CoreWork.{core_work}
use Rattle.symple_face.specs.Lawful.{CanRun}
use Rattle.symple_face.specs.Parts.{PlainPart}
use Rattle.symple_face.specs.Restarts.{IsStart}
use Rattle.symple_face.specs.Source.{Source, job_of}
use Rattle.symple_face.specs.State.{State}
use Rattle.symple_face.specs.Work.{PlainStart}
use Rattle.cluster_run.proofs.FirstWorlds.{all_at}
use Rattle.cluster_run.proofs.PartsAt.{part_at, parts_some}
use Rattle.cluster_run.proofs.SiteLists.{map_get}
use Rattle.schedule_laws.specs.Runs.{IsSourceRun}
use Rattle.schedule_laws.proofs.Runs.{fresh_is_a_run, resumed_is_a_run}
use Rattle.schedule_laws.specs.Laws.{EveryLaterLog, EveryLaterSchedule, EveryLaterWorldIsTrue, EveryLog, EverySchedule, EveryWorldIsTrue, later_run, whole_run}
use Rattle.schedule_laws.specs.Layout.{text_of}
use Rattle.schedule_laws.specs.OutputText.{output_text, run_of}
use Rattle.schedule_laws.specs.Texts.{text_of_run}
use Rattle.schedule_laws.specs.TrueWorlds.{IsTrueWorld}
use Rattle.schedule_laws.proofs.Firsts.{first_follows, later_follows}
use Rattle.schedule_laws.proofs.Follows.{Follows}
use Rattle.schedule_laws.proofs.Parts.{parts_run}
use Rattle.schedule_laws.proofs.Printed.{to_come}
use Rattle.schedule_laws.proofs.Printing.{all_follow}
use Rattle.schedule_laws.proofs.Saying.{text_runs, text_says}
use Rattle.schedule_laws.proofs.Shown.{there_at}

-- a world that goes with the source's run is true
pub is_true : (src : Source) (parts : List PlainPart) (w : World) (k : Skeleton) → Follows src parts w k →
    IsTrueWorld src w
is_true src parts w k f = record { machines = λ m s at. (f.machines m s at).ideal; letters = f.letters }

module _ (split : Split) (parts : List PlainPart) (one : IsOneRun parts) (fits : IsFitting split.program.program) where
  can_run : All (λ part. CanRun part split) parts
  can_run = parts_run split parts one fits

  pub whole_is_a_run : IsSourceRun (whole_run split parts one)
  whole_is_a_run = fresh_is_a_run split parts one can_run

  pub whole_follows : Follows (whole_run split parts one) parts (first_world core_work split parts)
      (first_skeleton (length parts))
  whole_follows = first_follows split parts one can_run whole_is_a_run

  -- the first machine begins before the first round
  pub first_site : (s : State) × (slice_get (first_world core_work split parts).sites 0 ≡ Some s) × (s.at.round ≡ 0)
  first_site =
      let part = there_at parts 0 (let some = parts_some parts one in omega (arith, some)) in (
        core_first part.0 split,
        map_get (λ part. core_first part split) parts 0 part.0 part.1,
        refl,
      )

  pub first_worlds_true : (es : List Event) → all_possible core_work (first_world core_work split parts) es ≡ true →
      IsTrueWorld (whole_run split parts one) (after core_work (first_world core_work split parts) es)
  first_worlds_true es can =
      let behind =
      all_follow (whole_run split parts one) parts one whole_is_a_run refl (first_world core_work split parts)
      (first_skeleton (length parts)) whole_follows es can in
      is_true (whole_run split parts one) parts (after core_work (first_world core_work split parts) es) behind.0
      behind.1

  pub first_text_says : (lines : Lines) (es : List Event) →
      is_complete core_work (first_world core_work split parts) es ≡ true →
      text_of core_work lines (first_world core_work split parts) es ≡
      output_text lines (whole_run split parts one) (first_skeleton (length parts)) es
  first_text_says lines es complete =
      text_says lines (whole_run split parts one) parts one whole_is_a_run refl
      (first_world core_work split parts) (first_skeleton (length parts)) whole_follows first_site.0 first_site.1
      (ap (λ n. if nat_le 1 n then n else 1) first_site.2) es complete

  pub first_text_runs : (lines : Lines) (es : List Event) →
      is_complete core_work (first_world core_work split parts) es ≡ true → lines.log ≡ false →
      text_of core_work lines (first_world core_work split parts) es ≡
      text_of_run lines split.program.program (source_run (job_of split one.ends one.draws one.edges))
  first_text_runs lines es complete none =
      text_runs lines (whole_run split parts one) parts one whole_is_a_run refl
      (first_world core_work split parts) (first_skeleton (length parts)) whole_follows first_site.0 first_site.1
      (ap (λ n. if nat_le 1 n then n else 1) first_site.2) es complete none

module _ (split : Split) (parts : List PlainPart) (one : IsOneRun parts) (start : PlainStart)
    (fits : IsFitting split.program.program) (starts : All (λ part. IsStart part split start) parts) where
  abbrev begun : World
  begun = restarted_world core_work split parts start

  abbrev begun_skeleton : Skeleton
  begun_skeleton = resumed_skeleton (length parts) start.round start.ruling

  later_can_run : All (λ part. CanRun part split) parts
  later_can_run = parts_run split parts one fits

  pub later_is_a_run : IsSourceRun (later_run split parts one start)
  later_is_a_run =
      let part = there_at parts 0 (let some = parts_some parts one in omega (arith, some)) in
      resumed_is_a_run split parts one part.0 start later_can_run
      (ap (λ (q : PlainPart). q.ends) (part_at parts one 0 part.0 part.1).0)
      (all_at (λ part. IsStart part split start) parts 0 part.0 starts part.1)

  pub later_goes : Follows (later_run split parts one start) parts begun begun_skeleton
  later_goes = later_follows split parts one later_can_run start starts later_is_a_run

  later_site : (s : State) × (slice_get begun.sites 0 ≡ Some s) × (s.at.round ≡ start.round)
  later_site =
      let part = there_at parts 0 (let some = parts_some parts one in omega (arith, some)) in (
        core_restarted part.0 split start,
        map_get (λ part. core_restarted part split start) parts 0 part.0 part.1,
        refl,
      )

  from_here : to_come (later_run split parts one start) later_site.0.at.round ≡ start.round
  from_here =
      ap (to_come (later_run split parts one start)) later_site.2
      ∙ either (nat_le start.round start.round)
    where
      either : (b : Bool) → (if b then start.round else start.round) ≡ start.round
      either true = refl
      either false = refl

  pub later_worlds_true : (es : List Event) → all_possible core_work begun es ≡ true →
      IsTrueWorld (later_run split parts one start) (after core_work begun es)
  later_worlds_true es can =
      let behind =
      all_follow (later_run split parts one start) parts one later_is_a_run refl begun begun_skeleton
      later_goes es can in
      is_true (later_run split parts one start) parts (after core_work begun es) behind.0 behind.1

  pub later_text_says : (lines : Lines) (es : List Event) → is_complete core_work begun es ≡ true →
      text_of core_work lines begun es ≡ output_text lines (later_run split parts one start) begun_skeleton es
  later_text_says lines es complete =
      text_says lines (later_run split parts one start) parts one later_is_a_run refl begun begun_skeleton
      later_goes later_site.0 later_site.1 from_here es complete

  pub later_text_runs : (lines : Lines) (es : List Event) → is_complete core_work begun es ≡ true →
      lines.log ≡ false →
      text_of core_work lines begun es ≡
      text_of_run lines split.program.program (run_of (later_run split parts one start))
  later_text_runs lines es complete none =
      text_runs lines (later_run split parts one start) parts one later_is_a_run refl begun begun_skeleton
      later_goes later_site.0 later_site.1 from_here es complete none

pub every_world_is_true : EveryWorldIsTrue
every_world_is_true split parts one es fits can =
    first_worlds_true split parts one fits es can

pub every_schedule : EverySchedule
every_schedule lines split parts one es fits complete none =
    first_text_runs split parts one fits lines es complete none

pub every_log : EveryLog
every_log lines split parts one es fits complete =
    first_text_says split parts one fits lines es complete

pub every_later_world_is_true : EveryLaterWorldIsTrue
every_later_world_is_true split parts one start es fits starts can =
    later_worlds_true split parts one start fits starts es can

pub every_later_schedule : EveryLaterSchedule
every_later_schedule lines split parts one start es fits starts complete none =
    later_text_runs split parts one start fits starts lines es complete none

pub every_later_log : EveryLaterLog
every_later_log lines split parts one start es fits starts complete =
    later_text_says split parts one start fits starts lines es complete
