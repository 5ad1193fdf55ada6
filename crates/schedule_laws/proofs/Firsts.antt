-- The first worlds go with the source's run.
use Rattle.std.proofs.Common.{◌≡◌, ℕ, zero, suc, ◌+◌, ◌-◌, ◌<◌, ◌≤◌, true, List, [], length, map, Some, refl, ap, sym, ◌∙◌, subst, arith, slice_get}
use Rattle.std.specs.Prelude.{if◌then◌else◌}
use Rattle.std.specs.List.{All}
use Rattle.std.proofs.lemmas.Bool.{eq-eqb, false≢true}
use Rattle.vert_base.specs.declared.value.Ruling.{Ruling}
use Rattle.vert_base.specs.declared.value.Ruling.TheVariants.{Stop}
use Rattle.vert_eval.specs.SourceRun.{Job}
use Rattle.circulant_plan.specs.Runs.{anew, again, judged_round}
use Rattle.circulant_plan.specs.Skeleton.{Skeleton, first_skeleton, is_over, resumed_skeleton, ruling_in}
use Rattle.instrument.specs.declared.split.Split.{Split}
use Rattle.symple_face.specs.Cluster.{IsOneRun, World, first_world, restarted_world}
use Rattle.symple_face.specs.CoreFirst.{core_first, core_restarted}
use Rattle.symple_face.specs.CoreWork.{core_work}
use Rattle.symple_face.specs.Lawful.{CanRun}
use Rattle.symple_face.specs.Parts.{PlainPart}
use Rattle.symple_face.specs.Source.{Source, fresh_source, job_of, resumed_source, stand, stand_after}
use Rattle.symple_face.specs.Restarts.{IsStart}
use Rattle.symple_face.specs.State.{State}
use Rattle.symple_face.specs.Work.{PlainStart}
use Rattle.work_laws.specs.Sound.{core_sound}
use Rattle.work_laws.proofs.Whole.{core_lawful, core_restarts}
use Rattle.cluster_run.specs.Driven.{IsRestarted}
use Rattle.cluster_run.proofs.FirstWorlds.{first_tied, restarted_tied}
use Rattle.cluster_run.proofs.PartsAt.{part_at, parts_few, parts_some}
use Rattle.cluster_run.proofs.Restarted.{is_restarted}
use Rattle.cluster_run.proofs.SiteLists.{map_get_back}
use Rattle.schedule_laws.specs.Events.{IsTrue}
use Rattle.schedule_laws.specs.Runs.{IsSourceRun}
use Rattle.schedule_laws.proofs.FirstStates.{first_is_true, restarted_is_true}
use Rattle.schedule_laws.proofs.Follows.{Follows}

-- at first round 1 is the next one that is judged
first_judged : (p : ℕ) → judged_round (first_skeleton p) ≡ 1
first_judged zero = refl
first_judged (suc p) = refl

module _ (split : Split) (parts : List PlainPart) (one : IsOneRun parts)
    (can_run : All (λ part. CanRun part split) parts) where
  abbrev job : Job
  job = job_of split one.ends one.draws one.edges

  abbrev pub fresh : Source
  fresh = fresh_source job split

  module _ (run : IsSourceRun fresh) where
    first_machines : (m : ℕ) (s : State) → slice_get (map (λ part. core_first part split) parts) m ≡ Some s →
        IsTrue fresh m s
    first_machines m s at =
        let part = map_get_back (λ part. core_first part split) parts m s at in
        let is = part_at parts one m part.0 part.1 in
        subst (IsTrue fresh m) (ap (λ q. core_first q split) (sym is.0) ∙ part.2) (first_is_true job split m run is.1)

    first_going : (s : State) → slice_get (map (λ part. core_first part split) parts) 0 ≡ Some s →
        is_over s.at.spot ≡ true → 1 ≤ s.at.round
    first_going s at over =
        let part = map_get_back (λ part. core_first part split) parts 0 s at in
        absurd (false≢true (ap (λ (q : State). is_over q.at.spot) part.2 ∙ over))

    pub first_follows : Follows fresh parts (first_world core_work split parts) (first_skeleton (length parts))
    first_follows = record {
      reached = record {
        some = parts_some parts one;
        few = parts_few parts one;
        first = first_skeleton (length parts);
        is_first = anew refl;
        events = [];
        were_possible = refl;
        here = refl;
      };
      alike = first_tied core_work core_sound core_lawful split parts one can_run;
      machines = first_machines;
      letters = tt;
      rulings =
          λ r late early.
          let next = first_judged (length parts) in
          absurd (omega (arith, late, early, next));
      late = first_going;
    }

-- at the begin of a round the one behind it is the next that is judged
later_judged : (p round : ℕ) (ruling : Ruling) → 1 ≤ p →
    judged_round (resumed_skeleton p round ruling) ≡ round + 1
later_judged zero round ruling some = absurd (omega (arith, some))
later_judged (suc p) round ruling some = refl

module _ (split : Split) (parts : List PlainPart) (one : IsOneRun parts)
    (can_run : All (λ part. CanRun part split) parts) (start : PlainStart)
    (starts : All (λ part. IsStart part split start) parts) where
  abbrev later : Source
  later = resumed_source (job_of split one.ends one.draws one.edges) split start

  abbrev begun : World
  begun = restarted_world core_work split parts start

  abbrev begun_skeleton : Skeleton
  begun_skeleton = resumed_skeleton (length parts) start.round start.ruling

  is : IsRestarted core_sound split parts start.round start.ruling begun
  is = is_restarted core_work core_sound core_restarts split parts one can_run start starts

  module _ (run : IsSourceRun later) where
    later_machines : (m : ℕ) (s : State) → slice_get begun.sites m ≡ Some s → IsTrue later m s
    later_machines m s at =
        let part = map_get_back (λ part. core_restarted part split start) parts m s at in
        let place = part_at parts one m part.0 part.1 in
        subst (IsTrue later m) (ap (λ q. core_restarted q split start) (sym place.0) ∙ part.2)
        (restarted_is_true (job_of split one.ends one.draws one.edges) split start m run place.1)

    later_going : (s : State) → slice_get begun.sites 0 ≡ Some s → is_over s.at.spot ≡ true → 1 ≤ s.at.round
    later_going s at over =
        let part = map_get_back (λ part. core_restarted part split start) parts 0 s at in
        absurd (false≢true (ap (λ (q : State). is_over q.at.spot) part.2 ∙ over))

    later_rulings : (r : ℕ) → start.round ≤ r → r < judged_round begun_skeleton →
        ruling_in begun_skeleton.rulings r ≡ (stand later r).ruling
    later_rulings r late early =
        let next = later_judged (length parts) start.round start.ruling (parts_some parts one) in
        let here : start.round ≡ r = omega (arith, late, early, next) in
        let none : 0 ≡ r - start.round = omega (arith, here) in
        ap (λ b. if b then start.ruling else Stop) (eq-eqb start.round r here)
        ∙ ap (λ n. (stand_after later n).ruling) none

    pub later_follows : Follows later parts begun begun_skeleton
    later_follows = record {
      reached = record {
        some = parts_some parts one;
        few = parts_few parts one;
        first = begun_skeleton;
        is_first = again start.round start.ruling is.late is.may is.mode refl;
        events = [];
        were_possible = refl;
        here = refl;
      };
      alike = restarted_tied core_work core_sound core_lawful split parts one start.round start.ruling begun is;
      machines = later_machines;
      letters = tt;
      rulings = later_rulings;
      late = later_going;
    }
