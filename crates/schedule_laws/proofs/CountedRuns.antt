-- A complete run of machines of any kind is one of the order of events, by the rulings that its judges make.
use Rattle.std.proofs.Common.{◌≡◌, ℕ, ◌≤◌, true, List, [], ◌∷◌, length, map, Some, refl, ap, sym, ◌∙◌, subst, slice_get}
use Rattle.std.specs.List.{All, list_all}
use Rattle.std.proofs.lemmas.Bool.{and_from, and_parts}
use Rattle.std.proofs.lemmas.List.Folds.{list_all-map}
use Rattle.vert_base.specs.declared.message.Name.{Name}
use Rattle.vert_base.specs.declared.message.Event.{Event}
use Rattle.vert_base.specs.declared.message.Event.TheVariants.{Go, Take}
use Rattle.vert_base.specs.declared.value.Ruling.TheVariants.{Stop}
use Rattle.vert_base.specs.Letters.{found}
use Rattle.circulant_plan.specs.declared.spot.Ring.{Ring}
use Rattle.circulant_plan.specs.Runs.{IsReached, anew}
use Rattle.circulant_plan.specs.Skeleton.{Blocks, Skeleton, first_skeleton, is_finished, is_over, is_possible, skeleton_after, step_of}
use Rattle.circulant_plan.specs.Skeleton as plan
use Rattle.circulant_plan.specs.Standing.{Standing}
use Rattle.skeleton_laws.proofs.RunCounts.{complete_runs_are_counted}
use Rattle.instrument.specs.declared.split.Split.{Split}
use Rattle.symple_face.specs.Cluster.{IsOneRun, World, after, all_possible, can_act, finished, first_world, is_complete, possible, step}
use Rattle.symple_face.specs.Cluster as cluster
use Rattle.symple_face.specs.Lawful.{CanRun, IsLawful}
use Rattle.symple_face.specs.Parts.{PlainPart}
use Rattle.symple_face.specs.Plans.{blocks_of, ring_of}
use Rattle.symple_face.specs.State.{State}
use Rattle.symple_face.specs.Work.{Work}
use Rattle.cluster_run.proofs.FirstWorlds.{first_tied}
use Rattle.cluster_run.proofs.GoWorlds as go
use Rattle.cluster_run.proofs.PartsAt.{parts_few, parts_some}
use Rattle.cluster_run.proofs.TakeWorlds as take
use Rattle.cluster_run.proofs.Worlds.{IsSkeletonOf}
use Rattle.schedule_laws.specs.CountedRuns.{CompleteRunsAreCounted, HasCounts, ruled_events, ruling_at, ruling_of}
use Rattle.state_laws.proofs.Options.{some_of}
use Rattle.cluster_run.proofs.ReachedWorldLaws.{some_site}

events_are : (work : Work) (w : World) (es : List Event) → map (λ e. e.0) (ruled_events work w es) ≡ es
events_are work w [] = refl
events_are work w (e ∷ es) = ap (λ more. e ∷ more) (events_are work (step work w e) es)

module _ (work : Work) (sound : State → Type 0) (lawful : IsLawful work sound) (split : Split)
    (parts : List PlainPart) (one : IsOneRun parts) where
  few : length parts ≤ 64
  few = parts_few parts one

  abbrev ring : Ring
  ring = ring_of split (length parts)

  abbrev blocks : Blocks
  blocks = blocks_of split

  -- a reached skeleton that stands as the world does
  record Stands (w : World) (k : Skeleton) : Type 0 where
    reached : IsReached ring blocks k
    alike : IsSkeletonOf sound split parts w k

  -- an event is one of the skeleton, by the ruling that its machine makes if it judges
  record Steps (w : World) (k : Skeleton) (e : Event) : Type 0 where
    can : is_possible ring blocks (ruling_at work w e) e k ≡ true
    next : Stands (step work w e) (step_of ring (ruling_at work w e) e k)

  module _ (w : World) (k : Skeleton) (at : Stands w k) where
    go_steps : (m : ℕ) → possible w (Go m) ≡ true → Steps w k (Go m)
    go_steps m can =
        let site = some_site (slice_get w.sites m) can in
        let s : State = site.0 in
        let ready : can_act (Some s) ≡ true = subst (λ o. can_act o ≡ true) site.1 can in
        record {
          can = subst (λ o. is_possible ring blocks (ruling_of work o) (Go m) k ≡ true) (sym site.1)
              (go.can_step work sound lawful split parts few one w k at.alike at.reached m s site.1 ready);
          next = subst (λ o. Stands (cluster.go_at work w m o) (step_of ring (ruling_of work o) (Go m) k)) (sym site.1)
              (subst (Stands (cluster.go_at work w m (Some s)))
              (sym (go.step_is work sound lawful split parts few one w k at.alike at.reached m s site.1 ready))
              (record {
                reached =
                    go.next_reached work sound lawful split parts few one w k at.alike at.reached m s site.1 ready;
                alike = go.gone_tied work sound lawful split parts few one w k at.alike at.reached m s site.1 ready;
              }));
        }

    take_steps : (x : Name) → possible w (Take x) ≡ true → Steps w k (Take x)
    take_steps x can =
        let l = some_of (found x w.under_way) can in
        record {
          can = sym (at.alike.flies x) ∙ can;
          next = subst (λ v. Stands v (step_of ring Stop (Take x) k))
              (sym (take.gone_is work sound lawful split parts few one w k at.alike at.reached x l.0 l.1))
              (record {
                reached = take.next_reached work sound lawful split parts few one w k at.alike at.reached x l.0 l.1;
                alike = take.gone_tied work sound lawful split parts few one w k at.alike at.reached x l.0 l.1;
              });
        }

    event_steps : (e : Event) → possible w e ≡ true → Steps w k e
    event_steps (Go m) can = go_steps m can
    event_steps (Take x) can = take_steps x can

    finished_so : finished w ≡ is_finished k
    finished_so =
        sym (list_all-map (λ (s : Standing). is_over s.spot) (λ (s : State). s.at) w.sites)
        ∙ ap (list_all (λ (s : Standing). is_over s.spot)) at.alike.standings

  -- so a list of events that are possible in turn, to the end, is one of the skeleton
  Completes : World → Skeleton → List Event → Type 0
  Completes w k es =
      (plan.all_possible ring blocks (ruled_events work w es) k ≡ true)
      × (is_finished (skeleton_after ring (ruled_events work w es) k) ≡ true)

  completes : (w : World) (k : Skeleton) → Stands w k → (es : List Event) → all_possible work w es ≡ true →
      finished (after work w es) ≡ true → Completes w k es
  unfolding Completes
  completes w k at [] can ends = (refl, sym (finished_so w k at) ∙ ends)
  completes w k at (e ∷ es) can ends =
      let c = and_parts (possible w e) (all_possible work (step work w e) es) can in
      let one = event_steps w k at e c.0 in
      let more = completes (step work w e) (step_of ring (ruling_at work w e) e k) one.next es c.1 ends in (
        and_from (is_possible ring blocks (ruling_at work w e) e k)
            (plan.all_possible ring blocks (ruled_events work (step work w e) es)
            (step_of ring (ruling_at work w e) e k)) one.can more.0,
        more.1,
      )

  module _ (can_run : All (λ part. CanRun part split) parts) (es : List Event)
      (complete : is_complete work (first_world work split parts) es ≡ true) where
    first_stands : Stands (first_world work split parts) (first_skeleton (length parts))
    first_stands = record {
      reached = record {
        some = parts_some parts one;
        few = few;
        first = first_skeleton (length parts);
        is_first = anew refl;
        events = [];
        were_possible = refl;
        here = refl;
      };
      alike = first_tied work sound lawful split parts one can_run;
    }

    whole : plan.is_complete ring blocks (ruled_events work (first_world work split parts) es)
        (first_skeleton (length parts)) ≡ true
    unfolding Completes
    whole =
        let c = and_parts (all_possible work (first_world work split parts) es)
        (finished (after work (first_world work split parts) es)) complete in
        let is = completes (first_world work split parts) (first_skeleton (length parts)) first_stands es c.0 c.1 in
        and_from
        (plan.all_possible ring blocks (ruled_events work (first_world work split parts) es)
        (first_skeleton (length parts)))
        (is_finished (skeleton_after ring (ruled_events work (first_world work split parts) es)
        (first_skeleton (length parts)))) is.0 is.1

    pub has_counts : HasCounts work split parts es
    has_counts = record {
      events = events_are work (first_world work split parts) es;
      counted = complete_runs_are_counted ring blocks (ruled_events work (first_world work split parts) es)
          (parts_some parts one) few whole;
    }

pub runs_are_counted : (work : Work) (sound : State → Type 0) → IsLawful work sound → CompleteRunsAreCounted work
runs_are_counted work sound lawful split parts es one can_run complete =
    has_counts work sound lawful split parts one can_run es complete
