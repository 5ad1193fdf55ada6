-- Each reached world stands as a reached skeleton does; so what holds of the order of events holds of it.
use Rattle.std.proofs.Common.{◌≡◌, ℕ, ◌≤◌, true, List, [], ◌∷◌, length, Option, Some, None, refl, sym, subst, slice_get}
use Rattle.std.specs.Prelude.{is_some}
use Rattle.std.specs.List.{All}
use Rattle.std.proofs.lemmas.Bool.{false≢true, and_parts}
use Rattle.vert_base.specs.declared.message.Name.{Name}
use Rattle.vert_base.specs.declared.message.Event.{Event}
use Rattle.vert_base.specs.declared.message.Event.TheVariants.{Go, Take}
use Rattle.vert_base.specs.Letters.{Letter, found}
use Rattle.circulant_plan.specs.declared.spot.Ring.{Ring}
use Rattle.circulant_plan.specs.Runs.{IsReached, anew, again}
use Rattle.circulant_plan.specs.Skeleton.{Skeleton, Blocks, first_skeleton, resumed_skeleton}
use Rattle.instrument.specs.declared.split.Split.{Split}
use Rattle.symple_face.specs.Cluster.{IsOneRun, World, after, all_possible, can_act, events_left, finished, possible, step, ways_left}
use Rattle.symple_face.specs.Cluster as cluster
use Rattle.symple_face.specs.Lawful.{CanRun, IsLawful}
use Rattle.symple_face.specs.Parts.{PlainPart}
use Rattle.symple_face.specs.Plans.{blocks_of, ring_of}
use Rattle.symple_face.specs.State.{State}
use Rattle.symple_face.specs.Work.{Work}
use Rattle.cluster_run.specs.Driven.{IsFirst, IsRestarted}
use Rattle.cluster_run.specs.Driven as driven
use Rattle.cluster_run.proofs.FirstWorlds.{first_tied, restarted_tied}
use Rattle.cluster_run.proofs.GoWorlds as go
use Rattle.cluster_run.proofs.PartsAt.{parts_few, parts_some}
use Rattle.cluster_run.proofs.TakeWorlds as take
use Rattle.cluster_run.proofs.Worlds.{IsSkeletonOf}

-- a reached skeleton that stands as the world does
pub record IsTied (sound : State → Type 0) (split : Split) (parts : List PlainPart) (w : World) : Type 0 where
  pub k : Skeleton
  pub reached : IsReached (ring_of split (length parts)) (blocks_of split) k
  pub alike : IsSkeletonOf sound split parts w k

module _ (work : Work) (sound : State → Type 0) (lawful : IsLawful work sound) (split : Split)
    (parts : List PlainPart) (one : IsOneRun parts) where
  abbrev ring : Ring
  ring = ring_of split (length parts)

  abbrev blocks : Blocks
  blocks = blocks_of split

  few : length parts ≤ 64
  few = parts_few parts one

  pub first_ties : (w : World) → All (λ part. CanRun part split) parts → IsFirst work sound split parts w →
      IsTied sound split parts w
  first_ties w can_run (driven.anew is) =
      subst (IsTied sound split parts) (sym is) (record {
        k = first_skeleton (length parts);
        reached = record {
          some = parts_some parts one;
          few = few;
          first = first_skeleton (length parts);
          is_first = anew refl;
          events = [];
          were_possible = refl;
          here = refl;
        };
        alike = first_tied work sound lawful split parts one can_run;
      })
  first_ties w can_run (driven.again round ruling is) = record {
    k = resumed_skeleton (length parts) round ruling;
    reached = record {
      some = parts_some parts one;
      few = few;
      first = resumed_skeleton (length parts) round ruling;
      is_first = again round ruling is.late is.may is.mode refl;
      events = [];
      were_possible = refl;
      here = refl;
    };
    alike = restarted_tied work sound lawful split parts one round ruling w is;
  }

  go_ties : (w : World) (m : ℕ) (o : Option State) → IsTied sound split parts w → slice_get w.sites m ≡ o →
      can_act o ≡ true →
      IsTied sound split parts (cluster.go_at work w m o)
  go_ties w m None t at can = t
  go_ties w m (Some s) t at can = record {
    k = go.next work sound lawful split parts few one w t.k t.alike t.reached m s at can;
    reached = go.next_reached work sound lawful split parts few one w t.k t.alike t.reached m s at can;
    alike = go.gone_tied work sound lawful split parts few one w t.k t.alike t.reached m s at can;
  }

  take_ties : (w : World) (x : Name) (l : Letter) → IsTied sound split parts w → found x w.under_way ≡ Some l →
      IsTied sound split parts (step work w (Take x))
  take_ties w x l t at = record {
    k = take.next work sound lawful split parts few one w t.k t.alike t.reached x l at;
    reached = take.next_reached work sound lawful split parts few one w t.k t.alike t.reached x l at;
    alike =
        subst (λ v. IsSkeletonOf sound split parts v
        (take.next work sound lawful split parts few one w t.k t.alike t.reached x l at))
        (sym (take.gone_is work sound lawful split parts few one w t.k t.alike t.reached x l at))
        (take.gone_tied work sound lawful split parts few one w t.k t.alike t.reached x l at);
  }

  found_ties : (w : World) (x : Name) (o : Option Letter) → IsTied sound split parts w → found x w.under_way ≡ o →
      is_some o ≡ true → IsTied sound split parts (step work w (Take x))
  found_ties w x None t at can = absurd (false≢true can)
  found_ties w x (Some l) t at can = take_ties w x l t at

  pub step_ties : (w : World) (e : Event) → IsTied sound split parts w → possible w e ≡ true →
      IsTied sound split parts (step work w e)
  step_ties w (Go m) t can = go_ties w m (slice_get w.sites m) t refl can
  step_ties w (Take x) t can = found_ties w x (found x w.under_way) t refl can

  pub after_ties : (w : World) (es : List Event) → IsTied sound split parts w → all_possible work w es ≡ true →
      IsTied sound split parts (after work w es)
  after_ties w [] t can = t
  after_ties w (e ∷ es) t can =
      let c = and_parts (possible w e) (all_possible work (step work w e) es) can in
      after_ties (step work w e) es (step_ties w e t c.0) c.1

pub reached_ties : (work : Work) (sound : State → Type 0) (lawful : IsLawful work sound) (w : World)
    (r : driven.IsReached work sound w) → IsTied sound r.split r.parts w
reached_ties work sound lawful w r =
    subst (IsTied sound r.split r.parts) (sym r.here)
    (after_ties work sound lawful r.split r.parts r.one_run r.first r.events
    (first_ties work sound lawful r.split r.parts r.one_run r.first r.can_run r.is_first) r.were_possible)
