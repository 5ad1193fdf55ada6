-- How many events a complete run has, for machines of any kind.
use Rattle.std.specs.Prelude.{◌≡◌, true, List, [], ◌∷◌, Option, None, Some, length, map, slice_get}
use Rattle.std.specs.List.{All}
use Rattle.vert_base.specs.declared.message.Event.{Event}
use Rattle.vert_base.specs.declared.message.Event.TheVariants.{Go, Take}
use Rattle.vert_base.specs.declared.value.Ruling.{Ruling}
use Rattle.vert_base.specs.declared.value.Ruling.TheVariants.{Stop}
use Rattle.circulant_plan.specs.Skeleton.{first_skeleton, skeleton_after}
use Rattle.skeleton_laws.specs.Counted.{IsCounted}
use Rattle.instrument.specs.declared.split.Split.{Split}
use Rattle.symple_face.specs.Cluster.{IsOneRun, World, first_world, is_complete, step}
use Rattle.symple_face.specs.Lawful.{CanRun}
use Rattle.symple_face.specs.Parts.{PlainPart}
use Rattle.symple_face.specs.Plans.{blocks_of, ring_of}
use Rattle.symple_face.specs.State.{State}
use Rattle.symple_face.specs.Work.{Work}

-- the ruling that a machine makes if it judges
abbrev pub ruling_of : Work → Option State → Ruling
ruling_of work None = Stop
ruling_of work (Some s) = work.judge s

abbrev pub ruling_at : Work → World → Event → Ruling
ruling_at work w (Go m) = ruling_of work (slice_get w.sites m)
ruling_at work w (Take x) = Stop

-- the events, each with the ruling that its machine makes if it judges
abbrev pub ruled_events : Work → World → List Event → List (Event × Ruling)
ruled_events work w [] = []
ruled_events work w (e ∷ es) = (e, ruling_at work w e) ∷ ruled_events work (step work w e) es

-- by the rulings that the judges made there were so many rounds, and in them so many goes and takes
pub record HasCounts (work : Work) (split : Split) (parts : List PlainPart) (es : List Event) : Type 0 where
  pub events : map (λ e. e.0) (ruled_events work (first_world work split parts) es) ≡ es
  pub counted : IsCounted (ring_of split (length parts)) (blocks_of split)
      (ruled_events work (first_world work split parts) es)
      (skeleton_after (ring_of split (length parts)) (ruled_events work (first_world work split parts) es)
      (first_skeleton (length parts)))

abbrev pub CompleteRunsAreCounted : Work → Type 0
CompleteRunsAreCounted work =
    (split : Split) (parts : List PlainPart) (es : List Event) → IsOneRun parts →
    All (λ part. CanRun part split) parts → is_complete work (first_world work split parts) es ≡ true →
    HasCounts work split parts es
