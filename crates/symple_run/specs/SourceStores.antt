-- The course of a run that leaves images, as the source's run tells it.
use Rattle.std.specs.Prelude.{ℕ, ◌+◌, ◌==◌, nat_le, List, Option, None, Some, if◌then◌else◌, slice_get}
use Rattle.circulant_plan.specs.declared.spot.Spot.{Spot}
use Rattle.circulant_plan.specs.declared.spot.Spot.TheVariants.{Tell, Judge, Begin, Scan, Close, Over}
use Rattle.circulant_plan.specs.Skeleton.{Skeleton}
use Rattle.circulant_plan.specs.Standing.{Standing}
use Rattle.command_steps.specs.Orders.{Course}
use Rattle.machine_runs.specs.SourceTellings.{by_source}
use Rattle.schedule_laws.specs.Starts.{start_at, start_by}
use Rattle.symple_face.specs.Source.{Source, stand}
use Rattle.symple_face.specs.Work.{PlainStart}
use Rattle.symple_run.specs.KeptImages.{imaged_as}
use Rattle.symple_words.specs.declared.line.Lines.{Lines}
use Rattle.vert_base.specs.declared.message.Event.{Event}
use Rattle.vert_base.specs.declared.message.Event.TheVariants.{Go, Take}

-- what stands before the round behind the one that is judged at this spot, where that one takes place: nothing behind
-- round 0
abbrev pub start_judged : Source → Spot → Option PlainStart
start_judged src Tell = None
start_judged src (Judge r) = if nat_le 1 r then start_by (stand src (r + 1)).ruling (start_at src (r + 1)) else None
start_judged src (Begin r) = None
start_judged src (Scan r step h) = None
start_judged src (Close r dense) = None
start_judged src Over = None

abbrev pub start_standing : Source → Option Standing → Option PlainStart
start_standing src None = None
start_standing src (Some s) = start_judged src s.spot

-- the start that an event leaves, by the order of events
abbrev pub start_ended : Source → Skeleton → Event → Option PlainStart
start_ended src k (Go m) = if m == 0 then start_standing src (slice_get k.standings 0) else None
start_ended src k (Take x) = None

-- each image stands behind the lines of the event that ends its round
abbrev pub imaged_by_source : Lines → Source → List ℕ → List ℕ → Skeleton → List Event → Course
imaged_by_source lines src key image k es = imaged_as (by_source lines src) (start_ended src) key image k es
