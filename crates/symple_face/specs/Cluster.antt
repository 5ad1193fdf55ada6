-- A cluster of machines of one kind and the messages under way, as plain data, and what an event makes of them.
use Rattle.std.specs.Prelude.{◌≡◌, ◌≤◌, ℕ, ◌+◌, ◌*◌, ◌&&◌, Bool, true, false, if◌then◌else◌, Option, Some, None, is_some, List, [], ◌∷◌, ◌++◌, map, length, slice_get, slice_set}
use Rattle.std.specs.List.{list_all}
use Rattle.vert_base.specs.declared.graph.Edge.{Edge}
use Rattle.vert_base.specs.declared.limits.TheConstants.{EDGES, VERTICES}
use Rattle.vert_base.specs.declared.message.Event.{Event}
use Rattle.vert_base.specs.declared.message.Event.TheVariants.{Go, Take}
use Rattle.vert_base.specs.Letters.{Letter, found, placed, without}
use Rattle.vert_base.specs.Neighbours.{AreBelow}
use Rattle.word_kinds.specs.Fits.{HaveWeights}
use Rattle.chunk_split.specs.Chunks.{AreEnds, vertices_of}
use Rattle.circulant_plan.specs.Remaining.{way_left}
use Rattle.circulant_plan.specs.Skeleton.{is_over}
use Rattle.instrument.specs.declared.split.Split.{Split}
use Rattle.symple_face.specs.declared.action.Action.{Action}
use Rattle.symple_face.specs.declared.action.Action.TheVariants.{Ready, Waits, Over}
use Rattle.symple_face.specs.Parts.{PlainPart}
use Rattle.symple_face.specs.PartsOf.{parts_of}
use Rattle.symple_face.specs.Plans.{blocks_of}
use Rattle.symple_face.specs.State.{State, action_of}
use Rattle.symple_face.specs.Work.{Work, PlainStart}

-- the machines, by number, and the messages under way, by name
pub record World : Type 0 where
  pub sites : List State
  pub under_way : List Letter

-- the messages with more put among them, each in its place
abbrev pub all_placed : List Letter → List Letter → List Letter
all_placed [] under_way = under_way
all_placed (l ∷ ls) under_way = all_placed ls (placed l under_way)

-- machine m acts, and what it sends is under way
abbrev pub go_at : Work → World → ℕ → Option State → World
go_at work w m None = w
go_at work w m (Some s) =
    record { sites = slice_set w.sites m (work.go s); under_way = all_placed (work.sent s) w.under_way }

-- its receiver takes a message
abbrev pub take_at : Work → World → Letter → Option State → World
take_at work w l None = w
take_at work w l (Some s) =
    record { sites = slice_set w.sites l.name.to (work.take s l); under_way = without l.name w.under_way }

abbrev pub take_found : Work → World → Option Letter → World
take_found work w None = w
take_found work w (Some l) = take_at work w l (slice_get w.sites l.name.to)

-- what an event leaves
abbrev pub step : Work → World → Event → World
step work w (Go m) = go_at work w m (slice_get w.sites m)
step work w (Take x) = take_found work w (found x w.under_way)

abbrev pub is_ready : Action → Bool
is_ready Ready = true
is_ready (Waits x) = false
is_ready Over = false

abbrev pub can_act : Option State → Bool
can_act None = false
can_act (Some s) = is_ready (action_of s)

-- an event is possible where its machine is ready, or its message is under way
abbrev pub possible : World → Event → Bool
possible w (Go m) = can_act (slice_get w.sites m)
possible w (Take x) = is_some (found x w.under_way)

-- the run is finished when every machine is over
abbrev pub finished : World → Bool
finished w = list_all (λ s. is_over s.at.spot) w.sites

-- what a list of events leaves
abbrev pub after : Work → World → List Event → World
after work w [] = w
after work w (e ∷ es) = after work (step work w e) es

-- whether each event is possible in turn
abbrev pub all_possible : Work → World → List Event → Bool
all_possible work w [] = true
all_possible work w (e ∷ es) = possible w e && all_possible work (step work w e) es

-- whether the events are a complete run from here
abbrev pub is_complete : Work → World → List Event → Bool
is_complete work w es = all_possible work w es && finished (after work w es)

-- the machines that are ready, ascending, where the first of a list has this number
abbrev pub ready_from : ℕ → List State → List ℕ
ready_from number [] = []
ready_from number (s ∷ ss) =
    if can_act (Some s) then number ∷ ready_from (number + 1) ss else ready_from (number + 1) ss

abbrev pub ready_machines : World → List ℕ
ready_machines w = ready_from 0 w.sites

abbrev pub goes : World → List Event
goes w = map (λ m. Go m) (ready_machines w)

abbrev pub takes : World → List Event
takes w = map (λ l. Take l.name) w.under_way

-- the possible events: goes by machine, then takes by name
abbrev pub choices_of : World → List Event
choices_of w = goes w ++ takes w

-- the plain event is the first of them
abbrev pub plain_of : World → Option Event
plain_of w = slice_get (choices_of w) 0

-- what is missing of a run: the take of the least message under way, or where there is none the go of the least
-- machine that is ready
abbrev pub missing_of : World → Option Event
missing_of w = slice_get (takes w ++ goes w) 0

-- the events are the plain ones from here on, up to the end
abbrev pub IsPlainRun : Work → World → List Event → Type 0
IsPlainRun work w [] = finished w ≡ true
IsPlainRun work w (e ∷ es) = (finished w ≡ false) × (plain_of w ≡ Some e) × IsPlainRun work (step work w e) es

-- a bound of the events that are left: a go sends fewer than 66 messages
abbrev pub ways_left : List State → ℕ
ways_left [] = 0
ways_left (s ∷ ss) = way_left (blocks_of s.split) s.at + ways_left ss

abbrev pub events_left : World → ℕ
events_left w = 66 * ways_left w.sites + length w.under_way

-- the first state of a run: each machine as it is made of its part
abbrev pub first_world : Work → Split → List PlainPart → World
first_world work split parts = record { sites = map (λ part. work.first part split) parts; under_way = [] }

-- the first state of a run that goes on from a start
abbrev pub restarted_world : Work → Split → List PlainPart → PlainStart → World
restarted_world work split parts start =
    record { sites = map (λ part. work.restarted part split start) parts; under_way = [] }

-- these are the parts of one graph for one run, in order
pub record IsOneRun (parts : List PlainPart) : Type 0 where
  pub ends : List ℕ
  pub edges : List Edge
  pub draws : ℕ
  pub chunks : AreEnds 64 ends
  pub within : vertices_of ends ≤ VERTICES
  pub below : AreBelow (vertices_of ends) edges
  pub weights : HaveWeights edges
  pub few : length edges ≤ EDGES
  pub parts_are : parts ≡ parts_of ends draws edges
