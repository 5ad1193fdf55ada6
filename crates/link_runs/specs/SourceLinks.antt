-- What a run over links tells by the source's run and the order of its events alone, with no word of machines.
use Rattle.std.specs.Prelude.{◌≡◌, ◌<◌, ◌⊎◌, ◌++◌, ℕ, ◌%◌, Bool, true, false, List, [], ◌∷◌, Option, None, Some, drop, if◌then◌else◌, length, map, option_map, slice_get}
use Rattle.array_text.specs.Events.{event_line as machine_line}
use Rattle.circulant_plan.specs.declared.spot.Ring.{Ring}
use Rattle.circulant_plan.specs.Choosing.{ready_machines}
use Rattle.circulant_plan.specs.Skeleton.{Skeleton, has_name, is_finished}
use Rattle.cluster_run.specs.declared.fault.EventFault.TheVariants.{NotUnderWay, RunOver}
use Rattle.delivery_log.specs.Choosers.{behind_word, word_of}
use Rattle.link_core.specs.declared.event.LinkEvent.{LinkEvent}
use Rattle.link_core.specs.declared.event.LinkEvent.TheVariants.{Go, Take, Lose, Again, Ack, Drop}
use Rattle.link_core.specs.declared.fault.LinkFault.{LinkFault}
use Rattle.link_core.specs.declared.fault.LinkFault.TheVariants.{Plain, NotAgain, NoAck}
use Rattle.link_core.specs.LinkChoices.{wire_choices}
use Rattle.link_core.specs.LinkTexts.{links_text}
use Rattle.link_core.specs.Traffic.{Traffic, acknowledged, all_sent, can_repeat, dropped, has_ack, has_copy, lost, no_traffic, repeated, taken}
use Rattle.link_runs.specs.LinkTellings.{why_not, wire_line}
use Rattle.machine_runs.specs.SourceTellings.{by_source, order_fault}
use Rattle.machine_runs.specs.Tellings.{Telling}
use Rattle.rand_pcg.specs.Lcg.{Lcg}
use Rattle.schedule_laws.specs.Events.{ring_in}
use Rattle.schedule_laws.specs.OutputText.{ideal_taken, next_by}
use Rattle.symple_face.specs.Source.{Source}
use Rattle.symple_words.specs.declared.line.Lines.{Lines}
use Rattle.vert_base.specs.declared.limits.TheConstants.{SCHEDULE_BYTES}
use Rattle.vert_base.specs.declared.message.Event.TheVariants as plain
use Rattle.vert_base.specs.declared.message.Name.{Name}
use Rattle.vert_base.specs.Letters.{Letter}

-- the order of the events that machines see, and the traffic on the links
pub record Ordered : Type 0 where
  pub order : Skeleton
  pub traffic : Traffic

-- nothing was sent yet
abbrev pub ordered_anew : Skeleton → Ordered
ordered_anew k = record { order = k; traffic = no_traffic }

-- whether the next take of the name accepts: it was sent, and not accepted before
abbrev pub will_accept : Ordered → Name → Bool
will_accept s x = has_name x s.order.under_way

-- ---- what an event leaves

-- the names that a go puts under way, behind those that are there
abbrev pub given_by : Source → Skeleton → ℕ → List Name
given_by src k m = drop (length k.under_way) (next_by src k (plain.Go m)).under_way

-- the first copy that is taken goes to the machine, and no later one
abbrev pub order_taken : Source → Ordered → Name → Skeleton
order_taken src s x = if will_accept s x then next_by src s.order (plain.Take x) else s.order

abbrev pub ordered_step : Source → Ordered → LinkEvent → Ordered
ordered_step src s (Go m) = record {
  order = next_by src s.order (plain.Go m);
  traffic = all_sent (given_by src s.order m) s.traffic;
}
ordered_step src s (Take x) = record { order = order_taken src s x; traffic = taken x s.traffic }
ordered_step src s (Lose x) = record { order = s.order; traffic = lost x s.traffic }
ordered_step src s (Again x) = record { order = s.order; traffic = repeated x s.traffic }
ordered_step src s (Ack x) = record { order = s.order; traffic = acknowledged x s.traffic }
ordered_step src s (Drop x) = record { order = s.order; traffic = dropped x s.traffic }

abbrev pub ordered_after : Source → Ordered → List LinkEvent → Ordered
ordered_after src s [] = s
ordered_after src s (e ∷ es) = ordered_after src (ordered_step src s e) es

-- ---- which events may come

-- why an event can't come next, where the run isn't finished
abbrev pub turn_fault : Ring → Ordered → LinkEvent → Option LinkFault
turn_fault ring s (Go m) = option_map (λ fault. Plain fault) (order_fault ring s.order (plain.Go m))
turn_fault ring s (Take x) = if has_copy s.traffic x then None else Some (Plain NotUnderWay)
turn_fault ring s (Lose x) = if has_copy s.traffic x then None else Some (Plain NotUnderWay)
turn_fault ring s (Again x) = if can_repeat s.traffic x then None else Some NotAgain
turn_fault ring s (Ack x) = if has_ack s.traffic x then None else Some NoAck
turn_fault ring s (Drop x) = if has_ack s.traffic x then None else Some NoAck

abbrev pub ordered_fault : Ring → Ordered → LinkEvent → Option LinkFault
ordered_fault ring s e = if is_finished s.order then Some (Plain RunOver) else turn_fault ring s e

-- the events that may come next: goes by machine, then takes, loses, agains, acks and drops, each by name
abbrev pub next_links : Ring → Ordered → List LinkEvent
next_links ring s =
    if is_finished s.order then [] else map (λ m. Go m) (ready_machines ring s.order) ++ wire_choices s.traffic

-- ---- what the source's run tells of them

-- the message that a take gives to its machine, with its ideal body
abbrev pub ideal_accepted : Source → Ordered → Name → Option Letter
ideal_accepted src s x = if will_accept s x then ideal_taken src (plain.Take x) else None

abbrev pub own_line : Lines → Source → Ordered → LinkEvent → List ℕ
own_line lines src s (Go m) = (by_source lines src).own s.order (plain.Go m)
own_line lines src s (Take x) = if lines.log then machine_line (plain.Take x) (ideal_accepted src s x) else []
own_line lines src s (Lose x) = wire_line lines (Lose x)
own_line lines src s (Again x) = wire_line lines (Again x)
own_line lines src s (Ack x) = wire_line lines (Ack x)
own_line lines src s (Drop x) = wire_line lines (Drop x)

-- the lines of the round that an event ends: none but a go ends one
abbrev pub ended_by : Lines → Source → Ordered → LinkEvent → List ℕ
ended_by lines src s (Go m) = (by_source lines src).ended s.order (plain.Go m)
ended_by lines src s (Take x) = []
ended_by lines src s (Lose x) = []
ended_by lines src s (Again x) = []
ended_by lines src s (Ack x) = []
ended_by lines src s (Drop x) = []

abbrev pub by_source_links : Lines → Source → Telling Ordered LinkEvent
by_source_links lines src = record {
  own = own_line lines src;
  ended = ended_by lines src;
  table = λ s. (by_source lines src).table s.order;
  behind = ordered_step src;
  refusal = λ s e. option_map (why_not e) (ordered_fault (ring_in src) s e);
  lacks = λ s. (by_source lines src).lacks s.order;
}

-- ---- runs by a choice of events

-- the choice that the next word draws
abbrev pub next_drawn : Ring → Lcg → Ordered → Option LinkEvent
next_drawn ring g s = slice_get (next_links ring s) (word_of g % length (next_links ring s))

-- the events are the drawn ones from here on, as far as they go
abbrev pub AreDrawnInOrder : Source → Ordered → Lcg → List LinkEvent → Type 0
AreDrawnInOrder src s g [] = Unit {0}
AreDrawnInOrder src s g (e ∷ es) =
    (is_finished s.order ≡ false) × (next_drawn (ring_in src) g s ≡ Some e)
    × AreDrawnInOrder src (ordered_step src s e) (behind_word g) es

-- up to the end of the run, or so far that a text of form 3 can't hold them all
abbrev pub IsFarOrder : Source → ℕ → List LinkEvent → Ordered → Lcg → List LinkEvent → Type 0
IsFarOrder src machines added s g events =
    AreDrawnInOrder src s g events
    × ((is_finished (ordered_after src s events).order ≡ true)
    ⊎ (SCHEDULE_BYTES < length (links_text machines (added ++ events))))
