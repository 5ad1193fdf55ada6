-- What a run tells by the source's run and the order of its events alone, with no word of machines.
use Rattle.std.specs.Prelude.{◌≡◌, ◌++◌, ℕ, ◌%◌, true, false, List, [], ◌∷◌, Option, None, Some, if◌then◌else◌, length, map, option_map, slice_get}
use Rattle.array_text.specs.Events.{event_line}
use Rattle.array_text.specs.Tables.{table_text}
use Rattle.circulant_plan.specs.declared.spot.Ring.{Ring}
use Rattle.circulant_plan.specs.Choosing.{missing_of, names_in_order, ready_machines}
use Rattle.circulant_plan.specs.Skeleton.{Skeleton, has_name, is_finished, is_over}
use Rattle.circulant_plan.specs.Standing.{Standing}
use Rattle.circulant_plan.specs.Table.{needs_of}
use Rattle.cluster_run.specs.declared.fault.EventFault.{EventFault}
use Rattle.cluster_run.specs.declared.fault.EventFault.TheVariants.{MachineOver, NoMachine, NotUnderWay, RunOver, Waits}
use Rattle.cluster_run.specs.Faults.{lacks}
use Rattle.delivery_log.specs.Choosers.{behind_word, word_of}
use Rattle.rand_pcg.specs.Lcg.{Lcg}
use Rattle.schedule_laws.specs.Events.{ring_in}
use Rattle.schedule_laws.specs.OutputText.{ended_lines, ideal_taken, next_by, run_of}
use Rattle.symple_face.specs.Source.{Source}
use Rattle.symple_words.specs.declared.line.Lines.{Lines}
use Rattle.vert_base.specs.declared.message.Event.{Event}
use Rattle.vert_base.specs.declared.message.Event.TheVariants.{Go, Take}
use Rattle.vert_base.specs.declared.message.Name.{Name}
use Rattle.machine_runs.specs.Tellings.{Telling, lack_of, why_of}

-- ---- which events may come, by the order of events

-- the first of some names under which no message was taken
abbrev pub first_untaken : List Name → List Name → Option Name
first_untaken [] taken = None
first_untaken (x ∷ xs) taken = if has_name x taken then first_untaken xs taken else Some x

-- why a machine that stands so can't go, where it can't
abbrev pub standing_fault : Ring → ℕ → List Name → Option Standing → Option EventFault
standing_fault ring m taken None = Some NoMachine
standing_fault ring m taken (Some s) =
    if is_over s.spot then Some MachineOver
    else option_map (λ x. Waits x) (first_untaken (needs_of ring m s.spot) taken)

abbrev pub turn_fault : Ring → Skeleton → Event → Option EventFault
turn_fault ring k (Go m) = standing_fault ring m k.taken (slice_get k.standings m)
turn_fault ring k (Take x) = if has_name x k.under_way then None else Some NotUnderWay

-- why an event can't come next, where it can't
abbrev pub order_fault : Ring → Skeleton → Event → Option EventFault
order_fault ring k e = if is_finished k then Some RunOver else turn_fault ring k e

-- the events that may come next: goes by machine, then takes by name
abbrev pub next_events : Ring → Skeleton → List Event
next_events ring k = map (λ m. Go m) (ready_machines ring k) ++ map (λ x. Take x) (names_in_order k.under_way)

-- ---- what the source's run tells of them

-- each message is taken with its ideal body, and each round told as it is played
abbrev pub by_source : Lines → Source → Telling Skeleton Event
by_source lines src = record {
  own = λ k e. if lines.log then event_line e (ideal_taken src e) else [];
  ended = ended_lines lines src;
  table = λ k. table_text src.job.program (run_of src).last.rows;
  behind = next_by src;
  refusal = λ k e. option_map (why_of e) (order_fault (ring_in src) k e);
  lacks = λ k. option_map lack_of (option_map lacks (missing_of (ring_in src) k));
}

-- ---- runs by a choice of events

-- the events are the plain ones from here on, up to the end
abbrev pub IsPlainOrder : Source → Skeleton → List Event → Type 0
IsPlainOrder src k [] = is_finished k ≡ true
IsPlainOrder src k (e ∷ es) =
    (is_finished k ≡ false) × (slice_get (next_events (ring_in src) k) 0 ≡ Some e)
    × IsPlainOrder src (next_by src k e) es

-- the choice that the next word draws
abbrev pub drawn_next : Ring → Lcg → Skeleton → Option Event
drawn_next ring g k = slice_get (next_events ring k) (word_of g % length (next_events ring k))

-- the events are the drawn ones from here on, up to the end
abbrev pub IsDrawnOrder : Source → Skeleton → Lcg → List Event → Type 0
IsDrawnOrder src k g [] = is_finished k ≡ true
IsDrawnOrder src k g (e ∷ es) =
    (is_finished k ≡ false) × (drawn_next (ring_in src) g k ≡ Some e)
    × IsDrawnOrder src (next_by src k e) (behind_word g) es
