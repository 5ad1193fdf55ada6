-- What a core does at the close of a round: the tail at each own vertex in a dense one, and then the update.
use Rattle.std.specs.Prelude.{ℕ, ℤ, Bool, true, false, List, [], Option, None, Some, if◌then◌else◌, drop, map, take, unwrap_or}
use Rattle.vert_base.specs.declared.value.Row.{Row}
use Rattle.vert_tree.specs.declared.program.Dense.{Dense}
use Rattle.slot_merge.specs.declared.partial.Partial.{Partial}
use Rattle.slot_merge.specs.Partials.{with_emissions}
use Rattle.dep_layout.specs.Spelling.{State as LoopState}
use Rattle.vert_eval.specs.declared.environment.Env.{Env}
use Rattle.vert_eval.specs.Rounds.{updated}
use Rattle.vert_eval.specs.Runs.{run}
use Rattle.vert_eval.specs.Values.{value_of}
use Rattle.vert_eval.specs.Words.{is_set}
use Rattle.carry_analysis.specs.declared.classes.Class.{Class}
use Rattle.instrument.specs.declared.split.Split.{Split}
use Rattle.instrument.specs.Loops.{loop_split}
use Rattle.instrument.specs.Segments.{own_words, with_words}
use Rattle.symple_face.specs.CoreDense.{ring_at}
use Rattle.symple_face.specs.CoreScan.{fresh, told_words}
use Rattle.symple_face.specs.CoreSight.{none, own_sight, own_vertices, program_of, targets}
use Rattle.symple_face.specs.CoreTakes.{empty_partials, own_partials, slot_count}
use Rattle.symple_face.specs.Ring.{closing}
use Rattle.symple_face.specs.Sight.{Sight, seen_env}
use Rattle.symple_face.specs.State.{State, p_of}

-- what came of each partial
abbrev pub values_of : List Partial → List (Option ℤ)
values_of ps = map (λ q. q.value) ps

-- the words of the lets for the tail: the own ones, over which come those of a state that is started, and with
-- which come those of the partials of the reduced lets
abbrev pub closing_words : List Class → List ℤ → LoopState → List Partial → List ℤ
closing_words cs own st lets = closing cs own (unwrap_or (told_words st) []) (values_of lets)

-- the environment of the tail of a vertex
abbrev pub tail_env : Split → Dense → Env → List Partial → LoopState → Env
tail_env split dense env ps st =
    with_words
    (closing_words (loop_split dense).classes.locals.items (own_words dense.lets.items env) st
    (drop (slot_count split) ps))
    env

-- the partials of a vertex with what its tail emits under a key
abbrev pub tail_at : Split → Dense → Sight → ℕ → List Partial → LoopState → ℕ → List Partial
tail_at split dense g key ps st v =
    let env : Env = seen_env g v key (none split) in
    if is_set (value_of dense.when_test env)
    then with_emissions key ps (run dense.tail.items (tail_env split dense env ps st)).emitted
    else ps

-- the row of a vertex after the update, by its partials
abbrev pub closed_row : Split → Sight → List Partial → ℕ → Row
closed_row split g ps v =
    updated (program_of split).update.items (seen_env g v 0 (values_of (take (slot_count split) ps)))

-- the partials of an own vertex at the end of the round, where it was a dense one with those of the tail
abbrev pub with_tail : Option Dense → State → ℕ → ℕ → List Partial
with_tail None s r v = own_partials s v
with_tail (Some dense) s r v = tail_at s.split dense (own_sight s r) (p_of s) (own_partials s v) (ring_at s v) v

abbrev pub closed_partials : State → ℕ → Bool → ℕ → List Partial
closed_partials s r true v = with_tail (program_of s.split).dense s r v
closed_partials s r false v = own_partials s v

-- the own rows after the round
abbrev pub closed_rows : State → ℕ → Bool → List Row
closed_rows s r dense = map (λ v. closed_row s.split (own_sight s r) (closed_partials s r dense v) v) (own_vertices s)

abbrev pub close_go : State → ℕ → Bool → State
close_go s r dense = record s {
  rows = closed_rows s r dense;
  partials = map (λ v. empty_partials s.split) (own_vertices s);
  ring = map (λ v. fresh s.split) (own_vertices s);
  reading = map (λ v. []) (targets s);
  reads = s.reading;
}
