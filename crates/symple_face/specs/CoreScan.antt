-- What a scan does at one vertex.
use Rattle.std.specs.Prelude.{◌||◌, not, ℕ, ℤ, pos, Bool, true, false, List, [], ◌∷◌, Option, None, Some, if◌then◌else◌, replicate}
use Rattle.vert_base.specs.declared.graph.Edge.{Edge}
use Rattle.vert_tree.specs.declared.program.Dense.{Dense}
use Rattle.vert_eval.specs.declared.environment.Env.{Env}
use Rattle.vert_eval.specs.declared.environment.Flow.{Flow}
use Rattle.vert_eval.specs.declared.environment.Flow.TheVariants.{Going, Broke}
use Rattle.vert_eval.specs.Rounds.{slot_ops}
use Rattle.vert_eval.specs.Runs.{Ran}
use Rattle.vert_eval.specs.Values.{value_of}
use Rattle.vert_eval.specs.Words.{is_set}
use Rattle.slot_merge.specs.Combine.{slot_values}
use Rattle.dep_layout.specs.declared.state.Mark.{Mark}
use Rattle.dep_layout.specs.declared.state.Mark.TheVariants.{Fresh, Running, Broken}
use Rattle.dep_layout.specs.Spelling.{State as LoopState}
use Rattle.instrument.specs.declared.split.Split.{Split}
use Rattle.instrument.specs.Loops.{loop_split}
use Rattle.instrument.specs.Segments.{begun, given}
use Rattle.body_shape.specs.Update.{Sent}
use Rattle.symple_face.specs.CoreSight.{members, none, program_of}
use Rattle.symple_face.specs.CoreTakes.{unsent}
use Rattle.symple_face.specs.Plans.{loop_carry}
use Rattle.symple_face.specs.Ring.{operands}
use Rattle.symple_face.specs.Shapes.{words_in}
use Rattle.symple_face.specs.Sight.{Sight, seen_env, seen_loop}

-- ---- loop states
-- the loop of a vertex that isn't started
abbrev pub fresh : Split → LoopState
fresh split = record { mark = Fresh; words = replicate (words_in (loop_carry split.dense)) (pos 0) }

abbrev pub words_by : Mark → List ℤ → Option (List ℤ)
words_by Fresh words = None
words_by Running words = Some words
words_by Broken words = Some words

-- the words of a state that is started
abbrev pub told_words : LoopState → Option (List ℤ)
told_words st = words_by st.mark st.words

abbrev pub is_broken : Mark → Bool
is_broken Fresh = false
is_broken Running = false
is_broken Broken = true

abbrev pub mark_after : Flow → Mark
mark_after Going = Running
mark_after Broke = Broken

-- ---- a scan at a vertex
-- the state that it hands on, what is sent of the vertex, and the sources read
pub record Scanned : Type 0 where
  pub state : LoopState
  pub sent : Sent
  pub reads : List ℕ

-- a state that is passed on unchanged
abbrev pub passed : Split → LoopState → Scanned
passed split st = record { state = st; sent = unsent split; reads = [] }

-- what is sent of a vertex after a segment
abbrev pub sent_by_segment : Split → Dense → Ran → Sent
sent_by_segment split dense ran = record {
  values = slot_values 0 (slot_ops (program_of split)) ran.emitted;
  operands = operands (loop_split dense).reduced.items ran.env;
}

-- what a segment leaves, emits and reads
abbrev pub scanned_by : Split → Dense → Ran → Scanned
scanned_by split dense ran = record {
  state = record { mark = mark_after ran.flow; words = given (loop_split dense) ran.env };
  sent = sent_by_segment split dense ran;
  reads = ran.reads;
}

-- the loop over the machine's members, which begins with the state received
abbrev pub segment_seen : Dense → Sight → List Edge → LoopState → Env → Ran
segment_seen dense g members st env =
    seen_loop g dense.body.items members (begun (loop_split dense) dense.lets.items (told_words st) env)

-- without members, where the loop broke and where the test is false the state is passed on
abbrev pub scanned : Split → Dense → Sight → ℕ → List Edge → ℕ → LoopState → Scanned
scanned split dense g key [] v st = passed split st
scanned split dense g key (e ∷ es) v st =
    let env : Env = seen_env g v key (none split) in
    if is_broken st.mark || not (is_set (value_of dense.when_test env))
    then passed split st
    else scanned_by split dense (segment_seen dense g (e ∷ es) st env)
