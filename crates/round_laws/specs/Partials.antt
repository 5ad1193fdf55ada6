-- The partials of a vertex, by what the machines of the steps send of it.
use Rattle.std.specs.Prelude.{◌<◌, ℕ, ℤ, List, [], ◌++◌, None, if◌then◌else◌, nat_lt, option_to_list, slice_index_or}
use Rattle.vert_base.specs.declared.value.Combine.{Combine}
use Rattle.vert_tree.specs.declared.program.Dense.{Dense}
use Rattle.slot_merge.specs.declared.partial.Partial.{Partial}
use Rattle.slot_merge.specs.Filled.{AreFilled, with_more}
use Rattle.vert_eval.specs.Rounds.{slot_ops}
use Rattle.vert_eval.specs.Runs.{Ran}
use Rattle.instrument.specs.declared.split.Split.{Split}
use Rattle.body_shape.specs.Update.{Sent}
use Rattle.symple_face.specs.CoreSight.{program_of}
use Rattle.symple_face.specs.CoreTakes.{classes_of, reduced_ops, with_sent}
use Rattle.symple_face.specs.CoreScan.{sent_by_segment}

-- the operators of the partials: one for each slot, then one for each reduced let
abbrev pub partial_ops : Split → List Combine
partial_ops split = slot_ops (program_of split) ++ reduced_ops (classes_of split.dense)

-- the words that are sent for the partial at a place: one or none
abbrev pub sent_words : Sent → ℕ → List ℤ
sent_words sent place = option_to_list (slice_index_or (sent.values ++ sent.operands) place None)

-- the words for each partial under each key: what the machine of a step sends, the key being the step
abbrev pub step_buckets : Split → Dense → (ℕ → Ran) → ℕ → ℕ → ℕ → List ℤ
step_buckets split d ran p place key = if nat_lt key p then sent_words (sent_by_segment split d (ran key)) place else []

-- what is sent goes to the ends of the buckets of its key
abbrev pub FillsSent : Type 0
FillsSent =
    (ops : List Combine) (buckets : ℕ → ℕ → List ℤ) (bound key : ℕ) (sent : Sent) (qs : List Partial) → key < bound →
    AreFilled 0 ops buckets bound qs →
    AreFilled 0 ops (λ place. with_more (buckets place) key (sent_words sent place)) bound (with_sent key sent qs)
