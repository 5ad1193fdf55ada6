-- The partials of a core, of each own vertex one for each slot and then one for each reduced let, and the
-- messages that it holds.
use Rattle.std.specs.Prelude.{◌-◌, ℕ, ℤ, List, [], ◌∷◌, ◌++◌, Option, None, Some, if◌then◌else◌, length, map, slice_index_or}
use Rattle.vert_base.specs.declared.message.Name.{Name}
use Rattle.vert_base.specs.declared.value.Combine.{Combine}
use Rattle.vert_base.specs.Letters.{Letter, placed}
use Rattle.carry_analysis.specs.declared.classes.Class.{Class}
use Rattle.carry_analysis.specs.declared.classes.Class.TheVariants.{Constant, Reduced, Carried}
use Rattle.slot_merge.specs.declared.partial.Partial.{Partial}
use Rattle.slot_merge.specs.Partials.{empty_partial, with_word}
use Rattle.vert_eval.specs.Rounds.{slot_ops}
use Rattle.circulant_plan.specs.Skeleton.{has_name}
use Rattle.instrument.specs.declared.split.Split.{Split}
use Rattle.instrument.specs.declared.split.SplitLoop.{SplitLoop}
use Rattle.body_shape.specs.Missing.{nothing_sent}
use Rattle.body_shape.specs.Update.{Sent, sents_read}
use Rattle.symple_face.specs.CoreSight.{beside, own_start, own_vertices, program_of, those_within}
use Rattle.symple_face.specs.Shapes.{half_in, reduced_in}
use Rattle.symple_face.specs.State.{State, machine}

-- ---- partials
abbrev pub classes_of : Option SplitLoop → List Class
classes_of None = []
classes_of (Some l) = l.classes.locals.items

-- the operators of the reduced lets
abbrev pub reduced_ops : List Class → List Combine
reduced_ops [] = []
reduced_ops (Constant ∷ cs) = reduced_ops cs
reduced_ops (Carried ∷ cs) = reduced_ops cs
reduced_ops (Reduced op ∷ cs) = op ∷ reduced_ops cs

abbrev pub slot_count : Split → ℕ
slot_count split = length (program_of split).slots.items

-- the partials of a vertex to which nothing came
abbrev pub empty_partials : Split → List Partial
empty_partials split = map empty_partial (slot_ops (program_of split) ++ reduced_ops (classes_of split.dense))

-- the partials of an own vertex
abbrev pub own_partials : State → ℕ → List Partial
own_partials s v = slice_index_or s.partials (v - own_start s) []

-- partials with the words that are there, each in its place
abbrev pub with_values : ℕ → List (Option ℤ) → List Partial → List Partial
with_values key [] ps = ps
with_values key (x ∷ xs) [] = []
with_values key (None ∷ xs) (p ∷ ps) = p ∷ with_values key xs ps
with_values key (Some word ∷ xs) (p ∷ ps) = with_word key word p ∷ with_values key xs ps

-- those of a vertex with what was sent of it
abbrev pub with_sent : ℕ → Sent → List Partial → List Partial
with_sent key sent ps = with_values key (sent.values ++ sent.operands) ps

-- nothing is sent of a vertex
abbrev pub unsent : Split → Sent
unsent split = nothing_sent (slot_count split) (length (reduced_in split.dense))

-- ---- the take of an update
-- the own vertices of a half of which machine k sends an update
abbrev pub update_list : State → ℕ → ℕ → List ℕ
update_list s k h = those_within (half_in s.part.ends (machine s) h) (slice_index_or s.part.refresh_to k [])

-- what the body of an update tells of a vertex
abbrev pub update_of : State → Name → List ℕ → ℕ → Sent
update_of s x body v =
    let vertices : List ℕ = update_list s x.from x.half in
    beside (unsent s.split) v vertices
    (sents_read (slot_count s.split) (length (reduced_in s.split.dense)) (length vertices) body)

-- each word is added under the key that is the step of the update
abbrev pub with_update : State → Name → List ℕ → List (List Partial)
with_update s x body = map (λ v. with_sent x.step (update_of s x body v) (own_partials s v)) (own_vertices s)

-- ---- the messages held
-- a message whose body isn't kept
abbrev pub noted : Letter → List Letter → List Letter
noted l held = placed (record l { body = [] }) held

-- a message whose body is dropped where it has one of these names
abbrev pub emptied_under : List Name → Letter → Letter
emptied_under xs l = if has_name l.name xs then record l { body = [] } else l

-- the bodies under these names are dropped, and the names stay
abbrev pub emptied : List Name → List Letter → List Letter
emptied xs held = map (emptied_under xs) held
