-- What a core does in a scan of a half.
use Rattle.std.specs.Prelude.{◌-◌, ◌&&◌, nat_lt, ℕ, List, [], ◌∷◌, Option, None, Some, if◌then◌else◌, map, slice_index_or}
use Rattle.std.specs.List.{range_with_len}
use Rattle.vert_base.specs.declared.message.Name.{Name}
use Rattle.vert_tree.specs.declared.program.Dense.{Dense}
use Rattle.slot_merge.specs.declared.partial.Partial.{Partial}
use Rattle.dep_layout.specs.Reading.{read_of}
use Rattle.dep_layout.specs.Spelling.{State as LoopState, spelled}
use Rattle.circulant_plan.specs.Names.{dep_name}
use Rattle.circulant_plan.specs.Ring.{before_machine, chunk_of}
use Rattle.circulant_plan.specs.Table.{name_if}
use Rattle.body_shape.specs.Update.{update_body}
use Rattle.symple_face.specs.CoreSight.{beside, held_body, is_within, members, mirrors, own_start, own_vertices, program_of, sight_at, targets, those_within}
use Rattle.symple_face.specs.CoreTakes.{emptied, own_partials, with_sent}
use Rattle.symple_face.specs.Plans.{loop_carry, ring_of}
use Rattle.symple_face.specs.Shapes.{half_in, size_of, words_in}
use Rattle.symple_face.specs.State.{State, machine, p_of}
use Rattle.symple_face.specs.CoreScan.{Scanned, fresh, passed, scanned}

-- ---- a scan of a half
abbrev pub scan_chunk : State → ℕ → ℕ
scan_chunk s step = chunk_of (machine s) step (p_of s)

abbrev pub scan_half : State → ℕ → ℕ → ℕ × ℕ
scan_half s step h = half_in s.part.ends (scan_chunk s step) h

-- the loop states that the scan needs
abbrev pub needed_dep : State → ℕ → ℕ → ℕ → List Name
needed_dep s r step h =
    name_if ((ring_of s.split (p_of s)).carry && nat_lt 0 step)
    (dep_name r (step - 1) h (before_machine (machine s) (p_of s)) (machine s))

abbrev pub states_told : State → ℕ → List Name → List LoopState
states_told s count [] = []
states_told s count (x ∷ xs) = read_of (words_in (loop_carry s.split.dense)) count (held_body s x)

-- the state received of a vertex: not started at step 0 and in a loop without a carry
abbrev pub received_at : State → ℕ → ℕ → ℕ → ℕ → LoopState
received_at s r step h v =
    let half : ℕ × ℕ = scan_half s step h in
    slice_index_or (states_told s (size_of half) (needed_dep s r step h)) (v - half.0) (fresh s.split)

abbrev pub scanned_in : Option Dense → State → ℕ → ℕ → ℕ → ℕ → Scanned
scanned_in None s r step h v = passed s.split (received_at s r step h v)
scanned_in (Some dense) s r step h v =
    scanned s.split dense (sight_at s r (scan_chunk s step)) step (members s v) v (received_at s r step h v)

abbrev pub scanned_at : State → ℕ → ℕ → ℕ → ℕ → Scanned
scanned_at s r step h v = scanned_in (program_of s.split).dense s r step h v

-- ---- what it leaves and sends
-- the state that the last machine of the own chunk left at an own vertex
abbrev pub ring_at : State → ℕ → LoopState
ring_at s v = slice_index_or s.ring (v - own_start s) (fresh s.split)

-- what a machine read of each target in the round
abbrev pub reading_at : State → ℕ → List ℕ
reading_at s v = beside [] v (targets s) s.reading

-- the members read are noted
abbrev pub read_after : State → ℕ → ℕ → ℕ → ℕ → List ℕ
read_after s r step h v = if is_within (scan_half s step h) v then (scanned_at s r step h v).reads else reading_at s v

-- and the loop states that were needed are dropped
abbrev pub scan_read : State → ℕ → ℕ → ℕ → State
scan_read s r step h = record s {
  held = emptied (needed_dep s r step h) s.held;
  reading = map (read_after s r step h) (targets s);
}

-- what the last machine of a chunk, its owner, would send it adds to its partials, under the key of its step
abbrev pub partials_after : State → ℕ → ℕ → ℕ → ℕ → List Partial
partials_after s r step h v =
    if is_within (scan_half s step h) v
    then with_sent step (scanned_at s r step h v).sent (own_partials s v)
    else own_partials s v

abbrev pub ring_after : State → ℕ → ℕ → ℕ → ℕ → LoopState
ring_after s r step h v = if is_within (scan_half s step h) v then (scanned_at s r step h v).state else ring_at s v

-- and it keeps the states
abbrev pub scan_kept : State → ℕ → ℕ → ℕ → State
scan_kept s r step h = record (scan_read s r step h) {
  partials = map (partials_after s r step h) (own_vertices s);
  ring = map (ring_after s r step h) (own_vertices s);
}

abbrev pub scan_go : State → ℕ → ℕ → ℕ → State
scan_go s r step h = if nat_lt step (p_of s - 1) then scan_read s r step h else scan_kept s r step h

abbrev pub scan_dep : State → ℕ → ℕ → ℕ → List ℕ
scan_dep s r step h =
    let half : ℕ × ℕ = scan_half s step h in
    spelled (map (λ v. (scanned_at s r step h v).state) (range_with_len half.0 (size_of half)))

abbrev pub scan_update : State → ℕ → ℕ → ℕ → List ℕ
scan_update s r step h =
    update_body
    (map (λ v. (scanned_at s r step h v).sent) (those_within (scan_half s step h) (mirrors s (scan_chunk s step))))
