-- A machine's scan of a half is ideal.
use Rattle.std.proofs.Common.{◌≡◌, ◌<◌, ◌≤◌, ◌+◌, ◌-◌, ℕ, Bool, true, false, List, map, refl, sym, ap, subst, ◌∙◌, Option, None, Some, arith, ⊎_elim}
use Rattle.std.specs.Prelude.{◌==◌, ◌&&◌, if◌then◌else◌, is_some, nat_le, nat_lt, option_map, slice_index_or}
use Rattle.std.proofs.lemmas.Bool.{and_parts, cases_Bool, cases_lt, eq-eqb, eqb-true, leb-true, ltb-true}
use Rattle.std.proofs.lemmas.List.FromFn.{get_or-map-range_with_len, length-map-range_with_len}
use Rattle.std.proofs.Math.Nat.{mod-lt}
use Rattle.vert_base.specs.declared.message.Name.{Name}
use Rattle.vert_base.specs.Neighbours.{ins_of}
use Rattle.vert_tree.specs.declared.program.Dense.{Dense}
use Rattle.vert_eval.specs.Values.{value_of}
use Rattle.vert_eval.specs.Words.{is_set}
use Rattle.carry_analysis.specs.declared.carry.Carry.{Carry}
use Rattle.chunk_split.specs.Chunks.{AreEnds}
use Rattle.dep_layout.specs.Reading.{read_of}
use Rattle.dep_layout.specs.Spelling.{State as LoopState, spelled}
use Rattle.dep_layout.proofs.SpellingLaws.{read_again}
use Rattle.circulant_plan.specs.Names.{dep_name}
use Rattle.circulant_plan.specs.Ring.{IsCirculant, before_machine, chunk_of, lies_in, members_with, order_of}
use Rattle.circulant_plan.specs.Table.{name_if}
use Rattle.circulant_plan.proofs.CircleLaws.{each_ring_turns}
use Rattle.circulant_plan.proofs.SpanLaws.{is_below}
use Rattle.instrument.specs.Continued.{IsSplit}
use Rattle.instrument.specs.Loops.{loop_split}
use Rattle.symple_face.specs.CoreDense.{received_at, scanned_at, scanned_in, states_told}
use Rattle.symple_face.specs.CoreScan.{fresh, scanned}
use Rattle.symple_face.specs.CoreSight.{held_body, is_within, members, sight_at}
use Rattle.symple_face.specs.Ideal.{block_env, ideal_body, machines_of, members_in, ring_with, state_at, told_state, vertices_within}
use Rattle.symple_face.specs.PartsOf.{part_of}
use Rattle.symple_face.specs.Plans.{loop_carry}
use Rattle.symple_face.specs.Ring.{Fresh}
use Rattle.symple_face.specs.Shapes.{half_in, size_of}
use Rattle.symple_face.specs.Sight.{Sight}
use Rattle.symple_face.specs.Source.{Source, scene}
use Rattle.symple_face.specs.State.{State}
use Rattle.symple_face.proofs.ChunkLaws.{lies_within}
use Rattle.round_laws.specs.IdealScans.{IsIdealScan, RunsDense, step_members}
use Rattle.round_laws.specs.MachineScans.{MachineScansAreIdeal, ScansHalf}
use Rattle.round_laws.specs.Scans.{Sees, width_of}
use Rattle.round_laws.proofs.IdealScans.{fresh_scans_ideal, scans_ideal}
use Rattle.round_laws.proofs.Members.{scan_members}
use Rattle.round_laws.proofs.Sights.{own_scans_seen, told_scans_seen}

-- before the first step no loop has begun
not_begun : (src : Source) (round v c : ℕ) (o : Option Dense) →
    told_state (width_of src.split) (ring_with src round v c 0 o) ≡ fresh src.split
not_begun src round v c None = refl
not_begun src round v c (Some d) = by (is_set (value_of d.when_test (block_env src round v)))
  where
    by : (b : Bool) → told_state (width_of src.split) (if b then Fresh else Fresh) ≡ fresh src.split
    by true = refl
    by false = refl

module _ (src : Source) (d : Dense) (most m round step h v : ℕ) (state : State) (runs : RunsDense src d)
    (are : AreEnds most src.job.graph.ends) (split : IsSplit src.job.program d (block_env src round v))
    (holds : ScansHalf src m round step h state) where
  abbrev ends : List ℕ
  ends = src.job.graph.ends

  abbrev p : ℕ
  p = machines_of src

  abbrev c : ℕ
  c = chunk_of m step p

  abbrev half : ℕ × ℕ
  half = half_in ends c h

  abbrev s : State
  s = record state { part = part_of ends src.job.draws src.job.graph.edges m; split = src.split }

  same : state ≡ s
  same = λ i. record state { part = holds.stands.part i; split = holds.split i }

  turns : IsCirculant p
  turns = each_ring_turns p are.0

  machine : m < p
  machine = holds.stands.machine

  reader : order_of c step p ≡ m
  reader = turns.machine m step machine holds.step_low

  chunk_low : c < p
  chunk_low = mod-lt (m + p - 1 - step) (omega (arith, machine))

  module _ (lies : lies_in ends c v ≡ true) (inside : is_within half v ≡ true) where
    low : half.0 ≤ v
    low = leb-true half.0 v (and_parts (nat_le half.0 v) (nat_lt v half.1) inside).0

    high : v < half.1
    high = ltb-true v half.1 (and_parts (nat_le half.0 v) (nat_lt v half.1) inside).1

    members_are : members s v ≡ step_members src v c step
    members_are =
        scan_members ends src.job.graph.edges m v (lies_within most ends are c v chunk_low lies)
        ∙ ap (λ n. members_with ends m (ins_of n src.job.graph.edges v)) (sym holds.stands.sized)
        ∙ ap (λ k. members_with ends k (members_in src v)) (sym reader)

    abbrev g : Sight
    g = sight_at s round c

    sees : Sees g (scene src round) v (step_members src v c step)
    sees =
        subst (Sees g (scene src round) v) (ap (λ k. members_with ends k (members_in src v)) (sym reader))
        (subst (λ x. Sees (sight_at x round c) (scene src round) v (members_with ends m (members_in src v))) same
        (⊎_elim
        (λ (own : (c == m) ≡ true).
        let is : c ≡ m = eqb-true c m own in
        subst (λ k. Sees (sight_at state round k) (scene src round) v (members_with ends m (members_in src v))) (sym is)
        (own_scans_seen most m v state (scene src round) are holds.stands
        (subst (λ k. lies_in ends k v ≡ true) is lies)))
        (λ (other : (c == m) ≡ false).
        told_scans_seen most m c v state (scene src round) are holds.stands
        (holds.told (λ e. absurd (clash (sym (eq-eqb c m e) ∙ other)))) lies)
        (cases_Bool (c == m))))
      where
        clash : true ≡ false → ⊥
        clash e = cc

    -- ---- the state received
    abbrev needed : Name
    needed = dep_name round (step - 1) h (before_machine m p) m

    abbrev ideal : ℕ → LoopState
    ideal x = state_at src round x c step

    -- the machine before worked on the same chunk
    same_chunk : 0 < step → chunk_of (before_machine m p) (step - 1) p ≡ c
    same_chunk later =
        let last : step - 1 + 1 ≡ step = omega (arith, later) in
        let lower : step - 1 + 1 < p = omega (arith, later, holds.step_low) in
        ap (λ k. chunk_of k (step - 1) p)
        (ap (λ k. before_machine k p) (sym reader ∙ ap (λ x. order_of c x p) (sym last))
        ∙ turns.before c (step - 1) chunk_low lower)
        ∙ turns.chunk c (step - 1) chunk_low (omega (arith, lower))

    body_is : 0 < step → ideal_body src needed ≡ spelled (map ideal (vertices_within half))
    body_is later =
        let last : step - 1 + 1 ≡ step = omega (arith, later) in
        ap (λ k. spelled (map (λ x. state_at src round x k (step - 1 + 1)) (vertices_within (half_in ends k h))))
        (same_chunk later)
        ∙ ap (λ n. spelled (map (λ x. state_at src round x c n) (vertices_within half))) last

    abbrev received_by : Bool → LoopState
    received_by b = slice_index_or (states_told s (size_of half) (name_if b needed)) (v - half.0) (fresh src.split)

    received_told : is_some (loop_carry src.split.dense) ≡ true → 0 < step → received_by true ≡ ideal v
    received_told carries later =
        let states : List LoopState = map ideal (vertices_within half) in
        let body : held_body s needed ≡ spelled states =
        ap (λ x. held_body x needed) (sym same) ∙ holds.dep carries later ∙ body_is later in
        ap (λ b. slice_index_or (read_of (width_of src.split) (size_of half) b) (v - half.0) (fresh src.split)) body
        ∙ ap (λ l. slice_index_or l (v - half.0) (fresh src.split))
        (read_again (width_of src.split) (size_of half) holds.bools (spelled states) states
        (record { count = length-map-range_with_len ideal half.0 (size_of half); each = holds.words; spells = refl }))
        ∙ get_or-map-range_with_len ideal half.0 (size_of half) (v - half.0) v (fresh src.split)
        (omega (arith, low, high)) (omega (arith, low))

    received_is : (carries more : Bool) → is_some (loop_carry src.split.dense) ≡ carries → nat_lt 0 step ≡ more →
        received_at s round step h v ≡ received_by (carries && more)
    received_is carries more is later =
        ap (λ b. received_by (b && nat_lt 0 step)) is ∙ ap (λ b. received_by (carries && b)) later

    scan_is : (st : LoopState) → received_at s round step h v ≡ st →
        scanned_at s round step h v ≡ scanned src.split d g step (step_members src v c step) v st
    scan_is st is =
        ap (λ o. scanned_in o s round step h v) (ap (λ x. x.dense) runs.program ∙ runs.dense)
        ∙ ap (λ ms. scanned src.split d g step ms v (received_at s round step h v)) members_are
        ∙ ap (scanned src.split d g step (step_members src v c step) v) is

    abbrev IsIdealHere : State → Type 0
    IsIdealHere x =
        IsIdealScan src round v c step (scanned_at x round step h v)
        × (is_some (loop_carry src.split.dense) ≡ true → (scanned_at x round step h v).state ≡
        state_at src round v c (step + 1))

    from_ideal : received_at s round step h v ≡ ideal v → IsIdealHere s
    from_ideal is =
        let scans = scans_ideal src d g round v c step step runs split sees in (
          subst (IsIdealScan src round v c step) (sym (scan_is (ideal v) is)) scans.1,
          λ carries. ap (λ x. x.state) (scan_is (ideal v) is) ∙ scans.0,
        )

    split_carry : loop_carry src.split.dense ≡ (loop_split d).carry
    split_carry = ap loop_carry (src.split.split
        ∙ ap (option_map loop_split) (ap (λ x. x.dense) runs.program ∙ runs.dense))

    none_carried : (o : Option Carry) → is_some o ≡ false → o ≡ None
    none_carried None is = refl
    none_carried (Some x) is = cc

    by_cases : (carries more : Bool) → is_some (loop_carry src.split.dense) ≡ carries → nat_lt 0 step ≡ more →
        IsIdealHere s
    by_cases true true is later =
        from_ideal (received_is true true is later ∙ received_told is (ltb-true 0 step later))
    by_cases true false is later =
        let first : step ≡ 0 = ⊎_elim
        (λ (more : 0 < step). absurd (never (sym (is_below 0 step more) ∙ later)))
        (λ (none : step ≤ 0). let zero_step : step ≡ 0 = omega (arith, none) in zero_step) (cases_lt 0 step) in
        from_ideal (received_is true false is later
        ∙ sym (ap (λ n. state_at src round v c n) first ∙ not_begun src round v c src.job.program.dense))
      where
        never : true ≡ false → ⊥
        never e = cc
    by_cases false more is later =
        let free : (loop_split d).carry ≡ None = sym split_carry ∙ none_carried (loop_carry src.split.dense) is in (
          subst (IsIdealScan src round v c step) (sym (scan_is (fresh src.split) (received_is false more is later)))
              (fresh_scans_ideal src d g round v c step step runs split sees free),
          λ carries. absurd (never (sym carries ∙ is)),
        )
      where
        never : true ≡ false → ⊥
        never e = cc

    ideal_here : IsIdealHere state
    ideal_here = subst IsIdealHere (sym same)
        (by_cases (is_some (loop_carry src.split.dense)) (nat_lt 0 step) refl refl)

pub machine_scans_ideal : MachineScansAreIdeal
machine_scans_ideal src d most m round step h v s runs are split holds lies inside =
    ideal_here src d most m round step h v s runs are split holds lies inside
