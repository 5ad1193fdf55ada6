-- The rows that a close makes of ideal contents are the source's.
use Rattle.std.proofs.Common.{◌≡◌, ◌⊎◌, inl, inr, ◌<◌, ◌≤◌, ◌+◌, ◌-◌, ◌*◌, ℕ, suc, Bool, true, false, List, [], map, refl, sym, ap, subst, ◌∙◌, Option, None, Some, arith, ⊎_elim}
use Rattle.std.specs.Prelude.{◌==◌, ◌&&◌, if◌then◌else◌, is_some, nat_lt, option_map, slice_index, slice_index_or}
use Rattle.std.proofs.lemmas.Bool.{cases_lt, eq-eqb, ne_eqb}
use Rattle.std.proofs.lemmas.List.FromFn.{get_or-map-range_with_len}
use Rattle.std.proofs.Math.Nat.{mod-lt}
use Rattle.vert_base.specs.declared.value.Ruling.{Ruling}
use Rattle.vert_base.specs.declared.value.Ruling.TheVariants as ruling
use Rattle.vert_base.specs.Letters.{found}
use Rattle.vert_tree.specs.declared.program.Dense.{Dense}
use Rattle.carry_analysis.specs.declared.carry.Carry.{Carry}
use Rattle.slot_merge.specs.Combine.{slot_values}
use Rattle.slot_merge.specs.Filled.{AreFilled}
use Rattle.dep_layout.specs.Spelling.{State as LoopState}
use Rattle.vert_eval.specs.declared.environment.Env.{Env}
use Rattle.vert_eval.specs.Rounds.{Scene, empty_row, members_of, row_after, row_at, rows_after, slot_ops}
use Rattle.vert_eval.specs.Runs.{Ran}
use Rattle.vert_eval.specs.SourceRun.{next_standing}
use Rattle.chunk_split.specs.Chunks.{AreEnds, vertices_of}
use Rattle.circulant_plan.specs.declared.spot.Spot.TheVariants.{Close}
use Rattle.circulant_plan.specs.Names.{update_name}
use Rattle.circulant_plan.specs.Ring.{AreEndsUpTo, chunk_of, lies_in, order_of}
use Rattle.vert_base.specs.Ends.{start_of}
use Rattle.circulant_plan.specs.Standing.{Standing}
use Rattle.circulant_plan.proofs.ReadingLaws.{not_below, reads_in_turn}
use Rattle.circulant_plan.proofs.SpanLaws.{is_below}
use Rattle.graph_table.proofs.FilterLaws.{all_range, map_same}
use Rattle.instrument.specs.Continued.{IsSplit}
use Rattle.instrument.specs.Loops.{loop_split}
use Rattle.symple_face.specs.CoreClose.{closed_partials, closed_row, closed_rows, with_tail}
use Rattle.symple_face.specs.CoreDense.{ring_at}
use Rattle.symple_face.specs.CoreScan.{fresh, sent_by_segment}
use Rattle.symple_face.specs.CoreSight.{is_within, own_sight, program_of}
use Rattle.symple_face.specs.CoreTakes.{own_partials}
use Rattle.symple_face.specs.Ideal.{block_env, ideal_ran, ideal_sent, machines_of, ran_with, ring_with, state_at, told_state}
use Rattle.symple_face.specs.Parts.{chunk_vertices}
use Rattle.symple_face.specs.PartsOf.{part_of}
use Rattle.symple_face.specs.Plans.{loop_carry}
use Rattle.symple_face.specs.Ring.{operands}
use Rattle.symple_face.specs.Shapes.{half_in}
use Rattle.symple_face.specs.Source.{Source, scene, stand, stand_after}
use Rattle.symple_face.specs.State.{State}
use Rattle.symple_face.proofs.ChunkLaws.{lies_high, lies_is, lies_low, lies_within}
use Rattle.round_laws.specs.DenseClose.{ran_at}
use Rattle.round_laws.specs.IdealClose.{ClosesDenseRound, DenseRowsAreIdeal}
use Rattle.round_laws.specs.IsIdeal.{IsIdeal, came_words, half_at, is_dense, is_past, keys_below, ring_held, step_came, words_by}
use Rattle.round_laws.specs.Partials.{partial_ops, sent_words, step_buckets}
use Rattle.round_laws.specs.Scans.{ring_after, width_of}
use Rattle.round_laws.specs.Sights.{StandsIn}
use Rattle.round_laws.proofs.Chunks.{ends_reach}
use Rattle.round_laws.proofs.DenseClose.{closes_dense}
use Rattle.round_laws.proofs.IdealScans.{with_program}
use Rattle.round_laws.proofs.Lowered.{lowered}
use Rattle.round_laws.proofs.Scans.{reduced_are}
use Rattle.round_laws.proofs.Sights.{own_are_seen}

-- what stands after a round
pub stand_next : (src : Source) (round : ℕ) → src.base ≤ round →
    stand src (round + 1) ≡ next_standing src.job round (stand src round)
stand_next src round le =
    let more : round + 1 - src.base ≡ suc (round - src.base) = omega arith in
    let back : src.base + (round - src.base) ≡ round = omega arith in
    ap (stand_after src) more ∙ ap (λ k. next_standing src.job k (stand src round)) back

-- the row of a vertex after a round
pub row_next : (src : Source) (round v : ℕ) (r : Ruling) → src.base ≤ round → (stand src round).ruling ≡ r →
    v < src.job.graph.vertices →
    row_after src.job.program r (scene src round) v ≡ row_at (stand src (round + 1)).rows v
row_next src round v r le is inside =
    sym (ap (λ st. row_at st.rows v) (stand_next src round le)
    ∙ ap (λ x. row_at (rows_after src.job.program x (scene src round)) v) is
    ∙ get_or-map-range_with_len (row_after src.job.program r (scene src round)) 0 src.job.graph.vertices v v empty_row
    inside (omega arith))

-- a half is 0 or 1
pub half_low : (src : Source) (c v : ℕ) → half_at src c v ≤ 1
half_low src c v = by (is_within (half_in src.job.graph.ends c 0) v)
  where
    by : (b : Bool) → (if b then 0 else 1) ≤ 1
    by true = omega arith
    by false = omega arith

module _ (src : Source) (d : Dense) (most m round : ℕ) (state : State) (dense : (program_of src.split).dense ≡ Some d)
    (are : AreEnds most src.job.graph.ends) (few : most ≤ 64)
    (sized : src.job.graph.vertices ≡ vertices_of src.job.graph.ends)
    (machine : m < machines_of src) where
  abbrev run : Source
  run = with_program src (program_of src.split)

  abbrev ends : List ℕ
  ends = src.job.graph.ends

  abbrev p : ℕ
  p = machines_of src

  abbrev sc : Scene
  sc = scene run round

  abbrev at : Standing
  at = record { spot = Close round true; round = round }

  abbrev s : State
  s = record state { part = part_of ends src.job.draws src.job.graph.edges m; split = src.split; at = at }

  module _ (split : (v : ℕ) → v < src.job.graph.vertices → IsSplit (program_of src.split) d (block_env run round v))
      (is : IsIdeal run m s)
      (closing : ClosesDenseRound run m round s) where
    stands : StandsIn m s sc
    stands = record { machine = machine; part = refl; sized = sized; rows = is.rows; totals = is.totals closing.knows }

    -- every scan of the round is past
    past : (step h : ℕ) → step < p → h ≤ 1 → is_past at step h ≡ true
    past step h lt le =
        let most_machines : p ≤ 64 = omega (arith, are.1, few) in
        is_below (256 * round + (1 + 2 * step + h)) (256 * round + 254) (omega (arith, lt, le, most_machines))

    module _ (v : ℕ) (lies : lies_in ends m v ≡ true) where
      abbrev env : Env
      env = block_env run round v

      abbrev ran : ℕ → Ran
      ran = ran_at sc d env p m v

      low : start_of ends m ≤ v
      low = lies_low ends m v lies

      high : v < slice_index ends m
      high = lies_high ends m v lies

      small : v < src.job.graph.vertices
      small = subst (λ n. v < n) (sym sized) (lies_within most ends are m v machine lies)

      sent_is : (key : ℕ) → ideal_sent run round v m key ≡ sent_by_segment src.split d (ran key)
      sent_is key =
          let ran_is : ideal_ran run round v m key ≡ ran key = ap (ran_with run round v m key) dense in
          λ i. record {
            values = slot_values 0 (slot_ops (program_of src.split)) (ran_is i).emitted;
            operands = operands (reduced_are src.split d env (split v small) i) (ran_is i).env;
          }

      -- all words of the steps came, and no others
      came : (key : ℕ) → step_came run m at state.held v key ≡ nat_lt key p
      came key =
          ⊎_elim
          (λ (early : key + 1 < p).
          ap (λ b. if b then got key else own key) (is_below (key + 1) p early)
          ∙ closing.taken key (half_at run m v) early (half_low run m v)
          ∙ sym (is_below key p (omega (arith, early))))
          (λ (late : p ≤ key + 1).
          ap (λ b. if b then got key else own key) (not_below (key + 1) p late) ∙ last key late)
          (cases_lt (key + 1) p)
        where
          got : ℕ → Bool
          got key = is_some (found (update_name round key (half_at run m v) (order_of m key p) m) state.held)

          own : ℕ → Bool
          own key = key + 1 == p && is_past at key (half_at run m v)

          last : (key : ℕ) → p ≤ key + 1 → own key ≡ nat_lt key p
          last key late =
              ⊎_elim
              (λ (above : p < key + 1).
              ap (λ b. b && is_past at key (half_at run m v)) (ne_eqb (key + 1) p (λ e. omega (arith, e, above)))
              ∙ sym (not_below key p (omega (arith, above))))
              (λ (here : key + 1 ≤ p).
              let is_last : key + 1 ≡ p = omega (arith, here, late) in
              ap (λ b. b && is_past at key (half_at run m v)) (eq-eqb (key + 1) p is_last)
              ∙ past key (half_at run m v) (omega (arith, here)) (half_low run m v)
              ∙ sym (is_below key p (omega (arith, here))))
              (cases_lt p (key + 1))

      words_are : came_words run m at state.held v ≡ step_buckets src.split d ran p
      words_are = λ i place key.
          (ap (λ x. words_by x run m at state.held v place key) closing.dense
          ∙ ap (λ b. if b then sent_words (ideal_sent run round v m key) place else []) (came key)
          ∙ ap (λ x. if nat_lt key p then sent_words x place else []) (sent_is key)) i

      filled : AreFilled 0 (partial_ops src.split) (step_buckets src.split d ran p) (p + 1) (own_partials s v)
      filled =
          lowered 0 (partial_ops src.split) (step_buckets src.split d ran p) (keys_below run) (p + 1) (own_partials s v)
          (λ place key le. ap (λ b. if b then sent_words (sent_by_segment src.split d (ran key)) place else [])
          (not_below key p (omega (arith, le))))
          (subst (λ ws. AreFilled 0 (partial_ops src.split) ws (keys_below run) (own_partials s v)) words_are
          (is.partials v lies))

      upto : AreEndsUpTo src.job.graph.vertices p ends
      upto = subst (λ n. AreEndsUpTo n p ends) (sym sized) (ends_reach most ends are)

      -- the loop state is that behind all members
      ring_is : is_some (loop_carry src.split.dense) ≡ true →
          ring_at s v ≡ told_state (width_of src.split) (ring_after sc d env (members_of sc.graph v))
      ring_is carries =
          ap (λ l. slice_at l) (is.ring carries)
          ∙ get_or-map-range_with_len (ring_held run m at) (start_of ends m) (slice_index ends m - start_of ends m)
          (v - start_of ends m) v (fresh src.split) (omega (arith, low, high)) (omega (arith, low))
          ∙ ap (λ b. if b then state_at run round v m p else fresh src.split)
          (ap (λ x. is_dense x && is_past at (chunk_of m m p) (half_at run m v)) closing.dense
          ∙ past (chunk_of m m p) (half_at run m v) (mod-lt (m + p - 1 - m) (omega (arith, machine)))
          (half_low run m v))
          ∙ ap (λ o. told_state (width_of src.split) (ring_with run round v m p o)) dense
          ∙ ap (λ l. told_state (width_of src.split) (ring_after sc d env l))
          (reads_in_turn src.job.graph.vertices p m v ends src.job.graph.edges upto machine (low, high))
        where
          slice_at : List LoopState → LoopState
          slice_at l = slice_index_or l (v - start_of ends m) (fresh src.split)

      ring_or : ((loop_split d).carry ≡ None)
          ⊎ (ring_at s v ≡ told_state (width_of src.split) (ring_after sc d env (members_of sc.graph v)))
      ring_or = by (loop_carry src.split.dense) refl
        where
          split_is : loop_carry src.split.dense ≡ (loop_split d).carry
          split_is = ap loop_carry (src.split.split ∙ ap (option_map loop_split) dense)

          by : (o : Option Carry) → loop_carry src.split.dense ≡ o → ((loop_split d).carry ≡ None)
              ⊎ (ring_at s v ≡ told_state (width_of src.split) (ring_after sc d env (members_of sc.graph v)))
          by None none = inl (sym split_is ∙ none)
          by (Some carry) some = inr (ring_is (ap is_some some))

      row_closed : closed_row src.split (own_sight s round) (closed_partials s round true v) v ≡
          row_after (program_of src.split) ruling.Dense sc v
      row_closed =
          let seen = own_are_seen most m s sc are stands in
          ap (λ o. closed_row src.split (own_sight s round) (with_tail o s round v) v) dense
          ∙ closes_dense src.split d (own_sight s round) sc p m v (own_partials s v) (ring_at s v) (split v small)
          seen.0 (seen.1 v lies)
          upto machine (low, high) filled ring_or

      row_stands : row_after (program_of src.split) ruling.Dense sc v ≡ row_at (stand run (round + 1)).rows v
      row_stands =
          row_next run round v ruling.Dense closing.begun closing.dense
          small

    rows_closed : closed_rows s round true ≡ map (row_at (stand run (round + 1)).rows) (chunk_vertices ends m)
    rows_closed =
        map_same (λ v. closed_row src.split (own_sight s round) (closed_partials s round true v) v)
        (row_at (stand run (round + 1)).rows) (chunk_vertices ends m)
        (all_range (λ v. closed_row src.split (own_sight s round) (closed_partials s round true v) v ≡
        row_at (stand run (round + 1)).rows v) (start_of ends m) (slice_index ends m - start_of ends m)
        (λ v lo hi.
        let lies : lies_in ends m v ≡ true =
        lies_is (start_of ends m) (slice_index ends m) v lo (omega (arith, hi, lo)) in
        row_closed v lies ∙ row_stands v lies))

  of_state : ((v : ℕ) → v < src.job.graph.vertices → IsSplit (program_of src.split) d (block_env run round v)) →
      IsIdeal run m state →
      ClosesDenseRound run m round state →
      closed_rows state round true ≡ map (row_at (stand run (round + 1)).rows) (chunk_vertices ends m)
  of_state split is closing =
      let same : state ≡ s = λ i. record state { part = is.part i; split = is.split i; at = closing.spot i } in
      subst (λ x. closed_rows x round true ≡ map (row_at (stand run (round + 1)).rows) (chunk_vertices ends m))
      (sym same)
      (rows_closed split (subst (IsIdeal run m) same is) (subst (ClosesDenseRound run m round) same closing))

pub dense_rows_ideal : DenseRowsAreIdeal
dense_rows_ideal src d most m round s runs are few sized machine =
    subst
    (λ program. (let of : Source = with_program src program in
    ((v : ℕ) → v < src.job.graph.vertices → IsSplit program d (block_env of round v)) → IsIdeal of m s →
    ClosesDenseRound of m round s →
    closed_rows s round true ≡ map (row_at (stand of (round + 1)).rows) (chunk_vertices src.job.graph.ends m)))
    runs.program
    (of_state src d most m round s (ap (λ p. p.dense) runs.program ∙ runs.dense) are few sized machine)
