-- A machine that is ready for a scan scans what the source's run says.
use Rattle.std.proofs.Common.{◌≡◌, ◌≢◌, ◌<◌, ◌≤◌, ◌+◌, ◌-◌, ◌*◌, ℕ, true, List, refl, sym, ap, subst, ◌∙◌, arith, ⊎_elim}
use Rattle.std.specs.Prelude.{◌==◌, ◌&&◌, is_some, nat_lt}
use Rattle.std.specs.List.{list_any, range_with_len}
use Rattle.std.proofs.lemmas.Bool.{cases_lt}
use Rattle.std.proofs.Math.Nat.{mod-lt}
use Rattle.vert_base.specs.declared.message.Name.{Name}
use Rattle.vert_base.specs.Letters.{found}
use Rattle.vert_base.specs.declared.graph.Edge.{Edge}
use Rattle.vert_base.specs.Neighbours.{target}
use Rattle.vert_eval.specs.Rounds.{row_at}
use Rattle.vert_tree.specs.declared.program.Dense.{Dense}
use Rattle.chunk_split.specs.Chunks.{vertices_of}
use Rattle.circulant_plan.specs.declared.spot.Spot.TheVariants.{Scan}
use Rattle.circulant_plan.specs.Names.{dep_name, refresh_name}
use Rattle.circulant_plan.specs.Ring.{IsCirculant, before_machine, chunk_of, lies_in}
use Rattle.circulant_plan.specs.Standing.{Standing}
use Rattle.circulant_plan.proofs.CircleLaws.{each_ring_turns}
use Rattle.circulant_plan.proofs.ReadingLaws.{not_below}
use Rattle.circulant_plan.proofs.SpanLaws.{is_below}
use Rattle.graph_table.proofs.FilterLaws.{all_filter, all_map, all_range}
use Rattle.body_shape.specs.Refresh.{HasFields, plain_row}
use Rattle.dep_layout.specs.Spelling.{IsState}
use Rattle.symple_face.specs.declared.action.Action.TheVariants.{Ready}
use Rattle.symple_face.specs.CoreDense.{scanned_at}
use Rattle.symple_face.specs.CoreSight.{field_count, held_body, is_within, known}
use Rattle.symple_face.specs.Ideal.{ideal_body, machines_of, state_at, vertices_within}
use Rattle.symple_face.specs.Parts.{edges_between}
use Rattle.symple_face.specs.PartsOf.{part_of}
use Rattle.symple_face.specs.Plans.{loop_carry}
use Rattle.symple_face.specs.Shapes.{half_in, size_of}
use Rattle.symple_face.specs.Source.{Source, scene, stand}
use Rattle.symple_face.specs.State.{State, action_of}
use Rattle.symple_face.proofs.ChunkLaws.{lies_is, lies_within}
use Rattle.round_laws.specs.FoldScan.{IsDenseRound}
use Rattle.round_laws.specs.IdealScans.{IsIdealScan}
use Rattle.round_laws.specs.IsIdeal.{HoldsBody, IsIdeal}
use Rattle.round_laws.specs.MachineScans.{ScansHalf}
use Rattle.round_laws.specs.Scans.{width_of}
use Rattle.round_laws.specs.Sights.{IsTold}
use Rattle.round_laws.proofs.FoldScanHalves.{half_within}
use Rattle.round_laws.proofs.FoldScanHeld.{found_holds, ready_both}
use Rattle.round_laws.proofs.MachineScans.{machine_scans_ideal}

module _ (src : Source) (d : Dense) (most m round step h : ℕ) (state : State)
    (fits : IsDenseRound src d most round)
    (machine : m < machines_of src) (early : step < machines_of src) where
  abbrev ends : List ℕ
  ends = src.job.graph.ends

  abbrev edges : List Edge
  edges = src.job.graph.edges

  abbrev p : ℕ
  p = machines_of src

  abbrev c : ℕ
  c = chunk_of m step p

  abbrev half : ℕ × ℕ
  half = half_in ends c h

  abbrev pub scanning : Standing
  scanning = record { spot = Scan round step h; round = round }

  abbrev pub at_scan : State
  at_scan = record state { part = part_of ends src.job.draws edges m; split = src.split; at = scanning }

  turns : IsCirculant p
  turns = each_ring_turns p fits.ends.0

  pub chunk_low : c < p
  chunk_low = mod-lt (m + p - 1 - step) (omega (arith, machine))

  -- in the last step a machine scans its own chunk
  pub own_last : step + 1 ≡ p → c ≡ m
  own_last last =
      let s : step ≡ p - 1 = omega (arith, last) in
      ap (λ k. chunk_of m k p) s ∙ ap (λ k. chunk_of k (p - 1) p) (sym (turns.owner m machine))
      ∙ turns.chunk m (p - 1) machine (omega (arith, machine))

  before_last : c ≢ m → step < p - 1
  before_last other =
      ⊎_elim (λ (less : step < p - 1). less)
      (λ (late : p - 1 ≤ step). absurd (other
      (own_last (let last : step + 1 ≡ p = omega (arith, late, early) in last))))
      (cases_lt step (p - 1))

  module _ (is : IsIdeal src m at_scan) (knows : known at_scan ≡ true) (ready : action_of at_scan ≡ Ready) where
    abbrev refresh : Name
    refresh = refresh_name round c m

    abbrev dep : Name
    dep = dep_name round (step - 1) h (before_machine m p) m

    taken : (nat_lt step (p - 1) ≡ true → is_some (found refresh state.held) ≡ true)
        × ((is_some (loop_carry src.split.dense) && nat_lt 0 step) ≡ true → is_some (found dep state.held) ≡ true)
    taken =
        ready_both (nat_lt step (p - 1)) (is_some (loop_carry src.split.dense) && nat_lt 0 step) refresh dep state.held
        ready

    abbrev has_fields : ℕ → Type 0
    has_fields v = HasFields (field_count src.split) (plain_row (row_at (stand src round).rows v))

    told : c ≢ m → IsTold m c at_scan (scene src round)
    told other = record {
      machine = chunk_low;
      other = other;
      body = found_holds (λ l. HoldsBody l.name.kind src scanning l) refresh state.held is.bodies
          (taken.0 (is_below step (p - 1) (before_last other)));
      words = all_filter has_fields (λ v. list_any (λ e. target e == v) (edges_between ends m c edges))
          (range_with_len 0 (vertices_of ends))
          (all_range has_fields 0 (vertices_of ends)
          (λ v low high. fits.rows v (subst (λ n. v < n) (sym fits.sized) (omega (arith, high)))));
    }

    dep_told : is_some (loop_carry src.split.dense) ≡ true → nat_lt 0 step ≡ true → 0 < step →
        held_body at_scan dep ≡ ideal_body src dep
    dep_told carries more later =
        found_holds (λ l. HoldsBody l.name.kind src scanning l) dep state.held is.bodies
        (taken.1 (ap (λ b. b && nat_lt 0 step) carries ∙ more))
        (not_below (256 * round + (1 + 2 * (step - 1 + 1) + h)) (256 * round + (1 + 2 * step + h))
        (omega (arith, later)))

    in_chunk : (v : ℕ) → is_within half v ≡ true → lies_in ends c v ≡ true
    in_chunk v = half_within most ends c h v fits.ends chunk_low

    holds : ScansHalf src m round step h at_scan
    holds = record {
      step_low = early;
      split = refl;
      stands = record {
        machine = machine;
        part = refl;
        sized = fits.sized;
        rows = is.rows;
        totals = is.totals knows;
      };
      told = told;
      dep = λ carries later. dep_told carries (is_below 0 step later) later;
      bools = fits.bools;
      words = all_map (IsState (width_of src.split) fits.bools) (λ v. state_at src round v c step)
          (vertices_within half)
          (all_range (λ v. IsState (width_of src.split) fits.bools (state_at src round v c step)) half.0 (size_of half)
          (λ v low high. fits.states v c step (in_chunk v (within v low high))));
    }
      where
        within : (v : ℕ) → half.0 ≤ v → v < half.0 + (half.1 - half.0) → is_within half v ≡ true
        within v low high = lies_is half.0 half.1 v low (omega (arith, low, high))

    -- so the scan at each vertex of the half does what the source's run says
    pub scans_at : (v : ℕ) → is_within half v ≡ true →
        IsIdealScan src round v c step (scanned_at at_scan round step h v)
        × (is_some (loop_carry src.split.dense) ≡ true →
        (scanned_at at_scan round step h v).state ≡ state_at src round v c (step + 1))
    scans_at v inside =
        machine_scans_ideal src d most m round step h v at_scan fits.runs fits.ends
        (fits.split v (subst (λ x. v < x) (sym fits.sized)
        (lies_within most ends fits.ends c v chunk_low (in_chunk v inside)))) holds
        (in_chunk v inside) inside
