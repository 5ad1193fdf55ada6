-- A machine reads of its targets alone.
use Rattle.std.proofs.Common.{◌≡◌, ◌<◌, ◌+◌, ◌-◌, ℕ, Bool, true, false, List, [], length, map, sum, refl, sym, ap, ◌∙◌, Option, None, Some, arith}
use Rattle.std.specs.Prelude.{◌==◌, if◌then◌else◌, nat_le}
use Rattle.std.specs.List.{list_any, range_with_len}
use Rattle.std.proofs.Math.Nat.{mod-lt}
use Rattle.vert_base.specs.declared.graph.Edge.{Edge}
use Rattle.vert_base.specs.declared.value.Ruling.{Ruling}
use Rattle.vert_base.specs.declared.value.Ruling.TheVariants as ruling
use Rattle.vert_base.specs.Neighbours.{ins_of, target}
use Rattle.vert_tree.specs.declared.program.Dense.{Dense}
use Rattle.vert_eval.specs.declared.environment.Env.{Env}
use Rattle.vert_eval.specs.Rounds as meaning
use Rattle.vert_eval.specs.Runs.{leaves}
use Rattle.vert_eval.specs.Values.{value_of}
use Rattle.vert_eval.specs.Words.{is_set}
use Rattle.chunk_split.specs.Chunks.{AreEnds, vertices_of}
use Rattle.circulant_plan.specs.Ring.{IsCirculant, chunk_of, members_by_steps, members_with, order_of}
use Rattle.circulant_plan.proofs.CircleLaws.{each_ring_turns, step_of_chunk}
use Rattle.graph_table.proofs.FilterLaws.{all_range, map-map, map_same}
use Rattle.symple_face.specs.CoreSight.{targets_of}
use Rattle.symple_face.specs.Ideal.{block_env, ideal_reads, machines_of, members_in, owner_of, ran_with, reads_by}
use Rattle.symple_face.specs.PartsOf.{part_of, scan_of}
use Rattle.symple_face.specs.Ring.{state_of, step_ran}
use Rattle.symple_face.specs.Source.{Source, scene, stand}
use Rattle.round_laws.specs.IdealScans.{step_members}
use Rattle.round_laws.proofs.FoldUpdates.{no_members}
use Rattle.round_laws.proofs.IdealSparse.{owner_low}
use Rattle.round_laws.proofs.Lists.{some-filter}
use Rattle.round_laws.proofs.Members.{scan_members}
use Rattle.round_laws.proofs.Tallies.{sum-passing}

-- what the machine of a step reads where no members lie with it
pub nothing_read : (src : Source) (round v c step : ℕ) (o : Option Dense) → step_members src v c step ≡ [] →
    (ran_with src round v c step o).reads ≡ []
nothing_read src round v c step None none = refl
nothing_read src round v c step (Some d) none = by (is_set (value_of d.when_test env))
  where
    env : Env
    env = block_env src round v

    by : (b : Bool) → (if b then step_ran (scene src round) d env (step_members src v c step)
        (state_of (scene src round) d env
        (members_by_steps src.job.graph.ends (machines_of src) c 0 step (members_in src v))) else leaves env).reads ≡ []
    by true =
        ap (λ ms. (step_ran (scene src round) d env ms (state_of (scene src round) d env
        (members_by_steps src.job.graph.ends (machines_of src) c 0 step (members_in src v)))).reads) none
    by false = refl

module _ (src : Source) (most m round : ℕ) (are : AreEnds most src.job.graph.ends)
    (sized : src.job.graph.vertices ≡ vertices_of src.job.graph.ends) (machine : m < machines_of src) where
  abbrev ends : List ℕ
  ends = src.job.graph.ends

  abbrev edges : List Edge
  edges = src.job.graph.edges

  abbrev p : ℕ
  p = machines_of src

  turns : IsCirculant p
  turns = each_ring_turns p are.0

  abbrev is_target : ℕ → Bool
  is_target v = list_any (λ e. target e == v) (scan_of ends edges m)

  module _ (v : ℕ) (low : v < vertices_of ends) (other : is_target v ≡ false) where
    no_scan : members_with ends m (members_in src v) ≡ []
    no_scan =
        ap (λ n. members_with ends m (ins_of n edges v)) sized
        ∙ sym (scan_members ends edges m v low)
        ∙ no_members _ (some-filter (λ e. target e == v) (scan_of ends edges m) ∙ other)

    by_ruling : (q : Ruling) → reads_by src q round m v ≡ []
    by_ruling ruling.Stop = refl
    by_ruling ruling.Sparse = refl
    by_ruling ruling.Dense =
        let c : ℕ = owner_of ends v in
        let step : ℕ = chunk_of m c p in
        let chunk : c < p = owner_low ends v are.0 low in
        let step_low : step < p = mod-lt (m + p - 1 - c) (omega (arith, machine)) in
        let reader : order_of c step p ≡ m =
        ap (λ k. order_of k step p) (sym (step_of_chunk m c p machine chunk)) ∙ turns.machine m step machine step_low in
        nothing_read src round v c step src.job.program.dense
        (ap (λ k. members_with ends k (members_in src v)) reader ∙ no_scan)

    pub unread : ideal_reads src round m v ≡ []
    unread =
        ap (λ l. if nat_le src.base round then l else []) (by_ruling (stand src round).ruling)
        ∙ none (nat_le src.base round)
      where
        none : (b : Bool) → ◌≡◌ {A = List ℕ} (if b then [] else []) []
        none true = refl
        none false = refl

  abbrev reads : ℕ → ℕ
  reads v = length (ideal_reads src round m v)

  -- its reads of the targets are all that it reads
  pub targets_read : sum (map length (map (ideal_reads src round m)
      (targets_of (part_of ends src.job.draws edges m)))) ≡
      sum (map reads (meaning.vertices_of src.job.graph))
  targets_read =
      ap sum (map-map length (ideal_reads src round m) (targets_of (part_of ends src.job.draws edges m)))
      ∙ sum-passing is_target reads (range_with_len 0 (vertices_of ends))
      ∙ ap sum (map_same (λ v. if is_target v then reads v else 0) reads (range_with_len 0 (vertices_of ends))
      (all_range (λ v. (if is_target v then reads v else 0) ≡ reads v) 0 (vertices_of ends)
      (λ v low high. by v (omega (arith, high)) (is_target v) refl)))
      ∙ ap (λ n. sum (map reads (range_with_len 0 n))) (sym sized)
    where
      by : (v : ℕ) → v < vertices_of ends → (b : Bool) → is_target v ≡ b → (if b then reads v else 0) ≡ reads v
      by v low true is = refl
      by v low false is = sym (ap length (unread v low is))
