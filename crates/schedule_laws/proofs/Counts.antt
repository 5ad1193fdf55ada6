-- The counts of a round fit their bytes.
use Rattle.std.proofs.Common.{◌≡◌, ◌<◌, ◌≤◌, ◌+◌, ◌-◌, ◌^◌, ℕ, Bool, true, false, List, [], length, map, refl, sym, ap, subst, ◌∙◌, Option, None, Some, arith, mod-lt}
use Rattle.std.specs.Prelude.{if◌then◌else◌, nat_le, slice_index}
use Rattle.std.proofs.lemmas.List.{length-map}
use Rattle.vert_base.specs.declared.graph.Edge.{Edge}
use Rattle.vert_base.specs.declared.value.Row.{Row}
use Rattle.vert_base.specs.declared.value.Ruling.{Ruling}
use Rattle.vert_base.specs.declared.value.Ruling.TheVariants as ruling
use Rattle.vert_base.specs.Ends.{start_of}
use Rattle.vert_base.specs.Neighbours.{ins_of}
use Rattle.vert_tree.specs.declared.program.Dense.{Dense}
use Rattle.vert_tree.specs.Kinds.{kinds_of}
use Rattle.word_kinds.specs.Fits.{IsRow}
use Rattle.value_laws.proofs.Rounds.{row_count, row_words}
use Rattle.vert_eval.specs.Rounds.{row_at}
use Rattle.chunk_split.specs.Chunks.{vertices_of}
use Rattle.circulant_plan.specs.Ring.{chunk_of, members_with, order_of}
use Rattle.circulant_plan.proofs.CircleLaws.{each_ring_turns, step_of_chunk}
use Rattle.body_shape.specs.Tally.{IsCounted, SuitsTally}
use Rattle.symple_face.specs.CoreSight.{program_of, targets_of, total_count}
use Rattle.symple_face.specs.Ideal.{ideal_count, ideal_ran, ideal_reads, machines_of, members_in, owner_of, ran_with, reads_by}
use Rattle.symple_face.specs.Parts.{PlainPart, chunk_vertices}
use Rattle.symple_face.specs.PartsOf.{part_of}
use Rattle.symple_face.specs.Source.{Source, job_of, stand}
use Rattle.symple_face.proofs.ChunkLaws.{chunk_within}
use Rattle.round_laws.specs.FoldJudge.{IsCountedRound}
use Rattle.round_laws.specs.IdealScans.{step_members}
use Rattle.round_laws.proofs.IdealSparse.{owner_low}
use Rattle.round_laws.proofs.Judging.{counts_ideal}
use Rattle.round_laws.proofs.Members.{scan_members}
use Rattle.round_laws.proofs.ReadsTargets.{targets_read}
use Rattle.work_laws.specs.Sound.{OfOwn, members_in as members_of_part}
use Rattle.work_laws.proofs.Counts.{counted_suits, reads_few}
use Rattle.work_laws.proofs.Partials.{over_range}
use Rattle.work_laws.proofs.Sees.{within_map}
use Rattle.std.proofs.lemmas.List.Elements.{All-filter, All-map}
use Rattle.schedule_laws.specs.Runs.{IsSourceRun}
use Rattle.schedule_laws.proofs.SourceSees.{reads_few as source_reads_few}
use Rattle.schedule_laws.proofs.Stands.{IsBegun, after_is, few, fitting, stands_in_words}

module _ (src : Source) (run : IsSourceRun src) (round : ℕ) (within : round ≤ src.job.program.limit) where
  abbrev ends : List ℕ
  ends = src.job.graph.ends

  abbrev edges : List Edge
  edges = src.job.graph.edges

  abbrev p : ℕ
  p = machines_of src

  small : round + 1 < 2 ^ 31
  small = let all = few src run in omega (arith, within, all)

  job_is : src.job ≡ job_of src.split ends src.job.draws edges
  job_is = λ i. record {
    program = sym run.program i;
    graph = record { vertices = run.sized i; ends = ends; edges = edges };
    draws = src.job.draws;
  }

  module _ (k : ℕ) (machine : k < p) where
    abbrev part : PlainPart
    part = part_of ends src.job.draws edges k

    -- what a machine reads for a vertex are no more than its members that lie with it
    ran_few : (v : ℕ) → v < vertices_of ends → (o : Option Dense) → src.job.program.dense ≡ o →
        length (ran_with src round v (owner_of ends v) (chunk_of k (owner_of ends v) p) o).reads ≤
        length (step_members src v (owner_of ends v) (chunk_of k (owner_of ends v) p))
    ran_few v lt None is = omega arith
    ran_few v lt (Some d) is =
        subst (λ o. length (ran_with src round v (owner_of ends v) (chunk_of k (owner_of ends v) p) o).reads ≤
        length (step_members src v (owner_of ends v) (chunk_of k (owner_of ends v) p))) is
        (source_reads_few src run round (omega (arith, small)) d is v (owner_of ends v)
        (subst (λ x. v < x) (sym run.sized) lt) (chunk_of k (owner_of ends v) p))

    members_are : (v : ℕ) → v < vertices_of ends →
        step_members src v (owner_of ends v) (chunk_of k (owner_of ends v) p) ≡ members_of_part part v
    members_are v lt =
        let c : ℕ = owner_of ends v in
        let chunk : c < p = owner_low ends v run.ends.0 lt in
        let step_low : chunk_of k c p < p = mod-lt (k + p - 1 - c) (omega (arith, machine)) in
        let reader : order_of c (chunk_of k c p) p ≡ k =
        ap (λ x. order_of x (chunk_of k c p) p) (sym (step_of_chunk k c p machine chunk))
        ∙ (each_ring_turns p run.ends.0).machine k (chunk_of k c p) machine step_low in
        ap (λ j. members_with ends j (members_in src v)) reader
        ∙ ap (λ x. members_with ends k (ins_of x edges v)) run.sized
        ∙ sym (scan_members ends edges k v lt)

    reads_short : (v : ℕ) → v < vertices_of ends →
        length (ideal_reads src round k v) ≤ length (members_of_part part v)
    reads_short v lt =
        either (nat_le src.base round) (reads_by src (stand src round).ruling round k v)
        (length (members_of_part part v)) (by (stand src round).ruling)
      where
        by : (q : Ruling) → length (reads_by src q round k v) ≤ length (members_of_part part v)
        by ruling.Stop = omega arith
        by ruling.Sparse = omega arith
        by ruling.Dense =
            subst (λ (ms : List Edge). length (ideal_ran src round v (owner_of ends v)
            (chunk_of k (owner_of ends v) p)).reads ≤ length ms) (members_are v lt)
            (ran_few v lt src.job.program.dense refl)

        either : (b : Bool) (xs : List ℕ) (size : ℕ) → length xs ≤ size → length (if b then xs else []) ≤ size
        either true xs size le = le
        either false xs size le = omega arith

    abbrev reads : List (List ℕ)
    reads = map (ideal_reads src round k) (targets_of part)

    abbrev rows : List Row
    rows = map (row_at (stand src (round + 1)).rows) (chunk_vertices ends k)

    are_rows : OfOwn part (IsRow (kinds_of (program_of src.split).fields.items)) rows
    are_rows =
        let words = stands_in_words src run (round + 1) (omega (arith, small)) in
        let kinds = kinds_of src.job.program.fields.items in
        let all : List Row = (stand src (round + 1)).rows in
        let a : ℕ = start_of ends k in
        let top = chunk_within 64 ends run.ends k machine in
        let count = words.count in
        let size = run.sized in
        subst (λ q. OfOwn part (IsRow (kinds_of q.fields.items)) rows) (sym run.program) (
          length-map (chunk_vertices ends k) (row_at all),
          All-map (IsRow kinds) (row_at all) (chunk_vertices ends k)
              (over_range (λ v. IsRow kinds (row_at all v)) a (slice_index ends k - a)
              (λ v low high. record {
                count = row_count kinds all words.rows v (omega (arith, low, high, top, count, size));
                words = row_words kinds all words.rows v;
              })),
        )

    suits : SuitsTally (total_count src.split) (ideal_count src round k)
    suits =
        subst (SuitsTally (total_count src.split))
        (counts_ideal src 64 k round src.split ends src.job.draws edges reads job_is run.ends machine
        (targets_read src 64 k round run.ends run.sized machine))
        (counted_suits part src.split (run.can_run k machine) rows reads round are_rows
        (reads_few part reads
        (within_map part (ideal_reads src round k) (λ v. v < vertices_of ends) (targets_of part)
        (All-filter _ (λ v. v < vertices_of ends) _
        (over_range (λ v. v < vertices_of ends) 0 (vertices_of ends) (λ v low high. omega (arith, high))))
        reads_short))
        (omega (arith, small)))

    pub count_fits : IsCounted (2 ^ 64) (total_count src.split) (ideal_count src round k)
    count_fits =
        let a = suits.active in
        let b = suits.edges in
        let c = suits.reads in
        record {
          active = omega (arith, a);
          edges = omega (arith, b);
          reads = omega (arith, c);
          totals = suits.totals;
        }

  pub counted_round : IsBegun src round → IsCountedRound src 64 round
  counted_round begun = record {
    program = run.program;
    typed = (fitting src run).typed;
    ends = run.ends;
    sized = run.sized;
    base = run.base;
    after = after_is src run round begun;
    rows = (stands_in_words src run (round + 1) (omega (arith, small))).count;
    counted = count_fits;
  }
