-- What a world shows of rows and reads where its machines hold those of the source's run.
use Rattle.std.proofs.Common.{◌≡◌, ◌<◌, ◌≤◌, ℕ, true, List, [], refl, sym, ap, subst, ◌∙◌, None, Some, arith, ⊎_elim, slice_get}
use Rattle.std.specs.Prelude.{length, map}
use Rattle.std.specs.List.{flat_map, range_with_len}
use Rattle.std.proofs.lemmas.List.FromFn.{fill_by_all}
use Rattle.std.proofs.lemmas.Option.{slice_get_cases}
use Rattle.vert_base.specs.declared.value.Row.{Row}
use Rattle.vert_tree.specs.declared.program.Dense.{Dense}
use Rattle.vert_eval.specs.Rounds.{empty_row, gathered, reads_of, row_at}
use Rattle.array_text.specs.Tables.{table_text}
use Rattle.chunk_split.specs.Chunks.{AreEnds, vertices_of}
use Rattle.circulant_plan.specs.Ring.{lies_in, order_of}
use Rattle.circulant_plan.proofs.ReadingLaws.{order_within}
use Rattle.graph_table.proofs.FilterLaws.{all_range, flat_map_same, map_same}
use Rattle.instrument.specs.Continued.{IsSplit}
use Rattle.instrument.specs.declared.split.Split.{Split}
use Rattle.symple_face.specs.Cluster.{World}
use Rattle.symple_face.specs.CoreSight.{beside, program_of, row_in, targets_of}
use Rattle.symple_face.specs.CoreWork.{core_work}
use Rattle.symple_face.specs.Ideal.{block_env, ideal_reads, machines_of, owner_of}
use Rattle.symple_face.specs.Parts.{PlainPart, chunk_vertices}
use Rattle.symple_face.specs.PartsOf.{part_of}
use Rattle.symple_face.specs.Source.{Source, scene, stand}
use Rattle.symple_face.specs.State.{State}
use Rattle.round_laws.proofs.FoldScanHalves.{owner_holds}
use Rattle.round_laws.proofs.IdealSparse.{owner_low}
use Rattle.round_laws.proofs.Sights.{row_of_own}
use Rattle.schedule_laws.specs.Layout as layout
use Rattle.schedule_laws.specs.Layout.{ends_in, ends_with, reads_in, reads_with, row_with, table_of, vertices_in}
use Rattle.schedule_laws.proofs.ReadTurns.{held_reads, read_in_turn}

-- what stands at a place of a list
pub there_at : {X : Type 0} (xs : List X) (m : ℕ) → m < length xs → (x : X) × (slice_get xs m ≡ Some x)
there_at xs m lt =
    ⊎_elim
    (λ there. (there.0, there.2))
    (λ (past : (length xs ≤ m) × (slice_get xs m ≡ None)). absurd (let le = past.0 in omega arith))
    (slice_get_cases xs m).1

-- a world of machines with the parts of the run
pub record HasParts (src : Source) (w : World) : Type 0 where
  pub ends : AreEnds 64 src.job.graph.ends
  pub sized : src.job.graph.vertices ≡ vertices_of src.job.graph.ends
  pub program : program_of src.split ≡ src.job.program
  pub count : length w.sites ≡ machines_of src
  pub part : (m : ℕ) (s : State) → slice_get w.sites m ≡ Some s →
      s.part ≡ part_of src.job.graph.ends src.job.draws src.job.graph.edges m
  pub split : (m : ℕ) (s : State) → slice_get w.sites m ≡ Some s → s.split ≡ src.split

module _ (src : Source) (w : World) (has : HasParts src w) where
  abbrev ends : List ℕ
  ends = src.job.graph.ends

  abbrev p : ℕ
  p = machines_of src

  abbrev n : ℕ
  n = vertices_of ends

  at : (m : ℕ) → m < p → (s : State) × (slice_get w.sites m ≡ Some s)
  at m lt = there_at w.sites m (subst (λ q. m < q) (sym has.count) lt)

  some : 1 ≤ p
  some = has.ends.0

  pub ends_are : ends_in w ≡ ends
  ends_are =
      let zero = at 0 (omega (arith, some)) in
      ap ends_with zero.1 ∙ ap (λ (part : PlainPart). part.ends) (has.part 0 zero.0 zero.1)

  vertices_are : vertices_in w ≡ range_with_len 0 n
  vertices_are = ap (λ xs. range_with_len 0 (vertices_of xs)) ends_are

  -- ---- rows
  module _ (rows : List Row) (long : length rows ≡ src.job.graph.vertices)
      (held : (m : ℕ) (s : State) → slice_get w.sites m ≡ Some s → s.rows ≡ map (row_at rows) (chunk_vertices ends m))
    where
      row_shown : (v : ℕ) → v < n → layout.row_in core_work w v ≡ row_at rows v
      row_shown v low =
          let c : ℕ = owner_of ends v in
          let chunk : c < p = owner_low ends v some low in
          let lies : lies_in ends c v ≡ true = owner_holds ends v some low in
          let site = at c chunk in
          ap (λ xs. row_with core_work v (slice_get w.sites (owner_of xs v))) ends_are
          ∙ ap (row_with core_work v) site.1
          ∙ ap (λ part. row_in part site.0.rows v) (has.part c site.0 site.1)
          ∙ ap (λ rs. row_in (part_of ends src.job.draws src.job.graph.edges c) rs v) (held c site.0 site.1)
          ∙ row_of_own rows ends c v lies

      pub rows_shown : map (layout.row_in core_work w) (vertices_in w) ≡ rows
      rows_shown =
          ap (map (layout.row_in core_work w)) vertices_are
          ∙ map_same (layout.row_in core_work w) (row_at rows) (range_with_len 0 n)
          (all_range (λ v. layout.row_in core_work w v ≡ row_at rows v) 0 n
          (λ v from to. row_shown v (omega (arith, to))))
          ∙ sym (fill_by_all (row_at rows) rows n empty_row (long ∙ has.sized) (λ k lt. refl))

      pub table_shown : table_of core_work w ≡ table_text src.job.program rows
      table_shown =
          let zero = at 0 (omega (arith, some)) in
          ap (layout.table_with core_work w) zero.1
          ∙ ap (λ (q : Split). table_text (program_of q) (map (layout.row_in core_work w) (vertices_in w)))
          (has.split 0 zero.0 zero.1)
          ∙ ap (λ q. table_text q (map (layout.row_in core_work w) (vertices_in w))) has.program
          ∙ ap (table_text src.job.program) rows_shown

  -- ---- reads
  module _ (round : ℕ) (late : src.base ≤ round)
      (split : (d : Dense) (v : ℕ) → v < src.job.graph.vertices → src.job.program.dense ≡ Some d →
      IsSplit src.job.program d (block_env src round v))
      (held : (m : ℕ) (s : State) → slice_get w.sites m ≡ Some s →
      s.reads ≡ map (ideal_reads src round m) (targets_of s.part))
    where
      read_at : (m v : ℕ) → m < p → v < n →
          reads_with core_work v (slice_get w.sites m) ≡ ideal_reads src round m v
      read_at m v lt low =
          let site = at m lt in
          ap (reads_with core_work v) site.1
          ∙ ap (beside [] v (targets_of site.0.part)) (held m site.0 site.1)
          ∙ ap (λ part. beside [] v (targets_of part) (map (ideal_reads src round m) (targets_of part)))
          (has.part m site.0 site.1)
          ∙ held_reads src round has.ends has.sized v low m lt

      reads_shown_at : (v : ℕ) → v < n →
          reads_in core_work w v ≡ (gathered src.job.program (stand src round).ruling (scene src round) v).reads
      reads_shown_at v low =
          ap (λ xs. layout.reads_by_steps core_work w (owner_of xs v) v) ends_are
          ∙ ap (λ q. flat_map (λ step. reads_with core_work v (slice_get w.sites (order_of (owner_of ends v) step q)))
          (range_with_len 0 q)) has.count
          ∙ flat_map_same
          (λ step. reads_with core_work v (slice_get w.sites (order_of (owner_of ends v) step p)))
          (λ step. ideal_reads src round (order_of (owner_of ends v) step p) v) (range_with_len 0 p)
          (all_range (λ step. reads_with core_work v (slice_get w.sites (order_of (owner_of ends v) step p)) ≡
          ideal_reads src round (order_of (owner_of ends v) step p) v) 0 p
          (λ step from to. read_at (order_of (owner_of ends v) step p) v (order_within (owner_of ends v) step p some)
          low))
          ∙ read_in_turn src round has.ends has.sized v low
          (λ d is. split d v (subst (λ x. v < x) (sym has.sized) low) is) late

      pub reads_shown : map (reads_in core_work w) (vertices_in w) ≡
          reads_of src.job.program (stand src round).ruling (scene src round)
      reads_shown =
          ap (map (reads_in core_work w)) vertices_are
          ∙ map_same (reads_in core_work w)
          (λ v. (gathered src.job.program (stand src round).ruling (scene src round) v).reads) (range_with_len 0 n)
          (all_range (λ v. reads_in core_work w v ≡
          (gathered src.job.program (stand src round).ruling (scene src round) v).reads) 0 n
          (λ v from to. reads_shown_at v (omega (arith, to))))
          ∙ ap (λ q. map (λ v. (gathered src.job.program (stand src round).ruling (scene src round) v).reads)
          (range_with_len 0 q)) (sym has.sized)
