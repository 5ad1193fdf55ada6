-- What a world that possible events led to shows of its machines.
use Rattle.std.proofs.Common.{◌≡◌, ℕ, ◌+◌, ◌<◌, ◌≤◌, List, [], ◌∷◌, ◌++◌, get_or, length, map, take, true, Option, Some, refl, sym, ap, ◌∙◌, arith, slice_get}
use Rattle.std.specs.List.{range_with_len}
use Rattle.std.proofs.lemmas.List.FromFn.{get_or-map-range_with_len, length-range_with_len}
use Rattle.std.proofs.lemmas.List.{length-map}
use Rattle.vert_base.specs.declared.value.Row.{Row}
use Rattle.vert_eval.specs.Rounds.{empty_row}
use Rattle.array_text.specs.Tables.{header_text, row_text, rows_text}
use Rattle.chunk_split.specs.Chunks.{AreEnds, Holds, vertices_of}
use Rattle.circulant_plan.specs.Ring.{lies_in}
use Rattle.symple_face.specs.Ideal.{owner_of}
use Rattle.symple_face.proofs.ChunkLaws.{lies_high, lies_low}
use Rattle.round_laws.proofs.FoldScanHalves.{owner_holds}
use Rattle.round_laws.proofs.IdealSparse.{owner_low}
use Rattle.instrument.specs.declared.split.Split.{Split}
use Rattle.mirror_table.proofs.OwnerLaws.{owner_lies}
use Rattle.cluster_run.specs.Driven.{IsReached}
use Rattle.cluster_run.proofs.PartsAt.{part_at, parts_count}
use Rattle.cluster_run.proofs.ReachedWorlds.{reached_ties}
use Rattle.schedule_laws.specs.Layout.{ends_in, ends_with, row_in, row_with, table_of, table_with, vertices_in}
use Rattle.symple_face.specs.Cluster.{World}
use Rattle.symple_face.specs.Lawful.{IsLawful}
use Rattle.symple_face.specs.Parts.{PlainPart}
use Rattle.symple_face.specs.State.{State, machine}
use Rattle.symple_face.specs.Work.{Work}
use Rattle.machine_runs.specs.PlainPlays.{line_of, line_with, lines_behind, lines_to, rows_of, rows_with}
use Rattle.machine_runs.proofs.NumberedLaws.{numbered_all, numbered_more, numbered_split}
use Rattle.machine_runs.proofs.RoundLaws.{rows_numbered}

-- a machine for each chunk, in order, all with the same ends and the same program
pub record IsOfRun (ends : List ℕ) (split : Split) (w : World) : Type 0 where
  pub are : AreEnds 64 ends
  pub count : length w.sites ≡ length ends
  pub ends_are : (m : ℕ) (s : State) → slice_get w.sites m ≡ Some s → s.part.ends ≡ ends
  pub split_is : (m : ℕ) (s : State) → slice_get w.sites m ≡ Some s → s.split ≡ split
  pub number : (m : ℕ) (s : State) → slice_get w.sites m ≡ Some s → machine s ≡ m

pub of_run : (work : Work) (sound : State → Type 0) → IsLawful work sound → (w : World) →
    (r : IsReached work sound w) → IsOfRun r.one_run.ends r.split w
of_run work sound lawful w r =
    let tied = reached_ties work sound lawful w r in
    record {
      are = r.one_run.chunks;
      count = tied.alike.count ∙ parts_count r.parts r.one_run;
      ends_are = λ m s at. ap (λ (part : PlainPart). part.ends)
          (part_at r.parts r.one_run m s.part (tied.alike.machines m s at).part).0;
      split_is = λ m s at. (tied.alike.machines m s at).split_is;
      number = λ m s at. (tied.alike.machines m s at).number;
    }

pub some_sites : (ends : List ℕ) (split : Split) (w : World) → IsOfRun ends split w → 0 < length w.sites
some_sites ends split w r = let some = r.are.0 in let count = r.count in omega arith

first_of : (sites : List State) → 0 < length sites → (s : State) × (slice_get sites 0 ≡ Some s)
first_of [] some = absurd (omega arith)
first_of (s ∷ ss) some = (s, refl)

pub first_site : (ends : List ℕ) (split : Split) (w : World) → IsOfRun ends split w →
    (s : State) × (slice_get w.sites 0 ≡ Some s)
first_site ends split w r = first_of w.sites (some_sites ends split w r)

-- ---- what is printed of it, by its first machine
module _ (ends : List ℕ) (split : Split) (w : World) (r : IsOfRun ends split w) (s : State)
    (at : slice_get w.sites 0 ≡ Some s) where
  pub vertices_are : vertices_in w ≡ range_with_len 0 (vertices_of ends)
  vertices_are = ap (λ (o : Option State). range_with_len 0 (vertices_of (ends_with o))) at
      ∙ ap (λ (es : List ℕ). range_with_len 0 (vertices_of es)) (r.ends_are 0 s at)

  pub vertex_count : length (vertices_in w) ≡ vertices_of ends
  vertex_count = ap length vertices_are ∙ length-range_with_len 0 (vertices_of ends)

  pub ends_in_is : ends_in w ≡ ends
  ends_in_is = ap ends_with at ∙ r.ends_are 0 s at

pub line_is : (work : Work) (w : World) (v : ℕ) (s : State) → slice_get w.sites 0 ≡ Some s →
    row_text s.split.program.program v (row_in work w v) ≡ line_of work w v
line_is work w v s at = sym (ap (line_with work w v) at)

pub rows_are : (work : Work) (w : World) (s : State) → slice_get w.sites 0 ≡ Some s →
    rows_text s.split.program.program 0 (map (row_in work w) (vertices_in w)) ≡ rows_of work w
rows_are work w s at = sym (ap (rows_with work w) at)

pub table_is : (work : Work) (w : World) (s : State) → slice_get w.sites 0 ≡ Some s →
    header_text s.split.program.program ++ rows_of work w ≡ table_of work w
table_is work w s at =
    ap (λ (rows : List ℕ). header_text s.split.program.program ++ rows) (sym (rows_are work w s at))
    ∙ sym (ap (table_with work w) at)

-- ---- the machine of a vertex
pub owner_is : (ends : List ℕ) (v k : ℕ) → AreEnds 64 ends → v < vertices_of ends →
    ((m : ℕ) → Holds ends v m → m ≡ k) → owner_of ends v ≡ k
owner_is ends v k are lt alone =
    let lies = owner_holds ends v are.0 lt in
    alone (owner_of ends v) (
      owner_low ends v are.0 lt,
      lies_low ends (owner_of ends v) v lies,
      lies_high ends (owner_of ends v) v lies,
    )

-- a vertex lies in the chunk of the machine that is asked for it
pub own_lies : (ends others : List ℕ) (v m number : ℕ) → Holds ends v m → others ≡ ends → number ≡ m →
    lies_in others number v ≡ true
own_lies ends others v m number h same is =
    ap (λ (es : List ℕ). lies_in es number v) same ∙ ap (λ (k : ℕ). lies_in ends k v) is ∙ owner_lies ends v m h

module _ (work : Work) (w : World) (ends : List ℕ) (v k : ℕ) (s : State) where
  pub row_is : ends_in w ≡ ends → owner_of ends v ≡ k → slice_get w.sites k ≡ Some s →
      row_in work w v ≡ work.row s v
  row_is same is at =
      ap (λ (es : List ℕ). row_with work v (slice_get w.sites (owner_of es v))) same
      ∙ ap (λ (j : ℕ). row_with work v (slice_get w.sites j)) is
      ∙ ap (row_with work v) at

-- ---- the lines of the vertices, one after another
module _ (work : Work) (w : World) (k : ℕ) (s : State) (at : slice_get w.sites 0 ≡ Some s) where
  abbrev rows : List Row
  rows = map (row_in work w) (vertices_in w)

  -- the row of a vertex stands at its place
  row_at_place : k < length (vertices_in w) → row_in work w k ≡ get_or rows k empty_row
  row_at_place lt =
      let n = vertices_of (ends_in w) in
      let count : length (vertices_in w) ≡ n = length-range_with_len 0 n in
      sym (get_or-map-range_with_len (row_in work w) 0 n k k empty_row (omega (arith, count, lt)) (omega arith))

  long : k < length (vertices_in w) → k < length rows
  long lt = omega (arith, length-map (vertices_in w) (row_in work w), lt)

  same_line : k < length (vertices_in w) → line_of work w k
      ≡ row_text s.split.program.program k (get_or rows k empty_row)
  same_line lt = ap (line_with work w k) at ∙ ap (row_text s.split.program.program k) (row_at_place lt)

  pub lines_more : k < length (vertices_in w) →
      lines_to work w k (slice_get w.sites 0) ++ line_of work w k ≡ lines_to work w (k + 1) (slice_get w.sites 0)
  lines_more lt =
      ap (λ (o : Option State). lines_to work w k o ++ line_of work w k) at
      ∙ numbered_more (rows_numbered s.split.program.program) rows k empty_row (line_of work w k) (long lt)
      (same_line lt)
      ∙ sym (ap (lines_to work w (k + 1)) at)

  pub lines_split : k < length (vertices_in w) →
      (lines_to work w k (slice_get w.sites 0) ++ line_of work w k)
      ++ lines_behind work w (k + 1) (slice_get w.sites 0) ≡ rows_of work w
  lines_split lt =
      ap (λ (o : Option State). (lines_to work w k o ++ line_of work w k) ++ lines_behind work w (k + 1) o) at
      ∙ numbered_split (rows_numbered s.split.program.program) rows k empty_row (line_of work w k) (long lt)
      (same_line lt)
      ∙ rows_are work w s at

  pub lines_all : length (vertices_in w) ≤ k → lines_to work w k (slice_get w.sites 0) ≡ rows_of work w
  lines_all all =
      ap (lines_to work w k) at
      ∙ numbered_all (rows_numbered s.split.program.program) rows k
      (omega (arith, length-map (vertices_in w) (row_in work w), all))
      ∙ rows_are work w s at

  pub lines_none : k ≡ 0 → [] ≡ lines_to work w k (slice_get w.sites 0)
  lines_none none = sym (ap (lines_to work w k) at
      ∙ ap (λ (j : ℕ). rows_text s.split.program.program 0 (take j rows)) none)
