-- The lines of all chunks, one chunk behind another, are those of the table.
use Rattle.std.proofs.Common.{◌≡◌, ℕ, zero, suc, ◌+◌, ◌-◌, ◌<◌, ◌≤◌, ◌∙◌, List, [], ◌∷◌, ◌++◌, length, append_assoc, refl, sym, ap, arith}
use Rattle.std.specs.Prelude.{flat_map, if◌then◌else◌}
use Rattle.std.specs.List.{range_with_len}
use Rattle.std.proofs.lemmas.List.{length-map}
use Rattle.std.proofs.lemmas.List.FromFn.{length-range_with_len}
use Rattle.vert_base.specs.declared.value.Row.{Row}
use Rattle.vert_base.specs.declared.value.Ruling.{Ruling}
use Rattle.vert_base.specs.declared.value.Ruling.TheVariants as ruling
use Rattle.vert_tree.specs.declared.program.Program.{Program}
use Rattle.vert_eval.specs.Rounds.{row_after, row_at, vertices_of as all_vertices}
use Rattle.vert_eval.specs.SourceRun.{Job, Run, Standing, by_ruling, first_row, first_rows, next_standing, played_at, rounds_from, scene_before, source_run, standing_after, then_runs}
use Rattle.array_text.specs.Tables.{header_text, row_text, rows_text, table_text}
use Rattle.chunk_split.specs.Chunks.{AreEnds, vertices_of}
use Rattle.circulant_plan.proofs.StandingLaws.{not_zero}
use Rattle.graph_table.proofs.FilterLaws.{all_range, flat_map_same}
use Rattle.symple_face.specs.Parts.{chunk_vertices}
use Rattle.symple_face.specs.Source.{job_of}
use Rattle.cluster_run.proofs.PartsAt.{parts_count}
use Rattle.round_laws.proofs.Sums.{chunks_cover}
use Rattle.worker_laws.specs.Chunks.{TablesAreOfChunks, chunk_lines, chunk_text, last_rows}

-- ---- lists
more_lists : {X Y : Type 0} (f : X → List Y) (xs ys : List X) → flat_map f (xs ++ ys) ≡ flat_map f xs ++ flat_map f ys
more_lists f [] ys = refl
more_lists f (x ∷ xs) ys =
    ap (λ zs. f x ++ zs) (more_lists f xs ys) ∙ sym (append_assoc (f x) (flat_map f xs) (flat_map f ys))

lists_of_lists : {X Y Z : Type 0} (f : Y → List Z) (g : X → List Y) (xs : List X) →
    flat_map (λ x. flat_map f (g x)) xs ≡ flat_map f (flat_map g xs)
lists_of_lists f g [] = refl
lists_of_lists f g (x ∷ xs) =
    ap (λ zs. flat_map f (g x) ++ zs) (lists_of_lists f g xs) ∙ sym (more_lists f (g x) (flat_map g xs))

-- ---- lines
-- the lines of the rows from v on
lines_from : (p : Program) (row : ℕ → Row) (rows : List Row) (v : ℕ) →
    ((i : ℕ) → i < length rows → row (v + i) ≡ row_at rows i) →
    flat_map (λ u. row_text p u (row u)) (range_with_len v (length rows)) ≡ rows_text p v rows
lines_from p row [] v same = refl
lines_from p row (r ∷ rows) v same =
    let first : v + 0 ≡ v = omega arith in
    let here : row v ≡ r = ap row (sym first) ∙ same 0 (omega arith) in
    ap (λ q. row_text p v q ++ flat_map (λ u. row_text p u (row u)) (range_with_len (v + 1) (length rows))) here
    ∙ ap (λ text. row_text p v r ++ text)
    (lines_from p row rows (v + 1) (λ i lt.
    let next : v + 1 + i ≡ v + suc i = omega arith in ap row next ∙ same (suc i) (omega arith)))

module _ (p : Program) (ends : List ℕ) (are : AreEnds 64 ends) (rows : List Row)
    (long : length rows ≡ vertices_of ends) where
  abbrev line : ℕ → List ℕ
  line v = row_text p v (row_at rows v)

  all_lines : flat_map (chunk_lines p ends rows) (range_with_len 0 (length ends)) ≡ rows_text p 0 rows
  all_lines =
      lists_of_lists line (chunk_vertices ends) (range_with_len 0 (length ends))
      ∙ ap (flat_map line) (chunks_cover 64 ends are ∙ ap (range_with_len 0) (sym long))
      ∙ lines_from p (row_at rows) rows 0 (λ i lt. let e : 0 + i ≡ i = omega arith in ap (row_at rows) e)

  later : (n v : ℕ) → 1 ≤ v → flat_map (chunk_text p ends rows) (range_with_len v n)
      ≡ flat_map (chunk_lines p ends rows) (range_with_len v n)
  later n v some =
      flat_map_same (chunk_text p ends rows) (chunk_lines p ends rows) (range_with_len v n)
      (all_range (λ m. chunk_text p ends rows m ≡ chunk_lines p ends rows m) v n
      (λ m from to. ap (λ b. if b then header_text p ++ chunk_lines p ends rows m else chunk_lines p ends rows m)
      (not_zero m (λ zero_is. (let no : ⊥ = absurd (omega (arith, from, some, zero_is)) in no)))))

  by_count : (n : ℕ) → 1 ≤ n → flat_map (chunk_text p ends rows) (range_with_len 0 n)
      ≡ header_text p ++ flat_map (chunk_lines p ends rows) (range_with_len 0 n)
  by_count zero some = absurd (omega arith)
  by_count (suc n) some =
      ap (λ text. (header_text p ++ chunk_lines p ends rows 0) ++ text) (later n 1 (omega arith))
      ∙ append_assoc (header_text p) (chunk_lines p ends rows 0)
      (flat_map (chunk_lines p ends rows) (range_with_len 1 n))

  chunks_join : flat_map (chunk_text p ends rows) (range_with_len 0 (length ends)) ≡ table_text p rows
  chunks_join = by_count (length ends) are.0 ∙ ap (λ text. header_text p ++ text) all_lines

-- ---- a run has a row for each vertex
module _ (job : Job) where
  abbrev n : ℕ
  n = length (all_vertices job.graph)

  next_long : (round : ℕ) (s : Standing) → length (next_standing job round s).rows ≡ n
  next_long round s = length-map (all_vertices job.graph) (row_after job.program s.ruling (scene_before job round s))

  either : (r : Ruling) (s : Standing) (going : Run) → length s.rows ≡ n → length going.last.rows ≡ n →
      length (by_ruling r (record { rounds = []; last = s }) going).last.rows ≡ n
  either ruling.Stop s going long rest = long
  either ruling.Dense s going long rest = rest
  either ruling.Sparse s going long rest = rest

  last_long : (more round : ℕ) (s : Standing) → length s.rows ≡ n →
      length (rounds_from more job round s).last.rows ≡ n
  last_long zero round s long = long
  last_long (suc more) round s long =
      either s.ruling s
      (then_runs (played_at job round s) (rounds_from more job (round + 1) (next_standing job round s))) long
      (last_long more (round + 1) (next_standing job round s) (next_long round s))

  run_long : length (source_run job).last.rows ≡ n
  run_long = last_long (job.program.limit + 1 - 1) 1 (standing_after job 0 (first_rows job))
      (length-map (all_vertices job.graph) (first_row job))

pub tables_are_of_chunks : TablesAreOfChunks
tables_are_of_chunks split parts one =
    let rows : List Row = last_rows split parts one in
    ap (λ k. flat_map (chunk_text split.program.program one.ends rows) (range_with_len 0 k)) (parts_count parts one)
    ∙ chunks_join split.program.program one.ends one.chunks rows
    (run_long (job_of split one.ends one.draws one.edges) ∙ length-range_with_len 0 (vertices_of one.ends))
