-- The tallies of a round, summed.
use Rattle.std.proofs.Common.{◌≡◌, ◌≢◌, ◌≤◌, ◌+◌, ◌-◌, ℕ, zero, suc, ℤ, Bool, true, false, List, [], ◌∷◌, length, map, sum, refl, sym, ap, ◌∙◌, arith, cond}
use Rattle.std.specs.Prelude.{fold, get_or, if◌then◌else◌}
use Rattle.std.specs.List.{AllByRecursion, filter, list_all, range_with_len}
use Rattle.std.proofs.lemmas.Bool.{and_parts}
use Rattle.std.proofs.lemmas.List.{length-map}
use Rattle.vert_base.specs.declared.value.Combine.{Combine}
use Rattle.vert_base.specs.declared.value.Combine.TheVariants.{First}
use Rattle.vert_base.specs.declared.value.Row.{Row}
use Rattle.vert_tree.specs.declared.program.TotalDecl.{TotalDecl}
use Rattle.vert_tree.specs.Readable.{is_total_op}
use Rattle.vert_tree.specs.Typed.{is_typed}
use Rattle.vert_tree.proofs.TypedLaws.{totals_are_combined}
use Rattle.slot_merge.specs.Combine.{combined_of, total_of}
use Rattle.vert_eval.specs.Rounds.{empty_row, env_at, outdegree, row_at, vertices_of}
use Rattle.vert_eval.specs.SourceRun.{active_edges, active_vertices, scene_of, total_after}
use Rattle.vert_eval.specs.Values.{value_of}
use Rattle.chunk_split.specs.Chunks as chunks
use Rattle.circulant_plan.specs.Table.{others_of}
use Rattle.graph_table.proofs.FilterLaws.{all_range, all_true, filter-map, map_same}
use Rattle.body_shape.specs.Tally.{Counted}
use Rattle.symple_face.specs.CoreJudge.{all_joined, joined, totals_joined}
use Rattle.symple_face.specs.Ideal.{chunk_total, ideal_count, machines_of}
use Rattle.symple_face.specs.Parts.{chunk_vertices}
use Rattle.symple_face.specs.Source.{Source, stand}
use Rattle.round_laws.specs.Sums.{each}
use Rattle.round_laws.specs.Tallies.{TalliesAreSummed, source_count}
use Rattle.round_laws.proofs.Sums.{counts_by_chunks, sums_by_chunks, total_alone, totals_by_chunks}
use Rattle.state_laws.proofs.Sums.{sum-cons}

-- ---- counts joined, field by field
all_active : (ts : List TotalDecl) (a : Counted) (f : ℕ → Counted) (ks : List ℕ) →
    (all_joined ts a (map f ks)).active ≡ sum (a.active ∷ map (λ k. (f k).active) ks)
all_active ts a f [] = let none : a.active ≡ a.active + 0 = omega arith in none ∙ sym (sum-cons a.active [])
all_active ts a f (k ∷ ks) =
    let rest : List ℕ = map (λ k. (f k).active) ks in
    let together : (a.active + (f k).active) + sum rest ≡ a.active + ((f k).active + sum rest) = omega arith in
    all_active ts (joined ts a (f k)) f ks
    ∙ sum-cons (a.active + (f k).active) rest ∙ together
    ∙ ap (λ n. a.active + n) (sym (sum-cons (f k).active rest)) ∙ sym (sum-cons a.active ((f k).active ∷ rest))

all_edges : (ts : List TotalDecl) (a : Counted) (f : ℕ → Counted) (ks : List ℕ) →
    (all_joined ts a (map f ks)).edges ≡ sum (a.edges ∷ map (λ k. (f k).edges) ks)
all_edges ts a f [] = let none : a.edges ≡ a.edges + 0 = omega arith in none ∙ sym (sum-cons a.edges [])
all_edges ts a f (k ∷ ks) =
    let rest : List ℕ = map (λ k. (f k).edges) ks in
    let together : (a.edges + (f k).edges) + sum rest ≡ a.edges + ((f k).edges + sum rest) = omega arith in
    all_edges ts (joined ts a (f k)) f ks
    ∙ sum-cons (a.edges + (f k).edges) rest ∙ together
    ∙ ap (λ n. a.edges + n) (sym (sum-cons (f k).edges rest)) ∙ sym (sum-cons a.edges ((f k).edges ∷ rest))

all_reads : (ts : List TotalDecl) (a : Counted) (f : ℕ → Counted) (ks : List ℕ) →
    (all_joined ts a (map f ks)).reads ≡ sum (a.reads ∷ map (λ k. (f k).reads) ks)
all_reads ts a f [] = let none : a.reads ≡ a.reads + 0 = omega arith in none ∙ sym (sum-cons a.reads [])
all_reads ts a f (k ∷ ks) =
    let rest : List ℕ = map (λ k. (f k).reads) ks in
    let together : (a.reads + (f k).reads) + sum rest ≡ a.reads + ((f k).reads + sum rest) = omega arith in
    all_reads ts (joined ts a (f k)) f ks
    ∙ sum-cons (a.reads + (f k).reads) rest ∙ together
    ∙ ap (λ n. a.reads + n) (sym (sum-cons (f k).reads rest)) ∙ sym (sum-cons a.reads ((f k).reads ∷ rest))

-- totals told by a function of the total
totals_both : (f g : TotalDecl → ℤ) (ts : List TotalDecl) →
    totals_joined ts (map f ts) (map g ts) ≡ map (λ t. combined_of t.op (f t) (g t)) ts
totals_both f g [] = refl
totals_both f g (t ∷ ts) = ap (λ l. combined_of t.op (f t) (g t) ∷ l) (totals_both f g ts)

all_totals : (ts : List TotalDecl) (a : Counted) (f : ℕ → Counted) (first : TotalDecl → ℤ) (each_of : ℕ → TotalDecl → ℤ)
    (ks : List ℕ) → a.totals ≡ map first ts → ((k : ℕ) → (f k).totals ≡ map (each_of k) ts) →
    (all_joined ts a (map f ks)).totals ≡ map (λ t. fold (combined_of t.op) (first t) (map (λ k. each_of k t) ks)) ts
all_totals ts a f first each_of [] is are = is
all_totals ts a f first each_of (k ∷ ks) is are =
    all_totals ts (joined ts a (f k)) f (λ t. combined_of t.op (first t) (each_of k t)) each_of ks
    (ap (λ xs. totals_joined ts xs (f k).totals) is ∙ ap (totals_joined ts (map first ts)) (are k)
    ∙ totals_both first (each_of k) ts) are

-- ---- lists
-- what stands at each place of a list
each_place : {X : Type 0} (d : X) (c : ℕ) (xs : List X) →
    map (λ v. get_or xs (v - c) d) (range_with_len c (length xs)) ≡ xs
each_place d c [] = refl
each_place d c (x ∷ xs) =
    let here : c - c ≡ 0 = omega arith in
    ap (λ i. get_or (x ∷ xs) i d ∷ map (λ v. get_or (x ∷ xs) (v - c) d) (range_with_len (c + 1) (length xs))) here
    ∙ ap (λ l. x ∷ l)
    (map_same (λ v. get_or (x ∷ xs) (v - c) d) (λ v. get_or xs (v - (c + 1)) d) (range_with_len (c + 1) (length xs))
    (all_range (λ v. get_or (x ∷ xs) (v - c) d ≡ get_or xs (v - (c + 1)) d) (c + 1) (length xs)
    (λ v low high. let next : v - c ≡ suc (v - (c + 1)) = omega arith in ap (λ i. get_or (x ∷ xs) i d) next))
    ∙ each_place d (c + 1) xs)

pub rows_are : (rows : List Row) → map (row_at rows) (range_with_len 0 (length rows)) ≡ rows
rows_are rows =
    map_same (row_at rows) (λ v. get_or rows (v - 0) empty_row) (range_with_len 0 (length rows))
    (all_range (λ v. row_at rows v ≡ get_or rows (v - 0) empty_row) 0 (length rows)
    (λ v low high. let same : v ≡ v - 0 = omega arith in ap (row_at rows) same))
    ∙ each_place empty_row 0 rows

-- a sum over those that pass a test
pub sum-passing : {X : Type 0} (test : X → Bool) (f : X → ℕ) (xs : List X) →
    sum (map f (filter test xs)) ≡ sum (map (λ x. if test x then f x else 0) xs)
sum-passing test f [] = refl
sum-passing test f (x ∷ xs) =
    by (test x) (sum-passing test f xs)
    ∙ sym (sum-cons (if test x then f x else 0) (map (λ x. if test x then f x else 0) xs))
  where
    by : (b : Bool) → sum (map f (filter test xs)) ≡ sum (map (λ x. if test x then f x else 0) xs) →
        sum (map f (cond b (x ∷ filter test xs) (filter test xs))) ≡
        (if b then f x else 0) + sum (map (λ x. if test x then f x else 0) xs)
    by true rest = sum-cons (f x) (map f (filter test xs)) ∙ ap (λ n. f x + n) rest
    by false rest =
        let none : sum (map f (filter test xs)) ≡ 0 + sum (map f (filter test xs)) = omega arith in
        none ∙ ap (λ n. 0 + n) rest

-- machine 0 and the others are all machines
all_machines : (p : ℕ) → 1 ≤ p → 0 ∷ others_of p 0 ≡ range_with_len 0 p
all_machines zero some = absurd (omega arith)
all_machines (suc p) some = ap (λ n. 0 ∷ range_with_len 1 n) (omega arith)

-- ---- a program's totals combine

no_first : (op : Combine) → is_total_op op ≡ true → op ≢ First
no_first op is same = let wrong : is_total_op First ≡ true = ap is_total_op (sym same) ∙ is in cc

-- what holds of each total that combines
each_total : (P : TotalDecl → Type 0) → ((t : TotalDecl) → t.op ≢ First → P t) → (ts : List TotalDecl) →
    list_all (λ t. is_total_op t.op) ts ≡ true → AllByRecursion P ts
each_total P h [] all = tt
each_total P h (t ∷ ts) all =
    let parts = and_parts (is_total_op t.op) (list_all (λ t. is_total_op t.op) ts) all in
    (h t (no_first t.op parts.0), each_total P h ts parts.1)

module _ (src : Source) (most round : ℕ) (typed : is_typed src.job.program ≡ true)
    (are : chunks.AreEnds most src.job.graph.ends)
    (sized : src.job.graph.vertices ≡ chunks.vertices_of src.job.graph.ends)
    (many : length (stand src (round + 1)).rows ≡ src.job.graph.vertices) where
  abbrev rows : List Row
  rows = (stand src (round + 1)).rows

  abbrev ends : List ℕ
  ends = src.job.graph.ends

  abbrev p : ℕ
  p = machines_of src

  abbrev count : ℕ → Counted
  count = ideal_count src round

  abbrev active : ℕ → Bool
  active v = (row_at rows v).active

  some_machine : 1 ≤ p
  some_machine = are.0

  over_machines : (f : ℕ → ℕ) → sum (f 0 ∷ map f (others_of p 0)) ≡ sum (each p f)
  over_machines f = ap (λ ks. sum (map f ks)) (all_machines p some_machine)

  vertices_are : vertices_of src.job.graph ≡ range_with_len 0 (chunks.vertices_of ends)
  vertices_are = ap (range_with_len 0) sized

  active_sum : sum (each p (λ m. (count m).active)) ≡ active_vertices rows
  active_sum =
      counts_by_chunks most ends active are
      ∙ ap (λ n. length (filter active (range_with_len 0 n))) (sym sized ∙ sym many)
      ∙ sym (length-filter-map (range_with_len 0 (length rows)))
      ∙ ap active_vertices (rows_are rows)
    where
      length-filter-map : (vs : List ℕ) → length (filter (λ r. r.active) (map (row_at rows) vs)) ≡
          length (filter active vs)
      length-filter-map vs = ap length (filter-map (λ (r : Row). r.active) (row_at rows) vs)
          ∙ length-map (filter active vs) (row_at rows)

  edges_sum : sum (each p (λ m. (count m).edges)) ≡ active_edges src.job.graph rows
  edges_sum =
      ap sum (map_same (λ m. (count m).edges)
      (λ m. sum (map (λ v. if active v then outdegree src.job.graph v else 0) (chunk_vertices ends m)))
      (range_with_len 0 p)
      (all_true _ (λ m. sum-passing active (outdegree src.job.graph) (chunk_vertices ends m)) (range_with_len 0 p)))
      ∙ sums_by_chunks most ends (λ v. if active v then outdegree src.job.graph v else 0) are
      ∙ ap (λ vs. sum (map (λ v. if active v then outdegree src.job.graph v else 0) vs)) (sym vertices_are)

  -- the words of a total
  abbrev word : TotalDecl → ℕ → ℤ
  word t v = value_of t.value (env_at (scene_of src.job round rows []) v [])

  total_sum : (t : TotalDecl) → t.op ≢ First →
      fold (combined_of t.op) (chunk_total src round 0 t) (map (λ k. chunk_total src round k t) (others_of p 0)) ≡
      total_after src.job round rows t
  total_sum t other =
      let totals : ℕ → ℤ = λ m. chunk_total src round m t in
      ap (λ x. fold (combined_of t.op) x (map totals (others_of p 0)))
      (sym (total_alone t.op other (map (word t) (chunk_vertices ends 0))))
      ∙ ap (λ ks. total_of t.op (map totals ks)) (all_machines p some_machine)
      ∙ totals_by_chunks most ends t.op (word t) are other
      ∙ ap (λ vs. total_of t.op (map (word t) vs)) (sym vertices_are)

  tallies : all_joined src.job.program.totals.items (count 0) (map count (others_of p 0)) ≡ source_count src round
  tallies =
      let ts : List TotalDecl = src.job.program.totals.items in
      λ i. record {
        active = (all_active ts (count 0) count (others_of p 0) ∙ over_machines (λ m. (count m).active) ∙ active_sum) i;
        edges = (all_edges ts (count 0) count (others_of p 0) ∙ over_machines (λ m. (count m).edges) ∙ edges_sum) i;
        reads = (all_reads ts (count 0) count (others_of p 0) ∙ over_machines (λ m. (count m).reads)) i;
        totals = (all_totals ts (count 0) count (chunk_total src round 0) (chunk_total src round)
            (others_of p 0) refl (λ k. refl)
            ∙ map_same (λ t. fold (combined_of t.op) (chunk_total src round 0 t)
            (map (λ k. chunk_total src round k t) (others_of p 0)))
            (total_after src.job round rows) ts
            (each_total (λ t. fold (combined_of t.op) (chunk_total src round 0 t)
            (map (λ k. chunk_total src round k t) (others_of p 0)) ≡ total_after src.job round rows t) total_sum ts
            (totals_are_combined src.job.program typed))) i;
      }

pub tallies_summed : TalliesAreSummed
tallies_summed src most round typed are sized many = tallies src most round typed are sized many
