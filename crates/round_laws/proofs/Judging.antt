-- Counts, totals and rulings of ideal contents are the source's.
use Rattle.std.proofs.Common.{◌≡◌, ◌<◌, ◌+◌, ◌-◌, ℕ, Bool, true, List, [], ◌∷◌, length, map, sum, refl, sym, ap, subst, ◌∙◌, Option, None, Some, arith}
use Rattle.std.specs.Prelude.{if◌then◌else◌, slice_index}
use Rattle.std.specs.List.{filter}
use Rattle.std.proofs.lemmas.List.{length-map}
use Rattle.vert_base.specs.declared.graph.Edge.{Edge}
use Rattle.vert_base.specs.declared.value.Row.{Row}
use Rattle.vert_base.specs.declared.value.Ruling.TheVariants as ruling
use Rattle.mode_switch.specs.Ruling.{ruling_of}
use Rattle.vert_tree.specs.declared.expression.Expr.{Expr}
use Rattle.vert_tree.specs.declared.program.Program.{Program}
use Rattle.vert_tree.specs.declared.program.TotalDecl.{TotalDecl}
use Rattle.vert_tree.specs.Places.{option_all}
use Rattle.vert_tree.specs.Readable.{expr_read, in_stop}
use Rattle.slot_merge.specs.Combine.{total_of}
use Rattle.vert_eval.specs.declared.environment.Env.{Env}
use Rattle.vert_eval.specs.Rounds as meaning
use Rattle.vert_eval.specs.Rounds.{env_at, empty_row, outdegree, row_at}
use Rattle.vert_eval.specs.SourceRun.{Job, active_vertices, scene_of, stops}
use Rattle.vert_eval.specs.Values.{value_of}
use Rattle.vert_eval.specs.Words.{is_set}
use Rattle.chunk_split.specs.Chunks.{AreEnds}
use Rattle.circulant_plan.specs.Ring.{lies_in}
use Rattle.vert_base.specs.Ends.{start_of}
use Rattle.graph_table.proofs.FilterLaws.{all_range, filter-map, map_same}
use Rattle.instrument.specs.declared.split.Split.{Split}
use Rattle.value_laws.specs.Blind.{SameButVertex}
use Rattle.value_laws.proofs.Blind.{stop_anywhere}
use Rattle.symple_face.specs.CoreJudge.{chunk_total, counted, edges_ahead, ruling_by}
use Rattle.symple_face.specs.CoreSight.{degree_of, part_sight, program_of, row_in}
use Rattle.symple_face.specs.Ideal as ideal
use Rattle.symple_face.specs.Parts.{PlainPart, chunk_vertices, degree_in}
use Rattle.symple_face.specs.PartsOf.{known_of, part_of}
use Rattle.symple_face.specs.Sight.{Sight, seen_env}
use Rattle.symple_face.specs.Source.{Source, job_of, stand}
use Rattle.symple_face.proofs.ChunkLaws.{lies_is}
use Rattle.round_laws.specs.Judging.{CountsAreIdeal, JudgesAsTheSource}
use Rattle.vert_tree.proofs.ReadLaws.{stop_read}
use Rattle.round_laws.proofs.Seen.{seen_environment}
use Rattle.round_laws.proofs.Sights.{degree_known, row_of_own}
use Rattle.round_laws.proofs.Tallies.{sum-passing}
use Rattle.round_laws.proofs.Vertices.{own_law}

-- ---- the ruling
pub stops_same : (o : Option Expr) → option_all (expr_read in_stop) o ≡ true → (a b : Env) → SameButVertex a b →
    stops o b ≡ stops o a
stops_same None read a b same = refl
stops_same (Some test) read a b same = ap is_set (stop_anywhere test read a b same)

pub judges_as_source : JudgesAsTheSource
judges_as_source state ends draws m round edges rows sums is active edges_out =
    let part : PlainPart = part_of ends draws edges m in
    let job : Job = job_of state.split ends draws edges in
    let program : Program = program_of state.split in
    let seen : Env = seen_env (part_sight part round sums.totals (λ v. empty_row)) 0 0 [] in
    let env : Env = env_at (scene_of job round [] sums.totals) 0 [] in
    let rule : Bool → ℕ → ℕ → _ = λ b x y.
    if b then ruling.Stop else ruling_of x y (length edges) (round + 1) program.limit program.mode in
    ap (λ q. ruling_by (record state { part = q }) round sums) is
    ∙ ap (λ b. rule b sums.active sums.edges)
    (stops_same program.stop (stop_read program state.split.program.typed) env seen refl)
    ∙ ap (λ x. rule (stops program.stop env) x sums.edges) active
    ∙ ap (rule (stops program.stop env) (active_vertices rows)) edges_out

-- ---- counts
module _ (src : Source) (most m round : ℕ) (split : Split) (ends : List ℕ) (draws : ℕ) (edges : List Edge)
    (are : AreEnds most ends) (machine : m < length ends) where
  abbrev part : PlainPart
  part = part_of ends draws edges m

  abbrev job : Job
  job = job_of split ends draws edges

  abbrev run : Source
  run = record src { job = job }

  abbrev rows : List Row
  rows = (stand run (round + 1)).rows

  abbrev own : List ℕ
  own = chunk_vertices ends m

  abbrev own_rows : List Row
  own_rows = map (row_at rows) own

  row_is : (v : ℕ) → lies_in ends m v ≡ true → row_in part own_rows v ≡ row_at rows v
  row_is v lies = row_of_own rows ends m v lies

  degree_is : (v : ℕ) → lies_in ends m v ≡ true → degree_of part v ≡ degree_in edges edges v
  degree_is v lies = degree_known edges edges (known_of ends edges m) v (own_law most ends edges m v are machine lies)

  -- what is the same at each own vertex is the same in a list of them
  each_own : {X : Type 0} (f g : ℕ → X) → ((v : ℕ) → lies_in ends m v ≡ true → f v ≡ g v) → map f own ≡ map g own
  each_own f g same =
      map_same f g own (all_range (λ v. f v ≡ g v) (start_of ends m) (slice_index ends m - start_of ends m)
      (λ v lo hi. same v (lies_is (start_of ends m) (slice_index ends m) v lo (omega (arith, hi, lo)))))

  abbrev active : ℕ → Bool
  active v = (row_at rows v).active

  actives : active_vertices own_rows ≡ length (filter active own)
  actives = ap length (filter-map (λ (r : Row). r.active) (row_at rows) own)
      ∙ length-map (filter active own) (row_at rows)

  edges_are : edges_ahead part own_rows ≡ sum (map (outdegree job.graph) (filter active own))
  edges_are =
      ap sum (each_own (λ v. if (row_in part own_rows v).active then (degree_of part v).outs else 0)
      (λ v. if active v then outdegree job.graph v else 0)
      (λ v lies. ap (λ r. if r.active then (degree_of part v).outs else 0) (row_is v lies)
      ∙ ap (λ x. if active v then x.outs else 0) (degree_is v lies)))
      ∙ sym (sum-passing active (outdegree job.graph) own)

  total_is : (t : TotalDecl) → chunk_total part own_rows round t ≡ ideal.chunk_total run round m t
  total_is t =
      let g : Sight = part_sight part round [] (row_in part own_rows) in
      ap (total_of t.op) (each_own (λ v. value_of t.value (seen_env g v 0 []))
      (λ v. value_of t.value (env_at (scene_of job round rows []) v []))
      (λ v lies. ap (value_of t.value) (seen_environment g (scene_of job round rows []) v 0 []
      (record { n = refl; round = refl; draws = refl; totals = refl })
      (record {
        row = row_is v lies;
        ins = ap (λ x. x.ins) (degree_is v lies);
        outs =
            ap (λ x. x.outs) (degree_is v lies);
      }))))

  totals_are : (ts : List TotalDecl) → map (chunk_total part own_rows round) ts ≡ map (ideal.chunk_total run round m) ts
  totals_are [] = refl
  totals_are (t ∷ ts) =
      ap (λ x. x ∷ map (chunk_total part own_rows round) ts) (total_is t)
      ∙ ap (λ xs. ideal.chunk_total run round m t ∷ xs) (totals_are ts)

pub counts_ideal : CountsAreIdeal
counts_ideal src most m round split ends draws edges reads is are machine read =
    let run : Source = record src { job = job_of split ends draws edges } in
    let same : run ≡ src = λ i. record src { job = sym is i } in
    subst (λ x. sum (map length reads) ≡
    sum (map (λ v. length (ideal.ideal_reads x round m v)) (meaning.vertices_of x.job.graph)) →
    counted (part_of ends draws edges m) split
    (map (row_at (stand x (round + 1)).rows) (chunk_vertices ends m)) reads round ≡
    ideal.ideal_count x round m) same
    (λ counts i. record {
      active = actives src most m round split ends draws edges are machine i;
      edges = edges_are src most m round split ends draws edges are machine i;
      reads = counts i;
      totals = totals_are src most m round split ends draws edges are machine (program_of split).totals.items i;
    }) read
