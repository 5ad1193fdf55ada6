-- What is counted of the own vertices is what a core counts.
use Rattle.std.proofs.Common.{◌≡◌, ℕ, true, suc, ◌+◌, ◌-◌, ◌<◌, ◌≤◌, List, [], ◌∷◌, length, get_or, map, take, refl, ap, sym, subst, ◌∙◌, arith}
use Rattle.std.specs.Prelude.{IsTrue, if◌then◌else◌, slice_index, sum}
use Rattle.std.specs.List.{All, list_all, range_with_len}
use Rattle.std.proofs.lemmas.List.{length-map, length-take-le}
use Rattle.std.proofs.lemmas.List.FromFn.{length-range_with_len}
use Rattle.std.proofs.lemmas.List.Sums.{AllPass-from_list_all, sum_by-cons}
use Rattle.vert_base.specs.declared.value.Row.{Row}
use Rattle.vert_base.specs.Ends.{start_of}
use Rattle.vert_base.specs.Neighbours.{source}
use Rattle.vert_tree.specs.declared.program.Program.{Program}
use Rattle.vert_tree.specs.declared.program.TotalDecl.{TotalDecl}
use Rattle.vert_tree.specs.Places.{Counts, expr_placed, row_counts}
use Rattle.vert_eval.specs.declared.environment.Env.{Env}
use Rattle.vert_eval.specs.Rounds.{row_at}
use Rattle.vert_eval.specs.Values.{value_of}
use Rattle.slot_merge.specs.Combine.{total_of}
use Rattle.symple_face.specs.declared.degree.Degree.{Degree}
use Rattle.symple_face.specs.CoreJudge.{chunk_total, edges_ahead}
use Rattle.symple_face.specs.CoreSight.{degree_of, part_sight, row_in, targets_of}
use Rattle.symple_face.specs.Parts.{PlainPart, chunk_vertices}
use Rattle.symple_face.specs.Sight.{Sight, seen_env}
use Rattle.machine_parts.specs.Counting.{AreTotalsPlaced, edges_at, own_counts, own_total}
use Rattle.machine_parts.specs.Flat.{zip_with}
use Rattle.machine_parts.specs.Neighbours.{no_degree}
use Rattle.machine_parts.specs.Seen.{ShowsOwn}
use Rattle.machine_parts.proofs.SeenLaws.{own_edges_are_seen, own_total_is_seen}
use Rattle.work_laws.specs.Sound.{members_in}
use Rattle.machine_steps.specs.Counts.{AreCounts, first_read, lists_read}
use Rattle.vertex_work.specs.Known.{AreDegreesOf, known_in}
use Rattle.vertex_work.proofs.KnownLaws.{own_in, own_is_known}

-- ---- reads
-- the first of some members are as many as the count
zip_sum : (part : PlainPart) (vs counts : List ℕ) → length counts ≡ length vs →
    ((i : ℕ) → i < length counts → slice_index counts i ≤ length (members_in part (slice_index vs i))) →
    sum (map length (zip_with (first_read part) vs counts)) ≡ sum counts
zip_sum part [] [] same fit = refl
zip_sum part [] (c ∷ cs) same fit = absurd (omega arith)
zip_sum part (v ∷ vs) [] same fit = absurd (omega arith)
zip_sum part (v ∷ vs) (c ∷ cs) same fit =
    let one : length (first_read part v c) ≡ c =
    length-map (take c (members_in part v)) source
    ∙ length-take-le c (members_in part v) (fit 0 (omega arith)) in
    sum_by-cons (λ x. x) (length (first_read part v c)) (map length (zip_with (first_read part) vs cs))
    ∙ ap (λ n. n + sum (map length (zip_with (first_read part) vs cs))) one
    ∙ ap (λ n. c + n) (zip_sum part vs cs (omega arith) (λ i lt. fit (suc i) (omega arith)))
    ∙ sym (sum_by-cons (λ x. x) c cs)

pub reads_sum : (part : PlainPart) (counts : List ℕ) → AreCounts part counts →
    sum (map length (lists_read part counts)) ≡ sum counts
reads_sum part counts fit = zip_sum part (targets_of part) counts fit.each fit.within

-- ---- edges and totals
module _ (part : PlainPart) (rows : List Row) (degrees : List Degree) (r m start : ℕ) (env : Env)
    (machine : m ≡ part.at.machine) (first : start ≡ start_of part.ends part.at.machine)
    (count : length rows ≡ length (chunk_vertices part.ends part.at.machine))
    (known : AreDegreesOf part (known_in part m) degrees) where
  abbrev pub own_seen : Sight
  own_seen = part_sight part r [] (row_in part rows)

  abbrev a : ℕ
  a = start_of part.ends part.at.machine

  abbrev n : ℕ
  n = slice_index part.ends part.at.machine - a

  degree_at : (i : ℕ) → i < length rows → get_or degrees i no_degree ≡ degree_of part (a + i)
  degree_at i lt = own_is_known part m degrees i machine known (omega arith)

  row_is : (i : ℕ) → row_at rows i ≡ row_in part rows (a + i)
  row_is i = let e : a + i - a ≡ i = omega arith in ap (row_at rows) (sym e)

  module _ (is_n : env.n ≡ own_seen.n) (is_round : env.round ≡ r) (is_draws : env.draws ≡ part.draws)
      (is_totals : env.totals.items ≡ []) (is_slots : env.slots.items ≡ []) where
    shows : ShowsOwn own_seen rows degrees a [] env
    shows = record {
      n = is_n;
      round = is_round;
      draws = is_draws;
      totals = is_totals;
      slots = is_slots;
      row = λ i lt. row_is i;
      ins = λ i lt. ap (λ (d : Degree). d.ins) (degree_at i lt);
      outs = λ i lt. ap (λ (d : Degree). d.outs) (degree_at i lt);
    }

    many : length rows ≡ n
    many = count ∙ length-range_with_len a n

    pub total_counted : (t : TotalDecl) → own_total rows degrees start env t ≡ chunk_total part rows r t
    total_counted t =
        ap (λ b. own_total rows degrees b env t) first
        ∙ own_total_is_seen own_seen rows degrees a [] env t shows
        ∙ ap (λ k. total_of t.op (map (λ v. value_of t.value (seen_env own_seen v 0 [])) (range_with_len a k))) many

    pub totals_counted : (ts : List TotalDecl) →
        map (own_total rows degrees start env) ts ≡ map (chunk_total part rows r) ts
    totals_counted [] = refl
    totals_counted (t ∷ ts) =
        ap (λ x. x ∷ map (own_total rows degrees start env) ts) (total_counted t)
        ∙ ap (λ xs. chunk_total part rows r t ∷ xs) (totals_counted ts)

    pub edges_counted : sum (map (edges_at rows degrees) (range_with_len 0 (length degrees))) ≡ edges_ahead part rows
    edges_counted =
        let all : length degrees ≡ length rows = known.each ∙ ap length (own_in part m machine) ∙ sym count in
        ap (λ k. sum (map (edges_at rows degrees) (range_with_len 0 k))) all
        ∙ own_edges_are_seen own_seen rows degrees a [] env shows
        ∙ ap (λ k. sum (map (λ v. if (own_seen.row v).active then own_seen.outs v else 0) (range_with_len a k))) many

-- ---- names
module _ (p : Program) (totals : List TotalDecl) (width : ℕ) (env : Env) where
  pub placed_counts : totals ≡ p.totals.items → width ≡ length p.fields.items → env.slots.items ≡ [] →
      env.totals.items ≡ [] → list_all (λ t. expr_placed (row_counts p) t.value) p.totals.items ≡ true →
      AreTotalsPlaced width env totals
  placed_counts same wide slots none placed =
      let counts : own_counts width env ≡ row_counts p = λ j. record {
        fields = wide j;
        locals = 0;
        sends = 0;
        slots = length (slots j);
        totals = length (none j);
        other_fields = wide j;
      } in
      subst (λ (ts : List TotalDecl). AreTotalsPlaced width env ts) (sym same)
      (subst (λ (k : Counts). All (λ t. IsTrue (expr_placed k t.value)) p.totals.items) (sym counts)
      (AllPass-from_list_all (λ t. expr_placed (row_counts p) t.value) p.totals.items placed))
