-- The rows that one pass leaves are those of a state that shows what it was given.
use Rattle.std.proofs.Common.{◌≡◌, ◌≤◌, ◌<◌, ◌+◌, ◌-◌, ℕ, ℤ, Bool, true, false, ◌&&◌, List, [], ◌∷◌, get_or, length, map, replicate, refl, sym, ap, ◌∙◌, Option, Some, None, arith}
use Rattle.std.specs.Prelude.{if◌then◌else◌, slice_index}
use Rattle.std.specs.List.{range_with_len}
use Rattle.std.proofs.lemmas.List.FromFn.{get_or-range_with_len, length-range_with_len}
use Rattle.vert_base.specs.declared.value.Row.{Row}
use Rattle.vert_base.specs.Ends.{start_of}
use Rattle.vert_tree.specs.declared.program.Dense.{Dense}
use Rattle.vert_tree.specs.declared.statement.Stmt.{Stmt}
use Rattle.slot_merge.specs.declared.partial.Partial.{Partial}
use Rattle.slot_merge.specs.Partials.{with_emissions}
use Rattle.dep_layout.specs.Spelling.{State as LoopState}
use Rattle.vert_eval.specs.declared.environment.Env.{Env}
use Rattle.vert_eval.specs.Rounds.{row_at}
use Rattle.vert_eval.specs.Runs.{run}
use Rattle.vert_eval.specs.Values.{value_of}
use Rattle.vert_eval.specs.Words.{is_set}
use Rattle.chunk_split.specs.Chunks.{vertices_of}
use Rattle.graph_table.proofs.FilterLaws.{all_range, all_true, map_same}
use Rattle.instrument.specs.declared.split.Split.{Split}
use Rattle.symple_face.specs.declared.degree.Degree.{Degree}
use Rattle.symple_face.specs.CoreClose.{closed_partials, closed_row, closed_rows, tail_at, tail_env, with_tail}
use Rattle.symple_face.specs.CoreDense.{ring_at}
use Rattle.symple_face.specs.CoreScan.{fresh}
use Rattle.symple_face.specs.CoreSight.{degree_of, known_totals, none, own_sight, own_vertices, part_sight, program_of, row_in}
use Rattle.symple_face.specs.CoreTakes.{own_partials}
use Rattle.symple_face.specs.Parts.{PlainPart, chunk_vertices}
use Rattle.symple_face.specs.Sight.{Sight, seen_env}
use Rattle.symple_face.specs.State.{State, p_of}
use Rattle.machine_parts.specs.Neighbours.{no_degree}
use Rattle.vertex_work.specs.Closing.{SeesAlike, ended_at, ended_row, ending_partials, has_statements, has_tail, own_view, with_block}
use Rattle.vertex_work.specs.Known.{AreDegreesOf, known_in}
use Rattle.vertex_work.specs.Shown.{Shows}
use Rattle.machine_steps.proofs.AlikeLaws.{ended_alike}
use Rattle.machine_steps.proofs.BlankLaws.{same_for_each}
use Rattle.machine_steps.proofs.HalfLaws.{own_degrees}

-- ---- rows by what a state shows
abbrev pub closed_by : PlainPart → Split → List ℤ → List Row → List (List Partial) → List LoopState → ℕ → Bool →
    List Row
closed_by part split totals rows partials states r dense =
    map
    (ended_at dense split (part_sight part r totals (row_in part rows)) part.at.machines
    (start_of part.ends part.at.machine) partials states)
    (chunk_vertices part.ends part.at.machine)

block_same : (o : Option Dense) (s : State) (r v : ℕ) →
    with_tail o s r v ≡ with_block o s.split (own_sight s r) (p_of s) (own_partials s v) (ring_at s v) v
block_same None s r v = refl
block_same (Some dense) s r v = refl

partials_same : (dense : Bool) (s : State) (r v : ℕ) →
    closed_partials s r dense v ≡
    ending_partials dense s.split (own_sight s r) (p_of s) (own_partials s v) (ring_at s v) v
partials_same true s r v = block_same (program_of s.split).dense s r v
partials_same false s r v = refl

state_closed : (s : State) (r : ℕ) (dense : Bool) →
    closed_rows s r dense ≡ closed_by s.part s.split (known_totals s) s.rows s.partials s.ring r dense
state_closed s r dense =
    let f : ℕ → Row = λ v. closed_row s.split (own_sight s r) (closed_partials s r dense v) v in
    let g : ℕ → Row =
    λ v. ended_row dense s.split (own_sight s r) (p_of s) (own_partials s v) (ring_at s v) v in
    map_same f g (own_vertices s)
    (all_true (λ v. f v ≡ g v) (λ v. ap (λ ps. closed_row s.split (own_sight s r) ps v) (partials_same dense s r v))
    (own_vertices s))

module _ (s : State) (part : PlainPart) (split : Split) (totals : List ℤ) (rows : List Row)
    (partials : List (List Partial)) (states : List LoopState) (r : ℕ) (dense : Bool) where
  pub shown_closed : Shows part split totals rows s → s.partials ≡ partials → s.ring ≡ states →
      closed_rows s r dense ≡ closed_by part split totals rows partials states r dense
  shown_closed shows ps st =
      state_closed s r dense
      ∙ ap (λ p. closed_by p s.split (known_totals s) s.rows s.partials s.ring r dense) shows.part
      ∙ ap (λ x. closed_by part x (known_totals s) s.rows s.partials s.ring r dense) shows.split
      ∙ ap (λ t. closed_by part split t s.rows s.partials s.ring r dense) shows.totals
      ∙ ap (λ rs. closed_by part split totals rs s.partials s.ring r dense) shows.rows
      ∙ ap (λ qs. closed_by part split totals rows qs s.ring r dense) ps
      ∙ ap (λ qs. closed_by part split totals rows partials qs r dense) st

-- ---- a tail that does nothing
either_way : {X : Type 0} (b : Bool) (x : X) → (if b then x else x) ≡ x
either_way true x = refl
either_way false x = refl

module _ (split : Split) (g : Sight) (key : ℕ) (ps : List Partial) (st : LoopState) (v : ℕ) where
  no_tail : (d : Dense) → d.tail.items ≡ [] → tail_at split d g key ps st v ≡ ps
  no_tail d is =
      let env : Env = seen_env g v key (none split) in
      let test : Bool = is_set (value_of d.when_test env) in
      ap (λ l. if test then with_emissions key ps (run l (tail_env split d env ps st)).emitted else ps) is
      ∙ either_way test ps

  by_statements : (d : Dense) (l : List Stmt) → d.tail.items ≡ l → (P : Bool → Type 0) →
      (tail_at split d g key ps st v ≡ ps → P false) → P true → P (has_statements l)
  by_statements d [] is P nothing some = nothing (no_tail d is)
  by_statements d (x ∷ xs) is P nothing some = some

  abbrev ended : Bool → List Partial
  ended b = ending_partials b split g key ps st v

  flag_same : (o : Option Dense) → (program_of split).dense ≡ o → ended (has_tail o) ≡ with_block o split g key ps st v
  flag_same None is = refl
  flag_same (Some d) is =
      by_statements d d.tail.items refl (λ b. ended b ≡ tail_at split d g key ps st v) (λ e. sym e)
      (ap (λ o. with_block o split g key ps st v) is)

  pub tail_same : (dense : Bool) → ended (dense && has_tail (program_of split).dense) ≡ ended dense
  tail_same true = flag_same (program_of split).dense refl
  tail_same false = refl

-- ---- what the pass saw
-- one thing for each own vertex
pub each_of_own : {X : Type 0} (x : X) (s : State) (part : PlainPart) (n : ℕ) → s.part ≡ part →
    n ≡ length (chunk_vertices part.ends part.at.machine) → map (λ v. x) (own_vertices s) ≡ replicate n x
each_of_own x s part n is many =
    let first : ℕ = start_of part.ends part.at.machine in
    let count : ℕ = slice_index part.ends part.at.machine - first in
    ap (λ p. map (λ v. x) (chunk_vertices p.ends p.at.machine)) is
    ∙ same_for_each x first count ∙ ap (λ k. replicate k x) (sym (many ∙ length-range_with_len first count))

module _ (part : PlainPart) (split : Split) (totals : List ℤ) (rows : List Row) (partials : List (List Partial))
    (states : List LoopState) (r start key k : ℕ) (dense tail : Bool) (degrees : List Degree) (env : Env)
    (begin : start ≡ start_of part.ends part.at.machine) (keyed : key ≡ part.at.machines)
    (here : k ≡ part.at.machine) (are : AreDegreesOf part (known_in part k) degrees)
    (many : length rows ≡ length (chunk_vertices part.ends part.at.machine))
    (flag : tail ≡ (dense && has_tail (program_of split).dense)) (n : env.n ≡ vertices_of part.ends)
    (round : env.round ≡ r) (draws : env.draws ≡ part.draws) (same_totals : env.totals.items ≡ totals) where
  abbrev g : Sight
  g = own_view rows degrees start env

  abbrev h : Sight
  h = part_sight part r totals (row_in part rows)

  abbrev count : ℕ
  count = slice_index part.ends part.at.machine - start_of part.ends part.at.machine

  as_many : length rows ≡ count
  as_many = many ∙ length-range_with_len (start_of part.ends part.at.machine) count

  degree_here : (v : ℕ) → start ≤ v → v < start + length rows → get_or degrees (v - start) no_degree ≡ degree_of part v
  degree_here v low high =
      let own = own_degrees part k degrees here are in
      let first : ℕ = start_of part.ends part.at.machine in
      let long = length-range_with_len first count in
      let within : v - start < count = omega (arith, as_many) in
      let back : first + (v - start) ≡ v = omega (arith, begin) in
      own.at (v - start) (omega (arith, long, within))
      ∙ ap (degree_of part) (get_or-range_with_len first count (v - start) 0 within ∙ back)

  alike : (v : ℕ) → start ≤ v → v < start + length rows → SeesAlike g h v
  alike v low high = record {
    n = n;
    round = round;
    draws = draws;
    totals = same_totals;
    row = ap (λ a. row_at rows (v - a)) begin;
    ins = ap (λ d. d.ins) (degree_here v low high);
    outs = ap (λ d. d.outs) (degree_here v low high);
  }

  abbrev first : ℕ
  first = start_of part.ends part.at.machine

  ended_here : (v : ℕ) → start ≤ v → v < start + length rows →
      ended_at tail split g key start partials states v ≡
      ended_at dense split h part.at.machines first partials states v
  ended_here v low high =
      let own : List Partial = get_or partials (v - start) [] in
      let st : LoopState = get_or states (v - start) (fresh split) in
      ap (λ b. ended_row b split g key own st v) flag
      ∙ ap (λ ps. closed_row split g ps v) (tail_same split g key own st v dense)
      ∙ ended_alike g h v (alike v low high) dense split key own st
      ∙ ap (λ x. ended_row dense split h x own st v) keyed
      ∙ ap (λ a. ended_at dense split h part.at.machines a partials states v) begin

  pub pass_closed : map (ended_at tail split g key start partials states) (range_with_len start (length rows)) ≡
      closed_by part split totals rows partials states r dense
  pass_closed =
      let f : ℕ → Row = ended_at tail split g key start partials states in
      let new : ℕ → Row = ended_at dense split h part.at.machines first partials states in
      map_same f new (range_with_len start (length rows))
      (all_range (λ v. f v ≡ new v) start (length rows) ended_here)
      ∙ ap (λ a. map new (range_with_len a (length rows))) begin
      ∙ ap (λ c. map new (range_with_len first c)) as_many
