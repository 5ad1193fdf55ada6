-- What receivers emit is what the work of a core says.
use Rattle.std.proofs.Common.{◌≡◌, ℕ, ℤ, ◌+◌, ◌-◌, ◌<◌, ◌≤◌, Bool, true, false, Option, None, Some, List, [], ◌∷◌, length, get_or, set, map, replicate, refl, sym, ap, ◌∙◌, arith}
use Rattle.std.specs.Prelude.{if◌then◌else◌, nat_le, nat_lt, slice_index, slice_index_or}
use Rattle.std.specs.List.{AllByRecursion}
use Rattle.std.proofs.lemmas.Bool.{and_parts, leb-true, ltb-true}
use Rattle.std.proofs.lemmas.List.{length-map}
use Rattle.std.proofs.lemmas.List.Elements.{recursion_from_All}
use Rattle.std.proofs.lemmas.List.FromFn.{get_or-range_with_len, length-range_with_len}
use Rattle.vert_base.specs.declared.graph.Edge.{Edge}
use Rattle.vert_base.specs.Ends.{start_of}
use Rattle.vert_base.specs.Neighbours.{source, target}
use Rattle.vert_tree.specs.declared.program.SlotDecl.{SlotDecl}
use Rattle.vert_tree.specs.declared.program.Sparse.{Sparse}
use Rattle.vert_tree.specs.Places.{sends_in}
use Rattle.slot_merge.specs.declared.partial.Partial.{Partial}
use Rattle.slot_merge.specs.Combine.{Emission}
use Rattle.slot_merge.specs.Partials.{with_emissions}
use Rattle.body_shape.specs.Push.{sends_read}
use Rattle.vert_eval.specs.declared.environment.Env.{Env}
use Rattle.vert_eval.specs.Rounds.{no_values, row_at}
use Rattle.vert_eval.specs.Runs.{run}
use Rattle.vert_code.specs.declared.code.Code.{Code}
use Rattle.vert_code.specs.Blocks.{sparse_body}
use Rattle.vert_code.specs.Machine.{run_code}
use Rattle.chunk_split.specs.Chunks.{vertices_of}
use Rattle.instrument.specs.declared.split.Split.{Split}
use Rattle.symple_face.specs.declared.degree.Degree.{Degree}
use Rattle.symple_face.specs.CoreSight.{beside, degree_of, is_within, none, own_sight, own_start, program_of}
use Rattle.symple_face.specs.CoreSparse.{at_receiver, edge_worked, key_of, own_sends as seen_sends, pushed_to, sends_at, sends_from, told_sends, with_emitted, worked}
use Rattle.symple_face.specs.Parts.{PlainPart, chunk_vertices}
use Rattle.symple_face.specs.Sight.{Sight, seen_env}
use Rattle.symple_face.specs.State.{State, machine}
use Rattle.machine_parts.specs.declared.spans.Span.{Span}
use Rattle.machine_parts.specs.Flat.{RowTable}
use Rattle.machine_parts.specs.Neighbours.{no_degree}
use Rattle.machine_parts.specs.Seen.{ShowsOwn}
use Rattle.machine_parts.specs.Sending.{own_sends}
use Rattle.machine_parts.specs.Spans.{vertex_of}
use Rattle.machine_parts.proofs.SeenLaws.{own_is_seen}
use Rattle.vertex_work.specs.declared.receivers.Receivers.{Receivers}
use Rattle.vertex_work.specs.Pushing.{edge_added, edges_added, emitted_at, key_in, received_at, receiving, sent_within}
use Rattle.vertex_work.specs.Received.{IsReceived}
use Rattle.vertex_work.specs.Receiving.{IsReceiving}
use Rattle.vertex_work.specs.Shown.{Shows}
use Rattle.machine_steps.specs.Working.{HasNumbers}

within_low : (a b u : ℕ) → is_within (a, b) u ≡ true → a ≤ u
within_low a b u is = leb-true a u (and_parts (nat_le a u) (nat_lt u b) is).0

within_high : (a b u : ℕ) → is_within (a, b) u ≡ true → u < b
within_high a b u is = ltb-true u b (and_parts (nat_le a u) (nat_lt u b) is).1

-- receivers see what a core sees of its own vertices in a round, and run what its program says
pub record Works (s : State) (r : ℕ) (rs : Receivers) (env : Env) : Type 0 where
  pub shows : ShowsOwn (own_sight s r) rs.rows.now.rows rs.degrees.now rs.start (none s.split) env
  pub edges : rs.edges.now ≡ s.part.push
  pub start : rs.start ≡ own_start s
  pub vertices : rs.vertices ≡ vertices_of s.part.ends
  pub end : rs.end ≡ slice_index s.part.ends (machine s)
  pub runs : (e : Env) → run_code (receiving rs).list e ≡ run (sparse_body (program_of s.split).sparse) e

module _ (s : State) (r : ℕ) (rs : Receivers) (env : Env) (works : Works s r rs env) where
  abbrev g : Sight
  g = own_sight s r

  abbrev Received : Edge → Type 0
  Received = IsReceived rs.start (length rs.degrees.now) (length rs.rows.now.rows) rs.vertices

  -- the environment of a receiver
  receiver_seen : (e : Edge) (ws : List ℤ) → Received e →
      received_at (receiving rs) env ws e ≡
      at_receiver g e ws (seen_env g (target e) (key_in (receiving rs) e) (none s.split))
  receiver_seen e ws lies =
      let place : ℕ = target e - rs.start in
      let whole : rs.start + (target e - rs.start) ≡ target e = omega (arith, lies.0) in
      let row = works.shows.row place lies.2 ∙ ap g.row whole in
      let ins = works.shows.ins place lies.2 ∙ ap g.ins whole in
      let outs = works.shows.outs place lies.2 ∙ ap g.outs whole in
      λ j. record {
        id = record { 0 = target e };
        n = works.shows.n j;
        round = works.shows.round j;
        indeg = ins j;
        outdeg = outs j;
        draws = works.shows.draws j;
        row = row j;
        next_active = false;
        locals = record { items = [] };
        touched = 0;
        other = record { id = record { 0 = source e }; weight = e.weight; indeg = 0; outdeg = 0 };
        other_row = row j;
        sends = record { items = ws };
        slots = record { items = works.shows.slots j };
        totals = record { items = works.shows.totals j };
        key = key_in (receiving rs) e;
      }

  -- what it emits
  pushed_is : (key : ℕ) (ws : List ℤ) (e : Edge) (o : Option Sparse) →
      (run (sparse_body o) (at_receiver g e ws (seen_env g (target e) key (none s.split)))).emitted ≡
      pushed_to o s.split g key ws e
  pushed_is key ws e None = refl
  pushed_is key ws e (Some sparse) = refl

  emitted_is : (e : Edge) (ws : List ℤ) → Received e →
      emitted_at (receiving rs) env ws e ≡
      pushed_to (program_of s.split).sparse s.split g (key_in (receiving rs) e) ws e
  emitted_is e ws lies =
      let at : Env = received_at (receiving rs) env ws e in
      ap (λ ran. ran.emitted) (works.runs at)
      ∙ ap (λ (x : Env). (run (sparse_body (program_of s.split).sparse) x).emitted) (receiver_seen e ws lies)
      ∙ pushed_is (key_in (receiving rs) e) ws e (program_of s.split).sparse

  edge_is : (e : Edge) (o : Option (List ℤ)) (all : List (List Partial)) → Received e →
      edge_added (receiving rs) env e o all ≡ edge_worked s r e o all
  edge_is e None all lies = refl
  edge_is e (Some ws) all lies =
      let key : ℕ = key_in (receiving rs) e in
      let same = ap (λ n. key_of n rs.end (source e)) works.vertices
      ∙ ap (λ t. key_of (vertices_of s.part.ends) t (source e)) works.end in
      ap
      (λ (es : List Emission).
      set all (target e - rs.start) (with_emissions key (get_or all (target e - rs.start) []) es))
      (emitted_is e ws lies)
      ∙ ap
      (λ (start : ℕ).
      set all (target e - start)
      (with_emissions key (get_or all (target e - start) [])
      (pushed_to (program_of s.split).sparse s.split g key ws e)))
      works.start
      ∙ ap (λ k. with_emitted s k (target e) (pushed_to (program_of s.split).sparse s.split g k ws e) all) same

  edges_are : (f : ℕ → Option (List ℤ)) (es : List Edge) (all : List (List Partial)) → AllByRecursion Received es →
      edges_added (receiving rs) env f es all ≡ worked s r f es all
  edges_are f [] all lie = refl
  edges_are f (e ∷ es) all lie =
      ap (edges_added (receiving rs) env f es) (edge_is e (f (source e)) all lie.0)
      ∙ edges_are f es (edge_worked s r e (f (source e)) all) lie.1

  -- the edges of the part
  pub works_edges : (f : ℕ → Option (List ℤ)) (all : List (List Partial)) →
      edges_added (receiving rs) env f rs.edges.now all ≡ worked s r f s.part.push all
  works_edges f all =
      edges_are f rs.edges.now all (recursion_from_All Received rs.edges.now rs.received)
      ∙ ap (λ es. worked s r f es all) works.edges

  -- what an own vertex sends
  module _ (sparse : Sparse) (has : (program_of s.split).sparse ≡ Some sparse) where
    pub own_sent : (u : ℕ) → rs.start ≤ u → u < rs.end →
        own_sends sparse rs.rows.now.rows rs.degrees.now rs.start env (u - rs.start) ≡ seen_sends s r u
    own_sent u low high =
        let whole : rs.start + (u - rs.start) ≡ u = omega arith in
        let size = rs.whole in
        ap (sends_at (Some sparse))
        (own_is_seen g rs.rows.now.rows rs.degrees.now rs.start (u - rs.start) (none s.split) env works.shows
        (omega (arith, size, low, high)))
        ∙ ap (λ v. sends_at (Some sparse) (seen_env g v 0 (none s.split))) whole
        ∙ ap (λ o. sends_at o (seen_env g u 0 (none s.split))) (sym has)

    pub works_own : (u : ℕ) → sent_within sparse rs env u ≡ sends_from s r u
    works_own u =
        let tests = ap (λ a. is_within (a, rs.end) u) works.start ∙ ap (λ b. is_within (own_start s, b) u) works.end in
        by (is_within (rs.start, rs.end) u) refl ∙ ap (λ b. if b then seen_sends s r u else None) tests
      where
        by : (b : Bool) → is_within (rs.start, rs.end) u ≡ b →
            (if b then own_sends sparse rs.rows.now.rows rs.degrees.now rs.start env (u - rs.start) else None) ≡
            (if b then seen_sends s r u else None)
        by true is = own_sent u (within_low rs.start rs.end u is) (within_high rs.start rs.end u is)
        by false is = refl

-- what a push tells
pub works_told : (s : State) (k words : ℕ) (spans : List Span) (body : List ℕ) →
    map vertex_of spans ≡ slice_index_or s.part.push_of k [] → words ≡ length (sends_in (program_of s.split).sparse) →
    (u : ℕ) → beside None u (map vertex_of spans) (sends_read words (length spans) body) ≡ told_sends s k body u
works_told s k words spans body listed count u =
    ap (λ n. beside None u (map vertex_of spans) (sends_read words n body)) (sym (length-map spans vertex_of))
    ∙ ap (λ vs. beside None u vs (sends_read words (length vs) body)) listed
    ∙ ap
    (λ n.
    let vs : List ℕ = slice_index_or s.part.push_of k [] in beside None u vs (sends_read n (length vs) body))
    count

-- ---- a state that shows what receivers were given
nothing_each : (slots : List SlotDecl) → replicate (length slots) None ≡ no_values (map (λ d. d.op) slots)
nothing_each [] = refl
nothing_each (d ∷ ds) = ap (λ xs. None ∷ xs) (nothing_each ds)

module _ (part : PlainPart) (split : Split) (code : Code) (rows : RowTable) (totals : List ℤ) (round : ℕ)
    (rs : Receivers) (env : Env) (is : IsReceiving part code rows rs) (of : HasNumbers part split round totals env)
    (size : length rows.rows ≡ length (chunk_vertices part.ends part.at.machine))
    (runs : (e : Env) → run_code (receiving rs).list e ≡ run (sparse_body (program_of split).sparse) e) where
  abbrev start : ℕ
  start = start_of part.ends part.at.machine

  degree_at : (i : ℕ) → i < length rs.rows.now.rows →
      slice_index_or rs.degrees.now i no_degree ≡ degree_of part (rs.start + i)
  degree_at i lt =
      let vertices : List ℕ = chunk_vertices part.ends part.at.machine in
      let within : i < length (chunk_vertices part.ends part.at.machine) =
      omega (arith, ap (λ (t : RowTable). length t.rows) is.rows, size) in
      let low : i < slice_index part.ends part.at.machine - start_of part.ends part.at.machine =
      omega (arith, within, length-range_with_len start (slice_index part.ends part.at.machine - start)) in
      is.degrees.at i within
      ∙ ap (degree_of part) (get_or-range_with_len start (slice_index part.ends part.at.machine - start) i 0 low)
      ∙ ap (λ a. degree_of part (a + i)) (sym is.start)

  pub shown_works : (s : State) → Shows part split totals rows.rows s → Works s round rs env
  shown_works s shows =
      let same : part ≡ s.part = sym shows.part in
      record {
        shows = record {
          n = of.n ∙ ap (λ (p : PlainPart). vertices_of p.ends) same;
          round = of.at;
          draws = of.draws ∙ ap (λ (p : PlainPart). p.draws) same;
          totals = of.sums ∙ sym shows.totals;
          slots = of.slots ∙ nothing_each (program_of split).slots.items ∙ ap none (sym shows.split);
          row = λ i lt.
              let back : rs.start + i - rs.start ≡ i = omega arith in
              ap (λ k. row_at rs.rows.now.rows k) (sym back)
              ∙ ap (λ (t : RowTable). row_at t.rows (rs.start + i - rs.start)) is.rows
              ∙ ap (λ own. row_at own (rs.start + i - rs.start)) (sym shows.rows)
              ∙ ap (λ a. row_at s.rows (rs.start + i - a))
              (is.start ∙ ap (λ (p : PlainPart). start_of p.ends p.at.machine) same);
          ins = λ i lt.
              ap (λ (d : Degree). d.ins) (degree_at i lt ∙ ap (λ p. degree_of p (rs.start + i)) same);
          outs = λ i lt.
              ap (λ (d : Degree). d.outs) (degree_at i lt ∙ ap (λ p. degree_of p (rs.start + i)) same);
        };
        edges = is.edges ∙ ap (λ (p : PlainPart). p.push) same;
        start = is.start ∙ ap (λ (p : PlainPart). start_of p.ends p.at.machine) same;
        vertices = is.vertices ∙ ap (λ (p : PlainPart). vertices_of p.ends) same;
        end = is.end ∙ ap (λ (p : PlainPart). slice_index p.ends p.at.machine) same;
        runs = λ e. runs e ∙ ap (λ sp. run (sparse_body (program_of sp).sparse) e) (sym shows.split);
      }
