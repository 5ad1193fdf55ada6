-- What a machine works in a round is what the work of a core says.
use Rattle.std.proofs.Common.{◌≡◌, ℕ, ℤ, zero, suc, ◌<◌, ◌≤◌, ◌≢◌, Bool, true, false, ◌&&◌, Option, None, Some, List, [], ◌∷◌, length, map, replicate, refl, sym, ap, subst, ◌∙◌, arith}
use Rattle.std.specs.Prelude.{◌==◌, if◌then◌else◌, slice_index_or}
use Rattle.std.specs.List.{list_all}
use Rattle.std.proofs.lemmas.Bool.{and_parts, eqb-true, ne_eqb}
use Rattle.std.proofs.lemmas.List.{length-replicate}
use Rattle.vert_base.specs.declared.graph.Edge.{Edge}
use Rattle.vert_base.specs.declared.message.Name.{Name}
use Rattle.vert_base.specs.Ends.{start_of}
use Rattle.vert_base.specs.Letters.{Letter, found}
use Rattle.vert_base.specs.Neighbours.{source}
use Rattle.circulant_plan.specs.Names.{push_name}
use Rattle.chunk_split.specs.Chunks.{vertices_of}
use Rattle.circulant_plan.specs.Ring.{lies_in}
use Rattle.flat_table.specs.Grids.{Rows}
use Rattle.slot_merge.specs.declared.partial.Partial.{Partial}
use Rattle.body_shape.specs.Push.{sends_read}
use Rattle.body_shape.proofs.MissingLaws.{push_missing}
use Rattle.vert_tree.specs.declared.program.Program.{Program}
use Rattle.vert_tree.specs.declared.program.Sparse.{Sparse}
use Rattle.vert_tree.specs.Places.{Counts, body_placed, expr_placed, round_counts, sends_in, sparse_rights}
use Rattle.vert_tree.proofs.TypedLaws.{sparse_stands}
use Rattle.vert_eval.specs.declared.environment.Env.{Env}
use Rattle.vert_eval.specs.Runs.{run}
use Rattle.vert_code.specs.declared.code.Code.{Code}
use Rattle.vert_code.specs.declared.instr.Block.TheVariants.{SparseBody}
use Rattle.vert_code.specs.Blocks.{counts_in, list_of, lists_of, sends_in as sent_names, sparse_body}
use Rattle.vert_code.specs.Machine.{run_code}
use Rattle.vert_code.specs.Valid.{list_names}
use Rattle.vert_code.proofs.Programs.{code_names, code_runs}
use Rattle.symple_face.specs.CoreSight.{beside, body_of, held_body, none as no_slots, own_sight, program_of}
use Rattle.symple_face.specs.CoreSparse.{edge_worked, kept_sends, own_sends, sends_at, sends_from, told_sends, worked}
use Rattle.symple_face.specs.Sight.{seen_env}
use Rattle.symple_face.specs.PartViews.{plain_of}
use Rattle.symple_face.specs.Parts.{PlainPart, chunk_vertices}
use Rattle.symple_face.specs.State.{State, machine}
use Rattle.machine_parts.specs.declared.spans.Span.{Span}
use Rattle.machine_parts.specs.Counting.{own_counts}
use Rattle.machine_parts.specs.Flat.{RowTable}
use Rattle.machine_parts.specs.Sending.{AreSendsPlaced}
use Rattle.machine_parts.specs.Spans.{vertex_of}
use Rattle.vertex_work.specs.declared.ground.Ground.{Ground}
use Rattle.vertex_work.specs.declared.receivers.Receivers.{Receivers}
use Rattle.machine_parts.proofs.TotalLaws.{settled}
use Rattle.vertex_work.specs.Pushing.{AreOwnSenders, AreSenders, CanReceive, edges_added, received_counts, receiving, sent_within}
use Rattle.machine_steps.specs.Beginning.{CanWork, ShowsTo}
use Rattle.vertex_work.specs.Receiving.{IsReceiving}
use Rattle.vertex_work.specs.Shown.{Shows}
use Rattle.machine_steps.specs.Working.{AreOwnPartials, AreOwnRows, HasNumbers, spans_in}
use Rattle.machine_steps.proofs.ChunkSenders.{chunk_senders, range_senders, senders_told}
use Rattle.vertex_work.proofs.ReceiverLaws.{own_size}
use Rattle.machine_steps.proofs.WorkedLaws.{Works, shown_works, works_edges, works_own, works_told}

module _ (g : Ground) (rs : Receivers) (is : IsReceiving (plain_of g.part) g.code rs.rows.now rs) where
  abbrev part : PlainPart
  part = plain_of g.part

  -- the code of the receivers runs the sparse body
  sparse_runs : (e : Env) →
      run_code (receiving rs).list e ≡ run (sparse_body (program_of g.part.split.value).sparse) e
  sparse_runs e =
      ap (λ (code : Code). run_code (list_of code SparseBody) e) is.code
      ∙ code_runs (program_of g.part.split.value) g.part.split.value.program.typed (lists_of g.code) g.compiled
      SparseBody e

  own_rows : length rs.rows.now.rows ≡ length (chunk_vertices (plain_of g.part).ends (plain_of g.part).at.machine)
  own_rows =
      let whole = rs.whole in
      omega (arith, whole, is.start, is.end, own_size (plain_of g.part) g.part.split.value g.can)

  -- the senders of a chunk
  pub ground_senders : (k : ℕ) (spans : List Span) → spans ≡ spans_in (plain_of g.part).ends k g.groups.senders.items →
      AreSenders rs.vertices rs.edges.now spans
  ground_senders k spans these =
      subst (AreSenders rs.vertices rs.edges.now) (sym these)
      (subst (λ es. AreSenders rs.vertices es (spans_in (plain_of g.part).ends k g.groups.senders.items)) (sym is.edges)
      (subst (λ n. AreSenders n (plain_of g.part).push (spans_in (plain_of g.part).ends k g.groups.senders.items))
      (sym is.vertices)
      (chunk_senders (plain_of g.part) g.can.whole g.groups.senders.items g.grouped.senders k)))

  module _ (env : Env)
      (of : HasNumbers (plain_of g.part) g.part.split.value env.round env.totals.items env) where
    pub ground_works : (s : State) →
        Shows (plain_of g.part) g.part.split.value env.totals.items rs.rows.now.rows s → Works s env.round rs env
    ground_works s shows =
        shown_works (plain_of g.part) g.part.split.value g.code rs.rows.now env.totals.items env.round rs env is of
        own_rows sparse_runs s shows

    -- what a push tells
    module _ (k words : ℕ) (spans : List Span) (body : List ℕ) (old new : Rows Partial) where
      pub chunk_worked : k < (plain_of g.part).at.machines → k ≢ (plain_of g.part).at.machine →
          spans ≡ spans_in (plain_of g.part).ends k g.groups.senders.items →
          words ≡ length (sends_in (program_of g.part.split.value).sparse) →
          new ≡ record old {
            rows = edges_added (receiving rs) env (λ u. beside None u (map vertex_of spans)
                (sends_read words (length spans) body)) rs.edges.now old.rows;
          } → (s : State) →
          Shows (plain_of g.part) g.part.split.value env.totals.items rs.rows.now.rows s →
          new.rows ≡ worked s env.round (told_sends s k body) s.part.push old.rows
      chunk_worked low other these count added s shows =
          let told : ℕ → Option (List ℤ) = λ u.
          beside None u (map vertex_of spans) (sends_read words (length spans) body) in
          let listed = ap (map vertex_of) these
          ∙ senders_told (plain_of g.part) g.can.whole g.groups.senders.items g.grouped.senders k low
          (ne_eqb k (plain_of g.part).at.machine other)
          ∙ ap (λ (p : PlainPart). slice_index_or p.push_of k []) (sym shows.part) in
          let sent = count ∙ ap (λ sp. length (sends_in (program_of sp).sparse)) (sym shows.split) in
          ap (λ (t : Rows Partial). t.rows) added
          ∙ works_edges s env.round rs env (ground_works s shows) told old.rows
          ∙ ap (λ f. worked s env.round f s.part.push old.rows)
          (λ j u. works_told s k words spans body listed sent u j)

-- ---- what receivers need as a round begins
sent_words : (o : Option Sparse) → length (sends_in o) ≡ sent_names o
sent_words None = refl
sent_words (Some sparse) = refl

module _ (g : Ground) (rows : RowTable) (rs : Receivers) (is : IsReceiving (plain_of g.part) g.code rows rs) where
  -- they have their rows
  pub self_receiving : IsReceiving (plain_of g.part) g.code rs.rows.now rs
  self_receiving = record {
    code = is.code;
    edges = is.edges;
    rows = refl;
    degrees = is.degrees;
    vertices = is.vertices;
    start = is.start;
    end = is.end;
  }

  module _ (totals : List ℤ) (round : ℕ) (env : Env)
      (of : HasNumbers (plain_of g.part) g.part.split.value round totals env) where
    pub self_numbers : HasNumbers (plain_of g.part) g.part.split.value env.round env.totals.items env
    self_numbers = record { n = of.n; at = refl; draws = of.draws; slots = of.slots; sums = refl }

    pub self_rows : AreOwnRows (plain_of g.part) g.part.split.value totals rows →
        AreOwnRows (plain_of g.part) g.part.split.value env.totals.items rs.rows.now
    self_rows own = record {
      count = ap (λ (t : RowTable). length t.rows) is.rows ∙ own.count;
      width = ap (λ (t : RowTable). t.width) is.rows ∙ own.width;
      sums = ap length of.sums ∙ own.sums;
    }

    pub self_shows : (s : State) → Shows (plain_of g.part) g.part.split.value totals rows.rows s →
        Shows (plain_of g.part) g.part.split.value env.totals.items rs.rows.now.rows s
    self_shows s shows = record {
      part = shows.part;
      split = shows.split;
      totals = shows.totals ∙ sym of.sums;
      rows = shows.rows ∙ sym (ap (λ (t : RowTable). t.rows) is.rows);
    }

    -- what is worked of one that shows the receivers' numbers
    pub self_worked : (old new : List (List Partial)) (f : State → ℕ → Option (List ℤ)) →
        ((s : State) → Shows (plain_of g.part) g.part.split.value env.totals.items rs.rows.now.rows s →
        new ≡ worked s env.round (f s) s.part.push old) →
        (s : State) → Shows (plain_of g.part) g.part.split.value totals rows.rows s →
        new ≡ worked s round (f s) s.part.push old
    self_worked old new f works s shows =
        works s (self_shows s shows) ∙ ap (λ r. worked s r (f s) s.part.push old) of.at

    module _ (table : Rows Partial) (own : AreOwnRows (plain_of g.part) g.part.split.value totals rows)
        (cells : AreOwnPartials (plain_of g.part) g.part.split.value table) (low : round ≤ 10000) where
      abbrev program : Program
      program = program_of g.part.split.value

      slots_are : length env.slots.items ≡ length (program_of g.part.split.value).slots.items
      slots_are =
          ap length of.slots ∙ length-replicate (length (program_of g.part.split.value).slots.items) None

      width_is : rs.rows.now.width ≡ length (program_of g.part.split.value).fields.items
      width_is = ap (λ (t : RowTable). t.width) is.rows ∙ own.width

      totals_are : length env.totals.items ≡ length (program_of g.part.split.value).totals.items
      totals_are = ap length of.sums ∙ own.sums

      counts_are : received_counts rs.rows.now.width (length (sends_in (program_of g.part.split.value).sparse)) env ≡
          counts_in (program_of g.part.split.value) SparseBody
      counts_are = λ j. record {
        fields = width_is j;
        locals = 0;
        sends = sent_words (program_of g.part.split.value).sparse j;
        slots = slots_are j;
        totals = totals_are j;
        other_fields = width_is j;
      }

      pub can_begin : CanReceive rs (length (sends_in (program_of g.part.split.value).sparse)) env table
      can_begin = record {
        names = ap (λ c. list_names c (list_of rs.code.now SparseBody)) counts_are
            ∙ ap
            (λ (code : Code).
            list_names (counts_in (program_of g.part.split.value) SparseBody) (list_of code SparseBody))
            is.code
            ∙ code_names (program_of g.part.split.value) g.part.split.value.program.typed (lists_of g.code) g.compiled
            SparseBody;
        round = omega (arith, of.at, low);
        slots = omega (arith, slots_are, cells.slots);
        each = cells.each;
        count = cells.count ∙ sym own.count ∙ sym (ap (λ (t : RowTable). length t.rows) is.rows);
      }

      pub begins : CanWork g rs env table
      begins = record { receiving = self_receiving; numbers = self_numbers; rows = self_rows own; can = can_begin }

    -- the partials of own vertices after receivers ran
    pub own_partials : (first now : Rows Partial) (later : Env) (sends : ℕ) →
        AreOwnPartials (plain_of g.part) g.part.split.value first → now.width ≡ first.width →
        length rows.rows ≡ length (chunk_vertices (plain_of g.part).ends (plain_of g.part).at.machine) →
        CanReceive rs sends later now → AreOwnPartials (plain_of g.part) g.part.split.value now
    own_partials first now later sends cells width size can = record {
      count = can.count ∙ ap (λ (t : RowTable). length t.rows) is.rows ∙ size;
      each = can.each;
      slots = omega (arith, cells.slots, width);
    }

-- ---- one after another
-- what can work can work on where the numbers stay
module _ (g : Ground) (rs : Receivers) (first later : Env) (old new : Rows Partial) where
  pub still_works : CanWork g rs first old → settled later ≡ settled first →
      CanReceive rs (length (sends_in (program_of g.part.split.value).sparse)) later new →
      CanWork g rs later new
  still_works works same can =
      let sums = ap (λ (e : Env). e.totals.items) same in
      record {
        receiving = works.receiving;
        numbers = record {
          n = ap (λ (e : Env). e.n) same ∙ works.numbers.n;
          at = refl;
          draws = ap (λ (e : Env). e.draws) same ∙ works.numbers.draws;
          slots = ap (λ (e : Env). e.slots.items) same ∙ works.numbers.slots;
          sums = refl;
        };
        rows = record {
          count = works.rows.count;
          width = works.rows.width;
          sums = ap length sums ∙ works.rows.sums;
        };
        can = can;
      }

-- ---- what own vertices send, and pushes that were kept
-- where nothing is sent all stays as it is
pub none_worked : (s : State) (r : ℕ) (f : ℕ → Option (List ℤ)) → ((u : ℕ) → f u ≡ None) → (es : List Edge)
    (all : List (List Partial)) → worked s r f es all ≡ all
none_worked s r f none [] all = refl
none_worked s r f none (e ∷ es) all =
    ap (λ o. worked s r f es (edge_worked s r e o all)) (none (source e)) ∙ none_worked s r f none es all

no_block_sends : (s : State) (r u : ℕ) → (program_of s.split).sparse ≡ None → (b : Bool) →
    (if b then own_sends s r u else None) ≡ None
no_block_sends s r u lacks true = ap (λ o. sends_at o (seen_env (own_sight s r) u 0 (no_slots s.split))) lacks
no_block_sends s r u lacks false = refl

none_beside : (u : ℕ) (vs : List ℕ) (n : ℕ) → beside {X = Option (List ℤ)} None u vs (replicate n None) ≡ None
none_beside u [] n = refl
none_beside u (v ∷ vs) zero = refl
none_beside u (v ∷ vs) (suc n) = same (v == u) (none_beside u vs n)
  where
    rest : Option (List ℤ)
    rest = beside None u vs (replicate n None)

    same : (b : Bool) → rest ≡ None → (if b then None else rest) ≡ None
    same true is = refl
    same false is = is

module _ (g : Ground) (rs : Receivers) (env : Env)
    (of : HasNumbers (plain_of g.part) g.part.split.value env.round env.totals.items env)
    (own : AreOwnRows (plain_of g.part) g.part.split.value env.totals.items rs.rows.now) (sparse : Sparse)
    (has : (program_of g.part.split.value).sparse ≡ Some sparse) where
  own_counts_are : own_counts rs.rows.now.width env ≡ round_counts (program_of g.part.split.value)
  own_counts_are =
      let slots = ap length of.slots ∙ length-replicate (length (program_of g.part.split.value).slots.items) None in
      λ j. record {
        fields = own.width j;
        locals = 0;
        sends = 0;
        slots = slots j;
        totals = own.sums j;
        other_fields = own.width j;
      }

  -- the names of the test and the sends have their places
  pub own_names : AreSendsPlaced (own_counts rs.rows.now.width env) sparse
  own_names =
      let p : Program = program_of g.part.split.value in
      let counts : Counts = round_counts (program_of g.part.split.value) in
      let stands = sparse_stands p g.part.split.value.program.typed sparse has in
      let sends : Bool = list_all (λ d. expr_placed counts d.value) sparse.sends.items in
      let inner : Counts = record counts { sends = length sparse.sends.items } in
      let body : Bool = body_placed sparse_rights inner sparse.body.items in
      let first = and_parts (expr_placed counts sparse.when_test) (sends && body) stands in
      let second = and_parts sends body first.1 in
      subst (λ c. AreSendsPlaced c sparse) (sym own_counts_are) (record { test = first.0; sends = second.0 })

module _ (g : Ground) (rs : Receivers) (env : Env) (table : Rows Partial) (works : CanWork g rs env table) where
  -- the own senders
  pub own_senders : (m : ℕ) (spans : List Span) → m ≡ (plain_of g.part).at.machine →
      spans ≡ spans_in (plain_of g.part).ends m g.groups.senders.items →
      AreOwnSenders rs.vertices (rs.start, rs.end) rs.edges.now spans
  own_senders m spans own these =
      let is = works.receiving in
      let k : ℕ = (plain_of g.part).at.machine in
      let all : List Span = g.groups.senders.items in
      let ends : List ℕ = (plain_of g.part).ends in
      let here = these ∙ ap (λ j. spans_in (plain_of g.part).ends j g.groups.senders.items) own in
      subst (AreOwnSenders rs.vertices (rs.start, rs.end) rs.edges.now) (sym here)
      (subst (λ es. AreOwnSenders rs.vertices (rs.start, rs.end) es (spans_in ends k all)) (sym is.edges)
      (subst (λ n. AreOwnSenders n (rs.start, rs.end) (plain_of g.part).push (spans_in ends k all)) (sym is.vertices)
      (subst
      (λ a. AreOwnSenders (vertices_of (plain_of g.part).ends) (a, rs.end) (plain_of g.part).push (spans_in ends k all))
      (sym is.start)
      (subst
      (λ b.
      AreOwnSenders (vertices_of (plain_of g.part).ends) (start_of (plain_of g.part).ends k, b) (plain_of g.part).push
      (spans_in ends k all))
      (sym is.end)
      (range_senders (plain_of g.part) g.can.whole g.groups.senders.items g.grouped.senders k)))))

  module _ (sparse : Sparse) (has : (program_of g.part.split.value).sparse ≡ Some sparse) where
    pub own_worked : (old new : Rows Partial) →
        new
        ≡ record old {
          rows = edges_added (receiving rs) env (sent_within sparse rs env) rs.edges.now old.rows;
        } →
        (s : State) → ShowsTo g rs env s →
        new.rows ≡ worked s env.round (sends_from s env.round) s.part.push old.rows
    own_worked old new added s shows =
        let have = ap (λ sp. (program_of sp).sparse) shows.split ∙ has in
        let can = ground_works g rs works.receiving env works.numbers s shows in
        ap (λ (t : Rows Partial). t.rows) added
        ∙ works_edges s env.round rs env can (sent_within sparse rs env) old.rows
        ∙ ap (λ f. worked s env.round f s.part.push old.rows)
        (λ j u. works_own s env.round rs env can sparse have u j)

  -- a program without a sparse block sends nothing
  pub no_block_worked : (program_of g.part.split.value).sparse ≡ None → (all : List (List Partial)) (s : State) →
      ShowsTo g rs env s → all ≡ worked s env.round (sends_from s env.round) s.part.push all
  no_block_worked none all s shows =
      let lacks = ap (λ sp. (program_of sp).sparse) shows.split ∙ none in
      sym (none_worked s env.round (sends_from s env.round)
      (λ u. no_block_sends s env.round u lacks (lies_in s.part.ends (machine s) u)) s.part.push all)

  -- the body that is held of a push
  module _ (k : ℕ) (x : Name) (letters : List Letter) (body : List ℕ) (s : State) where
    pub kept_body : ShowsTo g rs env s → s.held ≡ letters →
        x ≡ push_name env.round k (plain_of g.part).at.machine → body ≡ body_of (found x letters) →
        body ≡ held_body s (push_name env.round k (machine s))
    kept_body shows held name is =
        is
        ∙ ap (λ y. body_of (found y letters)) name
        ∙ ap (λ ms. body_of (found (push_name env.round k (plain_of g.part).at.machine) ms)) (sym held)
        ∙ ap (λ (p : PlainPart). body_of (found (push_name env.round k p.at.machine) s.held)) (sym shows.part)

  -- where it has no byte, nothing is sent
  pub silent_worked : (k : ℕ) (body : List ℕ) (all : List (List Partial)) (s : State) →
      body ≡ [] → body ≡ held_body s (push_name env.round k (machine s)) →
      all ≡ worked s env.round (kept_sends s env.round k) s.part.push all
  silent_worked k body all s empty is =
      let vs : List ℕ = slice_index_or s.part.push_of k [] in
      let words : ℕ = length (sends_in (program_of s.split).sparse) in
      sym (none_worked s env.round (kept_sends s env.round k)
      (λ u.
      ap (λ bytes. told_sends s k bytes u) (sym is ∙ empty)
      ∙ ap (beside None u vs) (push_missing (length vs) words 0).0
      ∙ none_beside u vs (length vs)) s.part.push all)

pub no_bytes : (body : List ℕ) → (length body == 0) ≡ true → body ≡ []
no_bytes [] is = refl
no_bytes (b ∷ bytes) is = let some = eqb-true (length (b ∷ bytes)) 0 is in absurd (omega arith)
