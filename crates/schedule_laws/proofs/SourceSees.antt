-- What the source's run does in a round are words, since it is what a machine does that sees the source's rows.
use Rattle.std.proofs.Common.{◌≡◌, ◌<◌, ◌≤◌, ◌+◌, ◌^◌, ℕ, zero, suc, ℤ, Bool, true, false, List, [], ◌∷◌, length, map, All, refl, sym, ap, subst, ◌∙◌, Option, None, Some, option_map, arith}
use Rattle.std.specs.Prelude.{◌==◌, if◌then◌else◌}
use Rattle.std.specs.List.{AllByRecursion, filter}
use Rattle.std.proofs.lemmas.List.{length-map}
use Rattle.std.proofs.lemmas.List.Elements.{All-filter}
use Rattle.vert_base.specs.declared.graph.Edge.{Edge}
use Rattle.vert_base.specs.declared.value.ValueType.{ValueType}
use Rattle.vert_base.specs.Neighbours.{source, target}
use Rattle.vert_base.proofs.Orders.{All-in_order}
use Rattle.vert_tree.specs.declared.program.Dense.{Dense}
use Rattle.vert_tree.specs.declared.program.Sparse.{Sparse}
use Rattle.vert_tree.specs.Kinds.{field_kinds, kinds_of}
use Rattle.vert_tree.specs.Places.{sends_in}
use Rattle.vert_tree.proofs.TypedLaws.{few_lets, few_slots}
use Rattle.word_kinds.specs.Fits.{AreWords, HasKinds, HasWords, IsEdge, IsFitting, StandsInWords}
use Rattle.value_laws.proofs.Rounds.{degree_small, loops_split, row_words}
use Rattle.value_laws.proofs.Rows.{env_has, no_values_fit}
use Rattle.value_laws.proofs.WholeRuns.{scene_words}
use Rattle.vert_eval.specs.declared.environment.Env.{Env}
use Rattle.vert_eval.specs.Rounds.{Scene, indegree, no_values, outdegree, row_at, sender_at, slot_ops}
use Rattle.vert_eval.specs.Values.{value_of}
use Rattle.vert_eval.specs.Words.{is_set}
use Rattle.graph_table.proofs.FilterLaws.{all_filter, all_map, all_range, all_true}
use Rattle.chunk_split.specs.Chunks.{vertices_of}
use Rattle.instrument.specs.Continued.{IsSplit}
use Rattle.instrument.specs.Loops.{is_reduced, loop_split}
use Rattle.instrument.proofs.TypedLaws.{length-let_classes}
use Rattle.carry_analysis.specs.Classes.{body_marks}
use Rattle.body_shape.specs.Places.{there}
use Rattle.body_shape.specs.Refresh.{IsWords}
use Rattle.body_shape.specs.Update.{AreValues, IsSent, Sent, SuitsUpdate}
use Rattle.body_shape.proofs.ByteLaws.{few_places}
use Rattle.symple_face.specs.CoreScan.{Scanned, scanned}
use Rattle.symple_face.specs.CoreSight.{program_of}
use Rattle.symple_face.specs.CoreSparse.{sends_at}
use Rattle.symple_face.specs.CoreTakes.{slot_count}
use Rattle.symple_face.specs.Ideal.{block_env, ideal_ran, ideal_send, ideal_sent, members_in, ring_with, send_with, state_at, told_state}
use Rattle.symple_face.specs.Parts.{push_list}
use Rattle.symple_face.specs.Ring.{RingState, Fresh}
use Rattle.symple_face.specs.Shapes.{reduced_in}
use Rattle.symple_face.specs.Sight.{Sight}
use Rattle.symple_face.specs.Source.{Source, scene, stand}
use Rattle.round_laws.specs.FoldPushes.{SendsWords}
use Rattle.round_laws.specs.FoldUpdates.{updated_list}
use Rattle.round_laws.specs.IdealScans.{IsIdealScan, RunsDense, step_members}
use Rattle.round_laws.specs.Scans.{Sees, width_of}
use Rattle.round_laws.specs.Seen.{SeesScene, SeesVertex}
use Rattle.round_laws.proofs.IdealScans.{scans_ideal}
use Rattle.work_laws.specs.Sound.{IsLoopState}
use Rattle.work_laws.proofs.Held.{send_kinds}
use Rattle.work_laws.proofs.Scans.{ScanFits, SentFits, fresh_fits, scanned_fits}
use Rattle.work_laws.proofs.Sights.{SightFits}
use Rattle.work_laws.proofs.Sparse.{sends_fit}
use Rattle.work_laws.proofs.Words.{words_fit}
use Rattle.schedule_laws.specs.Runs.{IsSourceRun}
use Rattle.schedule_laws.proofs.Stands.{fitting, stands_in_words}
use Rattle.work_laws.proofs.Sent.{sent_count, there_fit, places_few}

-- ---- sends
-- so many words, where there are some
abbrev IsSend : ℕ → Option (List ℤ) → Type 0
IsSend size o = (words : List ℤ) → o ≡ Some words → IsWords size words

sends_words : (size : ℕ) (f : ℕ → Option (List ℤ)) (us : List ℕ) → AllByRecursion (λ u. IsSend size (f u)) us →
    AllByRecursion (IsWords size) (there (map f us))
sends_words size f [] all = tt
sends_words size f (u ∷ us) all = by (f u) all.0 (sends_words size f us all.1)
  where
    by : (o : Option (List ℤ)) → IsSend size o → AllByRecursion (IsWords size) (there (map f us)) →
        AllByRecursion (IsWords size) (there (o ∷ map f us))
    by None one rest = rest
    by (Some ws) one rest = (one ws refl, rest)

module _ (src : Source) (run : IsSourceRun src) (round : ℕ) (small : round < 2 ^ 31) where
  abbrev n : ℕ
  n = src.job.graph.vertices

  abbrev sc : Scene
  sc = scene src round

  stands : StandsInWords src.job (stand src round)
  stands = stands_in_words src run round (omega (arith, small))

  has_words : HasWords (field_kinds src.job.program) sc
  has_words = scene_words src.job round (stand src round) run.graph (omega (arith, small)) stands

  low : (v : ℕ) → v < n → v < 2 ^ 32
  low v lt = let all = run.graph.vertices in omega (arith, lt, all)

  -- a sight of the source's round
  abbrev g : Sight
  g = record {
    n = n;
    round = round;
    draws = src.job.draws;
    totals = (stand src round).totals;
    row = row_at (stand src round).rows;
    ins = indegree src.job.graph;
    outs = outdegree src.job.graph;
  }

  sees_scene : SeesScene g sc
  sees_scene = record { n = refl; round = refl; draws = refl; totals = refl }

  sees_vertex : (v : ℕ) → SeesVertex g sc v
  sees_vertex v = record { row = refl; ins = refl; outs = refl }

  sees : (v : ℕ) (members : List Edge) → Sees g sc v members
  sees v [] = tt
  sees v (e ∷ es) = record {
    scene = sees_scene;
    vertex = sees_vertex v;
    sources = all_true (λ x. SeesVertex g sc (source x)) (λ x. sees_vertex (source x)) (e ∷ es);
  }

  abbrev fields : List ValueType
  fields = kinds_of (program_of src.split).fields.items

  fits : SightFits fields g
  fits = record {
    n = run.graph.vertices;
    round = omega (arith, small);
    totals = stands.totals;
    rows = λ v. subst (λ p. AreWords (kinds_of p.fields.items) (row_at (stand src round).rows v).words.items)
        (sym run.program) (row_words (kinds_of src.job.program.fields.items) (stand src round).rows stands.rows v);
    ins = λ v. degree_small (λ e. target e == v) src.job.graph.edges run.graph.edges;
    outs = λ v. degree_small (λ e. source e == v) src.job.graph.edges run.graph.edges;
  }

  fitting_split : IsFitting (program_of src.split)
  fitting_split = subst IsFitting (sym run.program) (fitting src run)

  -- ---- what vertices send
  send_is : (u : ℕ) (o : Option Sparse) →
      send_with src round u o ≡ sends_at o (sender_at sc (slot_ops src.job.program) u)
  send_is u None = refl
  send_is u (Some sparse) = refl

  sends_are : (u : ℕ) →
      ideal_send src round u ≡ sends_at (program_of src.split).sparse (sender_at sc (slot_ops src.job.program) u)
  sends_are u =
      send_is u src.job.program.sparse
      ∙ ap (λ p. sends_at p.sparse (sender_at sc (slot_ops src.job.program) u)) (sym run.program)

  sender_has : (u : ℕ) → u < n →
      HasKinds (field_kinds (program_of src.split)) (sender_at sc (slot_ops src.job.program) u)
  sender_has u lt =
      subst (λ p. HasKinds (field_kinds p) (sender_at sc (slot_ops src.job.program) u)) (sym run.program)
      (env_has (field_kinds src.job.program) sc u (no_values (slot_ops src.job.program)) has_words (low u lt)
      (no_values_fit (slot_ops src.job.program)))

  abbrev send_size : ℕ
  send_size = length (sends_in (program_of src.split).sparse)

  is_send : (u : ℕ) → u < n → IsSend send_size (ideal_send src round u)
  is_send u lt words e =
      let env : Env = sender_at sc (slot_ops src.job.program) u in
      let sent : sends_at (program_of src.split).sparse env ≡ Some words = sym (sends_are u) ∙ e in
      let kinds : List ValueType = send_kinds src.split in
      let each : length words ≡ length kinds = sent_count (program_of src.split).sparse env words sent in (
        each ∙ length-map (sends_in (program_of src.split).sparse) (λ d. d.kind),
        words_fit kinds words each
            (sends_fit src.split fitting_split env (sender_has u lt) words sent),
      )

  -- each push of the round tells words
  pub sends_words_all : (k m : ℕ) → SendsWords src round k m
  sends_words_all k m =
      sends_words send_size (ideal_send src round) (push_list src.job.graph.ends k m src.job.graph.edges)
      (all_filter (λ u. IsSend send_size (ideal_send src round u)) _ _
      (all_range (λ u. IsSend send_size (ideal_send src round u)) 0 (vertices_of src.job.graph.ends)
      (λ u from to. is_send u (subst (λ x. u < x) (sym run.sized) (omega (arith, to))))))

  -- ---- loops
  pub splits : (d : Dense) (v : ℕ) → v < n → src.job.program.dense ≡ Some d →
      IsSplit src.job.program d (block_env src round v)
  splits d v lt block =
      loops_split src.job.program d (block_env src round v) (fitting src run) block
      (env_has (field_kinds src.job.program) sc v (no_values (slot_ops src.job.program)) has_words (low v lt)
      (no_values_fit (slot_ops src.job.program)))

  module _ (d : Dense) (block : src.job.program.dense ≡ Some d) where
    pub runs : RunsDense src d
    runs = record { program = run.program; dense = block }

    own_block : (program_of src.split).dense ≡ Some d
    own_block = ap (λ p. p.dense) run.program ∙ block

    edges_of : (v c step : ℕ) → All IsEdge (step_members src v c step)
    edges_of v c step =
        All-filter _ IsEdge (members_in src v)
        (All-in_order IsEdge source n (filter (λ e. target e == v) src.job.graph.edges)
        (All-filter (λ e. target e == v) IsEdge src.job.graph.edges run.graph.each))

    abbrev scan : ℕ → ℕ → ℕ → Scanned
    scan v c step = scanned src.split d g 0 (step_members src v c step) v (state_at src round v c step)

    before_all : (b : Bool) → (let s : RingState = if b then Fresh else Fresh in s) ≡ Fresh
    before_all true = refl
    before_all false = refl

    step_fits : (v c : ℕ) → v < n → (step : ℕ) → IsLoopState src.split (state_at src round v c step) →
        ScanFits src.split (length (step_members src v c step)) (scan v c step)
    step_fits v c lt step state =
        scanned_fits src.split d own_block fitting_split g 0 (step_members src v c step) v (state_at src round v c step)
        fits (low v lt) (edges_of v c step) state

    scan_is : (v c : ℕ) → v < n → (step : ℕ) →
        ((scan v c step).state ≡ state_at src round v c (step + 1)) × IsIdealScan src round v c step (scan v c step)
    scan_is v c lt step =
        scans_ideal src d g round v c step 0 runs (splits d v lt block) (sees v (step_members src v c step))

    -- the loop states of a vertex have their form, and so has what a machine does from them
    pub states_fit : (v c : ℕ) → v < n → (count : ℕ) → IsLoopState src.split (state_at src round v c count)
    states_fit v c lt zero =
        subst (λ (x : RingState). IsLoopState src.split (told_state (width_of src.split) x))
        (sym (ap (ring_with src round v c 0) block
        ∙ before_all (is_set (value_of d.when_test (block_env src round v)))))
        (fresh_fits src.split)
    states_fit v c lt (suc count) =
        let one : count + 1 ≡ suc count = omega arith in
        subst (λ k. IsLoopState src.split (state_at src round v c k)) one
        (subst (IsLoopState src.split) (scan_is v c lt count).0
        (step_fits v c lt count (states_fit v c lt count)).state)

    scan_fits : (v c : ℕ) → v < n → (step : ℕ) →
        ScanFits src.split (length (step_members src v c step)) (scan v c step)
    scan_fits v c lt step = step_fits v c lt step (states_fit v c lt step)

    -- it reads no more than its members
    pub reads_few : (v c : ℕ) → v < n → (step : ℕ) →
        length (ideal_ran src round v c step).reads ≤ length (step_members src v c step)
    reads_few v c lt step =
        subst (λ (xs : List ℕ). length xs ≤ length (step_members src v c step)) (scan_is v c lt step).1.reads
        (scan_fits v c lt step).few

    few_reduced : length (reduced_in src.split.dense) ≤ 8
    few_reduced =
        let cs = places_few is_reduced 0 (loop_split d).classes.locals.items in
        let lets = few_lets (program_of src.split) src.split.program.typed d own_block in
        let count = length-let_classes 0 d.lets.items (body_marks d.body.items) in
        subst (λ q. length (reduced_in q) ≤ 8) (sym (src.split.split ∙ ap (option_map loop_split) own_block))
        (omega (arith, cs, lets, count))

    is_sent : (sent : Sent) → SentFits src.split sent →
        IsSent (slot_count src.split) (length (reduced_in src.split.dense)) sent
    is_sent sent fit =
        let slots = few_slots (program_of src.split) src.split.program.typed in
        let reduced = few_reduced in
        let a = fit.value_count in
        let b = fit.operand_count in (
          subst (λ k. AreValues k sent.values) fit.value_count
              (few_places sent.values (omega (arith, a, slots)) (there_fit sent.values fit.values)),
          subst (λ k. AreValues k sent.operands) fit.operand_count
              (few_places sent.operands (omega (arith, b, reduced)) (there_fit sent.operands fit.operands)),
        )

    -- the updates of a step suit their form
    pub suits : (m k h step : ℕ) →
        SuitsUpdate (length (updated_list src m k h)) (slot_count src.split) (length (reduced_in src.split.dense))
        (map (λ v. ideal_sent src round v m step) (updated_list src m k h))
    suits m k h step = (
      length-map (updated_list src m k h) (λ v. ideal_sent src round v m step),
      all_map (IsSent (slot_count src.split) (length (reduced_in src.split.dense)))
          (λ v. ideal_sent src round v m step) (updated_list src m k h)
          (all_filter (λ v. IsSent (slot_count src.split) (length (reduced_in src.split.dense))
          (ideal_sent src round v m step)) _ _
          (all_filter (λ v. IsSent (slot_count src.split) (length (reduced_in src.split.dense))
          (ideal_sent src round v m step)) _ _
          (all_range (λ v. IsSent (slot_count src.split) (length (reduced_in src.split.dense))
          (ideal_sent src round v m step)) 0 (vertices_of src.job.graph.ends)
          (λ v from to. one v (subst (λ x. v < x) (sym run.sized) (omega (arith, to))))))),
    )
      where
        one : (v : ℕ) → v < n → IsSent (slot_count src.split) (length (reduced_in src.split.dense))
            (ideal_sent src round v m step)
        one v lt =
            subst (IsSent (slot_count src.split) (length (reduced_in src.split.dense))) (scan_is v m lt step).1.sent
            (is_sent (scan v m step).sent (scan_fits v m lt step).sent)
