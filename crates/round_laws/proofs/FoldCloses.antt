-- The close of a round leaves a machine other than 0 as the source's run says.
use Rattle.std.proofs.Common.{◌≡◌, ◌≢◌, ◌≤◌, ◌<◌, ◌+◌, ◌-◌, ◌*◌, ℕ, ℤ, Bool, true, false, List, [], ◌∷◌, map, refl, sym, ap, subst, ◌∙◌, Option, None, Some, arith}
use Rattle.std.specs.Prelude.{◌==◌, ◌&&◌, if◌then◌else◌, is_some, nat_le, nat_lt, slice_index}
use Rattle.std.specs.List.{flat_map}
use Rattle.std.proofs.lemmas.Bool.{ne_eqb}
use Rattle.std.proofs.lemmas.Bool.Decides.{nat_tests}
use Rattle.std.proofs.Math.Nat.{mod-lt}
use Rattle.std.proofs.lemmas.List.{length-map}
use Rattle.std.proofs.lemmas.List.FromFn.{get_or-map-range_with_len}
use Rattle.vert_base.specs.declared.message.Name.{Name}
use Rattle.vert_base.specs.declared.message.NameKind.{NameKind}
use Rattle.vert_base.specs.declared.message.NameKind.TheVariants as kind
use Rattle.vert_base.specs.declared.value.Combine.{Combine}
use Rattle.vert_base.specs.declared.value.Ruling.{Ruling}
use Rattle.vert_base.specs.declared.value.Ruling.TheVariants as ruling
use Rattle.vert_base.specs.Letters.{Letter, found}
use Rattle.vert_base.specs.Neighbours.{source, turn_of}
use Rattle.vert_tree.specs.declared.program.Sparse.{Sparse}
use Rattle.slot_merge.specs.Combine.{words_for}
use Rattle.slot_merge.specs.Filled.{AreFilled, Filled}
use Rattle.slot_merge.specs.Partials.{empty_partial}
use Rattle.slot_merge.proofs.FillLaws.{begins_empty}
use Rattle.vert_eval.specs.Rounds.{emitted_over, env_at, members_of, row_at, slot_ops}
use Rattle.graph_table.proofs.FilterLaws.{all_true, all_weaker, filter_none, map_same}
use Rattle.circulant_plan.specs.declared.spot.Spot.TheVariants.{Begin, Close, Judge}
use Rattle.circulant_plan.specs.Names.{push_name, update_name}
use Rattle.circulant_plan.specs.Ring.{chunk_of, lies_in, order_of}
use Rattle.vert_base.specs.Ends.{start_of}
use Rattle.circulant_plan.specs.Standing.{Standing, standing_at}
use Rattle.circulant_plan.proofs.ReadingLaws.{not_below}
use Rattle.circulant_plan.proofs.SpanLaws.{is_below}
use Rattle.symple_face.specs.CoreClose.{close_go, closed_rows}
use Rattle.symple_face.specs.CoreScan.{fresh}
use Rattle.symple_face.specs.CoreSight.{none, program_of, targets_of}
use Rattle.symple_face.specs.CoreSparse.{key_of}
use Rattle.symple_face.specs.CoreTakes.{empty_partials, own_partials}
use Rattle.symple_face.specs.CoreWork.{core_go, moved}
use Rattle.symple_face.specs.Ideal.{ideal_ran, ideal_reads, ideal_sent, machines_of, owner_of, reads_by, state_at}
use Rattle.symple_face.specs.Parts.{chunk_vertices}
use Rattle.symple_face.specs.PartsOf.{part_of}
use Rattle.symple_face.specs.Source.{Source, scene, stand}
use Rattle.symple_face.specs.State.{State}
use Rattle.symple_face.proofs.ChunkLaws.{lies_high, lies_low}
use Rattle.round_laws.specs.FoldCloses.{ClosesAndGoesOn, ClosesToJudge, DenseReadsAreIdeal, SparseReadsAreIdeal}
use Rattle.round_laws.specs.IsIdeal.{HoldsBody, IsIdeal, came_words, half_at, is_dense, is_past, is_worked, keys_below, reads_held, ring_held, sends_came, sparse_words, step_came, words_by}
use Rattle.round_laws.specs.Partials.{partial_ops, sent_words}
use Rattle.round_laws.proofs.FoldScanHeld.{still_ahead}
use Rattle.round_laws.proofs.IdealClose.{half_low}

-- partials to which nothing came
pub empty_filled : (at : ℕ) (ops : List Combine) (buckets : ℕ → ℕ → List ℤ) (bound : ℕ) →
    ((place key : ℕ) → buckets place key ≡ []) → AreFilled at ops buckets bound (map empty_partial ops)
empty_filled at [] buckets bound none = tt
empty_filled at (op ∷ ops) buckets bound none = (
  subst (λ bucket. Filled op bucket bound (empty_partial op)) (λ i key. sym (none at key) i) (begins_empty op bound),
  empty_filled (at + 1) ops buckets bound none,
)

neither : (b c d : Bool) → d ≡ false → (if b then false else c && d) ≡ false
neither true c d is = refl
neither false true d is = is
neither false false d is = refl

no_way : (b : Bool) → (if b then false else false) ≡ false
no_way true = refl
no_way false = refl

and_none : (b c : Bool) → c ≡ false → (b && c) ≡ false
and_none true c is = is
and_none false c is = refl

-- ---- at the begin of a round nothing came and nothing was read
module _ (src : Source) (m round : ℕ) where
  abbrev pub begin : Standing
  begin = record { spot = Begin round; round = round }

  nothing_past : (step h : ℕ) → is_past begin step h ≡ false
  nothing_past step h = not_below (256 * round + (1 + 2 * step + h)) (256 * round + 0) (omega arith)

  -- and no words came where of messages the verdict alone was taken
  module _ (held : List Letter) (bare : (x : Name) → (x.kind ≡ kind.Verdict → ⊥) → found x held ≡ None) where
    no_step : (v key : ℕ) → step_came src m begin held v key ≡ false
    no_step v key =
        ap (λ o. if nat_lt (key + 1) (machines_of src) then is_some o
        else key + 1 == machines_of src && is_past begin key (half_at src m v))
        (bare (update_name round key (half_at src m v) (order_of m key (machines_of src)) m) (λ e. cc))
        ∙ neither (nat_lt (key + 1) (machines_of src)) (key + 1 == machines_of src)
        (is_past begin key (half_at src m v)) (nothing_past key (half_at src m v))

    no_sends : (u : ℕ) → sends_came src m begin held u ≡ false
    no_sends u =
        ap (λ o. if owner_of src.job.graph.ends u == m then false else is_worked o)
        (bare (push_name round (owner_of src.job.graph.ends u) m) (λ e. cc))
        ∙ no_way (owner_of src.job.graph.ends u == m)

    no_pushes : (o : Option Sparse) (v place key : ℕ) → sparse_words o src m begin held v place key ≡ []
    no_pushes None v place key = refl
    no_pushes (Some sparse) v place key =
        ap (λ es. words_for place (flat_map (emitted_over (scene src round) (slot_ops (program_of src.split)) sparse
        (env_at (scene src round) v (none src.split))) es))
        (filter_none _ (members_of (scene src round).graph v)
        (all_true _ (λ e. and_none (key_of src.job.graph.vertices (turn_of src.job.graph.ends v) (source e) == key)
        (sends_came src m begin held (source e)) (no_sends (source e))) (members_of (scene src round).graph v)))

    pub bare_words : (q : Ruling) (v place key : ℕ) → words_by q src m begin held v place key ≡ []
    bare_words ruling.Stop v place key = refl
    bare_words ruling.Dense v place key =
        ap (λ b. if b then sent_words (ideal_sent src round v m key) place else []) (no_step v key)
    bare_words ruling.Sparse v place key = no_pushes (program_of src.split).sparse v place key

  pub no_words : (q : Ruling) (v place key : ℕ) → words_by q src m begin [] v place key ≡ []
  no_words = bare_words [] (λ x other. refl)

  pub no_ring : (v : ℕ) → ring_held src m begin v ≡ fresh src.split
  no_ring v =
      ap (λ b. if b then state_at src round v m (machines_of src) else fresh src.split)
      (and_none (is_dense (stand src round).ruling) (is_past begin (chunk_of m m (machines_of src)) (half_at src m v))
      (nothing_past (chunk_of m m (machines_of src)) (half_at src m v)))

  pub no_reads : (v : ℕ) → reads_held src m begin v ≡ []
  no_reads v =
      let c : ℕ = owner_of src.job.graph.ends v in
      ap (λ b. if b then (ideal_ran src round v c (chunk_of m c (machines_of src))).reads else [])
      (and_none (is_dense (stand src round).ruling) (is_past begin (chunk_of m c (machines_of src)) (half_at src c v))
      (nothing_past (chunk_of m c (machines_of src)) (half_at src c v)))

-- ---- the close
module _ (src : Source) (m round : ℕ) (dense : Bool) (state : State) (other : m ≢ 0) where
  abbrev at : Standing
  at = record { spot = Close round dense; round = round }

  abbrev s : State
  s = record state {
    part = part_of src.job.graph.ends src.job.draws src.job.graph.edges m;
    split = src.split;
    at = at;
  }

  abbrev own : List ℕ
  own = chunk_vertices src.job.graph.ends m

  -- it stands at the next begin, and holds nothing of the round
  abbrev next : State
  next = moved (begin src m (round + 1)) (close_go s round dense)

  goes : core_go s ≡ next
  goes =
      ap (λ b. moved (standing_at round (if b then Judge round else Begin (round + 1))) (close_go s round dense))
      (ne_eqb m 0 other)

  partials_are : (v : ℕ) → lies_in src.job.graph.ends m v ≡ true → own_partials next v ≡ empty_partials src.split
  partials_are v lies =
      let a : ℕ = start_of src.job.graph.ends m in
      let low = lies_low src.job.graph.ends m v lies in
      let high = lies_high src.job.graph.ends m v lies in
      get_or-map-range_with_len (λ x. empty_partials src.split) a (slice_index src.job.graph.ends m - a) (v - a) v []
      (omega (arith, low, high)) (omega (arith, low))

  unknown : (b : Bool) (x : Bool) → b ≡ false → (if b then x else false) ≡ true → ⊥
  unknown true x is knows = cc
  unknown false x is knows = cc

  next_ideal : IsIdeal src m s → closed_rows s round dense ≡ map (row_at (stand src (round + 1)).rows) own →
      ((v : ℕ) → reads_held src m at v ≡ ideal_reads src round m v) → IsIdeal src m next
  next_ideal is rows reads = record {
    part = refl;
    split = refl;
    rows = rows;
    ruling = λ knows. absurd (unknown (m == 0) (nat_le 1 (round + 1)) (ne_eqb m 0 other) knows);
    totals = λ knows. absurd (unknown (m == 0) (nat_le 1 (round + 1)) (ne_eqb m 0 other) knows);
    bodies = tt;
    many = length-map own (λ x. empty_partials src.split);
    partials = λ v lies.
        subst (λ qs. AreFilled 0 (partial_ops src.split) (came_words src m (begin src m (round + 1)) [] v)
        (keys_below src) qs)
        (sym (partials_are v lies))
        (empty_filled 0 (partial_ops src.split) (came_words src m (begin src m (round + 1)) [] v) (keys_below src)
        (λ place key. no_words src m (round + 1) (stand src (round + 1)).ruling v place key));
    ring = λ carries.
        map_same (λ v. fresh src.split) (ring_held src m (begin src m (round + 1))) own
        (all_true _ (λ v. sym (no_ring src m (round + 1) v)) own);
    reading =
        map_same (λ v. []) (reads_held src m (begin src m (round + 1))) (targets_of s.part)
        (all_true _ (λ v. sym (no_reads src m (round + 1) v)) (targets_of s.part));
    reads = λ r e.
        is.reading ∙ map_same (reads_held src m at) (ideal_reads src round m) (targets_of s.part)
        (all_true _ reads (targets_of s.part))
        ∙ (let same : round ≡ r = omega (arith, e) in ap (λ x. map (ideal_reads src x m) (targets_of s.part)) same);
    judged = λ zero_machine some. absurd (other zero_machine);
    report = λ r zero_machine e le. absurd (other zero_machine);
  }

pub closes_and_goes_on : ClosesAndGoesOn
closes_and_goes_on src m round dense state other is at_close rows reads =
    let t : State = s src m round dense state other in
    let same : state ≡ t = λ i. record state { part = is.part i; split = is.split i; at = at_close i } in
    subst (λ x. IsIdeal src m (core_go x)) (sym same)
    (subst (IsIdeal src m) (sym (goes src m round dense state other))
    (next_ideal src m round dense state other (subst (IsIdeal src m) same is)
    (ap (λ x. closed_rows x round dense) (sym same) ∙ rows)
    (λ v. ap (λ a. reads_held src m a v) (sym at_close) ∙ reads v)))

-- ---- the close by machine 0
module _ (src : Source) (round : ℕ) (dense : Bool) (state : State) where
  abbrev closing : Standing
  closing = record { spot = Close round dense; round = round }

  abbrev judging : Standing
  judging = record { spot = Judge round; round = round }

  abbrev zero_state : State
  zero_state = record state {
    part = part_of src.job.graph.ends src.job.draws src.job.graph.edges 0;
    split = src.split;
    at = closing;
  }

  abbrev judge_next : State
  judge_next = moved judging (close_go zero_state round dense)

  held_on : (k : NameKind) (l : Letter) → HoldsBody k src closing l → HoldsBody k src judging l
  held_on kind.Refresh l h = h
  held_on kind.Dep l h = λ late. h (still_ahead closing judging l.name (omega arith) late)
  held_on kind.Update l h = h
  held_on kind.Push l h = h
  held_on kind.Tally l h = h
  held_on kind.Verdict l h = h

  judge_ideal : IsIdeal src 0 zero_state →
      closed_rows zero_state round dense ≡
      map (row_at (stand src (round + 1)).rows) (chunk_vertices src.job.graph.ends 0) →
      ((v : ℕ) → reads_held src 0 closing v ≡ ideal_reads src round 0 v) → IsIdeal src 0 judge_next
  judge_ideal is rows reads = record {
    part = refl;
    split = refl;
    rows = rows;
    ruling = is.ruling;
    totals = is.totals;
    bodies = all_weaker (λ l. HoldsBody l.name.kind src closing l) (λ l. HoldsBody l.name.kind src judging l)
        (λ l h. held_on l.name.kind l h) state.held is.bodies;
    many = length-map (chunk_vertices src.job.graph.ends 0) (λ x. empty_partials src.split);
    partials = λ v lies.
        let a : ℕ = start_of src.job.graph.ends 0 in
        let low = lies_low src.job.graph.ends 0 v lies in
        let high = lies_high src.job.graph.ends 0 v lies in
        let fresh_ones : own_partials judge_next v ≡ empty_partials src.split =
        get_or-map-range_with_len (λ x. empty_partials src.split) a (slice_index src.job.graph.ends 0 - a) (v - a) v []
        (omega (arith, low, high)) (omega (arith, low)) in
        subst (λ qs. AreFilled 0 (partial_ops src.split) (came_words src 0 judging state.held v) (keys_below src) qs)
        (sym fresh_ones)
        (empty_filled 0 (partial_ops src.split) (came_words src 0 judging state.held v) (keys_below src)
        (λ place key. refl));
    ring = λ carries. refl;
    reading = refl;
    reads = λ r e.
        is.reading ∙ map_same (reads_held src 0 closing) (ideal_reads src round 0) (targets_of zero_state.part)
        (all_true _ reads (targets_of zero_state.part))
        ∙ (let same : round ≡ r = omega (arith, e) in ap
        (λ x. map (ideal_reads src x 0) (targets_of zero_state.part)) same);
    judged = is.judged;
    report = is.report;
  }

pub closes_to_judge : ClosesToJudge
closes_to_judge src round dense state is at_close rows reads =
    let t : State = zero_state src round dense state in
    let same : state ≡ t = λ i. record state { part = is.part i; split = is.split i; at = at_close i } in
    subst (λ x. IsIdeal src 0 (core_go x)) (sym same)
    (judge_ideal src round dense state (subst (IsIdeal src 0) same is)
    (ap (λ x. closed_rows x round dense) (sym same) ∙ rows)
    (λ v. ap (λ a. reads_held src 0 a v) (sym at_close) ∙ reads v))

-- ---- reads at the close
pub at_most : (a b : ℕ) → a ≤ b → nat_le a b ≡ true
at_most a b le = grind (arith, nat_tests)

read_in : (src : Source) (m round v : ℕ) (q : Ruling) → src.base ≤ round → (stand src round).ruling ≡ q →
    ideal_reads src round m v ≡ reads_by src q round m v
read_in src m round v q le is =
    ap (λ b. if b then reads_by src (stand src round).ruling round m v else []) (at_most src.base round le)
    ∙ ap (λ x. reads_by src x round m v) is

pub dense_reads_ideal : DenseReadsAreIdeal
dense_reads_ideal src most m round v are few le is =
    let p : ℕ = machines_of src in
    let c : ℕ = owner_of src.job.graph.ends v in
    let step : ℕ = chunk_of m c p in
    let h : ℕ = half_at src c v in
    let step_low : step < p = mod-lt (m + p - 1 - c) (omega (arith, are.0)) in
    let machines_few : p ≤ 64 = omega (arith, are.1, few) in
    let half_least : h ≤ 1 = half_low src c v in
    let past : nat_lt (256 * round + (1 + 2 * step + h)) (256 * round + 254) ≡ true =
    is_below (256 * round + (1 + 2 * step + h)) (256 * round + 254)
    (omega (arith, step_low, machines_few, half_least)) in
    let at_close : Standing = record { spot = Close round true; round = round } in
    ap (λ x. if is_dense x && is_past at_close step h then (ideal_ran src round v c step).reads else []) is
    ∙ ap (λ b. if b then (ideal_ran src round v c step).reads else []) past
    ∙ sym (read_in src m round v ruling.Dense le is)

pub sparse_reads_ideal : SparseReadsAreIdeal
sparse_reads_ideal src m round v le is =
    let p : ℕ = machines_of src in
    let c : ℕ = owner_of src.job.graph.ends v in
    let step : ℕ = chunk_of m c p in
    let at_close : Standing = record { spot = Close round false; round = round } in
    ap (λ x. if is_dense x && is_past at_close step (half_at src c v) then (ideal_ran src round v c step).reads
    else []) is
    ∙ sym (read_in src m round v ruling.Sparse le is)
