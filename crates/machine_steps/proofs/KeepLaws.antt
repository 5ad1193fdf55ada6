-- What the last step of a chunk keeps is what the state of the machine says.
use Rattle.std.proofs.Common.{◌≡◌, ◌<◌, ◌≤◌, ◌+◌, ◌-◌, ℕ, zero, suc, Bool, true, false, ◌||◌, None, Some, List, [], ◌∷◌, ◌++◌, length, get_or, map, replicate, cond, refl, sym, ap, subst, ◌∙◌, ⊎_elim, arith}
use Rattle.std.specs.Prelude.{◌==◌, if◌then◌else◌, slice_index, slice_index_or}
use Rattle.std.specs.List.{filter, list_any, range_with_len}
use Rattle.std.proofs.lemmas.Bool.{cases_Bool, cases_lt, eqb-true, leb-true, ltb-true, and_parts}
use Rattle.std.proofs.lemmas.List.{get_or-map, get_or_default, length-map, same_lists}
use Rattle.std.proofs.lemmas.List.FromFn.{get_or-map-range_with_len, length-map-range_with_len, length-range_with_len}
use Rattle.std.specs.List.Sorted.{IsStrictlyIncreasing}
use Rattle.std.proofs.lemmas.List.Elements.{All-map}
use Rattle.std.proofs.lemmas.List.Kept.{IsStrictlyIncreasing-filter}
use Rattle.graph_table.proofs.FilterLaws.{all_range, map-map, map_same}
use Rattle.vert_base.specs.declared.graph.Edge.{Edge}
use Rattle.vert_base.specs.declared.graph.VertexId.{VertexId}
use Rattle.vert_base.specs.Neighbours.{bucket, target}
use Rattle.vert_eval.specs.declared.environment.Env.{Env}
use Rattle.vert_tree.specs.declared.program.Dense.{Dense}
use Rattle.slot_merge.specs.declared.partial.Partial.{Partial}
use Rattle.chunk_split.specs.Chunks.{AreEnds, vertices_of}
use Rattle.dep_layout.specs.Spelling.{State as LoopState}
use Rattle.body_shape.specs.Update.{Sent}
use Rattle.instrument.specs.declared.split.Split.{Split}
use Rattle.symple_face.specs.declared.degree.Degree.{Degree}
use Rattle.symple_face.specs.Parts.{PlainPart, chunk_vertices}
use Rattle.symple_face.specs.Sight.{Sight}
use Rattle.symple_face.specs.CoreDense.{needed_dep, partials_after, ring_after, ring_at, scan_chunk, scan_half, scanned_at, scanned_in, received_at}
use Rattle.symple_face.specs.CoreScan.{fresh, scanned}
use Rattle.symple_face.specs.CoreSight.{beside, is_within, known_totals, none, own_start, own_vertices, program_of, sight_at, targets_of, those_within}
use Rattle.symple_face.specs.CoreTakes.{own_partials, slot_count, unsent, with_sent, with_values}
use Rattle.symple_face.specs.Shapes.{reduced_in, size_of}
use Rattle.symple_face.specs.State.{State, machine}
use Rattle.symple_face.proofs.ChunkLaws.{lies_is, lies_not_above, lies_not_below}
use Rattle.round_laws.proofs.Sights.{beside_is}
use Rattle.machine_parts.specs.Flat.{RowTable, fresh_state, state_at, zip_with}
use Rattle.machine_parts.specs.declared.spans.Span.{Span}
use Rattle.machine_parts.specs.Seen.{ShowsOwn}
use Rattle.machine_parts.specs.Spans.{vertex_of}
use Rattle.machine_parts.specs.Updates.{nothing, with_sents}
use Rattle.machine_parts.proofs.SpanLaws.{no_span}
use Rattle.machine_parts.proofs.UpdateLaws.{StandOnce, merged, merged_is, stand_once}
use Rattle.work_laws.specs.Sound.{members_in}
use Rattle.machine_steps.specs.Counts.{first_read}
use Rattle.machine_steps.specs.Halves.{AreReceived, needed_body}
use Rattle.vertex_work.specs.Known.{AreDegreesOf}
use Rattle.vertex_work.specs.Scanning.{AreFew, HavePlaces, read_first, scanned_over, scans, states_left}
use Rattle.machine_steps.proofs.SightLaws.{ends_rise, no_members, own_shown, within_once, within_range}
use Rattle.machine_steps.proofs.ScanToldLaws.{scans_told, states_told_left}

-- ---- what isn't sent changes nothing
values_none : (key m : ℕ) (ps : List Partial) → with_values key (replicate m None) ps ≡ ps
values_none key zero ps = refl
values_none key (suc m) [] = refl
values_none key (suc m) (p ∷ ps) = ap (λ qs. p ∷ qs) (values_none key m ps)

none_sent : (key n m : ℕ) (ps : List Partial) → with_values key (replicate n None ++ replicate m None) ps ≡ ps
none_sent key zero m ps = values_none key m ps
none_sent key (suc n) m [] = refl
none_sent key (suc n) m (p ∷ ps) = ap (λ qs. p ∷ qs) (none_sent key n m ps)

beside_none : {X : Type 0} (d : X) (v : ℕ) (us : List ℕ) (xs : List X) → list_any (λ u. u == v) us ≡ false →
    beside d v us xs ≡ d
beside_none d v [] xs away = refl
beside_none d v (u ∷ us) [] away = refl
beside_none d v (u ∷ us) (x ∷ xs) away = by (u == v) refl away (beside_none d v us xs)
  where
    by : (b : Bool) → (u == v) ≡ b → (b || list_any (λ u. u == v) us) ≡ false →
        (list_any (λ u. u == v) us ≡ false → beside d v us xs ≡ d) → (if u == v then x else beside d v us xs) ≡ d
    by true is some rest = cc
    by false is some rest = ap (λ t. if t then x else beside d v us xs) is ∙ rest some

-- a vertex that fails a test isn't among those that pass it
unlisted : (p : ℕ → Bool) (v : ℕ) (us : List ℕ) → p v ≡ false → list_any (λ u. u == v) (filter p us) ≡ false
unlisted p v [] fails = refl
unlisted p v (u ∷ us) fails = by (p u) refl (unlisted p v us fails)
  where
    by : (b : Bool) → p u ≡ b → list_any (λ u. u == v) (filter p us) ≡ false →
        list_any (λ u. u == v) (cond (p u) (u ∷ filter p us) (filter p us)) ≡ false
    by true is rest =
        ap (λ t. list_any (λ u. u == v) (cond t (u ∷ filter p us) (filter p us))) is
        ∙ ⊎_elim
        (λ (same : (u == v) ≡ true). absurd (let at : true ≡ false = sym is ∙ ap p (eqb-true u v same) ∙ fails in cc))
        (λ (other : (u == v) ≡ false). ap (λ t. t || list_any (λ u. u == v) (filter p us)) other ∙ rest)
        (cases_Bool (u == v))
    by false is rest = ap (λ t. list_any (λ u. u == v) (cond t (u ∷ filter p us) (filter p us))) is ∙ rest

module _ (s : State) (r step h : ℕ) (d : Dense) (ids : List ℕ) (block : (program_of s.split).dense ≡ Some d)
    (are : ids ≡ those_within (scan_half s step h) (targets_of s.part))
    (most : (scan_half s step h).1 ≤ vertices_of s.part.ends) where
  abbrev range : ℕ × ℕ
  range = scan_half s step h

  -- of a vertex of the half without members nothing is sent
  nothing_sent : (v : ℕ) → is_within (scan_half s step h) v ≡ true → list_any (λ u. u == v) ids ≡ false →
      (scanned_at s r step h v).sent ≡ unsent s.split
  nothing_sent v within away =
      let parts = and_parts _ _ within in
      ap (λ o. (scanned_in o s r step h v).sent) block
      ∙ ap (λ ms. (scanned s.split d (sight_at s r (scan_chunk s step)) step ms v (received_at s r step h v)).sent)
      (no_members s.part range ids v are (leb-true range.0 v parts.0) (ltb-true v range.1 parts.1) most away)

  sent_to : (v : ℕ) (ps : List Partial) →
      with_sent step (beside nothing v ids (map (λ u. (scanned_at s r step h u).sent) ids)) ps
      ≡ (if is_within (scan_half s step h) v then with_sent step (scanned_at s r step h v).sent ps else ps)
  sent_to v ps =
      let f : ℕ → Sent = λ u. (scanned_at s r step h u).sent in
      ⊎_elim
      (λ (within : is_within (scan_half s step h) v ≡ true).
      ⊎_elim
      (λ (some : list_any (λ u. u == v) ids ≡ true). ap (λ t. with_sent step t ps) (beside_is nothing f ids v some))
      (λ (away : list_any (λ u. u == v) ids ≡ false).
      ap (λ t. with_sent step t ps) (beside_none nothing v ids (map f ids) away)
      ∙ sym (ap (λ t. with_sent step t ps) (nothing_sent v within away)
      ∙ none_sent step (slot_count s.split) (length (reduced_in s.split.dense)) ps))
      (cases_Bool (list_any (λ u. u == v) ids))
      ∙ sym (ap (λ t. if t then with_sent step (f v) ps else ps) within))
      (λ (out : is_within (scan_half s step h) v ≡ false).
      ap (λ t. with_sent step t ps) (beside_none nothing v ids (map f ids)
      (ap (list_any (λ u. u == v)) are ∙ unlisted (is_within range) v (targets_of s.part) out))
      ∙ sym (ap (λ t. if t then with_sent step (f v) ps else ps) out))
      (cases_Bool (is_within (scan_half s step h) v))

  -- the partials of the own vertices
  pub partials_kept : (sents : List Sent) (before after : List (List Partial)) → s.partials ≡ before →
      length before ≡ length (own_vertices s) → StandOnce (own_start s) (length before) ids →
      sents ≡ map (λ u. (scanned_at s r step h u).sent) ids → after ≡ merged (own_start s) step ids sents before →
      after ≡ map (partials_after s r step h) (own_vertices s)
  partials_kept sents before after held count once told put =
      let n : ℕ = slice_index s.part.ends (machine s) - own_start s in
      let size : length before ≡ slice_index s.part.ends (machine s) - own_start s =
      count ∙ length-range_with_len (own_start s) n in
      put
      ∙ merged_is (own_start s) step ids sents before once
      ∙ ap (λ xs. with_sents (own_start s) step ids xs before) told
      ∙ map_same (λ v. with_sent step (beside nothing v ids (map (λ u. (scanned_at s r step h u).sent) ids))
      (slice_index_or before (v - own_start s) [])) (partials_after s r step h)
      (range_with_len (own_start s) (length before))
      (all_range (λ v. with_sent step (beside nothing v ids (map (λ u. (scanned_at s r step h u).sent) ids))
      (slice_index_or before (v - own_start s) []) ≡ partials_after s r step h v) (own_start s) (length before)
      (λ v low high. ap (λ ps. with_sent step (beside nothing v ids (map (λ u. (scanned_at s r step h u).sent) ids))
      (slice_index_or ps (v - own_start s) [])) (sym held) ∙ sent_to v (own_partials s v)))
      ∙ ap (λ k. map (partials_after s r step h) (range_with_len (own_start s) k)) size

  -- the ring states of the own vertices
  module _ (old new half : List LoopState) (held : s.ring ≡ old) where
    pub ring_kept : length old ≡ length (own_vertices s) → length new ≡ length old →
        own_start s ≤ (scan_half s step h).0 →
        (scan_half s step h).0 - own_start s + size_of (scan_half s step h) ≤ length old →
        half ≡ map (λ v. (scanned_at s r step h v).state) (range_with_len (scan_half s step h).0 (size_of
        (scan_half s step h))) →
        ((k : ℕ) → k < (scan_half s step h).0 - own_start s → state_at new k ≡ state_at old k) →
        ((k : ℕ) → k < length half → state_at new ((scan_half s step h).0 - own_start s + k) ≡ state_at half k)
        →
        ((k : ℕ) → (scan_half s step h).0 - own_start s + length half ≤ k → state_at new k ≡ state_at old k) →
        new ≡ map (ring_after s r step h) (own_vertices s)
    ring_kept count same low room is before within behind =
        let a : ℕ = own_start s in
        let o : ℕ = range.0 - own_start s in
        let st : ℕ → LoopState = λ v. (scanned_at s r step h v).state in
        let n : ℕ = slice_index s.part.ends (machine s) - own_start s in
        let size : length old ≡ slice_index s.part.ends (machine s) - own_start s =
        count ∙ length-range_with_len (own_start s) n in
        let half_count : length half ≡ size_of (scan_half s step h) =
        ap length is ∙ length-map-range_with_len st range.0 (size_of range) in
        same_lists new (map (ring_after s r step h) (own_vertices s))
        (same ∙ count ∙ sym (length-map (own_vertices s) (ring_after s r step h)))
        (λ k e lt.
        let inside : k < length old = omega (arith, same) in
        let v : ℕ = own_start s + k in
        let at : own_start s + k - own_start s ≡ k = omega arith in
        let kept : ring_at s (own_start s + k) ≡ state_at old k =
        ap (λ ss. slice_index_or ss (v - own_start s) (fresh s.split)) held
        ∙ ap (λ i. slice_index_or old i (fresh s.split)) at
        ∙ get_or_default old k (fresh s.split) (fresh_state 0) inside in
        let after : state_at new k ≡ ring_after s r step h (own_start s + k) =
        ⊎_elim
        (λ (first : k < range.0 - own_start s).
        before k first ∙ sym kept
        ∙ sym (ap (λ t. if t then st v else ring_at s v) (lies_not_below range.0 range.1 v (omega arith))))
        (λ (from : range.0 - own_start s ≤ k).
        ⊎_elim
        (λ (mid : k < range.0 - own_start s + length half).
        let here : range.0 - own_start s + (k - (range.0 - own_start s)) ≡ k = omega arith in
        let vertex : range.0 + (k - (range.0 - own_start s)) ≡ own_start s + k = omega arith in
        ap (state_at new) (sym here)
        ∙ within (k - (range.0 - own_start s)) (omega arith)
        ∙ ap (λ ss. state_at ss (k - (range.0 - own_start s))) is
        ∙ get_or-map-range_with_len st range.0 (size_of range) (k - (range.0 - own_start s)) (own_start s + k)
        (fresh_state 0) (omega (arith, half_count)) vertex
        ∙ sym (ap (λ t. if t then st v else ring_at s v)
        (lies_is range.0 range.1 v (omega arith) (omega (arith, half_count)))))
        (λ (last : range.0 - own_start s + length half ≤ k).
        behind k last ∙ sym kept
        ∙ sym (ap (λ t. if t then st v else ring_at s v)
        (lies_not_above range.0 range.1 v (omega (arith, half_count)))))
        (cases_lt k (range.0 - own_start s + length half)))
        (cases_lt k (range.0 - own_start s)) in
        get_or_default new k e (fresh_state 0) lt
        ∙ after
        ∙ sym (get_or-map-range_with_len (ring_after s r step h) (own_start s) n k (own_start s + k) e
        (omega (arith, size)) refl))

-- ---- own vertices of a range
pub own_placed : (start count : ℕ) (range : ℕ × ℕ) (us : List ℕ) (spans : List Span) →
    map vertex_of spans ≡ those_within range us → start ≤ range.0 → range.1 ≤ start + count →
    HavePlaces start count spans
own_placed start count range us spans are low high k e lt =
    let within = within_range range us (map vertex_of spans) k are (omega (arith, length-map spans vertex_of)) in
    let is = get_or-map vertex_of spans k e 0 lt in
    (omega (arith, within.0, is), omega (arith, within.0, within.1, is))

within_up : (range : ℕ × ℕ) (us : List ℕ) (spans : List Span) → IsStrictlyIncreasing us →
    map vertex_of spans ≡ those_within range us → IsStrictlyIncreasing (map vertex_of spans)
within_up range us spans up are = subst IsStrictlyIncreasing (sym are) (IsStrictlyIncreasing-filter (is_within range) us
    up)

once_placed : (start count : ℕ) (spans : List Span) → IsStrictlyIncreasing (map vertex_of spans) →
    HavePlaces start count spans → StandOnce start count (map vertex_of spans)
once_placed start count spans up placed =
    let vertices : List VertexId = map (λ s. s.vertex) spans in
    let same : map (λ v. v.0) (map (λ (s : Span). s.vertex) spans) ≡ map vertex_of spans =
    map-map (λ (v : VertexId). v.0) (λ (s : Span). s.vertex) spans in
    subst (StandOnce start count) same
    (stand_once start count vertices (All-map (λ (v : VertexId). (start ≤ v.0) × (v.0 - start < count)) (λ s. s.vertex)
    spans placed) (subst IsStrictlyIncreasing (sym same) up))

-- ---- what a scan of the own chunk was given
pub record Kept (s : State) (r step h : ℕ) (d : Dense) (range : ℕ × ℕ) (spans : List Span) (near : List Degree)
    (env : Env) (states : List LoopState) : Type 0 where
  pub ends : AreEnds 64 s.part.ends
  pub place : machine s < length s.part.ends
  pub chunk : scan_chunk s step ≡ machine s
  pub block : (program_of s.split).dense ≡ Some d
  pub count : length s.rows ≡ length (chunk_vertices s.part.ends (machine s))
  pub known : AreDegreesOf s.part (chunk_vertices s.part.ends (machine s)) near
  pub range_is : range ≡ scan_half s step h
  pub vertices : map vertex_of spans ≡ those_within range (targets_of s.part)
  pub low : own_start s ≤ range.0
  pub high : range.1 ≤ slice_index s.part.ends (machine s)
  pub most : range.1 ≤ vertices_of s.part.ends
  pub came : AreReceived s.split (size_of range) (needed_body s (needed_dep s r step h)) states
  pub n : env.n ≡ vertices_of s.part.ends
  pub round : env.round ≡ r
  pub draws : env.draws ≡ s.part.draws
  pub totals : env.totals.items ≡ known_totals s
  pub slots : env.slots.items ≡ none s.split

module _ (s : State) (r step h : ℕ) (d : Dense) (range : ℕ × ℕ) (spans : List Span) (near : List Degree) (env : Env)
    (states : List LoopState) (kept : Kept s r step h d range spans near env states)
    (program : Split) (bs : program ≡ s.split) (key : ℕ) (ks : key ≡ step) (edges : List Edge)
    (es : edges ≡ s.part.scan) (start : ℕ) (os : start ≡ own_start s) (table : RowTable) (ts : table.rows ≡ s.rows)
  where
    abbrev ids : List ℕ
    ids = map vertex_of spans

    abbrev g : Sight
    g = sight_at s r (scan_chunk s step)

    own_sees : ShowsOwn g table.rows near start (none program) env
    own_sees =
        subst (λ rows. ShowsOwn g rows near start (none program) env) (sym ts)
        (subst (λ n. ShowsOwn g s.rows near n (none program) env) (sym os)
        (subst (λ q. ShowsOwn g s.rows near (own_start s) (none q) env) (sym bs)
        (own_shown s r (scan_chunk s step) near env kept.ends kept.place (omega (arith, kept.place, kept.chunk))
        kept.count kept.known kept.n kept.round kept.draws kept.totals kept.slots)))

    ids_are : map vertex_of spans ≡ those_within (scan_half s step h) (targets_of s.part)
    ids_are = kept.vertices ∙ ap (λ p. those_within p (targets_of s.part)) kept.range_is

    up : IsStrictlyIncreasing (targets_of s.part)
    up = ends_rise target (vertices_of s.part.ends) s.part.scan

    once : StandOnce (scan_half s step h).0 (size_of (scan_half s step h)) (map vertex_of spans)
    once = within_once (scan_half s step h) (targets_of s.part) spans up ids_are

    came : AreReceived s.split (size_of (scan_half s step h)) (needed_body s (needed_dep s r step h)) states
    came = subst (λ p. AreReceived s.split (size_of p) (needed_body s (needed_dep s r step h)) states) kept.range_is
        kept.came

    most : (scan_half s step h).1 ≤ vertices_of s.part.ends
    most = subst (λ p. p.1 ≤ vertices_of s.part.ends) kept.range_is kept.most

    sents_are : map (λ x. x.sent) (scans (scanned_over program d g key edges) range.0 (map vertex_of spans) states) ≡
        map (λ v. (scanned_at s r step h v).sent) (map vertex_of spans)
    sents_are =
        (λ i. map (λ x. x.sent) (scans (scanned_over (bs i) d g (ks i) (es i)) (kept.range_is i).0 ids states))
        ∙ scans_told s r step h d ids states kept.block ids_are came once (λ x. x.sent)

    -- the own vertices among them stand once
    own_once : (count : ℕ) → count ≡ length (own_vertices s) → StandOnce (own_start s) count (map vertex_of spans)
    own_once count is = once_placed (own_start s) count spans
        (within_up range (targets_of s.part) spans up kept.vertices)
        (own_placed (own_start s) count range (targets_of s.part) spans kept.vertices kept.low
        (omega (
          arith,
          is,
          kept.high,
          length-range_with_len (own_start s) (slice_index s.part.ends (machine s) - own_start
              s),
        )))

    pub partials_are : (before after : List (List Partial)) → s.partials ≡ before →
        length before ≡ length (own_vertices s) →
        ((x : Sight) → ShowsOwn x table.rows near start (none program) env →
        after ≡ merged start key (map vertex_of spans) (map (λ y. y.sent) (scans (scanned_over program d x key edges)
        range.0 (map vertex_of spans) states)) before) →
        after ≡ map (partials_after s r step h) (own_vertices s)
    partials_are before after held count told =
        partials_kept s r step h d ids kept.block ids_are most
        (map (λ y. y.sent) (scans (scanned_over program d g key edges) range.0 ids states)) before after held count
        (own_once (length before) count) sents_are
        (told g own_sees
        ∙ (λ i. merged (os i) (ks i) ids (map (λ y. y.sent) (scans (scanned_over program d g key edges) range.0 ids
        states)) before))

    pub half_are : (new : List LoopState) → ((x : Sight) → ShowsOwn x table.rows near start (none program) env →
        new ≡ states_left (scanned_over program d x key edges) range.0 (map vertex_of spans) states) →
        new ≡ map (λ v. (scanned_at s r step h v).state)
        (range_with_len (scan_half s step h).0 (size_of (scan_half s step h)))
    half_are new left =
        left g own_sees
        ∙ (λ i. states_left (scanned_over (bs i) d g (ks i) (es i)) (kept.range_is i).0 ids states)
        ∙ states_told_left s r step h d ids states kept.block ids_are came once most

    pub reads_kept : (counts : List ℕ) → ((x : Sight) → ShowsOwn x table.rows near start (none program) env →
        zip_with (read_first edges) (map vertex_of spans) counts ≡
        map (λ y. y.reads) (scans (scanned_over program d x key edges) range.0 (map vertex_of spans) states)) →
        zip_with (first_read s.part) (those_within (scan_half s step h) (targets_of s.part)) counts ≡
        map (λ v. (scanned_at s r step h v).reads) (those_within (scan_half s step h) (targets_of s.part))
    reads_kept counts read =
        (λ i. zip_with (read_first (sym es i)) (sym ids_are i) counts)
        ∙ read g own_sees
        ∙ (λ i. map (λ y. y.reads) (scans (scanned_over (bs i) d g (ks i) (es i)) (kept.range_is i).0 ids states))
        ∙ scans_told s r step h d ids states kept.block ids_are came once (λ y. y.reads)
        ∙ ap (map (λ v. (scanned_at s r step h v).reads)) ids_are

-- of no target of a range were more read than it has
module _ (part : PlainPart) (spans : List Span) (edges : List Edge) where
  pub few_kept : edges ≡ part.scan → (counts us : List ℕ) → map vertex_of spans ≡ us →
      length counts ≡ length spans → AreFew edges spans counts → (i : ℕ) → i < length counts →
      slice_index counts i ≤ length (members_in part (slice_index us i))
  few_kept es counts us are same few i lt =
      let within : i < length spans = omega arith in
      let vertex = sym (get_or-map vertex_of spans i no_span 0 within) ∙ ap (λ vs. slice_index vs i) are in
      subst (λ (v : ℕ). slice_index counts i ≤ length (members_in part v)) vertex
      (subst (λ (all : List Edge).
      slice_index counts i ≤ length (bucket target (vertex_of (get_or spans i no_span)) all)) es
      (few i within))
