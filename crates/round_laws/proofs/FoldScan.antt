-- A machine that scans a half of a chunk goes on as the source's run says.
use Rattle.std.proofs.Common.{◌≡◌, inl, inr, ◌<◌, ◌≤◌, ◌+◌, ◌-◌, ◌*◌, ℕ, Bool, true, false, List, [], ◌∷◌, ◌++◌, length, map, refl, sym, ap, subst, ◌∙◌, arith}
use Rattle.std.specs.Prelude.{◌==◌, ◌&&◌, ◌||◌, if◌then◌else◌, is_some, nat_le, nat_lt, slice_index, slice_index_or}
use Rattle.std.specs.List.{AllByRecursion, filter, list_any, range_with_len}
use Rattle.std.proofs.lemmas.Bool.{and_parts, eq-eqb, eqb-true, ltb-true}
use Rattle.std.proofs.lemmas.List.{length-map}
use Rattle.std.proofs.lemmas.List.FromFn.{get_or-map-range_with_len}
use Rattle.std.proofs.Math.Nat.{mod-lt}
use Rattle.vert_base.specs.declared.message.Name.{Name}
use Rattle.vert_base.specs.declared.message.NameKind.{NameKind}
use Rattle.vert_base.specs.declared.message.NameKind.TheVariants as kind
use Rattle.vert_base.specs.Letters.{Letter, found}
use Rattle.vert_base.specs.Names.{same_name}
use Rattle.vert_base.specs.Neighbours.{target}
use Rattle.vert_base.proofs.LetterLaws.{names_law}
use Rattle.vert_eval.specs.Rounds.{row_at}
use Rattle.vert_tree.specs.declared.program.Dense.{Dense}
use Rattle.slot_merge.specs.declared.partial.Partial.{Partial}
use Rattle.slot_merge.specs.Filled.{AreFilled, with_more}
use Rattle.dep_layout.specs.Spelling.{State as LoopState}
use Rattle.chunk_split.specs.Chunks.{vertices_of}
use Rattle.circulant_plan.specs.declared.spot.Spot.{Spot}
use Rattle.circulant_plan.specs.declared.spot.Spot.TheVariants.{Scan}
use Rattle.circulant_plan.specs.Names.{dep_name, update_name, verdict_name}
use Rattle.circulant_plan.specs.Ring.{before_machine, chunk_of, lies_in, order_of}
use Rattle.vert_base.specs.Ends.{start_of}
use Rattle.circulant_plan.specs.Skeleton.{has_name}
use Rattle.circulant_plan.specs.Standing.{Standing, standing_at}
use Rattle.circulant_plan.specs.Table.{name_if}
use Rattle.circulant_plan.proofs.CircleLaws.{chunk_low as chunk_lower, step_of_chunk}
use Rattle.circulant_plan.proofs.ReadingLaws.{not_below}
use Rattle.graph_table.proofs.FilterLaws.{all_map, all_range, all_true, all_weaker, map_same}
use Rattle.body_shape.specs.Update.{Sent}
use Rattle.body_shape.specs.Verdict.{judged_read}
use Rattle.symple_face.specs.declared.action.Action.TheVariants.{Ready}
use Rattle.symple_face.specs.CoreDense.{needed_dep, partials_after, read_after, reading_at, ring_after, ring_at, scan_kept, scan_read, scanned_at}
use Rattle.symple_face.specs.CoreScan.{fresh}
use Rattle.symple_face.specs.CoreSight.{beside, body_of, is_within, known, known_totals, targets_of, total_count}
use Rattle.symple_face.specs.CoreTakes.{emptied, emptied_under, own_partials, with_sent}
use Rattle.symple_face.specs.CoreWork.{core_go, moved}
use Rattle.symple_face.specs.Ideal.{ideal_ran, ideal_sent, machines_of, owner_of, state_at}
use Rattle.symple_face.specs.Parts.{PlainPart, chunk_vertices}
use Rattle.symple_face.specs.PartsOf.{part_of}
use Rattle.symple_face.specs.Plans.{loop_carry}
use Rattle.symple_face.specs.Shapes.{half_in}
use Rattle.symple_face.specs.Source.{Source, stand}
use Rattle.symple_face.specs.State.{State, action_of}
use Rattle.symple_face.proofs.ChunkLaws.{lies_high, lies_is, lies_low, one_chunk}
use Rattle.round_laws.specs.FoldScan.{IsDenseRound, ScansAndGoesOn}
use Rattle.round_laws.specs.IsIdeal.{HoldsBody, IsIdeal, came_words, dense_words, half_at, is_dense, is_past, keys_below, reads_held, ring_held, step_came, words_by}
use Rattle.round_laws.specs.Partials.{partial_ops, sent_words}
use Rattle.round_laws.proofs.FoldScanHalves.{half_within, in_half, owner_holds}
use Rattle.round_laws.proofs.FoldScanHeld.{still_ahead, still_whole}
use Rattle.round_laws.proofs.FoldScanPlaces.{IsBehindScan, behind, is_behind, last_step}
use Rattle.round_laws.proofs.FoldScanReady.{own_last, scans_at}
use Rattle.round_laws.proofs.IdealClose.{half_low}
use Rattle.round_laws.proofs.IdealSparse.{owner_low}
use Rattle.round_laws.proofs.Lists.{any_kept, any_range}
use Rattle.round_laws.proofs.Partials.{fills_sent}
use Rattle.round_laws.proofs.Sights.{beside_is}
use Rattle.state_laws.proofs.Letters.{still_there}

-- ---- tests
now_or : (b e g : Bool) → e ≡ true → g ≡ true → (b || (e && g)) ≡ true
now_or true e g first second = refl
now_or false true true first second = refl
now_or false true false first second = second
now_or false false g first second = first

or_neither : (b e g : Bool) → (e ≡ true → g ≡ true → ⊥) → (b || (e && g)) ≡ b
or_neither true e g other = refl
or_neither false true true other = absurd (other refl refl)
or_neither false true false other = refl
or_neither false false g other = refl

either_same : (a e t u w : Bool) → (e ≡ true → u ≡ w) → (if a then t else e && u) ≡ (if a then t else e && w)
either_same true e t u w same = refl
either_same false true t u w same = same refl
either_same false false t u w same = refl

clash : true ≡ false → ⊥
clash e = cc

-- what holds of the elements that pass a test holds of all that are kept by it
all_kept : (P : ℕ → Type 0) (test : ℕ → Bool) (xs : List ℕ) → AllByRecursion (λ x. test x ≡ true → P x) xs →
    AllByRecursion P (filter test xs)
all_kept P test [] all = tt
all_kept P test (x ∷ xs) all = by (test x) refl (all_kept P test xs all.1)
  where
    by : (b : Bool) → test x ≡ b → AllByRecursion P (filter test xs) →
        AllByRecursion P (if b then x ∷ filter test xs else filter test xs)
    by true is rest = (all.0 is, rest)
    by false is rest = rest

module _ (src : Source) (d : Dense) (most m round step h : ℕ) (state : State)
    (fits : IsDenseRound src d most round) (machine : m < machines_of src) (early : step < machines_of src)
    (least : h ≤ 1) (x : Spot) (next : IsBehindScan (machines_of src) round step h x) where
  abbrev ends : List ℕ
  ends = src.job.graph.ends

  abbrev p : ℕ
  p = machines_of src

  abbrev c : ℕ
  c = chunk_of m step p

  abbrev half : ℕ × ℕ
  half = half_in ends c h

  abbrev own : List ℕ
  own = chunk_vertices ends m

  abbrev part : PlainPart
  part = part_of ends src.job.draws src.job.graph.edges m

  abbrev scanning : Standing
  scanning = record { spot = Scan round step h; round = round }

  abbrev after_scan : Standing
  after_scan = record { spot = x; round = round }

  abbrev s : State
  s = record state { part = part; split = src.split; at = scanning }

  abbrev carries : Bool
  carries = is_some (loop_carry src.split.dense)

  abbrev dep : Name
  dep = dep_name round (step - 1) h (before_machine m p) m

  abbrev needed : List Name
  needed = needed_dep s round step h

  abbrev held : List Letter
  held = emptied needed state.held

  -- what it leaves, with such partials and loop states
  abbrev left : List (List Partial) → List LoopState → State
  left qs ring = record state {
    part = part;
    split = src.split;
    at = after_scan;
    held = held;
    reading = map (read_after s round step h) (targets_of part);
    partials = qs;
    ring = ring;
  }

  few : p ≤ 64
  few = let most_few = fits.few in let all = fits.ends.1 in omega (arith, most_few, all)

  -- ---- which scans are past
  now_past : is_past after_scan step h ≡ true
  now_past =
      next.past step h early least
      ∙ now_or (is_past scanning step h) (step == step) (h == h) (eq-eqb step step refl) (eq-eqb h h refl)

  past_same : (k g : ℕ) → k < p → g ≤ 1 → (k ≡ step → g ≡ h → ⊥) → is_past after_scan k g ≡ is_past scanning k g
  past_same k g low small other =
      next.past k g low small
      ∙ or_neither (is_past scanning k g) (k == step) (g == h)
      (λ first second. other (eqb-true k step first) (eqb-true g h second))

  -- ---- what is held
  no_verdict : (b : Bool) → has_name (verdict_name round m) (name_if b dep) ≡ false
  no_verdict true = refl
  no_verdict false = refl

  verdict_stays : found (verdict_name round m) held ≡ found (verdict_name round m) state.held
  verdict_stays = still_whole needed (verdict_name round m) state.held (no_verdict (carries && nat_lt 0 step))

  known_stays : (qs : List (List Partial)) (ring : List LoopState) → known (left qs ring) ≡ known s
  known_stays qs ring = ap (λ o. if m == 0 then nat_le 1 round else is_some o) verdict_stays

  totals_stay : (qs : List (List Partial)) (ring : List LoopState) → known_totals (left qs ring) ≡ known_totals s
  totals_stay qs ring =
      ap (λ o. if m == 0 then state.judged.totals else
      (judged_read (total_count src.split) (body_of o)).totals) verdict_stays

  held_on : (k : NameKind) (l : Letter) → HoldsBody k src scanning l → HoldsBody k src after_scan l
  held_on kind.Refresh l holds = holds
  held_on kind.Dep l holds = λ late. holds (still_ahead scanning after_scan l.name next.later late)
  held_on kind.Update l holds = holds
  held_on kind.Push l (inl empty) = inl empty
  held_on kind.Push l (inr both) = let wrong : true ≡ false = sym both.1 in absurd (clash wrong)
  held_on kind.Tally l holds = holds
  held_on kind.Verdict l holds = holds

  abbrev Holds : Letter → Type 0
  Holds l = HoldsBody l.name.kind src after_scan l

  -- the loop states that were needed are dropped
  dropped : (b : Bool) (l : Letter) → (carries && nat_lt 0 step) ≡ b → HoldsBody l.name.kind src scanning l →
      Holds (emptied_under (name_if b dep) l)
  dropped false l is holds = held_on l.name.kind l holds
  dropped true l is holds = by (same_name l.name dep) refl
    where
      begun : step - 1 + 1 ≡ step
      begun = let later = ltb-true 0 step (and_parts carries (nat_lt 0 step) is).1 in omega (arith, later)

      by : (b : Bool) → same_name l.name dep ≡ b → Holds (if b || false then record l { body = [] } else l)
      by false other = held_on l.name.kind l holds
      by true same =
          subst (λ n. Holds (record { name = n; body = [] })) (sym (names_law l.name dep same))
          (λ late. absurd (clash (sym now_past ∙ ap (λ k. is_past after_scan k h) (sym begun) ∙ late)))

  -- ---- the words that came
  came_if : (v key : ℕ) → (key + 1 ≡ p → is_past after_scan key (half_at src m v) ≡
      is_past scanning key (half_at src m v)) →
      step_came src m after_scan held v key ≡ step_came src m scanning state.held v key
  came_if v key same =
      ap (λ b. if nat_lt (key + 1) p then b else key + 1 == p && is_past after_scan key (half_at src m v))
      (still_there needed (update_name round key (half_at src m v) (order_of m key p) m) state.held)
      ∙ either_same (nat_lt (key + 1) p) (key + 1 == p)
      (is_some (found (update_name round key (half_at src m v) (order_of m key p) m) state.held))
      (is_past after_scan key (half_at src m v)) (is_past scanning key (half_at src m v))
      (λ last. same (eqb-true (key + 1) p last))

  came_same : (v key : ℕ) → (key ≡ step → half_at src m v ≡ h → key + 1 ≡ p → ⊥) →
      step_came src m after_scan held v key ≡ step_came src m scanning state.held v key
  came_same v key other =
      came_if v key
      (λ last. past_same key (half_at src m v) (omega (arith, last)) (half_low src m v) (λ e f. other e f last))

  words_after : (v place key : ℕ) → came_words src m after_scan held v place key ≡
      dense_words src m after_scan held v place key
  words_after v place key =
      ap (λ b. if b then words_by (stand src round).ruling src m after_scan held v place key else []) next.going
      ∙ ap (λ q. words_by q src m after_scan held v place key) fits.dense

  words_before : (v place key : ℕ) → came_words src m scanning state.held v place key ≡
      dense_words src m scanning state.held v place key
  words_before v place key = ap (λ q. words_by q src m scanning state.held v place key) fits.dense

  same_words : (v place key : ℕ) → step_came src m after_scan held v key ≡ step_came src m scanning state.held v key →
      dense_words src m scanning state.held v place key ≡ dense_words src m after_scan held v place key
  same_words v place key same =
      ap (λ b. if b then sent_words (ideal_sent src round v m key) place else []) (sym same)

  all_words : (v : ℕ) → ((key : ℕ) → step_came src m after_scan held v key ≡
      step_came src m scanning state.held v key) →
      came_words src m scanning state.held v ≡ came_words src m after_scan held v
  all_words v same = λ i place key.
      (words_before v place key ∙ same_words v place key (same key) ∙ sym (words_after v place key)) i

  abbrev Fills : ℕ → List Partial → Type 0
  Fills v qs = AreFilled 0 (partial_ops src.split) (came_words src m after_scan held v) (keys_below src) qs

  -- ---- loop states
  own_step : chunk_of m m p ≡ p - 1
  own_step =
      let is : chunk_of m m p ≡ m + p - 1 - m = chunk_lower m m p (omega arith) machine machine in
      omega (arith, is)

  ring_after_is : (v : ℕ) → ring_held src m after_scan v ≡
      (if is_past after_scan (p - 1) (half_at src m v) then state_at src round v m p else fresh src.split)
  ring_after_is v =
      ap (λ b. if b && (is_dense (stand src round).ruling && is_past after_scan (chunk_of m m p) (half_at src m v))
      then state_at src round v m p else fresh src.split) next.going
      ∙ ap (λ q. if is_dense q && is_past after_scan (chunk_of m m p) (half_at src m v)
      then state_at src round v m p else fresh src.split) fits.dense
      ∙ ap (λ k. if is_past after_scan k (half_at src m v) then state_at src round v m p else fresh src.split) own_step

  ring_before_is : (v : ℕ) → ring_held src m scanning v ≡
      (if is_past scanning (p - 1) (half_at src m v) then state_at src round v m p else fresh src.split)
  ring_before_is v =
      ap (λ q. if is_dense q && is_past scanning (chunk_of m m p) (half_at src m v)
      then state_at src round v m p else fresh src.split) fits.dense
      ∙ ap (λ k. if is_past scanning k (half_at src m v) then state_at src round v m p else fresh src.split) own_step

  ring_same : (v : ℕ) → (p - 1 ≡ step → half_at src m v ≡ h → ⊥) → ring_held src m scanning v ≡
      ring_held src m after_scan v
  ring_same v other =
      ring_before_is v
      ∙ ap (λ b. if b then state_at src round v m p else fresh src.split)
      (sym (past_same (p - 1) (half_at src m v) (omega (arith, machine)) (half_low src m v) other))
      ∙ sym (ring_after_is v)

  -- ---- reads
  abbrev owner : ℕ → ℕ
  owner v = owner_of ends v

  abbrev owner_step : ℕ → ℕ
  owner_step v = chunk_of m (owner v) p

  reads_after_is : (v : ℕ) → reads_held src m after_scan v ≡
      (if is_past after_scan (owner_step v) (half_at src (owner v) v)
      then (ideal_ran src round v (owner v) (owner_step v)).reads else [])
  reads_after_is v =
      ap (λ b. if b && (is_dense (stand src round).ruling
      && is_past after_scan (owner_step v) (half_at src (owner v) v))
      then (ideal_ran src round v (owner v) (owner_step v)).reads else []) next.going
      ∙ ap (λ q. if is_dense q && is_past after_scan (owner_step v) (half_at src (owner v) v)
      then (ideal_ran src round v (owner v) (owner_step v)).reads else []) fits.dense

  reads_before_is : (v : ℕ) → reads_held src m scanning v ≡
      (if is_past scanning (owner_step v) (half_at src (owner v) v)
      then (ideal_ran src round v (owner v) (owner_step v)).reads else [])
  reads_before_is v =
      ap (λ q. if is_dense q && is_past scanning (owner_step v) (half_at src (owner v) v)
      then (ideal_ran src round v (owner v) (owner_step v)).reads else []) fits.dense

  module _ (is : IsIdeal src m s) (knows : known s ≡ true) (ready : action_of s ≡ Ready) where
    -- ---- what was read
    module _ (v : ℕ) (low : v < vertices_of ends) where
      owner_is_low : owner v < p
      owner_is_low = owner_low ends v fits.ends.0 low

      owned : lies_in ends (owner v) v ≡ true
      owned = owner_holds ends v fits.ends.0 low

      -- inside the half what the scan reads
      read_inside : is_within half v ≡ true → (scanned_at s round step h v).reads ≡ reads_held src m after_scan v
      read_inside inside =
          let chunk : c < p = mod-lt (m + p - 1 - step) (omega (arith, machine)) in
          let lies : lies_in ends c v ≡ true = half_within most ends c h v fits.ends chunk inside in
          let same : owner v ≡ c = one_chunk most ends fits.ends (owner v) c v owner_is_low chunk owned lies in
          let its_step : chunk_of m c p ≡ step = step_of_chunk m step p machine early in
          let its_half : half_at src c v ≡ h = eqb-true (half_at src c v) h (sym (in_half src c v lies h least)
          ∙ inside) in
          (scans_at src d most m round step h state fits machine early is knows ready v inside).0.reads
          ∙ sym (reads_after_is v
          ∙ ap (λ o. if is_past after_scan (chunk_of m o p) (half_at src o v)
          then (ideal_ran src round v o (chunk_of m o p)).reads else []) same
          ∙ ap (λ k. if is_past after_scan k (half_at src c v) then (ideal_ran src round v c k).reads else []) its_step
          ∙ ap (λ b. if b then (ideal_ran src round v c step).reads else [])
          (ap (is_past after_scan step) its_half ∙ now_past))

      -- outside of it what was read before
      read_outside : is_within half v ≡ false → reads_held src m scanning v ≡ reads_held src m after_scan v
      read_outside outside =
          reads_before_is v
          ∙ ap (λ b. if b then (ideal_ran src round v (owner v) (owner_step v)).reads else [])
          (sym (past_same (owner_step v) (half_at src (owner v) v)
          (mod-lt (m + p - 1 - owner v) (omega (arith, machine)))
          (half_low src (owner v) v) other))
          ∙ sym (reads_after_is v)
        where
          other : owner_step v ≡ step → half_at src (owner v) v ≡ h → ⊥
          other its_step its_half =
              let same : owner v ≡ c = sym (step_of_chunk m (owner v) p machine owner_is_low)
              ∙ ap (λ k. chunk_of m k p) its_step in
              clash (sym (ap (λ k. is_within (half_in ends k h) v) (sym same) ∙ in_half src (owner v) v owned h least
              ∙ eq-eqb (half_at src (owner v) v) h its_half) ∙ outside)

      read_is : list_any (λ u. u == v) (targets_of part) ≡ true → (b : Bool) → is_within half v ≡ b →
          (if b then (scanned_at s round step h v).reads else reading_at s v) ≡ reads_held src m after_scan v
      read_is some true inside = read_inside inside
      read_is some false outside =
          ap (beside [] v (targets_of part)) is.reading
          ∙ beside_is [] (reads_held src m scanning) (targets_of part) v some
          ∙ read_outside outside

    reading_is : map (read_after s round step h) (targets_of part) ≡ map (reads_held src m after_scan) (targets_of part)
    reading_is =
        map_same (read_after s round step h) (reads_held src m after_scan) (targets_of part)
        (all_kept (λ v. read_after s round step h v ≡ reads_held src m after_scan v) met (range_with_len 0 n)
        (all_range (λ v. met v ≡ true → read_after s round step h v ≡ reads_held src m after_scan v) 0 n
        (λ v low high passes. read_is v (omega (arith, high))
        (any_kept met v (range_with_len 0 n) passes (any_range v 0 n low high)) (is_within half v) refl)))
      where
        n : ℕ
        n = vertices_of ends

        met : ℕ → Bool
        met v = list_any (λ e. target e == v) part.scan

    -- ---- all that it holds
    ideal_left : (qs : List (List Partial)) (ring : List LoopState) → length qs ≡ length own →
        ((v : ℕ) → lies_in ends m v ≡ true → Fills v (slice_index_or qs (v - start_of ends m) [])) →
        (carries ≡ true → ring ≡ map (ring_held src m after_scan) own) → IsIdeal src m (left qs ring)
    ideal_left qs ring many filled states = record {
      part = refl;
      split = refl;
      rows = is.rows ∙ ap (λ r. map (row_at (stand src r).rows) own) (sym next.before);
      ruling = λ knows. is.ruling (sym (known_stays qs ring) ∙ knows);
      totals = λ knows. totals_stay qs ring ∙ is.totals (sym (known_stays qs ring) ∙ knows);
      bodies = all_map Holds (emptied_under needed) state.held
          (all_weaker (λ l. HoldsBody l.name.kind src scanning l) (λ l. Holds (emptied_under needed l))
          (λ l holds. dropped (carries && nat_lt 0 step) l refl holds) state.held is.bodies);
      many = many;
      partials = filled;
      ring = states;
      reading = reading_is;
      reads = λ r e. is.reads r (e ∙ next.before);
      judged = is.judged;
      report = is.report;
    }

    -- ---- before the last step
    hands_on : step + 1 < p → IsIdeal src m (left state.partials state.ring)
    hands_on more =
        ideal_left state.partials state.ring is.many
        (λ v lies. subst (λ ws. AreFilled 0 (partial_ops src.split) ws (keys_below src) (own_partials s v))
        (all_words v (λ key. came_same v key (λ e f last. omega (arith, e, last, more)))) (is.partials v lies))
        (λ some. is.ring some
        ∙ map_same (ring_held src m scanning) (ring_held src m after_scan) own
        (all_true _ (λ v. ring_same v (λ e f. omega (arith, e, more))) own))

    -- ---- in the last step, on its own chunk
    module _ (last : step + 1 ≡ p) where
      own_chunk : c ≡ m
      own_chunk = own_last src d most m round step h state fits machine early last

      module _ (v : ℕ) (lies : lies_in ends m v ≡ true) where
        inside_is : is_within half v ≡ (half_at src m v == h)
        inside_is = ap (λ k. is_within (half_in ends k h) v) own_chunk ∙ in_half src m v lies h least

        abbrev got : Sent
        got = (scanned_at s round step h v).sent

        module _ (inside : is_within half v ≡ true) where
          here : half_at src m v ≡ h
          here = eqb-true (half_at src m v) h (sym inside_is ∙ inside)

          came_before : step_came src m scanning state.held v step ≡ false
          came_before =
              ap (λ b. if b then is_some (found (update_name round step (half_at src m v) (order_of m step p) m)
              state.held)
              else step + 1 == p && is_past scanning step (half_at src m v))
              (not_below (step + 1) p (omega (arith, last)))
              ∙ ap (λ b. b && is_past scanning step (half_at src m v)) (eq-eqb (step + 1) p last)
              ∙ not_below (256 * round + (1 + 2 * step + half_at src m v)) (256 * round + (1 + 2 * step + h))
              (omega (arith, here))

          came_after : step_came src m after_scan held v step ≡ true
          came_after =
              ap (λ b. if b then is_some (found (update_name round step (half_at src m v) (order_of m step p) m) held)
              else step + 1 == p && is_past after_scan step (half_at src m v))
              (not_below (step + 1) p (omega (arith, last)))
              ∙ ap (λ b. b && is_past after_scan step (half_at src m v)) (eq-eqb (step + 1) p last)
              ∙ ap (is_past after_scan step) here ∙ now_past

          sent_is : got ≡ ideal_sent src round v m step
          sent_is =
              (scans_at src d most m round step h state fits machine early is knows ready v inside).0.sent
              ∙ ap (λ k. ideal_sent src round v k step) own_chunk

          at_step : (place : ℕ) →
              dense_words src m scanning state.held v place step ++ sent_words got place ≡
              dense_words src m after_scan held v place step
          at_step place =
              ap (λ b. (if b then sent_words (ideal_sent src round v m step) place else []) ++ sent_words got place)
              came_before
              ∙ ap (λ sent. sent_words sent place) sent_is
              ∙ ap (λ b. if b then sent_words (ideal_sent src round v m step) place else []) (sym came_after)

          at_key : (place key : ℕ) (b : Bool) → (step == key) ≡ b →
              (if b then dense_words src m scanning state.held v place key ++ sent_words got place
              else dense_words src m scanning state.held v place key) ≡
              dense_words src m after_scan held v place key
          at_key place key true same =
              subst (λ k. dense_words src m scanning state.held v place k ++ sent_words got place ≡
              dense_words src m after_scan held v place k) (eqb-true step key same) (at_step place)
          at_key place key false other =
              same_words v place key
              (came_same v key (λ e f late. clash (sym (eq-eqb step key (sym e)) ∙ other)))

          more_words : (λ place. with_more (came_words src m scanning state.held v place) step (sent_words got place)) ≡
              came_words src m after_scan held v
          more_words = λ i place key.
              (ap (λ ws. if step == key then ws ++ sent_words got place else ws) (words_before v place key)
              ∙ at_key place key (step == key) refl ∙ sym (words_after v place key)) i

        filled_by : (b : Bool) → is_within half v ≡ b →
            Fills v (if b then with_sent step got (own_partials s v) else own_partials s v)
        filled_by true inside =
            subst (λ ws. AreFilled 0 (partial_ops src.split) ws (keys_below src)
            (with_sent step got (own_partials s v)))
            (more_words inside)
            (fills_sent (partial_ops src.split) (came_words src m scanning state.held v) (keys_below src) step got
            (own_partials s v) (omega (arith, early)) (is.partials v lies))
        filled_by false outside =
            subst (λ ws. AreFilled 0 (partial_ops src.split) ws (keys_below src) (own_partials s v))
            (all_words v (λ key. came_same v key (λ e f late.
            clash (sym (inside_is ∙ eq-eqb (half_at src m v) h f) ∙ outside))))
            (is.partials v lies)

        filled_here : Fills v (slice_index_or (map (partials_after s round step h) own) (v - start_of ends m) [])
        filled_here =
            let a : ℕ = start_of ends m in
            let low = lies_low ends m v lies in
            let high = lies_high ends m v lies in
            subst (Fills v)
            (sym (get_or-map-range_with_len (partials_after s round step h) a (slice_index ends m - a) (v - a) v []
            (omega (arith, low, high)) (omega (arith, low))))
            (filled_by (is_within half v) refl)

        ring_is : carries ≡ true → (b : Bool) → is_within half v ≡ b →
            (if b then (scanned_at s round step h v).state else ring_at s v) ≡ ring_held src m after_scan v
        ring_is some true inside =
            let last_step : p - 1 ≡ step = omega (arith, last) in
            (scans_at src d most m round step h state fits machine early is knows ready v inside).1 some
            ∙ ap (λ k. state_at src round v k (step + 1)) own_chunk ∙ ap (state_at src round v m) last
            ∙ sym (ring_after_is v
            ∙ ap (λ b. if b then state_at src round v m p else fresh src.split)
            (ap (λ k. is_past after_scan k (half_at src m v)) last_step ∙ ap (is_past after_scan step) (here inside)
            ∙ now_past))
        ring_is some false outside =
            let a : ℕ = start_of ends m in
            let low = lies_low ends m v lies in
            let high = lies_high ends m v lies in
            ap (λ l. slice_index_or l (v - a) (fresh src.split)) (is.ring some)
            ∙ get_or-map-range_with_len (ring_held src m scanning) a (slice_index ends m - a) (v - a) v
            (fresh src.split)
            (omega (arith, low, high)) (omega (arith, low))
            ∙ ring_same v (λ e f. clash (sym (inside_is ∙ eq-eqb (half_at src m v) h f) ∙ outside))

      keeps : IsIdeal src m
          (left (map (partials_after s round step h) own) (map (ring_after s round step h) own))
      keeps =
          ideal_left (map (partials_after s round step h) own) (map (ring_after s round step h) own)
          (length-map own (partials_after s round step h)) filled_here
          (λ some. map_same (ring_after s round step h) (ring_held src m after_scan) own
          (all_range (λ v. ring_after s round step h v ≡ ring_held src m after_scan v) (start_of ends m)
          (slice_index ends m - start_of ends m)
          (λ v low high. ring_is v (lies_is (start_of ends m) (slice_index ends m) v low (omega (arith, low, high)))
          some
          (is_within half v) refl)))

    -- ---- both
    lands : (t : State) → moved (standing_at round x) t ≡ record t { at = after_scan }
    lands t =
        ap (λ at. moved at t) next.stands ∙ ap (λ l. record t { at = after_scan; held = l }) (next.keeps t.held)

    goes : (b : Bool) → nat_lt step (p - 1) ≡ b →
        IsIdeal src m (moved (standing_at round x) (if b then scan_read s round step h else scan_kept s round step h))
    goes true less =
        let more : step < p - 1 = ltb-true step (p - 1) less in
        subst (IsIdeal src m) (sym (lands (scan_read s round step h))) (hands_on (omega (arith, more)))
    goes false late =
        subst (IsIdeal src m) (sym (lands (scan_kept s round step h))) (keeps (last_step step p early late))

    goes_on : IsIdeal src m (moved (standing_at round x)
        (if nat_lt step (p - 1) then scan_read s round step h else scan_kept s round step h))
    goes_on = goes (nat_lt step (p - 1)) refl

pub scans_and_goes_on : ScansAndGoesOn
scans_and_goes_on src d most m round step h state fits stands is =
    let p : ℕ = machines_of src in
    let most_few = fits.few in
    let all = fits.ends.1 in
    let few : p ≤ 64 = omega (arith, most_few, all) in
    let t : State = record state {
      part = part_of src.job.graph.ends src.job.draws src.job.graph.edges m;
      split = src.split;
      at = record { spot = Scan round step h; round = round };
    } in
    let same : state ≡ t = λ i. record state { part = is.part i; split = is.split i; at = stands.at i } in
    subst (λ y. IsIdeal src m (core_go y)) (sym same)
    (goes_on src d most m round step h state fits stands.machine stands.early stands.half
    (behind p round step few stands.early h) (is_behind p round step few stands.early h stands.half)
    (subst (IsIdeal src m) same is) (subst (λ y. known y ≡ true) same stands.knows)
    (subst (λ y. action_of y ≡ Ready) same stands.ready))
