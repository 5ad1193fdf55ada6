-- The vertices of which a push speaks, and what it tells of the sources of the edges that are worked.
use Rattle.std.proofs.Common.{◌≡◌, ◌≢◌, ◌<◌, ◌≤◌, ◌+◌, ◌-◌, ℕ, zero, suc, ℤ, Bool, true, false, List, [], ◌∷◌, length, map, refl, sym, ap, subst, ◌∙◌, Option, None, arith, ⊎_elim}
use Rattle.std.specs.Prelude.{◌==◌, ◌||◌, if◌then◌else◌, slice_index}
use Rattle.std.specs.List.{AllByRecursion, list_any}
use Rattle.std.proofs.lemmas.Bool.{cases_Bool, cases_lt, eq-eqb, ne_eqb}
use Rattle.std.proofs.lemmas.List.{length-append, length-map}
use Rattle.vert_base.specs.declared.graph.Edge.{Edge}
use Rattle.vert_base.specs.Neighbours.{bucket, source}
use Rattle.graph_table.proofs.FilterLaws.{all_range, all_weaker}
use Rattle.chunk_split.specs.Chunks.{AreEnds, vertices_of}
use Rattle.circulant_plan.specs.Names.{push_name}
use Rattle.circulant_plan.specs.Ring.{lies_in}
use Rattle.vert_base.specs.Ends.{start_of}
use Rattle.circulant_plan.proofs.ReadingLaws.{not_below}
use Rattle.circulant_plan.proofs.SpanLaws.{is_below}
use Rattle.body_shape.specs.Fit.{bit_len}
use Rattle.body_shape.specs.Places.{places}
use Rattle.body_shape.specs.Push.{bit_bytes, push_body, sends_read}
use Rattle.body_shape.specs.Refresh.{rows_bytes}
use Rattle.body_shape.specs.Places.{there}
use Rattle.body_shape.proofs.FlagLaws.{length-bytes_with}
use Rattle.body_shape.proofs.PushLaws.{push_back}
use Rattle.symple_face.specs.CoreSight.{beside, program_of}
use Rattle.symple_face.specs.CoreSparse.{told_sends}
use Rattle.symple_face.specs.Ideal.{ideal_body, ideal_send, machines_of, owner_of}
use Rattle.symple_face.specs.Parts.{chunk_vertices, push_list}
use Rattle.symple_face.specs.PartsOf.{part_of, push_of}
use Rattle.vert_tree.specs.Places.{sends_in}
use Rattle.symple_face.specs.Source.{Source}
use Rattle.symple_face.specs.State.{State}
use Rattle.symple_face.proofs.ChunkLaws.{chunk_rises, lies_high, lies_is, lies_low}
use Rattle.symple_face.proofs.ListLaws.{other_list}
use Rattle.round_laws.specs.FoldPushes.{SendsWords}
use Rattle.round_laws.specs.Vertices.{are_some}
use Rattle.round_laws.proofs.Chunks.{each_has_a_chunk}
use Rattle.round_laws.proofs.FoldUpdates.{among_kept, beside_none}
use Rattle.round_laws.proofs.Lists.{any_range, some-filter}
use Rattle.round_laws.proofs.Sights.{beside_is}
use Rattle.round_laws.proofs.Vertices.{pushed_law}

clash : true ≡ false → ⊥
clash e = cc

-- ---- owners
owner_at : (ends : List ℕ) (k u : ℕ) → ((j : ℕ) → j < k → slice_index ends j ≤ u) → u < slice_index ends k →
    k < length ends → owner_of ends u ≡ k
owner_at [] k u low high lt = absurd (omega arith)
owner_at (end ∷ rest) zero u low high lt = ap (λ b. if b then 0 else owner_of rest u + 1) (is_below u end high)
owner_at (end ∷ rest) (suc k) u low high lt =
    let on : k + 1 ≡ suc k = omega arith in
    ap (λ b. if b then 0 else owner_of rest u + 1) (not_below u end (low 0 (omega arith)))
    ∙ ap (λ x. x + 1) (owner_at rest k u (λ j before. low (suc j) (omega arith)) high (omega arith))
    ∙ on

module _ (most : ℕ) (ends : List ℕ) (are : AreEnds most ends) where
  ends_low : (k j : ℕ) → j < k → k < length ends → slice_index ends j ≤ start_of ends k
  ends_low zero j before lt = absurd (omega arith)
  ends_low (suc k) j before lt =
      ⊎_elim
      (λ (earlier : j < k).
      let a = ends_low k j earlier (omega arith) in
      let b = chunk_rises most ends are k (omega arith) in
      let le : slice_index ends j ≤ slice_index ends k = omega (arith, a, b) in
      le)
      (λ (last : k ≤ j).
      let same : k ≡ j = omega arith in
      let le : slice_index ends j ≤ slice_index ends j = omega arith in
      subst (λ x. slice_index ends j ≤ slice_index ends x) (sym same) le)
      (cases_lt j k)

  -- the owner of a vertex of a chunk is the chunk's machine
  pub owner_is : (k u : ℕ) → k < length ends → lies_in ends k u ≡ true → owner_of ends u ≡ k
  owner_is k u lt lies =
      owner_at ends k u
      (λ j before. let a = ends_low k j before lt in let b = lies_low ends k u lies in omega (arith, a, b))
      (lies_high ends k u lies) lt

  pub lies_by_owner : (k u : ℕ) → k < length ends → u < vertices_of ends → lies_in ends k u ≡ (owner_of ends u == k)
  lies_by_owner k u lt within =
      ⊎_elim
      (λ (lies : lies_in ends k u ≡ true). lies ∙ sym (eq-eqb (owner_of ends u) k (owner_is k u lt lies)))
      (λ (other : lies_in ends k u ≡ false).
      other ∙ sym (ne_eqb (owner_of ends u) k
      (λ q.
      let some = each_has_a_chunk most ends u are within in
      let at : some.0 ≡ k = sym (owner_is some.0 u some.1 some.2) ∙ q in
      clash (sym some.2 ∙ ap (λ x. lies_in ends x u) at ∙ other))))
      (cases_Bool (lies_in ends k u))

-- ---- lists
any_none : {X : Type 0} (p : X → Bool) (xs : List X) → AllByRecursion (λ x. p x ≡ false) xs → list_any p xs ≡ false
any_none p [] all = refl
any_none p (x ∷ xs) all = ap (λ b. b || list_any p xs) all.0 ∙ any_none p xs all.1

or_true : (b c : Bool) → c ≡ true → (b || c) ≡ true
or_true true c is = refl
or_true false c is = is

-- each edge of a list is among those with its source
found_source : (es : List Edge) → AllByRecursion (λ e. list_any (λ x. source x == source e) es ≡ true) es
found_source [] = tt
found_source (e ∷ es) = (
  ap (λ b. b || list_any (λ x. source x == source e) es) (eq-eqb (source e) (source e) refl),
  all_weaker (λ y. list_any (λ x. source x == source y) es ≡ true)
      (λ y. list_any (λ x. source x == source y) (e ∷ es) ≡ true)
      (λ y is. or_true (source e == source y) (list_any (λ x. source x == source y) es) is) es (found_source es),
)

-- a body without bytes tells of no vertex
pub empty_push : (sends : List (Option (List ℤ))) → length (push_body sends) ≡ 0 → length sends ≡ 0
empty_push sends none =
    let size : length (places sends) ≡ length sends = length-map sends _ in
    let bytes : length (bit_bytes (places sends)) ≡ bit_len (length (places sends)) =
    length-bytes_with (bit_len (length (places sends))) (places sends) in
    let all = length-append (bit_bytes (places sends)) (rows_bytes (there sends)) in
    let little : bit_len (length (places sends)) ≡ 0 = omega (arith, bytes, all, none) in
    omega (arith, size, little)

-- ---- the vertices of a push
module _ (src : Source) (most m k : ℕ) (are : AreEnds most src.job.graph.ends) (machine : m < machines_of src)
    (sender : k < machines_of src) (other : k ≢ m) where
  abbrev ends : List ℕ
  ends = src.job.graph.ends

  abbrev edges : List Edge
  edges = src.job.graph.edges

  abbrev push : List Edge
  push = push_of ends edges m

  abbrev list : List ℕ
  list = push_list ends k m edges

  in_chunk : (u : ℕ) → list_any (λ x. x == u) (chunk_vertices ends k) ≡ lies_in ends k u
  in_chunk u =
      ⊎_elim
      (λ (lies : lies_in ends k u ≡ true).
      let low = lies_low ends k u lies in
      let high = lies_high ends k u lies in
      any_range u (start_of ends k) (slice_index ends k - start_of ends k) low (omega (arith, low, high)) ∙ sym lies)
      (λ (out : lies_in ends k u ≡ false).
      any_none (λ x. x == u) (chunk_vertices ends k)
      (all_range (λ x. (x == u) ≡ false) (start_of ends k) (slice_index ends k - start_of ends k)
      (λ x low high. ne_eqb x u
      (λ q.
      let within : x < slice_index ends k = omega (arith, low, high) in
      clash (sym (lies_is (start_of ends k) (slice_index ends k) x low within) ∙ ap (lies_in ends k) q ∙ out))))
      ∙ sym out)
      (cases_Bool (lies_in ends k u))

  -- the source of an edge that is worked is among them where it is of the sender's chunk
  among : (u : ℕ) → list_any (λ x. source x == u) push ≡ true → list_any (λ x. x == u) list ≡ lies_in ends k u
  among u there =
      ap (list_any (λ x. x == u)) (pushed_law most ends edges m k are machine sender)
      ∙ among_kept (λ x. are_some (bucket source x push)) u (chunk_vertices ends k) true
      (some-filter (λ e. source e == u) push ∙ there)
      ∙ in_chunk u

  pub all_among : AllByRecursion (λ e. list_any (λ x. x == source e) list ≡ lies_in ends k (source e)) push
  all_among =
      all_weaker (λ e. list_any (λ x. source x == source e) push ≡ true)
      (λ e. list_any (λ x. x == source e) list ≡ lies_in ends k (source e)) (λ e is. among (source e) is) push
      (found_source push)

  module _ (round : ℕ) (state : State) (words : SendsWords src round k m) where
    abbrev s : State
    s = record state { part = part_of ends src.job.draws edges m; split = src.split }

    abbrev body : List ℕ
    body = ideal_body src (push_name round k m)

    tells : (u : ℕ) → told_sends s k body u ≡ beside None u list (map (ideal_send src round) list)
    tells u =
        ap (λ vs. beside None u vs
        (sends_read (length (sends_in (program_of src.split).sparse)) (length vs) body))
        (other_list (machines_of src) m k (λ j. push_list ends j m edges) sender (ne_eqb k m other))
        ∙ ap (beside None u list)
        (push_back (length list) (length (sends_in (program_of src.split).sparse)) (map (ideal_send src round) list)
        (length-map list (ideal_send src round)) words)

    -- the push tells what the sources in the sender's chunk send
    pub all_told : AllByRecursion (λ e. told_sends s k body (source e) ≡
        (if lies_in ends k (source e) then ideal_send src round (source e) else None)) push
    all_told =
        all_weaker (λ e. list_any (λ x. x == source e) list ≡ lies_in ends k (source e))
        (λ e. told_sends s k body (source e) ≡
        (if lies_in ends k (source e) then ideal_send src round (source e) else None))
        (λ e is. by (source e) (lies_in ends k (source e)) is) push all_among
      where
        by : (u : ℕ) (b : Bool) → list_any (λ x. x == u) list ≡ b →
            told_sends s k body u ≡ (if b then ideal_send src round u else None)
        by u true is = tells u ∙ beside_is None (ideal_send src round) list u is
        by u false is = tells u ∙ beside_none None list u (map (ideal_send src round) list) is
