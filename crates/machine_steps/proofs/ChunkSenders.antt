-- The vertices of a chunk that send over edges to own ones.
use Rattle.std.proofs.Common.{◌≡◌, ℕ, ◌<◌, Bool, true, false, ◌&&◌, ◌||◌, cond, List, [], ◌∷◌, map, refl, sym, ap, ◌∙◌}
use Rattle.std.specs.Prelude.{◌==◌, slice_index, slice_index_or}
use Rattle.std.specs.List.{All, filter, list_any, range_with_len}
use Rattle.std.proofs.lemmas.Bool.{eqb-true}
use Rattle.std.proofs.lemmas.List.Elements.{All-filter, filter_agree, recursion_from_All}
use Rattle.vert_base.specs.declared.graph.Edge.{Edge}
use Rattle.vert_base.specs.Ends.{start_of}
use Rattle.vert_base.specs.Neighbours.{in_order, source, target}
use Rattle.vert_base.proofs.Orders.{in_order_twice}
use Rattle.chunk_split.specs.Chunks.{vertices_of}
use Rattle.circulant_plan.specs.Ring.{lies_in}
use Rattle.graph_table.proofs.FilterLaws.{all_weaker, filter-map, filter_filter, filter_same}
use Rattle.symple_face.specs.CoreSight.{is_within}
use Rattle.symple_face.specs.Parts.{IsPart, PlainPart, ends_met, push_list}
use Rattle.symple_face.proofs.ListLaws.{other_list}
use Rattle.machine_parts.specs.declared.spans.Span.{Span}
use Rattle.machine_parts.specs.Spans.{AreSpans, IsSpan, vertex_of}
use Rattle.vertex_work.specs.Pushing.{AreOwnSenders, AreSenders}
use Rattle.machine_steps.specs.Working.{spans_in}

-- of the edges whose sources pass a test some leave a vertex exactly where some do at all and it passes
any_passing : (p : ℕ → Bool) (v : ℕ) (es : List Edge) →
    list_any (λ e. source e == v) (filter (λ e. p (source e)) es) ≡ (list_any (λ e. source e == v) es && p v)
any_passing p v [] = refl
any_passing p v (e ∷ es) = by (source e == v) (p (source e)) refl refl (any_passing p v es)
  where
    some : Bool
    some = list_any (λ x. source x == v) es

    among : List Edge
    among = filter (λ x. p (source x)) es

    never : (b : Bool) → (b && false) ≡ false
    never true = refl
    never false = refl

    by : (same pass : Bool) → (source e == v) ≡ same → p (source e) ≡ pass →
        list_any (λ x. source x == v) among ≡ (some && p v) →
        list_any (λ x. source x == v) (cond pass (e ∷ among) among) ≡ (((source e == v) || some) && p v)
    by true true is passes rest =
        let here : p v ≡ true = ap p (sym (eqb-true (source e) v is)) ∙ passes in
        ap (λ b. b || list_any (λ x. source x == v) among) is
        ∙ sym here
        ∙ sym (ap (λ b. (b || some) && p v) is)
    by true false is passes rest =
        let here : p v ≡ false = ap p (sym (eqb-true (source e) v is)) ∙ passes in
        rest
        ∙ ap (λ b. some && b) here
        ∙ never some
        ∙ sym (ap (λ b. ((source e == v) || some) && b) here ∙ never ((source e == v) || some))
    by false true is passes rest =
        ap (λ b. b || list_any (λ x. source x == v) among) is ∙ rest ∙ sym (ap (λ b. (b || some) && p v) is)
    by false false is passes rest = rest ∙ sym (ap (λ b. (b || some) && p v) is)

module _ (part : PlainPart) (is : IsPart part) (spans : List Span)
    (are : AreSpans source (vertices_of part.ends) part.push spans) where
  abbrev n : ℕ
  n = vertices_of part.ends

  -- the edges stand by ascending source
  pub in_turn : part.push ≡ in_order source (vertices_of part.ends) part.push
  in_turn =
      is.push_order
      ∙ sym (in_order_twice source n (in_order target n part.push))
      ∙ ap (in_order source (vertices_of part.ends)) (sym is.push_order)

  module _ (k : ℕ) where
    within : ℕ → Bool
    within = is_within (start_of part.ends k, slice_index part.ends k)

    pub within_vertices : map vertex_of (spans_in part.ends k spans) ≡
        filter (is_within (start_of part.ends k, slice_index part.ends k))
        (ends_met source (vertices_of part.ends) part.push)
    within_vertices =
        sym (filter-map (is_within (start_of part.ends k, slice_index part.ends k)) vertex_of spans)
        ∙ ap (filter (is_within (start_of part.ends k, slice_index part.ends k))) are.vertices

    within_each : All (IsSpan source part.push) (spans_in part.ends k spans)
    within_each =
        All-filter (λ s. is_within (start_of part.ends k, slice_index part.ends k) (vertex_of s))
        (IsSpan source part.push) spans are.each

    abbrev passes : ℕ → Bool
    passes v =
        list_any (λ e. source e == v) part.push && is_within (start_of part.ends k, slice_index part.ends k) v

    passing_vertices : map vertex_of (spans_in part.ends k spans) ≡ filter passes (range_with_len 0 n)
    passing_vertices =
        within_vertices
        ∙ filter_filter (is_within (start_of part.ends k, slice_index part.ends k))
        (λ v. list_any (λ e. source e == v) part.push) (range_with_len 0 n)

    pub chunk_senders : AreSenders (vertices_of part.ends) part.push (spans_in part.ends k spans)
    chunk_senders = record { passes = passes; vertices = passing_vertices; each = within_each; order = in_turn }

    pub range_senders : AreOwnSenders (vertices_of part.ends) (start_of part.ends k, slice_index part.ends k) part.push
        (spans_in part.ends k spans)
    range_senders = record { vertices = within_vertices; each = within_each; order = in_turn }

    -- those of another chunk are the vertices whose sends its machine tells
    pub senders_told : k < part.at.machines → (k == part.at.machine) ≡ false →
        map vertex_of (spans_in part.ends k spans) ≡ slice_index_or part.push_of k []
    senders_told low other =
        let m : ℕ = part.at.machine in
        let among : List Edge = filter (λ e. lies_in part.ends k (source e)) part.push in
        let all = filter_same (λ e. lies_in part.ends k (source e))
        (λ e. lies_in part.ends k (source e) && lies_in part.ends part.at.machine (target e)) part.push
        (all_weaker (λ e. lies_in part.ends part.at.machine (target e) ≡ true)
        (λ e. lies_in part.ends k (source e)
        ≡ (lies_in part.ends k (source e) && lies_in part.ends part.at.machine (target e)))
        (λ e lies. sym (ap (λ b. lies_in part.ends k (source e) && b) lies ∙ always (lies_in part.ends k (source e))))
        part.push
        (recursion_from_All (λ e. lies_in part.ends part.at.machine (target e) ≡ true) part.push is.push_chunk)) in
        passing_vertices
        ∙ filter_agree passes (λ v. list_any (λ e. source e == v) among)
        (λ v. sym (any_passing (lies_in part.ends k) v part.push)) (range_with_len 0 n)
        ∙ ap (λ es. filter (λ v. list_any (λ e. source e == v) es) (range_with_len 0 n)) all
        ∙ sym (ap (λ lists. slice_index_or lists k []) is.push_of
        ∙ other_list part.at.machines m k (λ j. push_list part.ends j part.at.machine part.push) low other)
      where
        always : (b : Bool) → (b && true) ≡ b
        always true = refl
        always false = refl
