-- The targets of what a machine scans, chunk by chunk.
use Rattle.std.proofs.Common.{◌≡◌, ℕ, Bool, true, false, ◌||◌, cond, List, [], ◌∷◌, refl, ap, sym, ◌∙◌}
use Rattle.std.specs.Prelude.{◌==◌, ◌&&◌}
use Rattle.std.specs.List.{AllByRecursion, filter, list_any, range_with_len}
use Rattle.std.proofs.lemmas.Bool.{eqb-true}
use Rattle.std.proofs.lemmas.List.Elements.{filter_agree, recursion_from_All}
use Rattle.vert_base.specs.declared.graph.Edge.{Edge}
use Rattle.vert_base.specs.Neighbours.{source, target}
use Rattle.chunk_split.specs.Chunks.{vertices_of}
use Rattle.circulant_plan.specs.Ring.{lies_in}
use Rattle.graph_table.proofs.FilterLaws.{filter-map, filter_filter}
use Rattle.machine_parts.specs.Spans.{TargetsAreTold, vertex_of}

either : (b m pe pv r : Bool) → (m && pv) ≡ r → (b ≡ true → pe ≡ pv) → ((b || m) && pv) ≡ cond pe (b || r) r
either true m true true r is at = refl
either true m false true r is at = let no : false ≡ true = at refl in cc
either true m true false r is at = let no : true ≡ false = at refl in cc
either true true false false r is at = is
either true false false false r is at = is
either false m true pv r is at = is
either false m false pv r is at = is

any-cond : (f : Edge → Bool) (e : Edge) (es : List Edge) (b : Bool) → list_any f (cond b (e ∷ es) es) ≡
    cond b (f e || list_any f es) (list_any f es)
any-cond f e es true = refl
any-cond f e es false = refl

-- a vertex that passes a test is an end of some edges exactly where it is one of those whose ends pass
any_among : (a : Edge → Bool) (p : ℕ → Bool) (v : ℕ) (edges : List Edge) → AllByRecursion (λ e. a e ≡ true) edges →
    (list_any (λ e. target e == v) edges && p v) ≡
    list_any (λ e. target e == v) (filter (λ e. a e && p (target e)) edges)
any_among a p v [] all = refl
any_among a p v (e ∷ es) all =
    let among : List Edge = filter (λ e. a e && p (target e)) es in
    either (target e == v) (list_any (λ e. target e == v) es) (p (target e)) (p v) (list_any (λ e. target e == v) among)
    (any_among a p v es all.1) (λ here. ap p (eqb-true (target e) v here))
    ∙ sym (ap (λ b. list_any (λ e. target e == v) (cond (b && p (target e)) (e ∷ among) among)) all.0
    ∙ any-cond (λ e. target e == v) e among (p (target e)))

pub targets_are_told : TargetsAreTold
targets_are_told part k spans is are =
    let p : ℕ → Bool = lies_in part.ends k in
    let met : ℕ → Bool = λ v. list_any (λ e. target e == v) part.scan in
    let all : List ℕ = range_with_len 0 (vertices_of part.ends) in
    sym (filter-map p vertex_of spans)
    ∙ ap (filter p) are.vertices
    ∙ filter_filter p met all
    ∙ filter_agree (λ v. met v && p v) _
    (λ v. any_among (λ e. lies_in part.ends part.at.machine (source e)) p v part.scan
    (recursion_from_All (λ e. lies_in part.ends part.at.machine (source e) ≡ true) part.scan is.scan_chunk)) all
