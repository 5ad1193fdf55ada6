use Rattle.std.proofs.Common.{◌≡◌, ◌+◌, ◌≤◌, List, ℕ, flat_map, map, drop, length, refl, sym, ap, ◌∙◌, arith}
use Rattle.std.proofs.lemmas.List.{take_all}
use Rattle.std.proofs.lemmas.List.Folds.{flat_map-map}
use Rattle.vert_base.specs.declared.graph.VertexId.{VertexId}
use Rattle.array_text.specs.Reads.{source_text, sources_text}
use Rattle.array_text.proofs.WritesLaws.{writes_same, writes_failed, writes_then, texts_split}
use Rattle.array_text.proofs.reads.write_reads.Goals as goal

-- the texts of sources are those of their ids
of_ids : (sources : List VertexId) → flat_map (λ u. source_text u.0) sources ≡ sources_text (map (λ u. u.0) sources)
of_ids sources = let id : VertexId → ℕ = λ u. u.0 in sym (flat_map-map source_text id sources)

pub returns-in_err-write_source : goal.returns-in_err-write_source
returns-in_err-write_source g c =
    let text : VertexId → List ℕ = λ u. source_text u.0 in
    writes_same
    (texts_split text c.args.sources.now c.loop-source.source-index _ _ (omega arith) refl ∙ of_ids c.args.sources.now)
    (writes_failed (flat_map text (drop (c.loop-source.source-index + 1) c.args.sources.now)) c.from_residual.result
    c.from_residual.ensures.0 (writes_then _ c.loop-source.invariant c.in_err-write_source.ensures))

pub returns : goal.returns
returns g c =
    let text : VertexId → List ℕ = λ u. source_text u.0 in
    let all : length c.args.sources.now ≤ c.loop-source.source-index = omega arith in
    writes_same (ap (flat_map text) (take_all c.loop-source.source-index c.args.sources.now all)
    ∙ of_ids c.args.sources.now) c.loop-source.invariant
