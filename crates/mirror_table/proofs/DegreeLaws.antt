-- The degrees of a vertex by its lists in a table.
use Rattle.std.proofs.Common.{◌≡◌, ℕ, ◌<◌, List, length, refl, ap, ◌∙◌}
use Rattle.std.specs.Prelude.{◌==◌}
use Rattle.std.specs.List.{filter}
use Rattle.std.proofs.lemmas.List.Elements.{All-filter}
use Rattle.vert_base.specs.declared.graph.Edge.{Edge}
use Rattle.vert_base.specs.Neighbours.{AreBelow, source, target, ins_of, outs_of}
use Rattle.graph_table.proofs.TableLaws.{order_length, sources_below, targets_below}
use Rattle.symple_face.specs.Parts.{degree_in}

pub degree_made : (n : ℕ) (edges : List Edge) (v ins outs : ℕ) → AreBelow n edges → ins ≡ length (ins_of n edges v) →
    outs ≡ length (outs_of n edges v) → record { id = record { 0 = v }; ins = ins; outs = outs }
    ≡ degree_in edges edges v
degree_made n edges v ins outs below into from =
    let a : ins ≡ length (filter (λ e. target e == v) edges) = into
    ∙ order_length source n (filter (λ e. target e == v) edges) (ins_of n edges v)
    (All-filter (λ e. target e == v) (λ e. source e < n) edges (sources_below n edges below)) refl in
    let b : outs ≡ length (filter (λ e. source e == v) edges) = from
    ∙ order_length target n (filter (λ e. source e == v) edges) (outs_of n edges v)
    (All-filter (λ e. source e == v) (λ e. target e < n) edges (targets_below n edges below)) refl in
    ap (λ x. record { id = record { 0 = v }; ins = x; outs = outs }) a
    ∙ ap (λ x. record { id = record { 0 = v }; ins = length (filter (λ e. target e == v) edges); outs = x }) b
