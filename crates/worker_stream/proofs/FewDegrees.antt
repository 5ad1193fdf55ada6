-- A part has few degrees.
use Rattle.std.proofs.Common.{◌≡◌, ℕ, ◌-◌, ◌*◌, ◌<◌, ◌≤◌, ◌∙◌, true, false, cond, List, [], ◌∷◌, length, sym, ap, arith, length-append}
use Rattle.std.specs.Prelude.{◌==◌, if◌then◌else◌, slice_index}
use Rattle.std.specs.List.{AllByRecursion, flat_map, range_with_len}
use Rattle.std.proofs.lemmas.List.{length-map}
use Rattle.std.proofs.lemmas.List.FromFn.{length-range_with_len}
use Rattle.vert_base.specs.Ends.{start_of}
use Rattle.vert_base.specs.Neighbours.{target}
use Rattle.chunk_split.specs.Chunks.{AreEnds, vertices_of}
use Rattle.graph_table.proofs.FilterLaws.{all_range}
use Rattle.symple_face.specs.Parts.{IsPart, PlainPart, chunk_vertices, edges_between, known_vertices, refresh_list}
use Rattle.symple_face.proofs.ChunkLaws.{chunk_within}
use Rattle.symple_face.proofs.ListLaws.{ends_met_few}

few_flat : (f : ℕ → List ℕ) (xs : List ℕ) → AllByRecursion (λ k. length (f k) ≤ 2097152) xs →
    length (flat_map f xs) ≤ 2097152 * length xs
few_flat f [] all = omega arith
few_flat f (x ∷ xs) all =
    let more = few_flat f xs all.1 in
    let first = all.0 in
    let count = length-append (f x) (flat_map f xs) in
    omega (arith, more, first, count)

pub degrees_few : (p : PlainPart) → AreEnds 64 p.ends → IsPart p → length p.degrees ≤ 134217728
degrees_few p are whole =
    let g : ℕ → List ℕ = λ k. if k == p.at.machine then chunk_vertices p.ends k
    else refresh_list p.ends k p.at.machine p.scan in
    let each : AllByRecursion (λ k. length (g k) ≤ 2097152) (range_with_len 0 p.at.machines) =
    all_range (λ k. length (g k) ≤ 2097152) 0 p.at.machines (λ k low high.
    let here : k < length p.ends = omega (arith, whole.machine) in
    let top = chunk_within 64 p.ends are k here in
    let count = length-range_with_len (start_of p.ends k) (slice_index p.ends k - start_of p.ends k) in
    let own : length (chunk_vertices p.ends k) ≤ 2097152 = omega (arith, whole.within) in
    let met = ends_met_few target (vertices_of p.ends) (edges_between p.ends p.at.machine k p.scan) in
    let other : length (refresh_list p.ends k p.at.machine p.scan) ≤ 2097152 = omega (arith, whole.within, met) in
    elim (k == p.at.machine) as (λ b. length (cond b (chunk_vertices p.ends k)
    (refresh_list p.ends k p.at.machine p.scan)) ≤ 2097152) [ true ↦ own | false ↦ other ]) in
    let known = few_flat g (range_with_len 0 p.at.machines) each in
    let machines = length-range_with_len 0 p.at.machines in
    let same : length p.degrees ≡ length (known_vertices p) =
    sym (length-map p.degrees (λ d. d.id.0)) ∙ ap length whole.known in
    let few = are.1 in
    omega (arith, known, machines, same, few, whole.machine)
