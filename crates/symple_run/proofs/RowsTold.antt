-- The rows of all vertices, gathered one after another.
use Rattle.std.proofs.Common.{◌≡◌, ℕ, ◌+◌, ◌<◌, ◌≤◌, List, [], ◌∷◌, ◌++◌, get_or, length, map, take, sym, ap, ◌∙◌, arith}
use Rattle.std.proofs.lemmas.List.{map-append, take_all, take_more}
use Rattle.std.proofs.lemmas.List.FromFn.{length-range_with_len}
use Rattle.chunk_split.specs.Chunks.{vertices_of}
use Rattle.command_steps.proofs.TextLaws.{number_at}
use Rattle.schedule_laws.specs.Layout.{ends_in, row_in, vertices_in}
use Rattle.symple_face.specs.Cluster.{World}
use Rattle.symple_face.specs.Work.{Work}
use Rattle.vert_base.specs.declared.value.Row.{Row}

module _ (work : Work) (w : World) (k : ℕ) (rows : List Row)
    (so_far : rows ≡ map (row_in work w) (take k (vertices_in w))) where
  pub rows_more : (row : Row) → k < length (vertices_in w) → row ≡ row_in work w k →
      rows ++ row ∷ [] ≡ map (row_in work w) (take (k + 1) (vertices_in w))
  rows_more row lt same =
      let n = vertices_of (ends_in w) in
      let count : length (vertices_in w) ≡ n = length-range_with_len 0 n in
      let here : k ≡ get_or (vertices_in w) k 0 = number_at n k (omega (arith, count, lt)) in
      ap (λ (rs : List Row). rs ++ row ∷ []) so_far
      ∙ ap (λ (r : Row). map (row_in work w) (take k (vertices_in w)) ++ r ∷ [])
      (same ∙ ap (row_in work w) here)
      ∙ sym (map-append (row_in work w) (take k (vertices_in w)) (get_or (vertices_in w) k 0 ∷ []))
      ∙ ap (map (row_in work w)) (sym (take_more (vertices_in w) k 0 lt))

  pub rows_all : length (vertices_in w) ≤ k → rows ≡ map (row_in work w) (vertices_in w)
  rows_all all = so_far ∙ ap (map (row_in work w)) (take_all k (vertices_in w) all)
