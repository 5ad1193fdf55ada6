-- The degrees of some vertices, from those of all.
use Rattle.std.proofs.Common.{◌≡◌, ℕ, ◌+◌, ◌<◌, List, [], ◌∷◌, ◌++◌, length, get_or, take, map, ap, sym, ◌∙◌, arith}
use Rattle.std.specs.List.{range_with_len}
use Rattle.std.proofs.lemmas.List.{take_more}
use Rattle.std.proofs.lemmas.List.FromFn.{get_or-map-range_with_len}
use Rattle.graph_table.proofs.FilterLaws.{map-append}
use Rattle.vert_base.specs.declared.graph.VertexId.{VertexId}
use Rattle.symple_face.specs.declared.degree.Degree.{Degree}

module _ (f : ℕ → Degree) (degrees : List Degree) (vs : List VertexId) (i : ℕ) (z : VertexId) (d : Degree)
    (list new : List Degree) where
  pub chosen_more : i < length vs → (get_or vs i z).0 < length degrees →
      degrees ≡ map f (range_with_len 0 (length degrees)) → list ≡ map f (map (λ v. v.0) (take i vs)) →
      new ≡ list ++ get_or degrees (get_or vs i z).0 d ∷ [] → new ≡ map f (map (λ v. v.0) (take (i + 1) vs))
  chosen_more lt within are so_far pushed =
      let number : VertexId → ℕ = λ v. v.0 in
      let v = get_or vs i z in
      let found : get_or degrees v.0 d ≡ f v.0 = ap (λ ds. get_or ds v.0 d) are
      ∙ get_or-map-range_with_len f 0 (length degrees) v.0 v.0 d within (omega arith) in
      let more : map f (map number (take (i + 1) vs)) ≡ map f (map number (take i vs)) ++ f v.0 ∷ [] =
      ap (λ us. map f (map number us)) (take_more vs i z lt)
      ∙ (ap (map f) (map-append number (take i vs) (v ∷ [])) ∙ map-append f (map number (take i vs)) (v.0 ∷ [])) in
      pushed ∙ (ap (λ ys. ys ++ get_or degrees v.0 d ∷ []) so_far
      ∙ (ap (λ y. map f (map number (take i vs)) ++ y ∷ []) found ∙ sym more))
