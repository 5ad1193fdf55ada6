-- A test of all elements, element by element.
use Rattle.std.proofs.Common.{◌≡◌, ℕ, ◌+◌, ◌<◌, ◌∙◌, Bool, true, false, ◌&&◌, List, [], ◌∷◌, length, get_or, drop, map, ap, refl, sym, arith}
use Rattle.std.specs.List.{list_all}
use Rattle.vert_base.specs.declared.graph.VertexId.{VertexId}
use Rattle.symple_face.specs.declared.degree.Degree.{Degree}
use Rattle.worker_stream.specs.Degrees.{are_known}
use Rattle.std.proofs.lemmas.List.{at_drop_more, length-drop}

all_here : {X : Type 0} (p : X → Bool) (xs : List X) (i : ℕ) (d : X) → i < length xs →
    list_all p (drop i xs) ≡ (p (get_or xs i d) && list_all p (drop (i + 1) xs))
all_here p xs i d lt = at_drop_more (list_all p) xs i d lt

-- one that fails decides
pub all_fails : {X : Type 0} (p : X → Bool) (xs : List X) (i : ℕ) (d : X) → i < length xs →
    p (get_or xs i d) ≡ false → list_all p (drop i xs) ≡ false
all_fails p xs i d lt fails =
    all_here p xs i d lt ∙ ap (λ b. b && list_all p (drop (i + 1) xs)) fails

-- one that passes leaves the others
pub all_goes_on : {X : Type 0} (p : X → Bool) (xs : List X) (i : ℕ) (d : X) → i < length xs →
    p (get_or xs i d) ≡ true → list_all p (drop (i + 1) xs) ≡ list_all p (drop i xs)
all_goes_on p xs i d lt passes =
    sym (all_here p xs i d lt ∙ ap (λ b. b && list_all p (drop (i + 1) xs)) passes)

no_vertex : (ds : List Degree) (vs : List VertexId) → length vs < 1 → 0 < length ds →
    are_known ds (map (λ v. v.0) vs) ≡ false
no_vertex [] vs none some = absurd (omega arith)
no_vertex (d ∷ ds) [] none some = refl
no_vertex (d ∷ ds) (v ∷ vs) none some = absurd (omega arith)

-- a degree for which no vertex is left
pub none_left : (ds : List Degree) (vs : List VertexId) (i : ℕ) → i < length ds → length vs < 1 →
    are_known (drop i ds) (map (λ v. v.0) vs) ≡ false
none_left ds vs i lt none =
    let count = length-drop i ds in
    let some : 0 < length (drop i ds) = omega (arith, count) in
    no_vertex (drop i ds) vs none some
