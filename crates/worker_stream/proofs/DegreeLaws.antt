-- The tests of a part's degrees decide whether they are those of a part.
use Rattle.std.proofs.Common.{◌≡◌, ℕ, ◌<◌, ◌∙◌, ⊎_elim, Bool, true, false, ◌&&◌, not, List, [], ◌∷◌, length, map, refl, sym, ap, subst}
use Rattle.std.specs.Prelude.{◌==◌}
use Rattle.std.specs.List.{AllByRecursion, filter, list_all}
use Rattle.std.proofs.lemmas.Bool.{and_parts, cases_Bool, eq-eqb, eqb-true, or_cases, or_left, or_right, true≢false}
use Rattle.vert_base.specs.declared.graph.Edge.{Edge}
use Rattle.vert_base.specs.Neighbours.{AreBelow, bucket, source, target}
use Rattle.chunk_split.specs.Chunks.{AreEnds, vertices_of}
use Rattle.circulant_plan.specs.Ring.{lies_in}
use Rattle.graph_table.proofs.FilterLaws.{all_filter, all_map, all_passes, all_true, filter-map, map-map, map_itself, map_same}
use Rattle.symple_face.specs.declared.degree.Degree.{Degree}
use Rattle.symple_face.specs.Parts.{chunk_vertices, degree_in}
use Rattle.symple_face.specs.PartsOf.{known_of}
use Rattle.worker_stream.specs.Degrees.{are_known, is_counted}
use Rattle.vert_base.proofs.Orders.{all_weaker}
use Rattle.round_laws.proofs.FoldPushWalk.{all_pairs}
use Rattle.mirror_table.proofs.PartLaws.{own_known}

pub known_says : (ds : List Degree) (vs : List ℕ) → are_known ds vs ≡ true → map (λ d. d.id.0) ds ≡ vs
known_says [] [] t = refl
known_says [] (v ∷ vs) t = absurd (true≢false (sym t))
known_says (d ∷ ds) [] t = absurd (true≢false (sym t))
known_says (d ∷ ds) (v ∷ vs) t =
    let parts = and_parts (v == d.id.0) (are_known ds vs) t in
    ap (λ q. q ∷ map (λ d. d.id.0) ds) (sym (eqb-true v d.id.0 parts.0)) ∙ ap (λ q. v ∷ q) (known_says ds vs parts.1)

known_self : (ds : List Degree) → are_known ds (map (λ d. d.id.0) ds) ≡ true
known_self [] = refl
known_self (d ∷ ds) = ap (λ q. q && are_known ds (map (λ d. d.id.0) ds)) (eq-eqb d.id.0 d.id.0 refl) ∙ known_self ds

pub known_passes : (ds : List Degree) (vs : List ℕ) → map (λ d. d.id.0) ds ≡ vs → are_known ds vs ≡ true
known_passes ds vs are = subst (λ (q : List ℕ). are_known ds q ≡ true) are (known_self ds)

all_from_test : {X : Type 0} (p : X → Bool) (xs : List X) → list_all p xs ≡ true → AllByRecursion (λ x. p x ≡ true) xs
all_from_test p [] t = tt
all_from_test p (x ∷ xs) t = let parts = and_parts (p x) (list_all p xs) t in (parts.0, all_from_test p xs parts.1)

test_from_all : {X : Type 0} (p : X → Bool) (xs : List X) → AllByRecursion (λ x. p x ≡ true) xs → list_all p xs ≡ true
test_from_all p [] all = refl
test_from_all p (x ∷ xs) all = ap (λ q. q && list_all p xs) all.0 ∙ test_from_all p xs all.1

-- what holds of those that pass a filter
from_filter : {X : Type 0} (P : X → Type 0) (p : X → Bool) (xs : List X) → AllByRecursion P (filter p xs) →
    AllByRecursion (λ x. p x ≡ true → P x) xs
from_filter P p [] all = tt
from_filter P p (x ∷ xs) all =
    ⊎_elim
    (λ (here : p x ≡ true). let given = rw here at all in (λ e. given.0, from_filter P p xs given.1))
    (λ (other : p x ≡ false). let given = rw other at all in
    (λ e. absurd (true≢false (sym e ∙ other)), from_filter P p xs given))
    (cases_Bool (p x))

module _ (ends : List ℕ) (m : ℕ) (ins outs : List Edge) where
  abbrev own : Degree → Bool
  own d = lies_in ends m d.id.0

  counts_of : (d : Degree) → is_counted ends m ins outs d ≡ true → own d ≡ true → d ≡ degree_in ins outs d.id.0
  counts_of d t here =
      let in_count : Bool = d.ins == length (bucket target d.id.0 ins) in
      let out_count : Bool = d.outs == length (bucket source d.id.0 outs) in
      ⊎_elim
      (λ (elsewhere : not (own d) ≡ true).
      let stays : not (own d) ≡ false = ap not here in absurd (true≢false (sym elsewhere ∙ stays)))
      (λ (counted : (in_count && out_count) ≡ true).
      let parts = and_parts in_count out_count counted in
      ap (λ q. record { id = d.id; ins = q; outs = d.outs }) (eqb-true d.ins _ parts.0)
      ∙ ap (λ q. record { id = d.id; ins = length (bucket target d.id.0 ins); outs = q }) (eqb-true d.outs _ parts.1))
      (or_cases (not (own d)) (in_count && out_count) t)

  counts_pass : (d : Degree) → (own d ≡ true → d ≡ degree_in ins outs d.id.0) → is_counted ends m ins outs d ≡ true
  counts_pass d counts =
      let in_count : Bool = d.ins == length (bucket target d.id.0 ins) in
      let out_count : Bool = d.outs == length (bucket source d.id.0 outs) in
      ⊎_elim
      (λ (here : own d ≡ true).
      let is = counts here in
      let first : in_count ≡ true = eq-eqb d.ins _ (ap (λ q. q.ins) is) in
      let second : out_count ≡ true = eq-eqb d.outs _ (ap (λ q. q.outs) is) in
      or_right (not (own d)) (in_count && out_count) (ap (λ q. q && out_count) first ∙ second))
      (λ (other : own d ≡ false). or_left (not (own d)) (in_count && out_count) (ap not other))
      (cases_Bool (own d))

  -- the own degrees are those of the chunk's vertices
  abbrev AreOwn : List Degree → Type 0
  AreOwn ds = filter (λ d. lies_in ends m d.id.0) ds ≡ map (degree_in ins outs) (chunk_vertices ends m)

  pub counted_passes : (ds : List Degree) → AreOwn ds → list_all (is_counted ends m ins outs) ds ≡ true
  counted_passes ds are =
      let P : Degree → Type 0 = λ d. d ≡ degree_in ins outs d.id.0 in
      let made : AllByRecursion P (map (degree_in ins outs) (chunk_vertices ends m)) =
      all_map P (degree_in ins outs) (chunk_vertices ends m)
      (all_true (λ v. P (degree_in ins outs v)) (λ v. refl) (chunk_vertices ends m)) in
      let here : AllByRecursion P (filter own ds) = subst (λ (q : List Degree). AllByRecursion P q) (sym are) made in
      test_from_all (is_counted ends m ins outs) ds
      (all_weaker (λ d. own d ≡ true → P d) (λ d. is_counted ends m ins outs d ≡ true) ds counts_pass
      (from_filter P own ds here))

  pub counted_says : (are : AreEnds 64 ends) (below : AreBelow (vertices_of ends) outs) (here : m < length ends)
      (ds : List Degree) →
      map (λ d. d.id.0) ds ≡ known_of ends outs m →
      list_all (is_counted ends m ins outs) ds ≡ true → AreOwn ds
  counted_says are below here ds known t =
      let g : Degree → Degree = λ d. degree_in ins outs d.id.0 in
      let mine = filter own ds in
      let each : AllByRecursion (λ d. d ≡ g d) mine =
      all_pairs (λ d. is_counted ends m ins outs d ≡ true) (λ d. own d ≡ true) (λ d. d ≡ g d) mine counts_of
      (all_filter (λ d. is_counted ends m ins outs d ≡ true) own ds (all_from_test (is_counted ends m ins outs) ds t))
      (all_passes own ds) in
      sym (map_itself mine)
      ∙ (map_same (λ d. d) g mine each
      ∙ (sym (map-map (degree_in ins outs) (λ d. d.id.0) mine)
      ∙ ap (map (degree_in ins outs))
      (sym (filter-map (lies_in ends m) (λ d. d.id.0) ds)
      ∙ (ap (filter (lies_in ends m)) known ∙ own_known 64 ends outs are below m here))))
