-- The test of a part's edges decides whether they are in the order and the chunk of a part.
use Rattle.std.proofs.Common.{◌≡◌, ℕ, ◌<◌, ◌≤◌, ◌∙◌, ◌⊎◌, inl, inr, ⊎_elim, Bool, true, false, ◌&&◌, List, [], ◌∷◌, length, refl, sym, ap, subst, arith}
use Rattle.std.specs.Prelude.{◌==◌, nat_le, nat_lt}
use Rattle.std.specs.List.{All, AllByRecursion}
use Rattle.std.proofs.lemmas.Bool.{and_parts, cases_Bool, cases_eq, eq-eqb, eqb-true, le-leb, leb-true, ltb-true, or_cases, or_left, or_right, cases_lt, true≢false}
use Rattle.std.proofs.lemmas.Bool.Decides.{nat_tests}
use Rattle.std.proofs.lemmas.List.Elements.{All-from_recursion, recursion_from_All}
use Rattle.vert_base.specs.declared.graph.Edge.{Edge}
use Rattle.vert_base.specs.Neighbours.{bucket, in_order}
use Rattle.vert_base.proofs.Orders.{Rises, all_weaker, bucket_keys, filter-in_order, in_order_below, in_order_from_sort, in_order_rises, in_order_sorted, part-two_orders}
use Rattle.chunk_split.specs.Chunks.{AreEnds, vertices_of}
use Rattle.circulant_plan.specs.Ring.{lies_in}
use Rattle.symple_face.proofs.ChunkLaws.{chunk_within, lies_high}
use Rattle.worker_stream.specs.Orders.{are_edges_behind, fits_chunk, may_follow}
use Rattle.round_laws.proofs.FoldPushWalk.{all_pairs}

-- what the test of two edges says
abbrev Follows : ℕ × ℕ → ℕ × ℕ → Type 0
Follows before here = (before.0 < here.0) ⊎ ((before.0 ≡ here.0) × (before.1 ≤ here.1))

follows : (before here : ℕ × ℕ) → may_follow before here ≡ true → Follows before here
follows before here e =
    ⊎_elim
    (λ (less : nat_lt before.0 here.0 ≡ true). inl (ltb-true _ _ less))
    (λ (same : (before.0 == here.0 && nat_le before.1 here.1) ≡ true).
    let parts = and_parts (before.0 == here.0) (nat_le before.1 here.1) same in
    inr (eqb-true _ _ parts.0, leb-true _ _ parts.1))
    (or_cases (nat_lt before.0 here.0) (before.0 == here.0 && nat_le before.1 here.1) e)

both : (a b : Bool) → a ≡ true → b ≡ true → (a && b) ≡ true
both a b h g = ap (λ q. q && b) h ∙ g

less_is : (a b : ℕ) → a < b → nat_lt a b ≡ true
less_is a b lt = grind (arith, nat_tests)

may : (before here : ℕ × ℕ) → Follows before here → may_follow before here ≡ true
may before here h =
    ⊎_elim
    (λ (less : before.0 < here.0).
    or_left (nat_lt before.0 here.0) (before.0 == here.0 && nat_le before.1 here.1) (less_is _ _ less))
    (λ (same : (before.0 ≡ here.0) × (before.1 ≤ here.1)).
    or_right (nat_lt before.0 here.0) (before.0 == here.0 && nat_le before.1 here.1)
    (both (before.0 == here.0) (nat_le before.1 here.1) (eq-eqb _ _ same.0) (le-leb _ _ same.1)))
    h

follows_on : (a b c : ℕ × ℕ) → Follows a b → Follows b c → Follows a c
follows_on a b c (inl h) (inl g) = inl (omega arith)
follows_on a b c (inl h) (inr g) = let same = g.0 in inl (omega arith)
follows_on a b c (inr h) (inl g) = let same = h.0 in inl (omega arith)
follows_on a b c (inr h) (inr g) =
    let first = h.1 in
    let second = g.1 in
    inr (h.0 ∙ g.0, omega arith)

-- ---- buckets, one element more
bucket_has : {X : Type 0} (P : X → Type 0) (key : X → ℕ) (v : ℕ) (xs : List X) → AllByRecursion P xs →
    AllByRecursion P (bucket key v xs)
bucket_has P key v [] all = tt
bucket_has P key v (x ∷ xs) all =
    ⊎_elim
    (λ (here : (key x == v) ≡ true). rw here (all.0, bucket_has P key v xs all.1))
    (λ (other : (key x == v) ≡ false). rw other (bucket_has P key v xs all.1))
    (cases_Bool (key x == v))

-- what holds in a bucket holds of all elements with its key
from_bucket : {X : Type 0} (P : X → Type 0) (key : X → ℕ) (v : ℕ) (xs : List X) →
    AllByRecursion P (bucket key v xs) → AllByRecursion (λ x. key x ≡ v → P x) xs
from_bucket P key v [] all = tt
from_bucket P key v (x ∷ xs) all =
    ⊎_elim
    (λ (here : (key x == v) ≡ true).
    let given = rw here at all in (λ e. given.0, from_bucket P key v xs given.1))
    (λ (other : (key x == v) ≡ false).
    let given = rw other at all in
    (λ e. absurd (true≢false (sym (eq-eqb (key x) v e) ∙ other)), from_bucket P key v xs given))
    (cases_Bool (key x == v))

module _ (major minor : Edge → ℕ) where
  abbrev pair_of : Edge → ℕ × ℕ
  pair_of e = (major e, minor e)

  -- each edge may follow each earlier one
  abbrev Ordered : List Edge → Type 0
  Ordered [] = Unit {0}
  Ordered (e ∷ es) = AllByRecursion (λ f. Follows (pair_of e) (pair_of f)) es × Ordered es

  major_rises : (es : List Edge) → Ordered es → Rises major es
  major_rises [] h = tt
  major_rises (e ∷ es) h = (
    all_weaker (λ f. Follows (pair_of e) (pair_of f)) (λ f. major e ≤ major f) es (λ f g.
        ⊎_elim (λ (less : major e < major f). let le : major e ≤ major f = omega arith in le)
        (λ (same : (major e ≡ major f) × (minor e ≤ minor f)).
        let is = same.0 in let le : major e ≤ major f = omega arith in le) g) h.0,
    major_rises es h.1,
  )

  minor_rises : (v : ℕ) (es : List Edge) → Ordered es → Rises minor (bucket major v es)
  minor_rises v [] h = tt
  minor_rises v (e ∷ es) h =
      ⊎_elim
      (λ (here : (major e == v) ≡ true).
      rw here (
        all_pairs (λ f. Follows (pair_of e) (pair_of f)) (λ f. major f ≡ v) (λ f. minor e ≤ minor f) (bucket major v es)
            (λ f g at.
            ⊎_elim
            (λ (less : major e < major f).
            let is : major e ≡ v = eqb-true _ _ here in
            let le : minor e ≤ minor f = omega arith in le)
            (λ (same : (major e ≡ major f) × (minor e ≤ minor f)). same.1) g)
            (bucket_has (λ f. Follows (pair_of e) (pair_of f)) major v es h.0) (bucket_keys major v es),
        minor_rises v es h.1,
      ))
      (λ (other : (major e == v) ≡ false). rw other (minor_rises v es h.1))
      (cases_Bool (major e == v))

  rest_rises : (v : ℕ) (e : Edge) (es : List Edge) → Rises minor (bucket major v (e ∷ es)) →
      Rises minor (bucket major v es)
  rest_rises v e es up =
      ⊎_elim
      (λ (here : (major e == v) ≡ true). let given = rw here at up in given.1)
      (λ (other : (major e == v) ≡ false). let given = rw other at up in given)
      (cases_Bool (major e == v))

  first_rises : (e : Edge) (es : List Edge) → Rises minor (bucket major (major e) (e ∷ es)) →
      AllByRecursion (λ f. minor e ≤ minor f) (bucket major (major e) es)
  first_rises e es up =
      let here : (major e == major e) ≡ true = eq-eqb _ _ refl in
      let given = rw here at up in
      given.0

  ordered : (n : ℕ) (es : List Edge) → Rises major es → AllByRecursion (λ e. major e < n) es →
      ((v : ℕ) → v < n → Rises minor (bucket major v es)) → Ordered es
  ordered n [] up low each = tt
  ordered n (e ∷ es) up low each = (
    all_pairs (λ f. major e ≤ major f) (λ f. major f ≡ major e → minor e ≤ minor f) (λ f.
        Follows (pair_of e) (pair_of f)) es
        (λ f le then.
        ⊎_elim
        (λ (less : major e < major f). inl less)
        (λ (not_less : major f ≤ major e).
        let same : major e ≡ major f = omega arith in inr (same, then (sym same)))
        (cases_lt (major e) (major f)))
        up.0 (from_bucket (λ f. minor e ≤ minor f) major (major e) es (first_rises e es (each (major e) low.0))),
    ordered n es up.1 low.1 (λ v lt. rest_rises v e es (each v lt)),
  )

  -- the edges are in order, and each has its minor end in the chunk
  pub record IsInPlace (ends : List ℕ) (m : ℕ) (es : List Edge) : Type 0 where
    pub order : es ≡ in_order major (vertices_of ends) (in_order minor (vertices_of ends) es)
    pub chunk : All (λ e. lies_in ends m (minor e) ≡ true) es

  module _ (ends : List ℕ) (m : ℕ) where
    abbrev Fits : Edge → Type 0
    Fits e = (lies_in ends m (minor e) ≡ true) × (major e < vertices_of ends)

    test_says : (es : List Edge) (before : ℕ × ℕ) → are_edges_behind ends m major minor before es ≡ true →
        AllByRecursion Fits es × (AllByRecursion (λ e. Follows before (pair_of e)) es × Ordered es)
    test_says [] before t = (tt, (tt, tt))
    test_says (e ∷ es) before t =
        let fits = fits_chunk ends m (pair_of e) in
        let outer = and_parts (fits && may_follow before (pair_of e))
        (are_edges_behind ends m major minor (pair_of e) es) t in
        let inner = and_parts fits (may_follow before (pair_of e)) outer.0 in
        let fit = and_parts (lies_in ends m (minor e)) (nat_lt (major e) (vertices_of ends)) inner.0 in
        let here = follows before (pair_of e) inner.1 in
        let more = test_says es (pair_of e) outer.1 in (
          ((fit.0, ltb-true _ _ fit.1), more.0),
          (
            (
              here,
              all_weaker (λ g. Follows (pair_of e) (pair_of g)) (λ g. Follows before (pair_of g)) es (λ g h.
                  follows_on before (pair_of e) (pair_of g) here h) more.1.0,
            ),
            (more.1.0, more.1.1),
          ),
        )

    test_passes : (es : List Edge) (before : ℕ × ℕ) → AllByRecursion Fits es →
        AllByRecursion (λ e. Follows before (pair_of e)) es → Ordered es →
        are_edges_behind ends m major minor before es ≡ true
    test_passes [] before fits first up = refl
    test_passes (e ∷ es) before fits first up =
        both (fits_chunk ends m (pair_of e) && may_follow before (pair_of e))
        (are_edges_behind ends m major minor (pair_of e) es)
        (both (fits_chunk ends m (pair_of e)) (may_follow before (pair_of e))
        (both (lies_in ends m (minor e)) (nat_lt (major e) (vertices_of ends)) fits.0.0 (less_is _ _ fits.0.1))
        (may before (pair_of e) first.0))
        (test_passes es (pair_of e) fits.1 up.0 up.1)

    first_of_all : (es : List Edge) → AllByRecursion (λ e. Follows (0, 0) (pair_of e)) es
    first_of_all [] = tt
    first_of_all (e ∷ es) = (
      ⊎_elim (λ (same : 0 ≡ major e). inr (same, omega arith)) (λ (other : 0 ≡ major e → ⊥). inl (omega arith))
          (cases_eq 0 (major e)),
      first_of_all es,
    )

    pub tested_below : (es : List Edge) → are_edges_behind ends m major minor (0, 0) es ≡ true →
        All (λ e. major e < vertices_of ends) es
    tested_below es t = All-from_recursion (λ e. major e < vertices_of ends) es
        (all_weaker Fits (λ e. major e < vertices_of ends) es (λ e h. h.1) (test_says es (0, 0) t).0)

    module _ (are : AreEnds 64 ends) (here : m < length ends) where
      minors_below : (es : List Edge) → AllByRecursion (λ e. lies_in ends m (minor e) ≡ true) es →
          AllByRecursion (λ e. minor e < vertices_of ends) es
      minors_below es all =
          all_weaker (λ e. lies_in ends m (minor e) ≡ true) (λ e. minor e < vertices_of ends) es (λ e h.
          let high = lies_high ends m (minor e) h in
          let top = chunk_within 64 ends are m here in
          omega arith) all

      pub in_place : (es : List Edge) → are_edges_behind ends m major minor (0, 0) es ≡ true → IsInPlace ends m es
      in_place es t =
          let n = vertices_of ends in
          let said = test_says es (0, 0) t in
          let lies : AllByRecursion (λ e. lies_in ends m (minor e) ≡ true) es =
          all_weaker Fits (λ e. lies_in ends m (minor e) ≡ true) es (λ e h. h.0) said.0 in
          let low : AllByRecursion (λ e. minor e < n) es = minors_below es lies in
          record {
            order =
                in_order_from_sort major n (in_order minor n es) es (major_rises es said.1.1)
                (all_weaker Fits (λ e. major e < n) es (λ e h. h.1) said.0)
                (λ v. sym (filter-in_order (λ e. major e == v) minor n es
                ∙ in_order_sorted minor n (bucket major v es) (minor_rises v es said.1.1)
                (bucket_has (λ e. minor e < n) major v es low)));
            chunk = All-from_recursion (λ e. lies_in ends m (minor e) ≡ true) es lies;
          }

      pub in_place_passes : (es : List Edge) → IsInPlace ends m es →
          are_edges_behind ends m major minor (0, 0) es ≡ true
      in_place_passes es h =
          let n = vertices_of ends in
          let up : Rises major es = subst (λ (q : List Edge). Rises major q) (sym h.order)
          (in_order_rises major n (in_order minor n es)) in
          let low : AllByRecursion (λ e. major e < n) es =
          subst (λ (q : List Edge). AllByRecursion (λ e. major e < n) q) (sym h.order)
          (in_order_below major n (in_order minor n es)) in
          let each : (v : ℕ) → v < n → Rises minor (bucket major v es) = λ v lt.
          subst (λ (q : List Edge). Rises minor q)
          (sym (ap (bucket major v) h.order ∙ part-two_orders major minor n es v lt))
          (in_order_rises minor n (bucket major v es)) in
          test_passes es (0, 0)
          (all_pairs (λ e. lies_in ends m (minor e) ≡ true) (λ e. major e < n) Fits es (λ e a b. (a, b))
          (recursion_from_All (λ e. lies_in ends m (minor e) ≡ true) es h.chunk) low)
          (first_of_all es) (ordered n es up low each)

      -- and so both ends of each are vertices
      pub placed_below : (es : List Edge) → IsInPlace ends m es →
          AllByRecursion (λ e. (major e < vertices_of ends) × (minor e < vertices_of ends)) es
      placed_below es h =
          let n = vertices_of ends in
          all_pairs (λ e. major e < n) (λ e. minor e < n) (λ e. (major e < n) × (minor e < n)) es (λ e a b. (a, b))
          (subst (λ (q : List Edge). AllByRecursion (λ e. major e < n) q) (sym h.order)
          (in_order_below major n (in_order minor n es)))
          (minors_below es (recursion_from_All (λ e. lies_in ends m (minor e) ≡ true) es h.chunk))
