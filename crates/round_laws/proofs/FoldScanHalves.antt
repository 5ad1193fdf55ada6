-- The halves of a chunk, and the owner of a vertex.
use Rattle.std.proofs.Common.{◌≡◌, ◌<◌, ◌≤◌, ◌+◌, ◌-◌, ◌/◌, ℕ, zero, suc, Bool, true, false, List, [], ◌∷◌, length, refl, sym, ap, subst, ◌∙◌, arith, ⊎_elim}
use Rattle.std.specs.Prelude.{◌==◌, if◌then◌else◌, nat_le, nat_lt, slice_index}
use Rattle.std.proofs.lemmas.Bool.{and_parts, cases_lt, leb-true, ltb-true}
use Rattle.chunk_split.specs.Chunks.{AreEnds, vertices_of}
use Rattle.circulant_plan.specs.Ring.{cut_of, lies_in}
use Rattle.vert_base.specs.Ends.{start_of}
use Rattle.circulant_plan.proofs.ReadingLaws.{not_below as not_less}
use Rattle.circulant_plan.proofs.SpanLaws.{is_below}
use Rattle.symple_face.specs.CoreSight.{is_within}
use Rattle.symple_face.specs.Ideal.{owner_of}
use Rattle.symple_face.specs.Shapes.{half_in}
use Rattle.symple_face.specs.Source.{Source}
use Rattle.symple_face.proofs.ChunkLaws.{chunk_rises, lies_high, lies_is, lies_low, lies_not_above, lies_not_below}
use Rattle.round_laws.specs.IsIdeal.{half_at}

half_zero : (w : Bool) → w ≡ ((if w then 0 else 1) == 0)
half_zero true = refl
half_zero false = refl

-- a vertex of a chunk is within one of its halves
module _ (src : Source) (c v : ℕ) (lies : lies_in src.job.graph.ends c v ≡ true) where
  abbrev ends : List ℕ
  ends = src.job.graph.ends

  upper : (w : Bool) → is_within (half_in ends c 0) v ≡ w → is_within (half_in ends c 1) v ≡
      ((if w then 0 else 1) == 1)
  upper w is =
      let cut : ℕ = cut_of (start_of ends c) (slice_index ends c) in
      ⊎_elim
      (λ (below : v < cut).
      lies_not_below cut (slice_index ends c) v below
      ∙ ap (λ b. (if b then 0 else 1) == 1)
      (sym (lies_is (start_of ends c) cut v (lies_low ends c v lies) below) ∙ is))
      (λ (above : cut ≤ v).
      lies_is cut (slice_index ends c) v above (lies_high ends c v lies)
      ∙ ap (λ b. (if b then 0 else 1) == 1) (sym (lies_not_above (start_of ends c) cut v above) ∙ is))
      (cases_lt v cut)

  pub in_half : (h : ℕ) → h ≤ 1 → is_within (half_in ends c h) v ≡ (half_at src c v == h)
  in_half zero le = half_zero (is_within (half_in ends c 0) v)
  in_half (suc zero) le = upper (is_within (half_in ends c 0) v) refl
  in_half (suc (suc h)) le = absurd (omega arith)

-- what lies within a half lies in the chunk
pub half_within : (most : ℕ) (ends : List ℕ) (c h v : ℕ) → AreEnds most ends → c < length ends →
    is_within (half_in ends c h) v ≡ true → lies_in ends c v ≡ true
half_within most ends c h v are chunk inside = by h inside
  where
    rises : start_of ends c ≤ slice_index ends c
    rises = chunk_rises most ends are c chunk

    by : (h : ℕ) → is_within (half_in ends c h) v ≡ true → lies_in ends c v ≡ true
    by zero within =
        let cut : ℕ = cut_of (start_of ends c) (slice_index ends c) in
        let parts = and_parts (nat_le (start_of ends c) v) (nat_lt v cut) within in
        let low : start_of ends c ≤ v = leb-true (start_of ends c) v parts.0 in
        let high : v < start_of ends c + (slice_index ends c - start_of ends c + 1) / 2 = ltb-true v cut parts.1 in
        lies_is (start_of ends c) (slice_index ends c) v low (omega (arith, rises, low, high))
    by (suc h) within =
        let cut : ℕ = cut_of (start_of ends c) (slice_index ends c) in
        let parts = and_parts (nat_le cut v) (nat_lt v (slice_index ends c)) within in
        let low : start_of ends c + (slice_index ends c - start_of ends c + 1) / 2 ≤ v = leb-true cut v parts.0 in
        let high : v < slice_index ends c = ltb-true v (slice_index ends c) parts.1 in
        lies_is (start_of ends c) (slice_index ends c) v (omega (arith, low)) high

-- ---- the owner of a vertex
-- where the chunks begin if the first one begins there
abbrev start_from : ℕ → List ℕ → ℕ → ℕ
start_from first bounds zero = first
start_from first bounds (suc m) = slice_index bounds m

abbrev IsOwner : ℕ → List ℕ → ℕ → ℕ → Type 0
IsOwner first bounds v m = (start_from first bounds m ≤ v) × (v < slice_index bounds m)

next_owner : (first end v : ℕ) (rest : List ℕ) (m : ℕ) → IsOwner end rest v m → IsOwner first (end ∷ rest) v (m + 1)
next_owner first end v rest m is =
    let on : m + 1 ≡ suc m = omega arith in
    subst (IsOwner first (end ∷ rest) v) (sym on) (by m is)
  where
    by : (m : ℕ) → IsOwner end rest v m → IsOwner first (end ∷ rest) v (suc m)
    by zero is = is
    by (suc m) is = is

owner_from : (first : ℕ) (ends : List ℕ) (v : ℕ) → 1 ≤ length ends → first ≤ v → v < vertices_of ends →
    IsOwner first ends v (owner_of ends v)
owner_from first [] v some low lt = absurd (omega arith)
owner_from first (end ∷ ends) v some low lt =
    ⊎_elim
    (λ (below : v < end). subst (λ b. IsOwner first (end ∷ ends) v (if b then 0 else owner_of ends v + 1))
    (sym (is_below v end below)) (low, below))
    (λ (above : end ≤ v). subst (λ b. IsOwner first (end ∷ ends) v (if b then 0 else owner_of ends v + 1))
    (sym (not_less v end above))
    (later ends (λ some. owner_from end ends v some above) above lt))
    (cases_lt v end)
  where
    later : (rest : List ℕ) → (1 ≤ length rest → v < vertices_of rest → IsOwner end rest v (owner_of rest v)) →
        end ≤ v → v < vertices_of (end ∷ rest) → IsOwner first (end ∷ rest) v (owner_of rest v + 1)
    later [] more above low =
        let only : length (end ∷ []) - 1 ≡ 0 = omega arith in
        let here : v < end = subst (λ i. v < slice_index (end ∷ []) i) only low in
        absurd (omega (arith, here, above))
    later (next ∷ rest) more above low =
        let on : length (end ∷ next ∷ rest) - 1 ≡ suc (length (next ∷ rest) - 1) = omega arith in
        let lt : v < vertices_of (next ∷ rest) = subst (λ i. v < slice_index (end ∷ next ∷ rest) i) on low in
        next_owner first end v (next ∷ rest) (owner_of (next ∷ rest) v) (more (omega arith) lt)

-- a vertex lies in the chunk of its owner
pub owner_holds : (ends : List ℕ) (v : ℕ) → 1 ≤ length ends → v < vertices_of ends →
    lies_in ends (owner_of ends v) v ≡ true
owner_holds ends v some lt =
    let is = owner_from 0 ends v some (omega arith) lt in
    lies_is (start_of ends (owner_of ends v)) (slice_index ends (owner_of ends v)) v
    (subst (λ a. a ≤ v) (same (owner_of ends v)) is.0) is.1
  where
    same : (m : ℕ) → start_from 0 ends m ≡ start_of ends m
    same zero = refl
    same (suc m) = refl
