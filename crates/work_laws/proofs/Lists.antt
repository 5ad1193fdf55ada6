-- The lists of vertices of a part hold own ones, or those that there are.
use Rattle.std.proofs.Common.{◌≡◌, ◌≢◌, ◌<◌, ◌≤◌, ◌+◌, ◌-◌, ◌==◌, ◌^◌, ℕ, zero, suc, Bool, true, false, ◌&&◌, ◌||◌, List, [], ◌∷◌, length, All, refl, sym, ap, subst, ◌∙◌, arith}
use Rattle.std.specs.Prelude.{filter, if◌then◌else◌, slice_index, slice_index_or}
use Rattle.std.specs.List.{list_any, range_with_len}
use Rattle.std.proofs.lemmas.Bool.{and_parts, eqb-true, ne_eqb, true≢false}
use Rattle.std.proofs.lemmas.List.Elements.{All-cons, All-filter, All-head, All-nil, All-tail}
use Rattle.vert_base.specs.declared.graph.Edge.{Edge}
use Rattle.vert_base.specs.Neighbours.{source, target}
use Rattle.chunk_split.specs.Chunks.{vertices_of}
use Rattle.circulant_plan.specs.Ring.{chunk_of, cut_of, half_of, lies_in}
use Rattle.vert_base.specs.Ends.{start_of}
use Rattle.instrument.specs.declared.split.Split.{Split}
use Rattle.symple_face.specs.Lawful.{CanRun}
use Rattle.symple_face.specs.Parts.{PlainPart, edges_between, ends_met, push_list, refresh_list}
use Rattle.symple_face.specs.Shapes.{half_in, size_of}
use Rattle.symple_face.proofs.ChunkLaws.{chunk_rises, chunk_within}
use Rattle.symple_face.proofs.ListLaws.{other_list}
use Rattle.work_laws.proofs.Partials.{over_range}

all_filtered : {X : Type 0} (p : X → Bool) (P : X → Type 0) → ((x : X) → p x ≡ true → P x) → (xs : List X) →
    All P (filter p xs)
all_filtered p P h [] = All-nil P
all_filtered p P h (x ∷ xs) = by (p x) refl (all_filtered p P h xs)
  where
    by : (b : Bool) → p x ≡ b → All P (filter p xs) → All P (if b then x ∷ filter p xs else filter p xs)
    by true e rest = All-cons P x (filter p xs) (h x e) rest
    by false e rest = rest

any_end : (end : Edge → ℕ) (P : ℕ → Type 0) (v : ℕ) (es : List Edge) → list_any (λ e. end e == v) es ≡ true →
    All (λ e. P (end e)) es → P v
any_end end P v [] h all = absurd (true≢false (sym h))
any_end end P v (e ∷ es) h all = by (end e == v) refl h
    (λ more. any_end end P v es more (All-tail (λ e. P (end e)) e es all))
  where
    by : (b : Bool) → (end e == v) ≡ b → (b || list_any (λ e. end e == v) es) ≡ true →
        (list_any (λ e. end e == v) es ≡ true → P v) → P v
    by true same any rest = subst P (eqb-true (end e) v same) (All-head (λ e. P (end e)) e es all)
    by false same any rest = rest any

-- what holds of an end of each edge holds of the vertices met
met_are : (end : Edge → ℕ) (P : ℕ → Type 0) (n : ℕ) (es : List Edge) → All (λ e. P (end e)) es →
    All P (ends_met end n es)
met_are end P n es all = all_filtered (λ v. list_any (λ e. end e == v) es) P (λ v met. any_end end P v es met all)
    (range_with_len 0 n)

met_small : (end : Edge → ℕ) (n most : ℕ) (es : List Edge) → n ≤ most → All (λ v. v < most) (ends_met end n es)
met_small end n most es few =
    All-filter (λ v. list_any (λ e. end e == v) es) (λ v. v < most) (range_with_len 0 n)
    (over_range (λ v. v < most) 0 n (λ v low high. omega (arith, high, few)))

module _ (part : PlainPart) (split : Split) (can : CanRun part split) (k : ℕ) (within : k < part.at.machines)
    (other : k ≢ part.at.machine) where
  apart : (k == part.at.machine) ≡ false
  apart = ne_eqb k part.at.machine other

  -- the vertices of which machine k is told lie in the own chunk
  pub refresh_to_own : All (λ v. lies_in part.ends part.at.machine v ≡ true) (slice_index_or part.refresh_to k [])
  refresh_to_own =
      let m : ℕ = part.at.machine in
      let P : ℕ → Type 0 = λ v. lies_in part.ends m v ≡ true in
      let is : slice_index_or part.refresh_to k [] ≡ refresh_list part.ends m k part.push =
      ap (λ ls. slice_index_or ls k []) can.whole.refresh_to
      ∙ other_list part.at.machines m k (λ k. refresh_list part.ends m k part.push) within (apart) in
      subst (All P) (sym is)
      (met_are target P (vertices_of part.ends) (edges_between part.ends k m part.push)
      (all_filtered (λ e. lies_in part.ends k (source e) && lies_in part.ends m (target e)) (λ e. P (target e))
      (λ e both. (and_parts (lies_in part.ends k (source e)) (lies_in part.ends m (target e)) both).1) part.push))

  -- and so those that send to machine k
  pub push_to_own : All (λ v. lies_in part.ends part.at.machine v ≡ true) (slice_index_or part.push_to k [])
  push_to_own =
      let m : ℕ = part.at.machine in
      let P : ℕ → Type 0 = λ v. lies_in part.ends m v ≡ true in
      let is : slice_index_or part.push_to k [] ≡ push_list part.ends m k part.scan =
      ap (λ ls. slice_index_or ls k []) can.whole.push_to
      ∙ other_list part.at.machines m k (λ k. push_list part.ends m k part.scan) within (apart) in
      subst (All P) (sym is)
      (met_are source P (vertices_of part.ends) (edges_between part.ends m k part.scan)
      (all_filtered (λ e. lies_in part.ends m (source e) && lies_in part.ends k (target e)) (λ e. P (source e))
      (λ e both. (and_parts (lies_in part.ends m (source e)) (lies_in part.ends k (target e)) both).0) part.scan))

  pub mirrors_small : All (λ v. v < 2 ^ 32) (slice_index_or part.refresh_of k [])
  mirrors_small =
      let m : ℕ = part.at.machine in
      let few = can.whole.within in
      let is : slice_index_or part.refresh_of k [] ≡ refresh_list part.ends k m part.scan =
      ap (λ ls. slice_index_or ls k []) can.whole.refresh_of
      ∙ other_list part.at.machines m k (λ k. refresh_list part.ends k m part.scan) within (apart) in
      subst (All (λ v. v < 2 ^ 32)) (sym is)
      (met_small target (vertices_of part.ends) (2 ^ 32) (edges_between part.ends m k part.scan) (omega (arith, few)))

-- ---- chunks and halves
pub chunk_low : (m s p : ℕ) → 1 ≤ p → chunk_of m s p < p
chunk_low m s p some = omega arith

cut_low : (a b : ℕ) → a ≤ b → cut_of a b ≤ b
cut_low a b rises = omega (arith, rises)

half_below : (a b h v : ℕ) → a ≤ b → (half_of a b h).0 ≤ v →
    v < (half_of a b h).0 + ((half_of a b h).1 - (half_of a b h).0) → v < b
half_below a b zero v rises low high = let cut = cut_low a b rises in omega (arith, low, high, cut)
half_below a b (suc h) v rises low high = omega (arith, low, high)

pub half_small : (part : PlainPart) (split : Split) (c h : ℕ) → CanRun part split → c < part.at.machines →
    All (λ v. v < 2 ^ 32) (range_with_len (half_in part.ends c h).0 (size_of (half_in part.ends c h)))
half_small part split c h can within =
    let whole = can.whole in
    let few = whole.within in
    let a : ℕ = start_of part.ends c in
    let b : ℕ = slice_index part.ends c in
    let count : c < length part.ends = omega (arith, within, whole.machine) in
    let rises = chunk_rises 64 part.ends can.ends c count in
    let top = chunk_within 64 part.ends can.ends c count in
    over_range (λ v. v < 2 ^ 32) (half_of a b h).0 ((half_of a b h).1 - (half_of a b h).0)
    (λ v low high. let under = half_below a b h v rises low high in omega (arith, under, top, few))
