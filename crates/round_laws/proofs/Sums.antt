-- Sums over the chunks are those over all vertices, and sums over steps those over machines.
use Rattle.std.proofs.Common.{◌≡◌, ◌≢◌, ℕ, ℤ, zero, suc, ◌+◌, ◌-◌, ◌<◌, ◌≤◌, List, [], ◌∷◌, ◌++◌, length, map, sum, refl, ap, sym, ◌∙◌, arith, append-nil}
use Rattle.std.specs.Prelude.{slice_index}
use Rattle.std.specs.List.{filter, flat_map, range_with_len}
use Rattle.std.proofs.lemmas.List.Concat.{flat_map-append, length-flat_map}
use Rattle.std.proofs.lemmas.List.Sums.{sum-map, sum_by-append}
use Rattle.vert_base.specs.declared.value.Combine.{Combine}
use Rattle.vert_base.specs.declared.value.Combine.TheVariants.{First}
use Rattle.slot_merge.specs.Combine.{combined_of, neutral, total_of}
use Rattle.slot_merge.proofs.CombineLaws.{combined_of-comm, total_of-append}
use Rattle.chunk_split.specs.Chunks.{AreEnds, vertices_of}
use Rattle.circulant_plan.specs.Ring.{order_of}
use Rattle.vert_base.specs.Ends.{start_of}
use Rattle.circulant_plan.proofs.CircleLaws.{order_high, order_low}
use Rattle.circulant_plan.proofs.SpanLaws.{range_split}
use Rattle.graph_table.proofs.FilterLaws.{all_range, all_true, filter-flat_map, map-append, map-flat_map, map_same}
use Rattle.symple_face.specs.Parts.{chunk_vertices}
use Rattle.round_laws.specs.Sums.{ChunksCover, CountsByChunks, StepsAreMachines, SumsByChunks, SumsByMachines, TotalsByChunks, each}
use Rattle.symple_face.proofs.ChunkLaws.{chunk_rises}
use Rattle.state_laws.proofs.Sums.{sum-cons}

-- ---- lists of numbers
sum-append : (xs ys : List ℕ) → sum (xs ++ ys) ≡ sum xs + sum ys
sum-append xs ys = sum_by-append (λ x. x) xs ys

sum-flat_map : {X : Type 0} (f : X → List ℕ) (xs : List X) → sum (flat_map f xs) ≡ sum (map (λ x. sum (f x)) xs)
sum-flat_map f [] = refl
sum-flat_map f (x ∷ xs) =
    sum-append (f x) (flat_map f xs)
    ∙ ap (λ k. sum (f x) + k) (sum-flat_map f xs)
    ∙ sym (sum-cons (sum (f x)) (map (λ x. sum (f x)) xs))

pub length-each : {X Y : Type 0} (f : X → List Y) (xs : List X) →
    length (flat_map f xs) ≡ sum (map (λ x. length (f x)) xs)
length-each f xs = length-flat_map f xs ∙ sym (sum-map (λ x. length (f x)) xs)

sum_both : {X : Type 0} (f g : X → ℕ) (xs : List X) → sum (map (λ x. f x + g x) xs) ≡ sum (map f xs) + sum (map g xs)
sum_both f g [] = refl
sum_both f g (x ∷ xs) =
    omega (
      arith,
      sum_both f g xs,
      sum-cons (f x + g x) (map (λ x. f x + g x) xs),
      sum-cons (f x) (map f xs),
      sum-cons
          (g x) (map g xs),
    )

pub sum_none : {X : Type 0} (xs : List X) → sum (map (λ x. 0) xs) ≡ 0
sum_none [] = refl
sum_none (x ∷ xs) = omega (arith, sum_none xs, sum-cons 0 (map (λ x. 0) xs))

map_alike : {X Y : Type 0} (f g : X → Y) (xs : List X) → ((x : X) → f x ≡ g x) → map f xs ≡ map g xs
map_alike f g xs h = map_same f g xs (all_true (λ x. f x ≡ g x) h xs)

-- sums in either order
pub sum_swap :
    {X Y : Type 0} (f : X → Y → ℕ) (xs : List X) (ys : List Y) →
    sum (map (λ x. sum (map (f x) ys)) xs) ≡ sum (map (λ y. sum (map (λ x. f x y) xs)) ys)
sum_swap f [] ys = sym (sum_none ys)
sum_swap f (x ∷ xs) ys =
    sum-cons (sum (map (f x) ys)) (map (λ x. sum (map (f x) ys)) xs)
    ∙ ap (λ k. sum (map (f x) ys) + k) (sum_swap f xs ys)
    ∙ sym (sum_both (f x) (λ y. sum (map (λ x. f x y) xs)) ys)
    ∙ ap sum (map_alike (λ y. f x y + sum (map (λ x. f x y) xs)) (λ y. sum (map (λ x. f x y) (x ∷ xs))) ys
    (λ y. sym (sum-cons (f x y) (map (λ x. f x y) xs))))

-- a total is not changed by what a total begins with
pub total_alone :
    (op : Combine) → op ≢ First → (xs : List ℤ) → combined_of op (neutral op) (total_of op xs) ≡ total_of op xs
total_alone op other xs =
    combined_of-comm op other (neutral op) (total_of op xs)
    ∙ sym (total_of-append op other xs [])
    ∙ ap (total_of op) (append-nil xs)

total-flat_map :
    {X : Type 0} (op : Combine) → op ≢ First → (f : X → List ℤ) (xs : List X) →
    total_of op (flat_map f xs) ≡ total_of op (map (λ x. total_of op (f x)) xs)
total-flat_map op other f [] = refl
total-flat_map op other f (x ∷ xs) =
    let first : ℤ = total_of op (f x) in
    let rest : List ℤ = map (λ x. total_of op (f x)) xs in
    total_of-append op other (f x) (flat_map f xs)
    ∙ ap (combined_of op first) (total-flat_map op other f xs)
    ∙ sym (total_of-append op other (first ∷ []) rest
    ∙ ap (λ q. combined_of op q (total_of op rest)) (total_alone op other (f x)))

-- ---- chunks
module _ (most : ℕ) (ends : List ℕ) (are : AreEnds most ends) where
  chunks_up_to :
      (m : ℕ) → m ≤ length ends →
      flat_map (chunk_vertices ends) (range_with_len 0 m) ≡ range_with_len 0 (start_of ends m)
  chunks_up_to zero le = refl
  chunks_up_to (suc m) le =
      let a = start_of ends m in
      let b = slice_index ends m in
      let up : a ≤ b = chunk_rises most ends are m (omega arith) in
      let one : suc m ≡ m + 1 = omega arith in
      let whole : a + (b - a) ≡ b = omega arith in
      ap (λ q. flat_map (chunk_vertices ends) (range_with_len 0 q)) one
      ∙ ap (flat_map (chunk_vertices ends)) (range_split m 1 0 m (omega arith))
      ∙ flat_map-append (chunk_vertices ends) (range_with_len 0 m) (m ∷ [])
      ∙ ap (λ l. flat_map (chunk_vertices ends) (range_with_len 0 m) ++ l) (append-nil (chunk_vertices ends m))
      ∙ ap (λ l. l ++ chunk_vertices ends m) (chunks_up_to m (omega arith))
      ∙ sym (range_split a (b - a) 0 a (omega arith))
      ∙ ap (range_with_len 0) whole

pub chunks_cover : ChunksCover
chunks_cover most ends are =
    let some : suc (length ends - 1) ≡ length ends = let h = are.0 in omega arith in
    chunks_up_to most ends are (length ends) (omega arith)
    ∙ ap (λ q. range_with_len 0 (start_of ends q)) (sym some)

-- what is made of each vertex, chunk by chunk
pub lists_by_chunks :
    {X : Type 0} (most : ℕ) (ends : List ℕ) (f : ℕ → X) → AreEnds most ends →
    flat_map (λ m. map f (chunk_vertices ends m)) (range_with_len 0 (length ends)) ≡ each (vertices_of ends) f
lists_by_chunks most ends f are =
    sym (map-flat_map f (chunk_vertices ends) (range_with_len 0 (length ends)))
    ∙ ap (map f) (chunks_cover most ends are)

pub sums_by_chunks : SumsByChunks
sums_by_chunks most ends f are =
    sym (sum-flat_map (λ m. map f (chunk_vertices ends m)) (range_with_len 0 (length ends)))
    ∙ ap sum (sym (map-flat_map f (chunk_vertices ends) (range_with_len 0 (length ends)))
    ∙ ap (map f) (chunks_cover most ends are))

pub counts_by_chunks : CountsByChunks
counts_by_chunks most ends test are =
    sym (length-each (λ m. filter test (chunk_vertices ends m)) (range_with_len 0 (length ends)))
    ∙ ap length (sym (filter-flat_map test (chunk_vertices ends) (range_with_len 0 (length ends)))
    ∙ ap (filter test) (chunks_cover most ends are))

pub totals_by_chunks : TotalsByChunks
totals_by_chunks most ends op f are other =
    sym (total-flat_map op other (λ m. map f (chunk_vertices ends m)) (range_with_len 0 (length ends)))
    ∙ ap (total_of op)
    (sym (map-flat_map f (chunk_vertices ends) (range_with_len 0 (length ends)))
    ∙ ap (map f) (chunks_cover most ends are))

-- ---- machines
map_shift :
    (f g : ℕ → ℕ) (k c e : ℕ) → ((i : ℕ) → i < k → f (c + i) ≡ g (e + i)) →
    map f (range_with_len c k) ≡ map g (range_with_len e k)
map_shift f g zero c e h = refl
map_shift f g (suc k) c e h =
    let first : f c ≡ g e = let c' : c + 0 ≡ c = omega arith in let e' : e + 0 ≡ e = omega arith in sym (ap f c')
    ∙ (h 0 (omega arith) ∙ ap g e') in
    let rest : map f (range_with_len (c + 1) k) ≡ map g (range_with_len (e + 1) k) =
    map_shift f g k (c + 1) (e + 1) (λ i lt.
    let lt' : i + 1 < suc k = omega arith in
    let c' : c + 1 + i ≡ c + (i + 1) = omega arith in
    let e' : e + 1 + i ≡ e + (i + 1) = omega arith in
    ap f c' ∙ (h (i + 1) lt' ∙ sym (ap g e'))) in
    ap (λ x. x ∷ map f (range_with_len (c + 1) k)) first ∙ ap (λ xs. g e ∷ xs) rest

sum_split :
    (f : ℕ → ℕ) (a b : ℕ) →
    sum (map f (range_with_len 0 (a + b))) ≡ sum (map f (range_with_len 0 a)) + sum (map f (range_with_len a b))
sum_split f a b =
    ap (λ l. sum (map f l)) (range_split a b 0 a (omega arith))
    ∙ ap sum (map-append f (range_with_len 0 a) (range_with_len a b))
    ∙ sum-append (map f (range_with_len 0 a)) (map f (range_with_len a b))

pub steps_are_machines : StepsAreMachines
steps_are_machines p d f lt =
    let a = p - 1 - d in
    let steps : a + (d + 1) ≡ p = omega arith in
    let machines : (d + 1) + a ≡ p = omega arith in
    let g : ℕ → ℕ = λ step. f (order_of d step p) in
    let early : map g (range_with_len 0 a) ≡ map f (range_with_len (d + 1) a) =
    map_shift g f a 0 (d + 1)
    (λ i l. let at : order_of d (0 + i) p ≡ d + 1 + i = order_low d (0 + i) p (omega arith)
    ∙ omega arith in ap f at) in
    let late : map g (range_with_len a (d + 1)) ≡ map f (range_with_len 0 (d + 1)) =
    map_shift g f (d + 1) a 0
    (λ i l. let at : order_of d (a + i) p ≡ 0 + i = order_high d (a + i) p (omega arith) lt (omega arith)
    ∙ omega arith in ap f at) in
    ap (λ q. sum (each q g)) (sym steps)
    ∙ sum_split g a (d + 1)
    ∙ ap (λ l. sum l + sum (map g (range_with_len a (d + 1)))) early
    ∙ ap (λ l. sum (map f (range_with_len (d + 1) a)) + sum l) late
    ∙ swapped (sum (map f (range_with_len (d + 1) a))) (sum (map f (range_with_len 0 (d + 1))))
    ∙ sym (sum_split f (d + 1) a)
    ∙ ap (λ q. sum (each q f)) machines
  where
    swapped : (x y : ℕ) → x + y ≡ y + x
    swapped x y = omega arith

pub sums_by_machines : SumsByMachines
sums_by_machines p f =
    ap sum (map_same (λ d. sum (each p (λ step. f (order_of d step p) d)))
    (λ d. sum (each p (λ m. f m d))) (range_with_len 0 p)
    (all_range (λ d. sum (each p (λ step. f (order_of d step p) d)) ≡ sum (each p (λ m. f m d))) 0 p
    (λ d low high. steps_are_machines p d (λ m. f m d) (omega arith))))
    ∙ sum_swap (λ d m. f m d) (range_with_len 0 p) (range_with_len 0 p)
