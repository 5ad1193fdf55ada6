-- The members with the machines of a chunk, in the order of its steps, are the neighbours in the order of the loop.
use Rattle.vert_base.proofs.Orders.{in_order_below, in_order_rises}
use Rattle.std.proofs.Common.{◌≡◌, ℕ, zero, suc, ◌+◌, ◌-◌, ◌<◌, ◌≤◌, true, false, nat_lt, leb, List, [], ◌∷◌, ◌++◌, length, get_or, slice_index, refl, ap, sym, ◌∙◌, arith, ⊎_elim}
use Rattle.std.specs.Prelude.{◌==◌}
use Rattle.std.specs.List.{filter, flat_map, range_with_len}
use Rattle.std.proofs.lemmas.Bool.{cases_lt}
use Rattle.std.proofs.lemmas.Bool.Decides.{nat_tests}
use Rattle.std.proofs.lemmas.List.Concat.{flat_map-append}
use Rattle.std.proofs.Math.Nat.{mod-lt}
use Rattle.vert_base.specs.declared.graph.Edge.{Edge}
use Rattle.vert_base.specs.Neighbours.{source, target, ins_of, turned, turn_of, neighbours_of}
use Rattle.circulant_plan.specs.Ring.{AreEndsUpTo, order_of, lies_in, IsInChunk, members_with, members_by_steps}
use Rattle.vert_base.specs.Ends.{start_of}
use Rattle.circulant_plan.specs.Laws.{TurnsAtItsEnd, ReadsInTurn, ReadsByParts}
use Rattle.circulant_plan.proofs.SpanLaws.{span, by_machines, by_machines_is, rises_far, range_split, flat_map_shift, is_below, span_to_end, span_from_start}

-- where chunk m starts; past the last chunk it is n
abbrev pub bound : ℕ → List ℕ → ℕ → ℕ
bound n ends zero = 0
bound n ends (suc m) = get_or ends m n

get_or_any : (xs : List ℕ) (k d e : ℕ) → k < length xs → get_or xs k d ≡ get_or xs k e
get_or_any [] k d e lt = absurd (omega arith)
get_or_any (x ∷ xs) zero d e lt = refl
get_or_any (x ∷ xs) (suc k) d e lt = get_or_any xs k d e (omega arith)

get_or_outside : (xs : List ℕ) (k d : ℕ) → length xs ≤ k → get_or xs k d ≡ d
get_or_outside [] k d le = refl
get_or_outside (x ∷ xs) zero d le = absurd (omega arith)
get_or_outside (x ∷ xs) (suc k) d le = get_or_outside xs k d (omega arith)

pub lies_above : (ends : List ℕ) (d v : ℕ) → lies_in ends d v ≡ true → start_of ends d ≤ v
lies_above ends d v e = grind (arith, nat_tests)

pub lies_below : (ends : List ℕ) (d v : ℕ) → lies_in ends d v ≡ true → v < slice_index ends d
lies_below ends d v e = grind (arith, nat_tests)

pub lies_is : (ends : List ℕ) (d v : ℕ) → IsInChunk ends d v → lies_in ends d v ≡ true
lies_is ends d v here = let above = here.0 in let below = here.1 in grind (arith, nat_tests)

pub not_below : (a b : ℕ) → b ≤ a → nat_lt a b ≡ false
not_below a b h = grind (arith, nat_tests)

pub order_within : (d s p : ℕ) → 1 ≤ p → order_of d s p < p
order_within d s p some = mod-lt (d + 1 + s) (omega arith)

turn_from : (ends : List ℕ) (d v : ℕ) → ((m : ℕ) → m < d → slice_index ends m ≤ v) →
    v < slice_index ends d → d < length ends → turn_of ends v ≡ slice_index ends d
turn_from [] d v below above inside = absurd (omega arith)
turn_from (end ∷ ends) zero v below above inside =
    let here : nat_lt v end ≡ true = is_below v end above in
    rw here refl
turn_from (end ∷ ends) (suc d) v below above inside =
    let later : nat_lt v end ≡ false = not_below v end (below 0 (omega arith)) in
    rw later (turn_from ends d v (λ m less. below (suc m) (omega arith)) above (omega arith))

module _ (n p : ℕ) (ends : List ℕ) (are : AreEndsUpTo n p ends) where
  pub end_is : (m : ℕ) → m < p → slice_index ends m ≡ bound n ends (m + 1)
  end_is m lt =
      let inside : m < length ends = omega (arith, are.count) in
      let on : suc m ≡ m + 1 = omega arith in
      get_or_any ends m 0 n inside ∙ ap (bound n ends) on

  pub start_is : (m : ℕ) → m < p → start_of ends m ≡ bound n ends m
  start_is zero lt = refl
  start_is (suc m) lt = get_or_any ends m 0 n (omega (arith, are.count))

  bound_past : (m : ℕ) → p ≤ m → bound n ends m ≡ n
  bound_past zero le = absurd (omega (arith, are.some))
  bound_past (suc m) le =
      ⊎_elim
      (λ (lt : m < p).
      let inside : m < length ends = omega (arith, are.count) in
      let at : m ≡ p - 1 = omega arith in
      get_or_any ends m n 0 inside ∙ (ap (slice_index ends) at ∙ are.last))
      (λ (out : p ≤ m). get_or_outside ends m n (omega (arith, are.count)))
      (cases_lt m p)

  pub bound_rises : (m : ℕ) → bound n ends m ≤ bound n ends (m + 1)
  bound_rises zero = omega arith
  bound_rises (suc m) =
      ⊎_elim
      (λ (lt : m + 1 < p).
      let first : bound n ends (suc m) ≡ slice_index ends m = get_or_any ends m n 0 (omega (arith, are.count)) in
      let second : slice_index ends (m + 1) ≡ bound n ends (suc m + 1) =
      (let on : m + 1 + 1 ≡ suc m + 1 = omega arith in end_is (m + 1) lt ∙ ap (bound n ends) on) in
      let rising : slice_index ends m ≤ slice_index ends (m + 1) =
      are.rises m (m + 1) 0 (omega arith) (omega (arith, are.count)) in
      omega (arith, first, second, rising))
      (λ (out : p ≤ m + 1).
      omega (arith, bound_past (suc m) (omega arith), bound_past (suc m + 1) (omega arith)))
      (cases_lt (m + 1) p)

  turn_is : (d v : ℕ) → d < p → lies_in ends d v ≡ true → turn_of ends v ≡ slice_index ends d
  turn_is d v lt here =
      turn_from ends d v
      (λ m less.
      let far = rises_far (bound n ends) bound_rises (d - (m + 1)) (m + 1) d (omega arith) in
      omega (arith, end_is m (omega arith), far, start_is d lt, lies_above ends d v here))
      (lies_below ends d v here)
      (omega (arith, are.count))

  with_is : (m : ℕ) (xs : List Edge) → m < p →
      members_with ends m xs ≡ span source (bound n ends m) (bound n ends (m + 1)) xs
  with_is m xs lt =
      ap (λ q. span source q (slice_index ends m) xs) (start_is m lt)
      ∙ ap (λ q. span source (bound n ends m) q xs) (end_is m lt)

  all_steps : (d : ℕ) (xs : List Edge) → members_by_steps ends p d 0 p xs ≡ by_machines source (bound n ends) d p xs
  all_steps d xs =
      flat_map_shift
      (λ s. members_with ends (order_of d s p) xs)
      (λ s. span source (bound n ends (order_of d s p)) (bound n ends (order_of d s p + 1)) xs)
      p 0 0
      (λ i less. with_is (order_of d (0 + i) p) xs (order_within d (0 + i) p are.some))

  in_turn : (d v : ℕ) (edges : List Edge) → d < p → lies_in ends d v ≡ true →
      members_by_steps ends p d 0 p (ins_of n edges v) ≡ neighbours_of n ends edges v
  in_turn d v edges lt here =
      let xs = ins_of n edges v in
      let mine = filter (λ e. target e == v) edges in
      let t = bound n ends (d + 1) in
      let ending : t ≡ turn_of ends v = sym (turn_is d v lt here ∙ end_is d lt) in
      all_steps d xs
      ∙ (by_machines_is source (bound n ends) d p xs bound_rises lt (in_order_rises source n mine)
      ∙ (ap (λ q. span source t q xs ++ span source 0 t xs) (bound_past p (omega arith))
      ∙ (ap (λ ys. ys ++ span source 0 t xs) (span_to_end source t n xs (in_order_below source n mine))
      ∙ (ap (λ ys. filter (λ e. leb t (source e)) xs ++ ys) (span_from_start source t xs)
      ∙ ap (λ q. turned q xs) ending))))

  pub by_parts : (d v count : ℕ) (edges : List Edge) → d < p → lies_in ends d v ≡ true → count ≤ p →
      members_by_steps ends p d 0 count (ins_of n edges v) ++ members_by_steps ends p d count (p - count)
      (ins_of n edges v) ≡ neighbours_of n ends edges v
  by_parts d v count edges lt here le =
      let xs = ins_of n edges v in
      let f : ℕ → List Edge = λ s. members_with ends (order_of d s p) xs in
      let all : count + (p - count) ≡ p = omega arith in
      let whole : range_with_len 0 p ≡ range_with_len 0 count ++ range_with_len count (p - count) =
      sym (ap (range_with_len 0) all) ∙ range_split count (p - count) 0 count (omega arith) in
      sym (ap (flat_map f) whole ∙ flat_map-append f (range_with_len 0 count) (range_with_len count (p - count)))
      ∙ in_turn d v edges lt here

pub turns_at_its_end : TurnsAtItsEnd
turns_at_its_end n p d v ends are lt here = turn_is n p ends are d v lt (lies_is ends d v here)

pub reads_in_turn : ReadsInTurn
reads_in_turn n p d v ends edges are lt here = in_turn n p ends are d v edges lt (lies_is ends d v here)

pub reads_by_parts : ReadsByParts
reads_by_parts n p d v count ends edges are lt here le =
    by_parts n p ends are d v count edges lt (lies_is ends d v here) le
