-- The neighbours that lie with the machines of the first steps.
use Rattle.std.proofs.Common.{◌≡◌, ◌≢◌, ℕ, zero, suc, ◌+◌, ◌-◌, ◌<◌, ◌≤◌, Bool, true, false, ◌||◌, List, [], ◌∷◌, ◌++◌, refl, ap, sym, ◌∙◌, arith, ⊎_elim, subst, append-nil, slice_index}
use Rattle.std.specs.List.{filter}
use Rattle.std.proofs.lemmas.Bool.{or_left, or_right, cases_Bool, cases_lt, or_from}
use Rattle.std.proofs.lemmas.List.Elements.{filter-append}
use Rattle.vert_base.specs.declared.graph.Edge.{Edge}
use Rattle.vert_base.specs.Neighbours.{source, ins_of, neighbours_of}
use Rattle.circulant_plan.specs.Ring.{AreEndsUpTo, order_of, lies_in, lies_early, members_with, members_by_steps}
use Rattle.vert_base.specs.Ends.{start_of}
use Rattle.circulant_plan.specs.Laws.{ReadsEarlyOnes}
use Rattle.circulant_plan.proofs.SpanLaws.{rises_far}
use Rattle.circulant_plan.proofs.CircleLaws.{order_once}
use Rattle.circulant_plan.proofs.ReadingLaws.{bound, lies_is, lies_above, lies_below, order_within, end_is, start_is, bound_rises, by_parts}

-- a test that follows from another one keeps what that kept
filter_kept : {X : Type 0} (q r : X → Bool) (xs : List X) → ((x : X) → r x ≡ true → q x ≡ true) →
    filter q (filter r xs) ≡ filter r xs
filter_kept q r [] all = refl
filter_kept q r (x ∷ xs) all =
    ⊎_elim
    (λ (here : r x ≡ true).
    let kept : q x ≡ true = all x here in
    rw here (rw kept (ap (λ ys. x ∷ ys) (filter_kept q r xs all))))
    (λ (not : r x ≡ false). rw not (filter_kept q r xs all))
    (cases_Bool (r x))

filter_dropped : {X : Type 0} (q r : X → Bool) (xs : List X) → ((x : X) → r x ≡ true → q x ≡ false) →
    filter q (filter r xs) ≡ []
filter_dropped q r [] all = refl
filter_dropped q r (x ∷ xs) all =
    ⊎_elim
    (λ (here : r x ≡ true). let dropped : q x ≡ false = all x here in rw here (rw dropped (filter_dropped q r xs all)))
    (λ (not : r x ≡ false). rw not (filter_dropped q r xs all))
    (cases_Bool (r x))

module _ (n p : ℕ) (ends : List ℕ) (are : AreEndsUpTo n p ends) (d : ℕ) (own : d < p) where
  -- no vertex lies in two chunks
  apart_below : (a b v : ℕ) → a < b → b < p → lies_in ends a v ≡ true → lies_in ends b v ≡ false
  apart_below a b v less within here =
      ⊎_elim
      (λ (there : lies_in ends b v ≡ true).
      let far = rises_far (bound n ends) (bound_rises n p ends are) (b - (a + 1)) (a + 1) b (omega arith) in
      let past : start_of ends b ≤ v = lies_above ends b v there in
      let inside : v < slice_index ends a = lies_below ends a v here in
      let first = end_is n p ends are a (omega arith) in
      let second = start_is n p ends are b within in
      absurd (omega arith))
      (λ (not : lies_in ends b v ≡ false). not)
      (cases_Bool (lies_in ends b v))

  apart : (a b v : ℕ) → a ≢ b → a < p → b < p → lies_in ends a v ≡ true → lies_in ends b v ≡ false
  apart a b v differ wa wb here =
      ⊎_elim
      (λ (less : a < b). apart_below a b v less wb here)
      (λ (ge : b ≤ a).
      ⊎_elim
      (λ (there : lies_in ends b v ≡ true).
      absurd (let other : lies_in ends a v ≡ false = apart_below b a v (omega arith) wa there in grind arith))
      (λ (not : lies_in ends b v ≡ false). not)
      (cases_Bool (lies_in ends b v)))
      (cases_lt a b)

  early_is : (count s v : ℕ) → s < count → lies_in ends (order_of d s p) v ≡ true → lies_early ends p d count v ≡ true
  early_is zero s v lt here = absurd (omega arith)
  early_is (suc count) s v lt here =
      ⊎_elim
      (λ (less : s < count).
      or_left (lies_early ends p d count v) (lies_in ends (order_of d count p) v)
      (early_is count s v less here))
      (λ (ge : count ≤ s).
      let at : s ≡ count = omega arith in
      or_right (lies_early ends p d count v) (lies_in ends (order_of d count p) v)
      (subst (λ q. lies_in ends (order_of d q p) v ≡ true) at here))
      (cases_lt s count)

  late_is : (count s v : ℕ) → count ≤ s → s < p → lies_in ends (order_of d s p) v ≡ true →
      lies_early ends p d count v ≡ false
  late_is zero s v le lt here = refl
  late_is (suc count) s v le lt here =
      or_from (lies_early ends p d count v) (lies_in ends (order_of d count p) v)
      (late_is count s v (omega arith) lt here)
      (apart (order_of d s p) (order_of d count p) v
      (λ same. let once = order_once p d s count own lt (omega arith) same in absurd (omega arith))
      (order_within d s p are.some) (order_within d count p are.some) here)

  early_kept : (count : ℕ) (xs : List Edge) (k a : ℕ) → a + k ≤ count →
      filter (λ e. lies_early ends p d count (source e))
      (members_by_steps ends p d a k xs) ≡ members_by_steps ends p d a k xs
  early_kept count xs zero a le = refl
  early_kept count xs (suc k) a le =
      let q : Edge → Bool = λ e. lies_early ends p d count (source e) in
      let first = members_with ends (order_of d a p) xs in
      let rest = members_by_steps ends p d (a + 1) k xs in
      filter-append q first rest
      ∙
      (ap (λ ys. ys ++ filter q rest)
      (filter_kept q (λ e. lies_in ends (order_of d a p) (source e)) xs
      (λ e here. early_is count a (source e) (omega arith) here))
      ∙ ap (λ ys. first ++ ys) (early_kept count xs k (a + 1) (omega arith)))

  late_dropped : (count : ℕ) (xs : List Edge) (k a : ℕ) → count ≤ a → a + k ≤ p →
      filter (λ e. lies_early ends p d count (source e)) (members_by_steps ends p d a k xs) ≡ []
  late_dropped count xs zero a ge le = refl
  late_dropped count xs (suc k) a ge le =
      let q : Edge → Bool = λ e. lies_early ends p d count (source e) in
      let first = members_with ends (order_of d a p) xs in
      let rest = members_by_steps ends p d (a + 1) k xs in
      filter-append q first rest
      ∙
      (ap (λ ys. ys ++ filter q rest)
      (filter_dropped q (λ e. lies_in ends (order_of d a p) (source e)) xs
      (λ e here. late_is count a (source e) ge (omega arith) here))
      ∙ late_dropped count xs k (a + 1) (omega arith) (omega arith))

  early_ones : (v count : ℕ) (edges : List Edge) → lies_in ends d v ≡ true → count ≤ p →
      filter (λ e. lies_early ends p d count (source e))
      (neighbours_of n ends edges v) ≡ members_by_steps ends p d 0 count (ins_of n edges v)
  early_ones v count edges here le =
      let q : Edge → Bool = λ e. lies_early ends p d count (source e) in
      let xs = ins_of n edges v in
      let first = members_by_steps ends p d 0 count xs in
      let rest = members_by_steps ends p d count (p - count) xs in
      ap (filter q) (sym (by_parts n p ends are d v count edges own here le))
      ∙ (filter-append q first rest
      ∙ (ap (λ ys. filter q first ++ ys) (late_dropped count xs (p - count) count (omega arith) (omega arith))
      ∙ (append-nil (filter q first)
      ∙ early_kept count xs count 0 (omega arith))))

pub reads_early_ones : ReadsEarlyOnes
reads_early_ones n p d v count ends edges are lt here le =
    early_ones n p ends are d lt v count edges (lies_is ends d v here) le
