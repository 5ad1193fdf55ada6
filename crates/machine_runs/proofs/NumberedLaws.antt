-- Texts of the elements of a list, each with its number, one after another.
use Rattle.std.proofs.Common.{◌≡◌, ℕ, ◌+◌, ◌<◌, ◌≤◌, List, [], ◌∷◌, ◌++◌, length, take, drop, get_or, sym, ap, ◌∙◌, arith, append_assoc, append-nil}
use Rattle.std.proofs.Math.Seq.{length-take-le}
use Rattle.std.proofs.lemmas.List.{take_all, take_more, take-append-drop}

-- the texts from a number on: none of no element, and else that of the first and those of the others
pub record AreNumbered {X : Type 0} (text : ℕ → X → List ℕ) (texts : ℕ → List X → List ℕ) : Type 0 where
  pub none : (v : ℕ) → texts v [] ≡ []
  pub more : (v : ℕ) (x : X) (xs : List X) → texts v (x ∷ xs) ≡ text v x ++ texts (v + 1) xs

module _ {X : Type 0} {text : ℕ → X → List ℕ} {texts : ℕ → List X → List ℕ} (are : AreNumbered text texts) where
  texts-append : (v : ℕ) (xs ys : List X) → texts v (xs ++ ys) ≡ texts v xs ++ texts (v + length xs) ys
  texts-append v [] ys =
      let here : v ≡ v + 0 = omega arith in
      ap (λ (k : ℕ). texts k ys) here ∙ sym (ap (λ (front : List ℕ). front ++ texts (v + 0) ys) (are.none v))
  texts-append v (x ∷ xs) ys =
      let there : v + 1 + length xs ≡ v + length (x ∷ xs) = omega arith in
      are.more v x (xs ++ ys)
      ∙ ap (λ (rest : List ℕ). text v x ++ rest) (texts-append (v + 1) xs ys
      ∙ ap (λ (k : ℕ). texts (v + 1) xs ++ texts k ys) there)
      ∙ sym (append_assoc (text v x) (texts (v + 1) xs) (texts (v + length (x ∷ xs)) ys))
      ∙ sym (ap (λ (front : List ℕ). front ++ texts (v + length (x ∷ xs)) ys) (are.more v x xs))

  texts-one : (v : ℕ) (x : X) → texts v (x ∷ []) ≡ text v x
  texts-one v x = are.more v x [] ∙ ap (λ (rest : List ℕ). text v x ++ rest) (are.none (v + 1)) ∙ append-nil (text v x)

  -- the texts before an element and its own
  pub numbered_more : (xs : List X) (i : ℕ) (d : X) (part : List ℕ) → i < length xs → part ≡ text i (get_or xs i d) →
      texts 0 (take i xs) ++ part ≡ texts 0 (take (i + 1) xs)
  numbered_more xs i d part below is =
      let within : i ≤ length xs = omega arith in
      let place : i ≡ 0 + length (take i xs) = omega (arith, length-take-le i xs within) in
      ap (λ (rest : List ℕ). texts 0 (take i xs) ++ rest) (is ∙ sym (texts-one i (get_or xs i d))
      ∙ ap (λ (k : ℕ). texts k (get_or xs i d ∷ [])) place)
      ∙ sym (texts-append 0 (take i xs) (get_or xs i d ∷ []))
      ∙ sym (ap (texts 0) (take_more xs i d below))

  -- the texts before an element, its own, and those behind it
  pub numbered_split :
      (xs : List X) (i : ℕ) (d : X) (part : List ℕ) → i < length xs → part ≡ text i (get_or xs i d) →
      (texts 0 (take i xs) ++ part) ++ texts (i + 1) (drop (i + 1) xs) ≡ texts 0 xs
  numbered_split xs i d part below is =
      let within : i + 1 ≤ length xs = omega arith in
      let place : i + 1 ≡ 0 + length (take (i + 1) xs) = omega (arith, length-take-le (i + 1) xs within) in
      ap (λ (front : List ℕ). front ++ texts (i + 1) (drop (i + 1) xs)) (numbered_more xs i d part below is)
      ∙ ap (λ (k : ℕ). texts 0 (take (i + 1) xs) ++ texts k (drop (i + 1) xs)) place
      ∙ sym (texts-append 0 (take (i + 1) xs) (drop (i + 1) xs))
      ∙ ap (texts 0) (take-append-drop (i + 1) xs)

  -- the texts of all elements
  pub numbered_all : (xs : List X) (i : ℕ) → length xs ≤ i → texts 0 (take i xs) ≡ texts 0 xs
  numbered_all xs i all = ap (texts 0) (take_all i xs all)
