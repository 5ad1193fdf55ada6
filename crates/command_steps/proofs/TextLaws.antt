-- Texts of the elements of a list, one after another.
use Rattle.std.proofs.Common.{◌≡◌, ℕ, ◌+◌, ◌<◌, ◌≤◌, List, [], ◌∷◌, ◌++◌, length, take, drop, get_or, Result, Ok, Err, flat_map, sym, ap, ◌∙◌, arith, append-nil, Option}
use Rattle.std.specs.List.{range_with_len}
use Rattle.std.specs.Result.{IsErr}
use Rattle.std.proofs.lemmas.Grind.{flat_map-append}
use Rattle.std.proofs.lemmas.List.{take_all, take_more}
use Rattle.std.proofs.lemmas.List.FromFn.{get_or-range_with_len, length-range_with_len}
use Rattle.array_text.specs.Writes.{Writes}
use Rattle.array_text.proofs.WritesLaws.{texts_split, writes_failed, writes_same, writes_then}
use Rattle.outside.specs.declared.sink.SinkFault.{SinkFault}

texts_more : {X : Type 0} (f : X → List ℕ) (xs : List X) (i : ℕ) (d : X) (part : List ℕ) → i < length xs →
    part ≡ f (get_or xs i d) → flat_map f (take i xs) ++ part ≡ flat_map f (take (i + 1) xs)
texts_more f xs i d part below is =
    ap (λ (text : List ℕ). flat_map f (take i xs) ++ text) (is ∙ sym (append-nil (f (get_or xs i d))))
    ∙ sym (flat_map-append f (take i xs) (get_or xs i d ∷ []))
    ∙ sym (ap (flat_map f) (take_more xs i d below))

module _ {S X : Type 0} {held : S → Option (List ℕ)} {faults spare : S → ℕ} {old mid new : S} (f : X → List ℕ)
    (xs : List X) (i : ℕ) (d : X) {part : List ℕ} (below : i < length xs)
    (is : part ≡ f (get_or xs i d)) (before : Writes held faults spare old mid (flat_map f (take i xs)) (Ok tt)) where
  -- one more was put
  pub one_more : Writes held faults spare mid new part (Ok tt) →
      Writes held faults spare old new (flat_map f (take (i + 1) xs)) (Ok tt)
  one_more w = writes_same (texts_more f xs i d part below is) (writes_then (Ok tt) before w)

  -- one more could not be put
  pub one_failed : {fault : SinkFault} (result : Result (Unit {0}) SinkFault) → IsErr result →
      Writes held faults spare mid new part (Err fault) → Writes held faults spare old new (flat_map f xs) result
  one_failed {fault = fault} result failed w =
      writes_same (texts_split f xs i d part below is)
      (writes_failed (flat_map f (drop (i + 1) xs)) result failed (writes_then (Err fault) before w))

-- all were put
pub all_put : {S X : Type 0} {held : S → Option (List ℕ)} {faults spare : S → ℕ} {old new : S} (f : X → List ℕ)
    (xs : List X) (i : ℕ) → length xs ≤ i →
    Writes held faults spare old new (flat_map f (take i xs)) (Ok tt) →
    Writes held faults spare old new (flat_map f xs) (Ok tt)
all_put f xs i all w = writes_same (ap (flat_map f) (take_all i xs all)) w

-- the numbers from 0 on
pub number_at : (n i : ℕ) → i < n → i ≡ get_or (range_with_len 0 n) i 0
number_at n i below = let from : i ≡ 0 + i = omega arith in from ∙ sym (get_or-range_with_len 0 n i 0 below)

pub below_numbers : (n i : ℕ) → i < n → i < length (range_with_len 0 n)
below_numbers n i below = omega (arith, length-range_with_len 0 n)

pub all_numbers : (n i : ℕ) → n ≤ i → length (range_with_len 0 n) ≤ i
all_numbers n i all = omega (arith, length-range_with_len 0 n)
