-- Texts that are written one after another.
use Rattle.std.proofs.Common.{◌≡◌, ℕ, ◌+◌, ◌<◌, List, [], ◌∷◌, ◌++◌, length, take, drop, get_or, Option, Result, Ok, Err, flat_map, refl, sym, ap, subst, ◌∙◌, length-append, arith, append_assoc, append-nil}
use Rattle.std.specs.Result.{IsErr}
use Rattle.std.proofs.lemmas.Grind.{flat_map-append}
use Rattle.std.proofs.lemmas.List.{take_more, take-append-drop}
use Rattle.outside.specs.Bytes.{gained}
use Rattle.outside.proofs.BytesLaws.{gained-nothing, gained-gained, part_of_longer, part_after}
use Rattle.outside.specs.declared.sink.SinkFault.{SinkFault}
use Rattle.array_text.specs.Writes.{Writes}

-- no text, and no call
pub writes_nothing : {S : Type 0} (held : S → Option (List ℕ)) (faults spare : S → ℕ) (sink : S) →
    Writes held faults spare sink sink [] (Ok tt)
writes_nothing held faults spare sink = record {
  whole = sym (gained-nothing (held sink));
  counted = refl;
  part = tt;
  failed = tt;
  later = omega arith;
  sure = tt;
  spared = omega arith;
}

-- the same text
pub writes_same : {S : Type 0} {held : S → Option (List ℕ)} {faults spare : S → ℕ} {old new : S} {text other : List ℕ}
    {result : Result (Unit {0}) SinkFault} → text ≡ other → Writes held faults spare old new text result →
    Writes held faults spare old new other result
writes_same {held = held} {faults = faults} {spare = spare} {old = old} {new = new} {result = result} same w =
    let P : List ℕ → Type 0 = λ t. Writes held faults spare old new t result in subst P same w

-- a call that failed in the first text failed in both
pub writes_failed : {S : Type 0} {held : S → Option (List ℕ)} {faults spare : S → ℕ} {old new : S} {first : List ℕ}
    {fault : SinkFault} (second : List ℕ) (result : Result (Unit {0}) SinkFault) → IsErr result →
    Writes held faults spare old new first (Err fault) → Writes held faults spare old new (first ++ second) result
writes_failed second (Ok done) is w = cc
writes_failed {held = held} {old = old} {new = new} {first = first} second (Err other) is w = record {
  whole = tt;
  counted = tt;
  part = part_of_longer (held old) (held new) first second w.part;
  failed = w.failed;
  later = w.later;
  sure = omega (arith, length-append first second, w.sure);
  spared = omega (arith, length-append first second, w.spared);
}

-- a whole text, and then another one
pub writes_then : {S : Type 0} {held : S → Option (List ℕ)} {faults spare : S → ℕ} {old mid new : S}
    {first second : List ℕ} (result : Result (Unit {0}) SinkFault) → Writes held faults spare old mid first (Ok tt) →
    Writes held faults spare mid new second result → Writes held faults spare old new (first ++ second) result
writes_then {held = held} {old = old} {first = first} {second = second} (Ok done) v w = record {
  whole = w.whole ∙ ap (λ (h : Option (List ℕ)). gained h second) v.whole ∙ gained-gained (held old) first second;
  counted = w.counted ∙ v.counted;
  part = tt;
  failed = tt;
  later = omega (arith, v.later, w.later);
  sure = tt;
  spared = omega (arith, length-append first second, v.spared, w.spared);
}
writes_then {held = held} {old = old} {mid = mid} {new = new} {first = first} {second = second} (Err fault) v
    w = record {
      whole = tt;
      counted = tt;
      part = part_after (held old) (held mid) (held new) first second v.whole w.part;
      failed = omega (arith, v.counted, w.failed);
      later = omega (arith, v.later, w.later);
      sure = omega (arith, length-append first second, v.spared, w.sure);
      spared = omega (arith, length-append first second, v.spared, w.spared);
    }

-- the texts of the first elements, of one more, and of the others
pub texts_split : {X : Type 0} (f : X → List ℕ) (xs : List X) (i : ℕ) (d : X) (part : List ℕ) → i < length xs →
    part ≡ f (get_or xs i d) → flat_map f (take i xs) ++ part ++ flat_map f (drop (i + 1) xs) ≡ flat_map f xs
texts_split f xs i d part below is =
    let more : flat_map f (take (i + 1) xs) ≡ flat_map f (take i xs) ++ (f (get_or xs i d) ++ []) =
    ap (flat_map f) (take_more xs i d below) ∙ flat_map-append f (take i xs) (get_or xs i d ∷ []) in
    let one : flat_map f (take i xs) ++ part ≡ flat_map f (take (i + 1) xs) =
    ap (λ (text : List ℕ). flat_map f (take i xs) ++ text) (is ∙ sym (append-nil (f (get_or xs i d)))) ∙ sym more in
    ap (λ (text : List ℕ). text ++ flat_map f (drop (i + 1) xs)) one
    ∙ sym (flat_map-append f (take (i + 1) xs) (drop (i + 1) xs))
    ∙ ap (flat_map f) (take-append-drop (i + 1) xs)

-- a text between two others, of which some was written
pub regrouped : (front done part rest whole end : List ℕ) → done ++ part ++ rest ≡ whole →
    ((front ++ done) ++ part) ++ (rest ++ end) ≡ front ++ whole ++ end
regrouped front done part rest whole end is =
    let same : ((front ++ done) ++ part) ++ (rest ++ end) ≡ front ++ (done ++ part ++ rest) ++ end =
    simp append_assoc in
    same ∙ ap (λ (text : List ℕ). front ++ text ++ end) is
