-- Messages that are written one after another.
use Rattle.std.proofs.Common.{◌≡◌, ℕ, ◌+◌, ◌<◌, ◌∙◌, Option, Ok, Err, List, [], ◌∷◌, ◌++◌, length, length-append, get_or, map, take, drop, refl, sym, ap, subst, arith}
use Rattle.std.specs.Prelude.{Result}
use Rattle.std.specs.List.{flat_map}
use Rattle.vert_base.specs.declared.message.Message.{Message}
use Rattle.vert_base.specs.Letters.{letter_of}
use Rattle.outside.specs.Bytes.{gained}
use Rattle.outside.proofs.BytesLaws.{gained-gained, part_after, part_of_longer}
use Rattle.array_text.proofs.WritesLaws.{texts_split}
use Rattle.worker_stream.specs.declared.sending.SendFault.{SendFault}
use Rattle.worker_stream.specs.Sent.{Sends, spelled_letter, spelled_letters}

abbrev pub bytes_of : Message → List ℕ
bytes_of msg = spelled_letter (letter_of msg)

pub spelled_map : (ms : List Message) → spelled_letters (map letter_of ms) ≡ flat_map bytes_of ms
spelled_map [] = refl
spelled_map (m ∷ ms) = ap (λ q. bytes_of m ++ q) (spelled_map ms)

-- the same text
pub sends_same : {S : Type 0} {held : S → Option (List ℕ)} {faults spare : S → ℕ} {old new : S} {text other : List ℕ}
    {result : Result (Unit {0}) SendFault} → text ≡ other → Sends held faults spare old new text result →
    Sends held faults spare old new other result
sends_same {held = held} {faults = faults} {spare = spare} {old = old} {new = new} {result = result} same w =
    let P : List ℕ → Type 0 = λ t. Sends held faults spare old new t result in subst P same w

-- a call that failed in the first text failed in both
pub sends_failed : {S : Type 0} {held : S → Option (List ℕ)} {faults spare : S → ℕ} {old new : S} {first : List ℕ}
    {fault : SendFault} (second : List ℕ) → Sends held faults spare old new first (Err fault) →
    Sends held faults spare old new (first ++ second) (Err fault)
sends_failed {held = held} {old = old} {new = new} {first = first} second w = record {
  whole = tt;
  part = part_of_longer (held old) (held new) first second w.part;
  counted = tt;
  want = w.want;
  failed = λ e. let both = w.failed e in (both.0, omega (arith, length-append first second, both.1));
  spared = tt;
}

-- a whole text, and then another one
pub sends_then : {S : Type 0} {held : S → Option (List ℕ)} {faults spare : S → ℕ} {old mid new : S}
    {first second : List ℕ} (result : Result (Unit {0}) SendFault) → Sends held faults spare old mid first (Ok tt) →
    Sends held faults spare mid new second result → Sends held faults spare old new (first ++ second) result
sends_then {held = held} {old = old} {first = first} {second = second} (Ok done) v w = record {
  whole = w.whole ∙ ap (λ (h : Option (List ℕ)). gained h second) v.whole ∙ gained-gained (held old) first second;
  part = tt;
  counted = w.counted ∙ v.counted;
  want = λ e. absurd (cc);
  failed = λ e. absurd (cc);
  spared = omega (arith, length-append first second, v.spared, w.spared);
}
sends_then {held = held} {old = old} {mid = mid} {new = new} {first = first} {second = second} (Err fault) v w =
    record {
      whole = tt;
      part = part_after (held old) (held mid) (held new) first second v.whole w.part;
      counted = tt;
      want = λ e. w.want e ∙ v.counted;
      failed = λ e.
          let both = w.failed e in
          (omega (arith, v.counted, both.0), omega (arith, length-append first second, v.spared, both.1));
      spared = tt;
    }

-- the messages before one, and that one, of which a part may have been written
module _ {S : Type 0} {held : S → Option (List ℕ)} {faults spare : S → ℕ} {old mid new : S} (ms : List Message)
    (i : ℕ) (msg d : Message) (fault : SendFault) where
  pub sends_here : i < length ms → msg ≡ get_or ms i d →
      Sends held faults spare old mid (spelled_letters (map letter_of (take i ms))) (Ok tt) →
      Sends held faults spare mid new (spelled_letter (letter_of msg)) (Err fault) →
      Sends held faults spare old new (spelled_letters (map letter_of ms)) (Err fault)
  sends_here lt is before here =
      let rest = flat_map bytes_of (drop (i + 1) ms) in
      sends_same (texts_split bytes_of ms i d (bytes_of msg) lt (ap bytes_of is) ∙ sym (spelled_map ms))
      (sends_failed rest (sends_then (Err fault) (sends_same (spelled_map (take i ms)) before) here))
