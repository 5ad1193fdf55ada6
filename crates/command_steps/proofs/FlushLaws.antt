-- A text that is put and then handed on.
use Rattle.std.proofs.Common.{◌≡◌, ◌+◌, ◌≤◌, ℕ, List, [], length, take, Option, Result, Ok, Err, sym, ap, subst, ◌∙◌, arith}
use Rattle.std.specs.Prelude.{IsErr}
use Rattle.std.proofs.lemmas.List.{take_all}
use Rattle.array_text.specs.Writes.{Writes}
use Rattle.outside.specs.declared.sink.SinkFault.{SinkFault}
use Rattle.outside.specs.Bytes.{gained, GainedPart}
use Rattle.outside.specs.Causes.{Rose}
use Rattle.outside.proofs.BytesLaws.{gained-nothing}
use Rattle.command_steps.specs.States.{Held, sink_state}
use Rattle.command_steps.specs.Walks.{Flushes, HandsOn}

-- the state of a sink by its parts
pub held_same : (old new : Held) (bytes : Option (List ℕ)) (faults : ℕ) → new.bytes ≡ bytes → new.faults ≡ faults →
    new ≡ record { bytes = bytes; faults = faults; spare = new.spare }
held_same old new bytes faults same count =
    let first : new ≡ record new { bytes = bytes } = ap (λ (b : Option (List ℕ)). record new { bytes = b }) same in
    first ∙ ap (λ (n : ℕ). record { bytes = bytes; faults = n; spare = new.spare }) count

-- an empty piece was taken
pub flushed : (old new : Held) (taken : ℕ) → new.bytes ≡ gained old.bytes (take taken []) → new.faults ≡ old.faults →
    taken ≤ 0 → old.spare ≤ new.spare + taken → Flushes old new (Ok tt)
flushed old new taken same count none spared =
    let zero_is : taken ≡ 0 = omega (arith, none) in
    let nothing : new.bytes ≡ gained old.bytes [] = same ∙ ap (λ (n : ℕ). gained old.bytes (take n [])) zero_is in
    (held_same old new old.bytes old.faults (nothing ∙ gained-nothing old.bytes) count, omega (arith, none, spared))

-- a whole text is a part of it
whole_part : (old new : Option (List ℕ)) (text : List ℕ) → new ≡ gained old text → GainedPart old new text
whole_part old new text is = record {
  size = length text;
  within = omega arith;
  new_is = is ∙ ap (gained old) (sym (take_all (length text) text (omega arith)));
}

-- a text was put, and then the sink handed on what it held back, or failed
module _ (text : List ℕ) (old mid new : Held) where
  pub put_flushed : mid.bytes ≡ gained old.bytes text → mid.faults ≡ old.faults →
      old.spare ≤ mid.spare + length text → (result : Result (Unit {0}) SinkFault) → Flushes mid new result →
      HandsOn text old new result
  put_flushed whole count spared (Ok done) (same, more) = record {
    same = held_same old new (gained old.bytes text) old.faults (ap (λ (h : Held). h.bytes) same ∙ whole)
        (ap (λ (h : Held). h.faults) same ∙ count);
    spared = omega (arith, spared, more);
  }
  put_flushed whole count spared (Err fault) (same, rose, none) =
      let P : ℕ → Type 0 = λ n. Rose n new.faults in
      record {
        part = whole_part old.bytes new.bytes text (same ∙ whole);
        rose = subst P count rose;
        sure = omega (arith, spared, none);
      }

-- a put failed
pub put_failed : {S : Type 0} {held : S → Option (List ℕ)} {faults spare : S → ℕ} {old new : S} {fault : SinkFault}
    (text : List ℕ) (result : Result (Unit {0}) SinkFault) → IsErr result →
    Writes held faults spare old new text (Err fault) →
    HandsOn text (sink_state held faults spare old) (sink_state held faults spare new) result
put_failed text (Ok done) wrong w = cc
put_failed text (Err fault) is w = record { part = w.part; rose = w.failed; sure = omega (arith, w.sure) }

-- a whole text was put, and then the sink handed on what it held back, or failed
pub writes_flushed : {S : Type 0} {held : S → Option (List ℕ)} {faults spare : S → ℕ} {old mid : S} {text : List ℕ} →
    Writes held faults spare old mid text (Ok tt) → (new : S) (result : Result (Unit {0}) SinkFault) →
    Flushes (sink_state held faults spare mid) (sink_state held faults spare new) result →
    HandsOn text (sink_state held faults spare old) (sink_state held faults spare new) result
writes_flushed {held = held} {faults = faults} {spare = spare} {old = old} {mid = mid} {text = text} w new result
    flushes =
    put_flushed text (sink_state held faults spare old) (sink_state held faults spare mid)
    (sink_state held faults spare new) w.whole w.counted w.spared result flushes
