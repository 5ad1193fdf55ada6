-- What a cut of bytes gives.
use Rattle.std.proofs.Common.{◌≡◌, ℕ, ◌<◌, ◌≤◌, Bool, true, false, cond, ltb, Option, Some, None, List, length, take, drop, refl, sym, ap}
use Rattle.std.proofs.lemmas.Bool.{ltb-false, ltb-true}
use Rattle.worker_stream.specs.Sections.{cut_at}

pub record IsCut (len : ℕ) (bytes before behind : List ℕ) : Type 0 where
  pub within : len ≤ length bytes
  pub front : before ≡ take len bytes
  pub back : behind ≡ drop len bytes

pub cut_is : (len : ℕ) (bytes front back : List ℕ) → cut_at len bytes ≡ Some (front, back) → IsCut len bytes front back
cut_is len bytes front back e = chosen (ltb (length bytes) len) refl e
  where
    chosen : (b : Bool) → ltb (length bytes) len ≡ b →
        cond {A = Option (List ℕ × List ℕ)} b None (Some (take len bytes, drop len bytes)) ≡ Some (front, back) →
        IsCut len bytes front back
    chosen true is e = absurd (cc)
    chosen false is e =
        let given : List ℕ × List ℕ = (take len bytes, drop len bytes) in
        let wanted : List ℕ × List ℕ = (front, back) in
        let same : given ≡ wanted = cc in
        record {
          within = ltb-false _ _ is;
          front = sym (ap (λ q. q.0) same);
          back = sym (ap (λ q. q.1) same);
        }

pub cut_none : (len : ℕ) (bytes : List ℕ) → cut_at len bytes ≡ None → length bytes < len
cut_none len bytes e = chosen (ltb (length bytes) len) refl e
  where
    chosen : (b : Bool) → ltb (length bytes) len ≡ b →
        cond {A = Option (List ℕ × List ℕ)} b None (Some (take len bytes, drop len bytes)) ≡ None → length bytes < len
    chosen true is e = ltb-true _ _ is
    chosen false is e = absurd (cc)
