-- The index in order: the place of a name, and what stands there.
use Rattle.std.proofs.Common.{◌≡◌, refl, ◌<◌, ◌≤◌, ◌∙◌, ℕ, zero, suc, Bool, true, false, List, [], ◌∷◌, length, ap, sym, arith}
use Rattle.std.specs.Prelude.{if◌then◌else◌, Some, slice_index_or}
use Rattle.std.specs.List.{insert, remove}
use Rattle.std.specs.List.Sorted.{IsPartitionPoint, IsPartitionedBy}
use Rattle.slab.specs.Slab.{Slab}
use Rattle.vert_base.specs.declared.message.Name.{Name}
use Rattle.vert_base.specs.declared.message.Message.{Message}
use Rattle.vert_base.specs.Names.{is_before, same_name, numbers_of}
use Rattle.vert_base.specs.Letters.{Letter, found, placed, without, Ascends, IsMissing}
use Rattle.vert_base.proofs.NameOrder.{apart, total, along}
use Rattle.vert_base.proofs.LetterLaws.{Behind, behind_along, none_behind, past_other}
use Rattle.flight.specs.declared.entries.Entry.{Entry}
use Rattle.flight.specs.Entries.{letter_by, letters_by, place}

-- the entry of a name stands at a place, with these messages
pub record IsThere (s : Slab Message) (x : Name) (es : List Entry) (at : ℕ) : Type 0 where
  pub within : at < length es
  pub here : (other : Entry) → found x (letters_by s es) ≡ Some (letter_by s (slice_index_or es at other))
  pub rest : letters_by s (remove es at) ≡ without x (letters_by s es)

-- an element within a list, whatever stands for none
pub same_item : (ms : List Entry) (i : ℕ) (d e : Entry) → i < length ms → slice_index_or ms i d ≡ slice_index_or ms i e
same_item [] i d e lt = absurd (omega (arith, lt))
same_item (m ∷ ms) zero d e lt = refl
same_item (m ∷ ms) (suc i) d e lt = same_item ms i d e (omega (arith, lt))

module _ (s : Slab Message) where
  behind_at : (x : Name) (ms : List Entry) (j : ℕ) (d : Entry) → Behind x (letters_by s ms) → j < length ms →
      is_before x (slice_index_or ms j d).name ≡ true
  behind_at x [] j d all lt = absurd (omega (arith, lt))
  behind_at x (m ∷ ms) zero d all lt = all.0
  behind_at x (m ∷ ms) (suc j) d all lt = behind_at x ms j d all.1 (omega (arith, lt))

  pub parted : (x : Name) (ms : List Entry) → Ascends (letters_by s ms) →
      IsPartitionedBy (λ (m : Entry). is_before m.name x) ms
  parted x [] up i j d le lt e = absurd (omega (arith, lt))
  parted x (m ∷ ms) up zero zero d le lt e = e
  parted x (m ∷ ms) up zero (suc j) d le lt e =
      along (numbers_of m.name) (numbers_of (slice_index_or ms j d).name) (numbers_of x)
      (behind_at m.name ms j d up.0 (omega (arith, lt))) e
  parted x (m ∷ ms) up (suc i) zero d le lt e = absurd (omega (arith, le))
  parted x (m ∷ ms) up (suc i) (suc j) d le lt e = parted x ms up.1 i j d (omega (arith, le)) (omega (arith, lt)) e

  pub point_is : (x : Name) (ms : List Entry) (i : ℕ) → i ≤ length ms →
      IsPartitionPoint (λ (m : Entry). is_before m.name x ≡ true) (λ (m : Entry). is_before m.name x ≡ false) ms i →
      i ≡ place x (letters_by s ms)
  point_is x [] i le point = omega (arith, le)
  point_is x (m ∷ ms) zero le point =
      sym (ap (λ (b : Bool). if b then suc (place x (letters_by s ms)) else 0)
      (point.1 0 m (omega arith) (omega arith)))
  point_is x (m ∷ ms) (suc i) le point =
      let rest : i ≡ place x (letters_by s ms) =
      point_is x ms i (omega (arith, le)) (
        λ k d lo hi. point.0 (suc k) d (omega arith) (omega (arith, hi)),
        λ k d lo hi. point.1 (suc k) d (omega (arith, lo)) (omega (arith, hi)),
      ) in
      ap suc rest ∙ sym (ap (λ (b : Bool). if b then suc (place x (letters_by s ms)) else 0)
      (point.0 0 m (omega arith) (omega arith)))

  -- a message put in its place
  put_step : (m y : Entry) (ys : List Entry) (n : ℕ) (rest : List Letter) (b : Bool) →
      letters_by s (insert ys n m) ≡ rest → letters_by s (insert (y ∷ ys) (if b then suc n else 0) m)
      ≡ (if b then letter_by s y ∷ rest else letter_by s m ∷ letter_by s y ∷ letters_by s ys)
  put_step m y ys n rest true e = ap (λ (r : List Letter). letter_by s y ∷ r) e
  put_step m y ys n rest false e = refl

  pub put_in : (m : Entry) (ms : List Entry) → letters_by s (insert ms (place m.name (letters_by s ms)) m)
      ≡ placed (letter_by s m) (letters_by s ms)
  put_in m [] = refl
  put_in m (y ∷ ys) = put_step m y ys (place m.name (letters_by s ys)) (placed (letter_by s m) (letters_by s ys))
      (is_before y.name m.name) (put_in m ys)

  -- nothing has the name where its place is the end, or another name stands there
  missing_step : (x : Name) (m : Entry) (ms : List Entry) (b : Bool) → is_before m.name x ≡ b →
      Ascends (letters_by s (m ∷ ms)) → (((other : Entry) → place x (letters_by s ms) < length ms →
      is_before x (slice_index_or ms (place x (letters_by s ms)) other).name ≡ true) → IsMissing x (letters_by s ms))
      → ((other : Entry) → (if b then suc (place x (letters_by s ms)) else 0) < suc (length ms) →
      is_before x (slice_index_or (m ∷ ms) (if b then suc (place x (letters_by s ms)) else 0) other).name ≡ true) →
      IsMissing x (letters_by s (m ∷ ms))
  missing_step x m ms true e up next gone =
      past_other x (letter_by s m) (letters_by s ms) (apart (numbers_of m.name) (numbers_of x) e)
      (next (λ other lt. gone other (omega (arith, lt))))
  missing_step x m ms false e up next gone =
      let less : is_before x m.name ≡ true = gone m (omega arith) in
      none_behind x (letters_by s (m ∷ ms)) (less, behind_along x m.name (letters_by s ms) less up.0)

  pub missing : (x : Name) (ms : List Entry) → Ascends (letters_by s ms) →
      ((other : Entry) → place x (letters_by s ms) < length ms →
      is_before x (slice_index_or ms (place x (letters_by s ms)) other).name ≡ true) → IsMissing x (letters_by s ms)
  missing x [] up gone = record { missing = refl; whole = refl }
  missing x (m ∷ ms) up gone = missing_step x m ms (is_before m.name x) refl up (missing x ms up.1) gone

  -- the message of a name stands in its place
  same_if : (b : Bool) → (b ≡ false → false ≡ true) → b ≡ true
  same_if true f = refl
  same_if false f = f refl

  at_first : (x : Name) (m : Entry) (ms : List Entry) → same_name m.name x ≡ true → IsThere s x (m ∷ ms) 0
  at_first x m ms same = record {
    within = omega arith;
    here = λ other. ap (λ (b : Bool). if b then Some (letter_by s m) else found x (letters_by s ms)) same;
    rest = sym (ap (λ (b : Bool). if b then letters_by s ms else letter_by s m ∷ without x (letters_by s ms)) same);
  }

  at_later : (x : Name) (m : Entry) (ms : List Entry) (at : ℕ) → same_name m.name x ≡ false → IsThere s x ms at →
      IsThere s x (m ∷ ms) (suc at)
  at_later x m ms at other there = record {
    within = omega (arith, there.within);
    here = λ d. ap (λ (b : Bool). if b then Some (letter_by s m) else found x (letters_by s ms)) other ∙ there.here d;
    rest = ap (λ (r : List Letter). letter_by s m ∷ r) there.rest
        ∙ sym (ap (λ (b : Bool). if b then letters_by s ms else letter_by s m ∷ without x (letters_by s ms)) other);
  }

  there_step : (x : Name) (m : Entry) (ms : List Entry) (b : Bool) → is_before m.name x ≡ b →
      (place x (letters_by s ms) < length ms →
      ((other : Entry) → is_before x (slice_index_or ms (place x (letters_by s ms)) other).name ≡ false) →
      IsThere s x ms (place x (letters_by s ms))) → (if b then suc (place x (letters_by s ms)) else 0)
      < suc (length ms) → ((other : Entry) →
      is_before x (slice_index_or (m ∷ ms) (if b then suc (place x (letters_by s ms)) else 0) other).name ≡ false) →
      IsThere s x (m ∷ ms) (if b then suc (place x (letters_by s ms)) else 0)
  there_step x m ms true e next lt stands =
      at_later x m ms (place x (letters_by s ms)) (apart (numbers_of m.name) (numbers_of x) e)
      (next (omega (arith, lt)) (λ other. stands other))
  there_step x m ms false e next lt stands =
      at_first x m ms (same_if (same_name m.name x) (λ other.
      sym (stands m) ∙ total (numbers_of m.name) (numbers_of x) e other))

  pub there : (x : Name) (ms : List Entry) → place x (letters_by s ms) < length ms →
      ((other : Entry) → is_before x (slice_index_or ms (place x (letters_by s ms)) other).name ≡ false) →
      IsThere s x ms (place x (letters_by s ms))
  there x [] lt stands = absurd (omega (arith, lt))
  there x (m ∷ ms) lt stands = there_step x m ms (is_before m.name x) refl (there x ms) lt stands
