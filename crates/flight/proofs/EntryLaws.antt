-- The index and the messages by keys, together.
use Rattle.std.proofs.Common.{◌≡◌, ◌≢◌, refl, ◌^◌, ◌<◌, ◌∙◌, ℕ, zero, suc, Bool, true, false, List, [], ◌∷◌, length, ap, sym, subst, arith}
use Rattle.std.specs.Prelude.{if◌then◌else◌, Option, Some, None, IsSome, option_map, slice_index_or}
use Rattle.std.specs.List.{AllByRecursion, insert, remove}
use Rattle.slab.specs.Slab.{Slab, get, Updates}
use Rattle.vert_base.specs.declared.message.Name.{Name}
use Rattle.vert_base.specs.declared.message.Message.{Message}
use Rattle.vert_base.specs.Names.{is_before, same_name, numbers_of}
use Rattle.vert_base.specs.Letters.{Letter, letter_of, found, placed, without, Ascends}
use Rattle.vert_base.proofs.LetterLaws.{found_name, longer, shorter, not_later, not_same, placed_ascends, same_self, taken_none, without_ascends}
use Rattle.flight.specs.declared.entries.Entry.{Entry}
use Rattle.flight.specs.Order.{IsInOrder}
use Rattle.flight.specs.Entries.{body_of, letter_by, letters_by, HasMessage, IsSound, IsFoundAt, IsNowhere, NamesAscend, place}
use Rattle.flight.proofs.PlaceLaws.{IsThere, missing, put_in, there}

abbrev name_in : Option Message → Option Name
name_in held = option_map (λ (m : Message). m.name) held

-- the names ascend or not, whatever the messages are
ahead_any : (s t : Slab Message) (x : Name) (es : List Entry) →
    AllByRecursion (λ (z : Letter). is_before x z.name ≡ true) (letters_by s es) →
    AllByRecursion (λ (z : Letter). is_before x z.name ≡ true) (letters_by t es)
ahead_any s t x [] all = tt
ahead_any s t x (e ∷ es) all = (all.0, ahead_any s t x es all.1)

pub ascend_any : (s : Slab Message) (es : List Entry) → Ascends (letters_by s es) → NamesAscend es
ascend_any s [] up t = tt
ascend_any s (e ∷ es) up t = (ahead_any s t e.name es up.0, ascend_any s es up.1 t)

pub place_any : (s t : Slab Message) (x : Name) (es : List Entry) →
    place x (letters_by s es) ≡ place x (letters_by t es)
place_any s t x [] = refl
place_any s t x (e ∷ es) = ap (λ (n : ℕ). if is_before e.name x then suc n else 0) (place_any s t x es)

-- these entries have the same messages in both
abbrev SameFor : Slab Message → Slab Message → List Entry → Type 0
SameFor old new es = AllByRecursion (λ (e : Entry). get new e.key ≡ get old e.key) es

same_letters : (old new : Slab Message) (es : List Entry) → SameFor old new es → letters_by new es ≡ letters_by old es
same_letters old new [] same = refl
same_letters old new (e ∷ es) same =
    ap (λ (held : Option Message). record { name = e.name; body = body_of held } ∷ letters_by new es) same.0
    ∙ ap (λ (r : List Letter). letter_by old e ∷ r) (same_letters old new es same.1)

same_have : (old new : Slab Message) (es : List Entry) → SameFor old new es → AllByRecursion (HasMessage old) es →
    AllByRecursion (HasMessage new) es
same_have old new [] same have = tt
same_have old new (e ∷ es) same have = (ap name_in same.0 ∙ have.0, same_have old new es same.1 have.1)

-- a key is that of none of these entries
abbrev OtherKeys : ℕ → List Entry → Type 0
OtherKeys key es = AllByRecursion (λ (e : Entry). e.key ≢ key) es

same_for : (old new : Slab Message) (key : ℕ) (slot : Option Message) (es : List Entry) → Updates old new key slot →
    OtherKeys key es → SameFor old new es
same_for old new key slot [] updates other = tt
same_for old new key slot (e ∷ es) updates other = (
  updates.others e.key other.0,
  same_for old new key slot es updates other.1,
)

some_is : {x y : Name} → ◌≡◌ {A = Option Name} (Some x) (Some y) → x ≡ y
some_is e = cc

none_some : {x : Name} → ◌≡◌ {A = Option Name} None (Some x) → ⊥
none_some e = cc

-- a vacant key is that of none
vacant_key : (s : Slab Message) (key : ℕ) (es : List Entry) → get s key ≡ None → AllByRecursion (HasMessage s) es →
    OtherKeys key es
vacant_key s key [] vacant have = tt
vacant_key s key (e ∷ es) vacant have = (
  λ same. none_some (sym (ap name_in vacant) ∙ sym (ap (λ (k : ℕ). name_in (get s k)) same) ∙ have.0),
  vacant_key s key es vacant have.1,
)

clash : {b : Bool} → b ≡ true → b ≡ false → ⊥
clash e f = cc

-- the key of a name that no entry has is that of none
other_name : (s : Slab Message) (key : ℕ) (x : Name) (es : List Entry) → name_in (get s key) ≡ Some x →
    found x (letters_by s es) ≡ None → AllByRecursion (HasMessage s) es → OtherKeys key es
other_name s key x [] is none have = tt
other_name s key x (e ∷ es) is none have = (
  λ same.
      let named : e.name ≡ x = some_is (sym have.0 ∙ ap (λ (k : ℕ). name_in (get s k)) same ∙ is) in
      clash (subst (λ (n : Name). same_name n x ≡ true) (sym named) (same_self (numbers_of x)))
      (not_same (same_name e.name x) (letter_by s e) (found x (letters_by s es)) none),
  other_name s key x es is (not_later (same_name e.name x) (letter_by s e) (found x (letters_by s es)) none) have.1,
)

have_put : (s : Slab Message) (new : Entry) (at : ℕ) (es : List Entry) → HasMessage s new →
    AllByRecursion (HasMessage s) es → AllByRecursion (HasMessage s) (insert es at new)
have_put s new zero [] has have = (has, tt)
have_put s new (suc at) [] has have = (has, tt)
have_put s new zero (e ∷ es) has have = (has, have)
have_put s new (suc at) (e ∷ es) has have = (have.0, have_put s new at es has have.1)

have_left : (s : Slab Message) (at : ℕ) (es : List Entry) → AllByRecursion (HasMessage s) es →
    AllByRecursion (HasMessage s) (remove es at)
have_left s zero [] have = tt
have_left s (suc at) [] have = tt
have_left s zero (e ∷ es) have = have.1
have_left s (suc at) (e ∷ es) have = (have.0, have_left s at es have.1)

pub have_at : (s : Slab Message) (at : ℕ) (es : List Entry) (other : Entry) → at < length es →
    AllByRecursion (HasMessage s) es → HasMessage s (slice_index_or es at other)
have_at s at [] other lt have = absurd (omega (arith, lt))
have_at s zero (e ∷ es) other lt have = have.0
have_at s (suc at) (e ∷ es) other lt have = have_at s at es other (omega (arith, lt)) have.1

-- with room for more messages
pub grown_sound : (s : Slab Message) (capacity : ℕ) (es : List Entry) → IsSound s es →
    IsSound (record s { capacity = capacity }) es
grown_sound s capacity es sound = record { order = sound.order; have = sound.have }

-- after the message of a vacant key was put in, with its entry
module _ (old new : Slab Message) (es : List Entry) (sound : IsSound old es) (m : Message) (key at : ℕ)
    (vacant : get old key ≡ None) (updates : Updates old new key (Some m)) where
  abbrev entry_of : Entry
  entry_of = record { name = m.name; key = key }

  kept_for : SameFor old new es
  kept_for = same_for old new key (Some m) es updates (vacant_key old key es vacant sound.have)

  pub put_letters : at ≡ place m.name (letters_by old es) →
      letters_by new (insert es at entry_of) ≡ placed (letter_of m) (letters_by old es)
  put_letters e =
      ap (λ (n : ℕ). letters_by new (insert es n entry_of)) (e ∙ place_any old new m.name es)
      ∙ put_in new entry_of es
      ∙ ap (λ (held : Option Message). placed (record { name = m.name; body = body_of held }) (letters_by new es))
      updates.changed
      ∙ ap (placed (letter_of m)) (same_letters old new es kept_for)

  pub put_sound : at ≡ place m.name (letters_by old es) → found m.name (letters_by old es) ≡ None →
      length (letters_by old es) < 2 ^ 31 → IsSound new (insert es at entry_of)
  put_sound e fresh room = record {
    order = subst IsInOrder (sym (put_letters e)) (record {
      ascends = placed_ascends (letter_of m) (letters_by old es) sound.order.ascends fresh;
      count = omega (arith, longer (letter_of m) (letters_by old es), room);
    });
    have = have_put new entry_of at es (ap name_in updates.changed) (same_have old new es kept_for sound.have);
  }

  -- and taken out again for want of memory
  module _ (last : Slab Message) (again : Updates new last key None) where
    back_for : SameFor old last es
    back_for = both es kept_for (same_for new last key None es again (vacant_key old key es vacant sound.have))
      where
        both : (fs : List Entry) → SameFor old new fs → SameFor new last fs → SameFor old last fs
        both [] a b = tt
        both (f ∷ fs) a b = (b.0 ∙ a.0, both fs a.1 b.1)

    pub back_letters : letters_by last es ≡ letters_by old es
    back_letters = same_letters old last es back_for

    pub back_sound : IsSound last es
    back_sound = record {
      order = subst IsInOrder (sym back_letters) sound.order;
      have = same_have old last es back_for sound.have;
    }

-- what an entry's key has, as a letter
pub letter_held : (held : Option Message) (x : Name) → name_in held ≡ Some x →
    option_map letter_of held ≡ Some (record { name = x; body = body_of held })
letter_held None x e = absurd (none_some e)
letter_held (Some m) x e = ap (λ (n : Name). Some (record { name = n; body = m.body.items })) (some_is e)

-- the entry of a name
module _ (s : Slab Message) (es : List Entry) (sound : IsSound s es) (x : Name) (at : ℕ) (there : IsFoundAt x es at)
    (entry : Entry) (is : entry ≡ slice_index_or es at entry) where
  found_is : found x (letters_by s es) ≡ Some (letter_by s entry)
  found_is = there.here s entry ∙ ap (λ (e : Entry). Some (letter_by s e)) (sym is)

  has_message : HasMessage s entry
  has_message = subst (HasMessage s) (sym is) (have_at s at es entry there.within sound.have)

  named : name_in (get s entry.key) ≡ Some x
  named = has_message ∙ ap (λ (n : Name). Some n) (found_name x (letters_by s es) (letter_by s entry) found_is)

  pub message_is : option_map letter_of (get s entry.key) ≡ found x (letters_by s es)
  message_is = letter_held (get s entry.key) entry.name has_message ∙ sym found_is

  pub has_key : IsSome (get s entry.key)
  has_key = some_from (get s entry.key) named
    where
      some_from : (held : Option Message) → name_in held ≡ Some x → IsSome held
      some_from None e = absurd (none_some e)
      some_from (Some m) e = refl

  -- once it was taken out, with its entry
  module _ (new : Slab Message) (updates : Updates s new entry.key None) where
    left_for : SameFor s new (remove es at)
    left_for =
        same_for s new entry.key None (remove es at) updates
        (other_name s entry.key x (remove es at) named (ap (found x) (there.rest s)
        ∙ taken_none x (letters_by s es) sound.order.ascends) (have_left s at es sound.have))

    pub taken_letters : letters_by new (remove es at) ≡ without x (letters_by s es)
    taken_letters = same_letters s new (remove es at) left_for ∙ there.rest s

    pub taken_sound : IsSound new (remove es at)
    taken_sound = record {
      order = subst IsInOrder (sym taken_letters) (record {
        ascends = without_ascends x (letters_by s es) sound.order.ascends;
        count = omega (arith, shorter x (letters_by s es), sound.order.count);
      });
      have = same_have s new (remove es at) left_for (have_left s at es sound.have);
    }

-- where a name stands, or not
pub found_there : (x : Name) (es : List Entry) (at : ℕ) → ((s : Slab Message) → at ≡ place x (letters_by s es)) →
    at < length es → ((other : Entry) → is_before x (slice_index_or es at other).name ≡ false) → IsFoundAt x es at
found_there x es at e within stands =
    let it : (s : Slab Message) → IsThere s x es at = λ s.
    subst (IsThere s x es) (sym (e s))
    (there s x es (subst (λ (n : ℕ). n < length es) (e s) within) (λ other.
    subst (λ (n : ℕ). is_before x (slice_index_or es n other).name ≡ false) (e s) (stands other))) in
    record { within = within; here = λ s other. (it s).here other; rest = λ s. (it s).rest }

pub nowhere : (x : Name) (es : List Entry) (at : ℕ) → NamesAscend es →
    ((s : Slab Message) → at ≡ place x (letters_by s es)) →
    ((other : Entry) → at < length es → is_before x (slice_index_or es at other).name ≡ true) → IsNowhere x es
nowhere x es at up e gone = λ s.
    missing s x es (up s) (λ other. subst (λ (n : ℕ). n < length es → is_before x (slice_index_or es n other).name
    ≡ true) (e s) (gone other))
