-- The messages in their places, as the list of them in the order of their names.
use Rattle.std.proofs.Common.{◌≡◌, refl, ◌+◌, ◌*◌, ◌<◌, ◌≤◌, ◌∙◌, ℕ, zero, suc, Bool, true, false, List, [], ◌∷◌, length, ap, sym, subst, arith}
use Rattle.std.specs.Prelude.{if◌then◌else◌, Option, Some, None, is_some, option_map, replicate, slice_index_or, slice_set}
use Rattle.std.specs.List.{AllByRecursion}
use Rattle.std.proofs.lemmas.List.{length-set}
use Rattle.std.proofs.lemmas.List.Elements.{All-from_recursion, recursion_from_All}
use Rattle.vert_base.specs.declared.message.Name.{Name}
use Rattle.vert_base.specs.declared.message.Message.{Message}
use Rattle.vert_base.specs.Names.{is_before, same_name}
use Rattle.vert_base.specs.Letters.{Letter, letter_of, found, placed, without, Ascends, IsMissing}
use Rattle.vert_base.proofs.LetterLaws.{absent, names_law, not_true, one_way, past_other, placed_ascends, without_ascends}
use Rattle.double_buffer.specs.Taking.{CanTake}
use Rattle.double_buffer.specs.Places.{place_of, letters_in, letter_at, LieInPlace, AreSound}
use Rattle.double_buffer.specs.Held.{Held, AreOfRound, with_letter, without_name}
use Rattle.double_buffer.proofs.PlaceLaws.{has_place, place_before, place_same}

abbrev Places : Type 0
Places = List (Option Message)

-- each message is of the round and receiver of x
abbrev Together : Name → List Letter → Type 0
Together x ms = AllByRecursion (λ (y : Letter). (y.name.round ≡ x.round) × (y.name.to ≡ x.to)) ms

-- names in two places are two names
apart_places : (p : ℕ) (a x : Name) → (place_of p a ≡ place_of p x → ⊥) → same_name a x ≡ false
apart_places p a x apart = not_true (same_name a x) (λ e. apart (ap (place_of p) (names_law a x e)))

-- behind the place of a name nothing has it
none_past : (p at : ℕ) (places : Places) (x : Name) → LieInPlace p at places → place_of p x < at →
    IsMissing x (letters_in places)
none_past p at [] x lie lt = record { missing = refl; whole = refl }
none_past p at (None ∷ places) x lie lt = none_past p (suc at) places x lie (omega (arith, lt))
none_past p at (Some m ∷ places) x lie lt =
    past_other x (letter_of m) (letters_in places) (apart_places p m.name x (λ e. omega (arith, lt, lie.1, e)))
    (none_past p (suc at) places x lie.2 (omega (arith, lt)))

-- the message of a name is the one in its place
pub found_at : (p at i : ℕ) (places : Places) (x : Name) → LieInPlace p at places → at + i ≡ place_of p x →
    found x (letters_in places) ≡ letter_at x (slice_index_or places i None)
found_at p at i [] x lie e = refl
found_at p at zero (None ∷ places) x lie e = (none_past p (suc at) places x lie (omega (arith, e))).missing
found_at p at (suc i) (None ∷ places) x lie e = found_at p (suc at) i places x lie (omega (arith, e))
found_at p at zero (Some m ∷ places) x lie e =
    ap (λ (r : Option Letter). if same_name m.name x then Some (letter_of m) else r)
    (none_past p (suc at) places x lie.2 (omega (arith, e))).missing
found_at p at (suc i) (Some m ∷ places) x lie e =
    ap (λ (b : Bool). if b then Some (letter_of m) else found x (letters_in places))
    (apart_places p m.name x (λ f. omega (arith, e, lie.1, f)))
    ∙ found_at p (suc at) i places x lie.2 (omega (arith, e))

if_some : (b : Bool) (m y : Letter) → ◌≡◌ {A = Option Letter} (if b then Some m else None) (Some y) → b ≡ true
if_some true m y e = refl
if_some false m y e = absurd (cc)

-- the messages without the one in the place of a name
module _ (p : ℕ) where
  pub cleared_at : (at i : ℕ) (places : Places) (x : Name) (y : Letter) → LieInPlace p at places →
      at + i ≡ place_of p x → letter_at x (slice_index_or places i None) ≡ Some y →
      letters_in (slice_set places i None) ≡ without x (letters_in places)
  cleared_at at i [] x y lie e here = refl
  cleared_at at zero (None ∷ places) x y lie e here = absurd (cc)
  cleared_at at (suc i) (None ∷ places) x y lie e here = cleared_at (suc at) i places x y lie (omega (arith, e)) here
  cleared_at at zero (Some m ∷ places) x y lie e here =
      sym (ap (λ (b : Bool). if b then letters_in places else letter_of m ∷ without x (letters_in places))
      (if_some (same_name m.name x) (letter_of m) y here))
  cleared_at at (suc i) (Some m ∷ places) x y lie e here =
      ap (λ (r : List Letter). letter_of m ∷ r) (cleared_at (suc at) i places x y lie.2 (omega (arith, e)) here)
      ∙ sym (ap (λ (b : Bool). if b then letters_in places else letter_of m ∷ without x (letters_in places))
      (apart_places p m.name x (λ f. omega (arith, e, lie.1, f))))

-- a message before all those behind its place
placed_first : (p at : ℕ) (places : Places) (m : Message) → LieInPlace p at places →
    Together m.name (letters_in places) → CanTake p m.name → place_of p m.name < at →
    placed (letter_of m) (letters_in places) ≡ letter_of m ∷ letters_in places
placed_first p at [] m lie all can lt = refl
placed_first p at (None ∷ places) m lie all can lt = placed_first p (suc at) places m lie all can (omega (arith, lt))
placed_first p at (Some y ∷ places) m lie all can lt =
    ap (λ (b : Bool). if b then letter_of y ∷ placed (letter_of m) (letters_in places) else letter_of m ∷ letter_of y
    ∷ letters_in places)
    (one_way m.name y.name (place_before p m.name y.name (sym all.0.0) can lie.0 (omega (arith, lt, lie.1))))

-- the messages with one more in the place of its name
module _ (p : ℕ) (m : Message) (can : CanTake p m.name) where
  pub filled_at : (at i : ℕ) (places : Places) → LieInPlace p at places → Together m.name (letters_in places) →
      at + i ≡ place_of p m.name → i < length places → slice_index_or places i None ≡ None →
      letters_in (slice_set places i (Some m)) ≡ placed (letter_of m) (letters_in places)
  filled_at at i [] lie all e lt free = absurd (omega (arith, lt))
  filled_at at zero (None ∷ places) lie all e lt free = sym
      (placed_first p (suc at) places m lie all can (omega (arith, e)))
  filled_at at (suc i) (None ∷ places) lie all e lt free = filled_at (suc at) i places lie all
      (omega (arith, e)) (omega (arith, lt)) free
  filled_at at zero (Some y ∷ places) lie all e lt free = absurd (cc)
  filled_at at (suc i) (Some y ∷ places) lie all e lt free =
      ap (λ (r : List Letter). letter_of y ∷ r)
      (filled_at (suc at) i places lie.2 all.1 (omega (arith, e)) (omega (arith, lt)) free)
      ∙ sym (ap (λ (b : Bool). if b then letter_of y ∷ placed (letter_of m) (letters_in places)
      else letter_of m ∷ letter_of y ∷ letters_in places)
      (place_before p y.name m.name all.0.0 lie.0 can (omega (arith, e, lie.1))))

-- the place of a name that isn't held is free
module _ (p : ℕ) (x : Name) where
  free_at : (at i : ℕ) (places : Places) → LieInPlace p at places → Together x (letters_in places) →
      CanTake p x → at + i ≡ place_of p x → letter_at x (slice_index_or places i None) ≡ None →
      slice_index_or places i None ≡ None
  free_at at i [] lie all can e none = refl
  free_at at zero (None ∷ places) lie all can e none = refl
  free_at at (suc i) (None ∷ places) lie all can e none = free_at (suc at) i places lie all can
      (omega (arith, e)) none
  free_at at zero (Some m ∷ places) lie all can e none =
      let same : same_name m.name x ≡ true = place_same p m.name x all.0.0 all.0.1 lie.0 can (omega (
        arith,
        e,
        lie.1,
      )) in
      absurd (some_none (letter_of m) (ap (λ (b : Bool). if b then Some (letter_of m) else None) same) none)
    where
      some_none : {r : Option Letter} (y : Letter) → r ≡ Some y → r ≡ None → ⊥
      some_none y s t = cc
  free_at at (suc i) (Some m ∷ places) lie all can e none = free_at (suc at) i places lie.2 all.1 can
      (omega (arith, e)) none

lie_filled : (p at i : ℕ) (places : Places) (m : Message) → LieInPlace p at places → CanTake p m.name →
    at + i ≡ place_of p m.name → LieInPlace p at (slice_set places i (Some m))
lie_filled p at i [] m lie can e = tt
lie_filled p at zero (None ∷ places) m lie can e = (can, omega (arith, e), lie)
lie_filled p at (suc i) (None ∷ places) m lie can e = lie_filled p (suc at) i places m lie can (omega (arith, e))
lie_filled p at zero (Some y ∷ places) m lie can e = (can, omega (arith, e), lie.2)
lie_filled p at (suc i) (Some y ∷ places) m lie can e = (
  lie.0,
  lie.1,
  lie_filled p (suc at) i places m lie.2 can (omega (arith, e)),
)

lie_cleared : (p at i : ℕ) (places : Places) → LieInPlace p at places → LieInPlace p at (slice_set places i None)
lie_cleared p at i [] lie = tt
lie_cleared p at zero (None ∷ places) lie = lie
lie_cleared p at (suc i) (None ∷ places) lie = lie_cleared p (suc at) i places lie
lie_cleared p at zero (Some y ∷ places) lie = lie.2
lie_cleared p at (suc i) (Some y ∷ places) lie = (lie.0, lie.1, lie_cleared p (suc at) i places lie.2)

-- free places
pub none_held : (n : ℕ) → letters_in (replicate n None) ≡ []
none_held zero = refl
none_held (suc n) = none_held n

free_lie : (p at n : ℕ) → LieInPlace p at (replicate n None)
free_lie p at zero = tt
free_lie p at (suc n) = free_lie p (suc at) n

replicate_length : (n : ℕ) → ◌≡◌ {A = ℕ} (length {A = Option Message} (replicate n None)) n
replicate_length zero = refl
replicate_length (suc n) = ap suc (replicate_length n)

pub sound_free : (cap p : ℕ) → 1 ≤ p → p ≤ cap → p ≤ 64 → AreSound cap p (replicate (12 * p) None)
sound_free cap p some within few = record {
  some = some;
  within = within;
  few = few;
  size = replicate_length (12 * p);
  lie = free_lie p 0 (12 * p);
  ascends = subst Ascends (sym (none_held (12 * p))) tt;
}

module _ (cap p : ℕ) (places : Places) (sound : AreSound cap p places) where
  pub found_in : (x : Name) → found x (letters_in places) ≡ letter_at x (slice_index_or places (place_of p x) None)
  found_in x = found_at p 0 (place_of p x) places x sound.lie (omega arith)

  pub put_in : (m : Message) → CanTake p m.name → found m.name (letters_in places) ≡ None →
      AreOfRound m.name.round m.name.to (letters_in places) →
      letters_in (slice_set places (place_of p m.name) (Some m)) ≡ placed (letter_of m) (letters_in places)
  put_in m can none together =
      let all : Together m.name (letters_in places) =
      recursion_from_All (λ (y : Letter). (y.name.round ≡ m.name.round) × (y.name.to ≡ m.name.to))
      (letters_in places) together in
      let free = free_at p m.name 0 (place_of p m.name) places sound.lie all can (omega arith) (sym (found_in m.name)
      ∙ none) in
      filled_at p m can 0 (place_of p m.name) places sound.lie all (omega arith)
      (omega (arith, has_place p m.name can, sound.size)) free

  pub sound_put : (m : Message) → CanTake p m.name → found m.name (letters_in places) ≡ None →
      AreOfRound m.name.round m.name.to (letters_in places) →
      AreSound cap p (slice_set places (place_of p m.name) (Some m))
  sound_put m can none together = record {
    some = sound.some;
    within = sound.within;
    few = sound.few;
    size = length-set places (place_of p m.name) (Some m) ∙ sound.size;
    lie = lie_filled p 0 (place_of p m.name) places m sound.lie can (omega arith);
    ascends = subst Ascends (sym (put_in m can none together))
        (placed_ascends (letter_of m) (letters_in places) sound.ascends none);
  }

  pub lift_in : (x : Name) (y : Letter) → letter_at x (slice_index_or places (place_of p x) None) ≡ Some y →
      letters_in (slice_set places (place_of p x) None) ≡ without x (letters_in places)
  lift_in x y here = cleared_at p 0 (place_of p x) places x y sound.lie (omega arith) here

  pub keep_in : (x : Name) → letter_at x (slice_index_or places (place_of p x) None) ≡ None →
      letters_in places ≡ without x (letters_in places)
  keep_in x none = sym (absent x (letters_in places) (found_in x ∙ none))

  pub sound_lift : (x : Name) (y : Letter) → letter_at x (slice_index_or places (place_of p x) None) ≡ Some y →
      AreSound cap p (slice_set places (place_of p x) None)
  sound_lift x y here = record {
    some = sound.some;
    within = sound.within;
    few = sound.few;
    size = length-set places (place_of p x) None ∙ sound.size;
    lie = lie_cleared p 0 (place_of p x) places sound.lie;
    ascends = subst Ascends (sym (lift_in x y here)) (without_ascends x (letters_in places) sound.ascends);
  }

-- what holds of all messages held, once one more was put in or one was taken out
module _ (r to : ℕ) (m y : Letter) (ys rest : List Letter) where
  of_round_step : (b : Bool) → (m.name.round ≡ r) × (m.name.to ≡ to) →
      AllByRecursion (λ (z : Letter). (z.name.round ≡ r) × (z.name.to ≡ to)) (y ∷ ys) →
      AllByRecursion (λ (z : Letter). (z.name.round ≡ r) × (z.name.to ≡ to)) rest →
      AllByRecursion (λ (z : Letter). (z.name.round ≡ r) × (z.name.to ≡ to)) (if b then y ∷ rest else m ∷ y ∷
      ys)
  of_round_step true is all more = (all.0, more)
  of_round_step false is all more = (is, all)

of_round_in : (r to : ℕ) (m : Letter) (ms : List Letter) → (m.name.round ≡ r) × (m.name.to ≡ to) →
    AllByRecursion (λ (z : Letter). (z.name.round ≡ r) × (z.name.to ≡ to)) ms →
    AllByRecursion (λ (z : Letter). (z.name.round ≡ r) × (z.name.to ≡ to)) (placed m ms)
of_round_in r to m [] is all = (is, tt)
of_round_in r to m (y ∷ ys) is all = of_round_step r to m y ys (placed m ys) (is_before y.name m.name) is all
    (of_round_in r to m ys is all.1)

pub of_round_placed : (r to : ℕ) (m : Letter) (ms : List Letter) → m.name.round ≡ r → m.name.to ≡ to →
    AreOfRound r to ms → AreOfRound r to (placed m ms)
of_round_placed r to m ms round goes all =
    All-from_recursion (λ (z : Letter). (z.name.round ≡ r) × (z.name.to ≡ to)) (placed m ms)
    (of_round_in r to m ms (round, goes) (recursion_from_All (λ (z : Letter). (z.name.round ≡ r) × (z.name.to ≡ to))
    ms all))

of_round_left : (r to : ℕ) (z : Letter) (zs rest : List Letter) (b : Bool) →
    AllByRecursion (λ (y : Letter). (y.name.round ≡ r) × (y.name.to ≡ to)) (z ∷ zs) →
    AllByRecursion (λ (y : Letter). (y.name.round ≡ r) × (y.name.to ≡ to)) rest →
    AllByRecursion (λ (y : Letter). (y.name.round ≡ r) × (y.name.to ≡ to)) (if b then zs else z ∷ rest)
of_round_left r to z zs rest true all more = all.1
of_round_left r to z zs rest false all more = (all.0, more)

of_round_but : (r to : ℕ) (x : Name) (ms : List Letter) →
    AllByRecursion (λ (y : Letter). (y.name.round ≡ r) × (y.name.to ≡ to)) ms →
    AllByRecursion (λ (y : Letter). (y.name.round ≡ r) × (y.name.to ≡ to)) (without x ms)
of_round_but r to x [] all = tt
of_round_but r to x (z ∷ zs) all = of_round_left r to z zs (without x zs) (same_name z.name x) all
    (of_round_but r to x zs all.1)

pub of_round_without : (r to : ℕ) (x : Name) (ms : List Letter) → AreOfRound r to ms → AreOfRound r to (without x ms)
of_round_without r to x ms all =
    All-from_recursion (λ (y : Letter). (y.name.round ≡ r) × (y.name.to ≡ to)) (without x ms)
    (of_round_but r to x ms (recursion_from_All (λ (y : Letter). (y.name.round ≡ r) × (y.name.to ≡ to)) ms all))

abbrev pub held_of : ℕ → List Letter → Held
held_of p ms = record { machines = p; letters = ms }

-- what a look into the place of a name gives
module _ (cap p : ℕ) (places : Places) (sound : AreSound cap p places) (x : Name) (at : ℕ) (seen : Places)
    (held : Held) (r : Option Letter) where
  pub look_in : at ≡ place_of p x → seen ≡ places → held_of p (letters_in places) ≡ held →
      r ≡ letter_at x (slice_index_or seen at None) → r ≡ found x held.letters
  look_in e f view is =
      is ∙ ap (λ (n : ℕ). letter_at x (slice_index_or seen n None)) e
      ∙ ap (λ (ms : Places). letter_at x (slice_index_or ms (place_of p x) None)) f
      ∙ sym (found_in cap p places sound x) ∙ ap (λ (h : Held). found x h.letters) view

-- after a message was put into its place
pub record IsPut (cap p : ℕ) (new : Places) (held : Held) (m : Message) : Type 0 where
  pub sound : AreSound cap p new
  pub now : held_of p (letters_in new) ≡ with_letter (letter_of m) held

module _ (cap p : ℕ) (places new : Places) (sound : AreSound cap p places) (m : Message) (at : ℕ) (held : Held) where
  pub put_at : at ≡ place_of p m.name → new ≡ slice_set places at (Some m) →
      held_of p (letters_in places) ≡ held → CanTake held.machines m.name → found m.name held.letters ≡ None →
      AreOfRound m.name.round m.name.to held.letters → IsPut cap p new held m
  put_at e is view one fresh together =
      let can : CanTake p m.name = subst (λ (h : Held). CanTake h.machines m.name) (sym view) one in
      let none : found m.name (letters_in places) ≡ None =
      subst (λ (h : Held). found m.name h.letters ≡ None) (sym view) fresh in
      let all : AreOfRound m.name.round m.name.to (letters_in places) =
      subst (λ (h : Held). AreOfRound m.name.round m.name.to h.letters) (sym view) together in
      let there : new ≡ slice_set places (place_of p m.name) (Some m) =
      is ∙ ap (λ (n : ℕ). slice_set places n (Some m)) e in
      record {
        sound = subst (AreSound cap p) (sym there) (sound_put cap p places sound m can none all);
        now = ap (λ (ps : Places). held_of p (letters_in ps)) there
            ∙ ap (held_of p) (put_in cap p places sound m can none all) ∙ ap (with_letter (letter_of m)) view;
      }

-- after the place of a name was cleared
pub record IsLifted (cap p : ℕ) (new : Places) (held : Held) (x : Name) : Type 0 where
  pub sound : AreSound cap p new
  pub now : held_of p (letters_in new) ≡ without_name x held

module _ (cap p : ℕ) (places new : Places) where
  lift_by : AreSound cap p places → (x : Name) (r : Option Message) →
      option_map letter_of r ≡ letter_at x (slice_index_or places (place_of p x) None) →
      new ≡ (if is_some r then slice_set places (place_of p x) None else places) →
      IsLifted cap p new (held_of p (letters_in places)) x
  lift_by sound x None here is = record {
    sound = subst (AreSound cap p) (sym is) sound;
    now = ap (λ (ps : Places). held_of p (letters_in ps)) is ∙ ap (held_of p) (keep_in cap p places sound x (sym
        here));
  }
  lift_by sound x (Some m) here is = record {
    sound = subst (AreSound cap p) (sym is) (sound_lift cap p places sound x (letter_of m) (sym here));
    now = ap (λ (ps : Places). held_of p (letters_in ps)) is
        ∙ ap (held_of p) (lift_in cap p places sound x (letter_of m) (sym here));
  }

module _ (cap p : ℕ) (places new : Places) (sound : AreSound cap p places) (x : Name) (r : Option Message)
    (at : ℕ) (held : Held) where
  pub lift_at : at ≡ place_of p x → option_map letter_of r ≡ letter_at x (slice_index_or places at None) →
      new ≡ (if is_some r then slice_set places at None else places) → held_of p (letters_in places) ≡ held →
      IsLifted cap p new held x
  lift_at e here is view =
      subst (λ (h : Held). IsLifted cap p new h x) view (lift_by cap p places new sound x r
      (here ∙ ap (λ (n : ℕ). letter_at x (slice_index_or places n None)) e)
      (is ∙ ap (λ (n : ℕ). if is_some r then slice_set places n None else places) e))
