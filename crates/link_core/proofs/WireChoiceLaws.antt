-- The choices of the wire by their places, and the ready machines one after another.
use Rattle.std.proofs.Common.{◌≡◌, ℕ, zero, suc, ◌+◌, ◌-◌, ◌*◌, ◌<◌, ◌≤◌, true, false, List, [], ◌∷◌, ◌++◌, drop, length, length-append, map, Some, None, refl, ap, sym, ◌∙◌, subst, arith, slice_get}
use Rattle.std.specs.Prelude.{if◌then◌else◌}
use Rattle.std.proofs.lemmas.List.{length-map}
use Rattle.vert_base.specs.declared.message.Name.{Name}
use Rattle.symple_face.specs.Cluster.{can_act, ready_from}
use Rattle.symple_face.specs.State.{State}
use Rattle.link_core.specs.declared.event.LinkEvent.{LinkEvent}
use Rattle.link_core.specs.declared.event.LinkEvent.TheVariants.{Take, Lose, Again, Ack, Drop}
use Rattle.link_core.specs.declared.pile.Pile.{Pile}
use Rattle.link_core.specs.declared.wire.Wire.{Wire}
use Rattle.link_core.specs.LinkChoices.{repeatable, wire_choices}
use Rattle.link_core.specs.Piles.{ArePiles, names_of}
use Rattle.link_core.specs.Traffic.{Traffic}
use Rattle.link_core.specs.Wires.{IsSettled, traffic_of}
use Rattle.link_core.proofs.LinkChoiceLaws.{repeatable_is}

-- ---- places in lists
pub at_first : {X : Type 0} → (f : X → LinkEvent) (xs : List X) (ys : List LinkEvent) (k : ℕ) (x : X) →
    slice_get xs k ≡ Some x → slice_get (map f xs ++ ys) k ≡ Some (f x)
at_first f [] ys k x e = absurd (cc)
at_first f (y ∷ xs) ys zero x e = let same : y ≡ x = cc in ap (λ q. Some (f q)) same
at_first f (y ∷ xs) ys (suc k) x e = at_first f xs ys k x e

pub at_later : {X : Type 0} → (f : X → LinkEvent) (xs : List X) (ys : List LinkEvent) (k j : ℕ) →
    k ≡ length xs + j → slice_get (map f xs ++ ys) k ≡ slice_get ys j
at_later f [] ys k j e = let same : k ≡ j = omega arith in ap (slice_get ys) same
at_later f (y ∷ xs) ys zero j e = absurd (omega arith)
at_later f (y ∷ xs) ys (suc k) j e = at_later f xs ys k j (omega arith)

pub at_last : (f : Name → LinkEvent) (xs : List Name) (k : ℕ) (x : Name) → slice_get xs k ≡ Some x →
    slice_get (map f xs) k ≡ Some (f x)
at_last f [] k x e = absurd (cc)
at_last f (y ∷ xs) zero x e = let same : y ≡ x = cc in ap (λ q. Some (f q)) same
at_last f (y ∷ xs) (suc k) x e = at_last f xs k x e

pub past_last : (f : Name → LinkEvent) (xs : List Name) (k j : ℕ) → k ≡ length xs + j → slice_get (map f xs) k ≡ None
past_last f [] k j e = refl
past_last f (y ∷ xs) zero j e = absurd (omega arith)
past_last f (y ∷ xs) (suc k) j e = past_last f xs k j (omega arith)

-- ---- the choices of the wire
module _ (w : Wire) (settled : IsSettled w) (are : ArePiles w.repeatable) (kept : ArePiles w.kept) where
  abbrev t : Traffic
  t = traffic_of w

  abbrev copies : List Name
  copies = names_of w.copies

  abbrev acks : List Name
  acks = names_of w.acks

  abbrev lasts : List LinkEvent
  lasts = map (λ x. Ack x) acks ++ map (λ x. Drop x) acks

  abbrev agains : List LinkEvent
  agains = map (λ x. Again x) (repeatable t) ++ lasts

  abbrev loses : List LinkEvent
  loses = map (λ x. Lose x) copies ++ agains

  same : names_of w.repeatable ≡ repeatable t
  same = repeatable_is w settled are kept

  named : (ps : List Pile) → length (names_of ps) ≡ length ps
  named ps = length-map ps (λ (p : Pile). p.name)

  pub wire_length : length (wire_choices t) ≡ 2 * length w.copies + length w.repeatable + 2 * length w.acks
  wire_length =
      let one = length-append (map (λ x. Take x) copies) loses in
      let two = length-append (map (λ x. Lose x) copies) agains in
      let three = length-append (map (λ x. Again x) (repeatable t)) lasts in
      let four = length-append (map (λ x. Ack x) acks) (map (λ x. Drop x) acks) in
      let takes = length-map copies (λ (x : Name). Take x) in
      let losses = length-map copies (λ (x : Name). Lose x) in
      let repeats = length-map (repeatable t) (λ (x : Name). Again x) in
      let firsts = length-map acks (λ (x : Name). Ack x) in
      let drops = length-map acks (λ (x : Name). Drop x) in
      let open_ones = ap length same in
      let c = named w.copies in
      let a = named w.acks in
      let r = named w.repeatable in
      omega arith

  passed : (ps : List Pile) (k j : ℕ) → k ≡ length ps + j → k ≡ length (names_of ps) + j
  passed ps k j e = let n = named ps in omega arith

  pub nth_take : (k : ℕ) (x : Name) → slice_get copies k ≡ Some x → slice_get (wire_choices t) k ≡ Some (Take x)
  nth_take k x e = at_first (λ y. Take y) copies loses k x e

  behind_takes : (k j : ℕ) → k ≡ length w.copies + j → slice_get (wire_choices t) k ≡ slice_get loses j
  behind_takes k j e = at_later (λ y. Take y) copies loses k j (passed w.copies k j e)

  module _ (k i : ℕ) (first : k ≡ length w.copies + i) where
    pub nth_lose : (x : Name) → slice_get copies i ≡ Some x → slice_get (wire_choices t) k ≡ Some (Lose x)
    nth_lose x e = behind_takes k i first ∙ at_first (λ y. Lose y) copies agains i x e

    module _ (j : ℕ) (second : i ≡ length w.copies + j) where
      behind_loses : slice_get (wire_choices t) k ≡ slice_get agains j
      behind_loses =
          behind_takes k i first ∙ at_later (λ y. Lose y) copies agains i j (passed w.copies i j second)

      pub nth_again : (x : Name) → slice_get (names_of w.repeatable) j ≡ Some x →
          slice_get (wire_choices t) k ≡ Some (Again x)
      nth_again x e =
          behind_loses
          ∙ at_first (λ y. Again y) (repeatable t) lasts j x (sym (ap (λ xs. slice_get xs j) same) ∙ e)

      module _ (h : ℕ) (third : j ≡ length w.repeatable + h) where
        behind_agains : slice_get (wire_choices t) k ≡ slice_get lasts h
        behind_agains =
            behind_loses
            ∙ at_later (λ y. Again y) (repeatable t) lasts j h
            (subst (λ xs. j ≡ length xs + h) same (passed w.repeatable j h third))

        pub nth_ack : (x : Name) → slice_get acks h ≡ Some x → slice_get (wire_choices t) k ≡ Some (Ack x)
        nth_ack x e = behind_agains ∙ at_first (λ y. Ack y) acks (map (λ y. Drop y) acks) h x e

        module _ (g : ℕ) (fourth : h ≡ length w.acks + g) where
          behind_acks : slice_get (wire_choices t) k ≡ slice_get (map (λ y. Drop y) acks) g
          behind_acks =
              behind_agains ∙ at_later (λ y. Ack y) acks (map (λ y. Drop y) acks) h g (passed w.acks h g fourth)

          pub nth_drop : (x : Name) → slice_get acks g ≡ Some x → slice_get (wire_choices t) k ≡ Some (Drop x)
          nth_drop x e = behind_acks ∙ at_last (λ y. Drop y) acks g x e

          pub nth_none : (f : ℕ) → g ≡ length w.acks + f → slice_get (wire_choices t) k ≡ None
          nth_none f fifth = behind_acks ∙ past_last (λ y. Drop y) acks g f (passed w.acks g f fifth)

-- ---- the ready machines from a number on
ready_drop : (ss : List State) (n j : ℕ) → j < length ss →
    ready_from n (drop j ss)
    ≡ (if can_act (slice_get ss j) then n ∷ ready_from (n + 1) (drop (suc j) ss)
    else ready_from (n + 1) (drop (suc j) ss))
ready_drop [] n j lt = absurd (omega arith)
ready_drop (s ∷ ss) n zero lt = refl
ready_drop (s ∷ ss) n (suc j) lt = ready_drop ss n j (omega arith)

pub ready_here : (ss : List State) (n : ℕ) → n < length ss →
    ready_from n (drop n ss)
    ≡ (if can_act (slice_get ss n) then n ∷ ready_from (n + 1) (drop (n + 1) ss)
    else ready_from (n + 1) (drop (n + 1) ss))
ready_here ss n lt =
    let next : suc n ≡ n + 1 = omega arith in
    ready_drop ss n n lt
    ∙ ap (λ j. if can_act (slice_get ss n) then n ∷ ready_from (n + 1) (drop j ss)
    else ready_from (n + 1) (drop j ss)) next

pub ready_yes : (ss : List State) (n : ℕ) → n < length ss → can_act (slice_get ss n) ≡ true →
    ready_from n (drop n ss) ≡ n ∷ ready_from (n + 1) (drop (n + 1) ss)
ready_yes ss n lt can =
    ready_here ss n lt
    ∙ ap (λ b. if b then n ∷ ready_from (n + 1) (drop (n + 1) ss) else ready_from (n + 1) (drop (n + 1) ss)) can

pub ready_not : (ss : List State) (n : ℕ) → n < length ss → can_act (slice_get ss n) ≡ false →
    ready_from n (drop n ss) ≡ ready_from (n + 1) (drop (n + 1) ss)
ready_not ss n lt can =
    ready_here ss n lt
    ∙ ap (λ b. if b then n ∷ ready_from (n + 1) (drop (n + 1) ss) else ready_from (n + 1) (drop (n + 1) ss)) can

pub behind_first : (n : ℕ) (ns : List ℕ) (k : ℕ) → 1 ≤ k → slice_get (n ∷ ns) k ≡ slice_get ns (k - 1)
behind_first n ns zero some = absurd (omega arith)
behind_first n ns (suc k) some = let same : k ≡ suc k - 1 = omega arith in ap (slice_get ns) same
