-- The choices over links are exactly the possible events.
use Rattle.std.proofs.Common.{◌≡◌, ◌⊎◌, ℕ, ◌≤◌, Bool, true, false, ◌&&◌, ◌||◌, not, List, [], ◌∷◌, ◌++◌, map, Option, Some, None, refl, ap, sym, ◌∙◌, subst, inl, inr, arith, ⊎_elim}
use Rattle.std.specs.Prelude.{◌↔◌, if◌then◌else◌, nat_le, nat_lt, option_map}
use Rattle.std.specs.List.{AllByRecursion, Contains, filter}
use Rattle.std.proofs.lemmas.Bool.{and_from, and_parts, false≢true, not-true, not_from_false}
use Rattle.std.proofs.lemmas.Bool.Decides.{nat_tests}
use Rattle.vert_base.specs.declared.message.Name.{Name}
use Rattle.vert_base.specs.declared.message.Event.TheVariants as plain
use Rattle.vert_base.specs.Letters.{Letter}
use Rattle.vert_base.specs.Names.{is_before, same_name}
use Rattle.circulant_plan.specs.Skeleton.{has_name}
use Rattle.circulant_plan.proofs.Members.{Has, contains_from_has, has_append_cases, has_from_contains, has_left, has_map, has_map_cases, has_right}
use Rattle.circulant_plan.proofs.NameLists.{has_from_name, name_from_has}
use Rattle.skeleton_laws.specs.Laws.{NamesRise}
use Rattle.skeleton_laws.proofs.LeastLaws.{rising_are_one, same_bool}
use Rattle.symple_face.specs.Cluster.{finished, goes, possible, ready_machines, takes}
use Rattle.cluster_run.specs.declared.fault.EventFault.{EventFault}
use Rattle.cluster_run.specs.declared.fault.EventFault.TheVariants.{NotUnderWay, RunOver}
use Rattle.cluster_run.specs.Choices.{AreChoices, GoesOn}
use Rattle.cluster_run.specs.Faults.{event_fault}
use Rattle.cluster_run.proofs.LetterLists.{same_swap}
use Rattle.link_core.specs.declared.event.LinkEvent.{LinkEvent}
use Rattle.link_core.specs.declared.event.LinkEvent.TheVariants.{Go, Take, Lose, Again, Ack, Drop}
use Rattle.link_core.specs.declared.fault.LinkFault.{LinkFault}
use Rattle.link_core.specs.declared.fault.LinkFault.TheVariants.{Plain, NotAgain, NoAck}
use Rattle.link_core.specs.declared.pile.Pile.{Pile}
use Rattle.link_core.specs.declared.wire.Wire.{Wire}
use Rattle.link_core.specs.LinkChoices.{link_choices, repeatable, wire_choices}
use Rattle.link_core.specs.LinkFaults.{fault_within, link_fault_of}
use Rattle.link_core.specs.Links.{Linked, can_happen, link_possible}
use Rattle.link_core.specs.Piles.{ArePiles, Ascend, IsPile, count_of, names_of}
use Rattle.link_core.specs.Traffic.{Traffic, can_repeat, has_ack, has_copy}
use Rattle.link_core.specs.Wires.{IsSettled, traffic_of}
use Rattle.link_core.proofs.PileLaws.{Behind}
use Rattle.link_core.proofs.TrafficLaws.{IsTraffic}

-- ---- the names of piles
is_some_count : (n : ℕ) → 1 ≤ n → nat_le 1 n ≡ true
is_some_count n le = grind (arith, nat_tests)

has_count_step : (x : Name) (p : Pile) (ps : List Pile) (b : Bool) → same_name p.name x ≡ b → IsPile p →
    has_name x (names_of ps) ≡ nat_le 1 (count_of x ps) →
    (b || has_name x (names_of ps)) ≡ nat_le 1 (if b then p.count else count_of x ps)
has_count_step x p ps true e is rest = sym (is_some_count p.count is.some)
has_count_step x p ps false e is rest = rest

-- a name has a pile where there is something of it
pub has_count : (x : Name) (ps : List Pile) → AllByRecursion IsPile ps →
    has_name x (names_of ps) ≡ nat_le 1 (count_of x ps)
has_count x [] all = refl
has_count x (p ∷ ps) all =
    ap (λ b. b || has_name x (names_of ps)) (same_swap x p.name)
    ∙ has_count_step x p ps (same_name p.name x) refl all.0 (has_count x ps all.1)

behind_name : (x : Name) (ps : List Pile) (y : Name) → Behind x ps → Has (names_of ps) y → is_before x y ≡ true
behind_name x [] y all h = absurd h
behind_name x (p ∷ ps) y all (inl e) = subst (λ z. is_before x z ≡ true) e all.0
behind_name x (p ∷ ps) y all (inr h) = behind_name x ps y all.1 h

pub piles_rise : (ps : List Pile) → Ascend ps → NamesRise (names_of ps)
piles_rise [] up = tt
piles_rise (p ∷ ps) up = (
  (λ y c. behind_name p.name ps y up.0 (has_from_contains (names_of ps) y c)),
  piles_rise ps up.1,
)

-- ---- the names for which a test holds
kept_step : (test : Name → Bool) (x : Name) (xs : List Name) (y : Name) (b : Bool) → test x ≡ b →
    Has (if b then x ∷ filter test xs else filter test xs) y → (Has (filter test xs) y → Has xs y × (test y ≡ true)) →
    Has (x ∷ xs) y × (test y ≡ true)
kept_step test x xs y true e (inl is) rest = (inl is, subst (λ z. test z ≡ true) is e)
kept_step test x xs y true e (inr h) rest = let m = rest h in (inr m.0, m.1)
kept_step test x xs y false e h rest = let m = rest h in (inr m.0, m.1)

pub has_kept_cases : (test : Name → Bool) (xs : List Name) (y : Name) → Has (filter test xs) y →
    Has xs y × (test y ≡ true)
has_kept_cases test [] y h = absurd h
has_kept_cases test (x ∷ xs) y h = kept_step test x xs y (test x) refl h (has_kept_cases test xs y)

put_step : (test : Name → Bool) (x : Name) (xs : List Name) (y : Name) (b : Bool) → test x ≡ b → test y ≡ true →
    (x ≡ y) ⊎ Has (filter test xs) y → Has (if b then x ∷ filter test xs else filter test xs) y
put_step test x xs y true e f (inl is) = inl is
put_step test x xs y true e f (inr h) = inr h
put_step test x xs y false e f (inl is) = absurd (false≢true (sym e ∙ subst (λ z. test z ≡ true) (sym is) f))
put_step test x xs y false e f (inr h) = h

pub has_kept : (test : Name → Bool) (xs : List Name) (y : Name) → Has xs y → test y ≡ true → Has (filter test xs) y
has_kept test [] y h f = absurd h
has_kept test (x ∷ xs) y (inl is) f = put_step test x xs y (test x) refl f (inl is)
has_kept test (x ∷ xs) y (inr h) f = put_step test x xs y (test x) refl f (inr (has_kept test xs y h f))

kept_rise_step : (test : Name → Bool) (x : Name) (xs : List Name) (b : Bool) → NamesRise (x ∷ xs) →
    NamesRise (filter test xs) → NamesRise (if b then x ∷ filter test xs else filter test xs)
kept_rise_step test x xs true rise rest = (
  (λ y c. rise.0 y (contains_from_has xs y
      (has_kept_cases test xs y (has_from_contains (filter test xs) y c)).0)),
  rest,
)
kept_rise_step test x xs false rise rest = rest

pub kept_rise : (test : Name → Bool) (xs : List Name) → NamesRise xs → NamesRise (filter test xs)
kept_rise test [] rise = tt
kept_rise test (x ∷ xs) rise = kept_rise_step test x xs (test x) rise (kept_rise test xs rise.1)

-- ---- the names that the wire finds at once are those that can be sent again
one_if : (b : Bool) → nat_le 1 (if b then 1 else 0) ≡ b
one_if true = refl
one_if false = refl

pub repeatable_is : (w : Wire) → IsSettled w → ArePiles w.repeatable → ArePiles w.kept →
    names_of w.repeatable ≡ repeatable (traffic_of w)
repeatable_is w settled are kept =
    let t : Traffic = traffic_of w in
    let there : (x : Name) → has_name x (names_of w.repeatable) ≡ can_repeat t x =
    λ x. has_count x w.repeatable are.each ∙ ap (nat_le 1) (settled x) ∙ one_if (can_repeat t x) in
    rising_are_one (names_of w.repeatable) (repeatable t) (piles_rise w.repeatable are.ascend)
    (kept_rise (can_repeat t) (names_of w.kept) (piles_rise w.kept kept.ascend))
    (λ x. same_bool (has_name x (names_of w.repeatable)) (has_name x (repeatable t))
    (λ h.
    let can = sym (there x) ∙ h in
    let has : has_name x (names_of w.kept) ≡ true =
    has_count x w.kept kept.each
    ∙ (and_parts (nat_le 1 (count_of x w.kept)) (nat_lt (count_of x w.copies) 255) can).0 in
    name_from_has x (repeatable t)
    (has_kept (can_repeat t) (names_of w.kept) x (has_from_name x (names_of w.kept) has) can))
    (λ h.
    there x ∙ (has_kept_cases (can_repeat t) (names_of w.kept) x (has_from_name x (repeatable t) h)).1))

-- ---- what is chosen is possible, and what is possible can be chosen
has_pile : (x : Name) (ps : List Pile) → ArePiles ps → Has (names_of ps) x → nat_le 1 (count_of x ps) ≡ true
has_pile x ps are h = sym (has_count x ps are.each) ∙ name_from_has x (names_of ps) h

pile_has : (x : Name) (ps : List Pile) → ArePiles ps → nat_le 1 (count_of x ps) ≡ true → Has (names_of ps) x
pile_has x ps are e = has_from_name x (names_of ps) (has_count x ps are.each ∙ e)

module _ (l : Linked) (is : IsTraffic l.traffic) (choices : AreChoices l.world) where
  abbrev t : Traffic
  t = l.traffic

  abbrev goes_over : List LinkEvent
  goes_over = map (λ m. Go m) (ready_machines l.world)

  abbrev lasts : List LinkEvent
  lasts = map (λ x. Ack x) (names_of t.acks) ++ map (λ x. Drop x) (names_of t.acks)

  abbrev agains : List LinkEvent
  agains = map (λ x. Again x) (repeatable t) ++ lasts

  abbrev loses : List LinkEvent
  loses = map (λ x. Lose x) (names_of t.copies) ++ agains

  go_can : (e : LinkEvent) → Has goes_over e → can_happen l e ≡ true
  go_can e h =
      let m = has_map_cases (λ m. Go m) (ready_machines l.world) e h in
      subst (λ d. can_happen l d ≡ true) m.2
      (choices.are_possible (plain.Go m.0)
      (contains_from_has (goes l.world ++ takes l.world) (plain.Go m.0)
      (has_left (goes l.world) (takes l.world) (plain.Go m.0)
      (has_map (λ n. plain.Go n) (ready_machines l.world) m.0 m.1))))

  last_can : (e : LinkEvent) → Has lasts e → can_happen l e ≡ true
  last_can e h =
      ⊎_elim
      (λ (a : Has (map (λ x. Ack x) (names_of t.acks)) e).
      let x = has_map_cases (λ x. Ack x) (names_of t.acks) e a in
      subst (λ d. can_happen l d ≡ true) x.2 (has_pile x.0 t.acks is.acks x.1))
      (λ (b : Has (map (λ x. Drop x) (names_of t.acks)) e).
      let x = has_map_cases (λ x. Drop x) (names_of t.acks) e b in
      subst (λ d. can_happen l d ≡ true) x.2 (has_pile x.0 t.acks is.acks x.1))
      (has_append_cases (map (λ x. Ack x) (names_of t.acks)) (map (λ x. Drop x) (names_of t.acks)) e h)

  again_can : (e : LinkEvent) → Has agains e → can_happen l e ≡ true
  again_can e h =
      ⊎_elim
      (λ (a : Has (map (λ x. Again x) (repeatable t)) e).
      let x = has_map_cases (λ x. Again x) (repeatable t) e a in
      subst (λ d. can_happen l d ≡ true) x.2 (has_kept_cases (can_repeat t) (names_of t.kept) x.0 x.1).1)
      (λ (b : Has lasts e). last_can e b)
      (has_append_cases (map (λ x. Again x) (repeatable t)) lasts e h)

  lose_can : (e : LinkEvent) → Has loses e → can_happen l e ≡ true
  lose_can e h =
      ⊎_elim
      (λ (a : Has (map (λ x. Lose x) (names_of t.copies)) e).
      let x = has_map_cases (λ x. Lose x) (names_of t.copies) e a in
      subst (λ d. can_happen l d ≡ true) x.2 (has_pile x.0 t.copies is.copies x.1))
      (λ (b : Has agains e). again_can e b)
      (has_append_cases (map (λ x. Lose x) (names_of t.copies)) agains e h)

  wire_can : (e : LinkEvent) → Has (wire_choices t) e → can_happen l e ≡ true
  wire_can e h =
      ⊎_elim
      (λ (a : Has (map (λ x. Take x) (names_of t.copies)) e).
      let x = has_map_cases (λ x. Take x) (names_of t.copies) e a in
      subst (λ d. can_happen l d ≡ true) x.2 (has_pile x.0 t.copies is.copies x.1))
      (λ (b : Has loses e). lose_can e b)
      (has_append_cases (map (λ x. Take x) (names_of t.copies)) loses e h)

  chosen_can : (b : Bool) (e : LinkEvent) → finished l.world ≡ b →
      Has (if b then [] else goes_over ++ wire_choices t) e → link_possible l e ≡ true
  chosen_can true e over h = absurd h
  chosen_can false e over h =
      and_from (not (finished l.world)) (can_happen l e) (not_from_false (finished l.world) over)
      (⊎_elim (λ (a : Has goes_over e). go_can e a) (λ (b : Has (wire_choices t) e). wire_can e b)
      (has_append_cases goes_over (wire_choices t) e h))

  pub link_chosen : (e : LinkEvent) → Contains (link_choices l) e → link_possible l e ≡ true
  link_chosen e c = chosen_can (finished l.world) e refl (has_from_contains (link_choices l) e c)

  is_go : (e : LinkEvent) (m : ℕ) → Has (goes l.world ++ takes l.world) (plain.Go m) → Has goes_over (Go m)
  is_go e m h =
      ⊎_elim
      (λ (a : Has (goes l.world) (plain.Go m)).
      let n = has_map_cases (λ n. plain.Go n) (ready_machines l.world) (plain.Go m) a in
      let same : n.0 ≡ m = (let g = n.2 in cc) in
      subst (λ q. Has goes_over (Go q)) same (has_map (λ n. Go n) (ready_machines l.world) n.0 n.1))
      (λ (b : Has (takes l.world) (plain.Go m)).
      let n = has_map_cases (λ (y : Letter). plain.Take y.name) l.world.under_way (plain.Go m) b in
      absurd (let g = n.2 in cc))
      (has_append_cases (goes l.world) (takes l.world) (plain.Go m) h)

  listed : (e : LinkEvent) → can_happen l e ≡ true → Has (goes_over ++ wire_choices t) e
  listed (Go m) can =
      has_left goes_over (wire_choices t) (Go m)
      (is_go (Go m) m (has_from_contains (goes l.world ++ takes l.world) (plain.Go m) (choices.listed (plain.Go m)
      can)))
  listed (Take x) can =
      has_right goes_over (wire_choices t) (Take x)
      (has_left (map (λ y. Take y) (names_of t.copies)) loses (Take x)
      (has_map (λ y. Take y) (names_of t.copies) x (pile_has x t.copies is.copies can)))
  listed (Lose x) can =
      has_right goes_over (wire_choices t) (Lose x)
      (has_right (map (λ y. Take y) (names_of t.copies)) loses (Lose x)
      (has_left (map (λ y. Lose y) (names_of t.copies)) agains (Lose x)
      (has_map (λ y. Lose y) (names_of t.copies) x (pile_has x t.copies is.copies can))))
  listed (Again x) can =
      let kept = (and_parts (nat_le 1 (count_of x t.kept)) (nat_lt (count_of x t.copies) 255) can).0 in
      has_right goes_over (wire_choices t) (Again x)
      (has_right (map (λ y. Take y) (names_of t.copies)) loses (Again x)
      (has_right (map (λ y. Lose y) (names_of t.copies)) agains (Again x)
      (has_left (map (λ y. Again y) (repeatable t)) lasts (Again x)
      (has_map (λ y. Again y) (repeatable t) x
      (has_kept (can_repeat t) (names_of t.kept) x (pile_has x t.kept is.kept kept) can)))))
  listed (Ack x) can =
      has_right goes_over (wire_choices t) (Ack x)
      (has_right (map (λ y. Take y) (names_of t.copies)) loses (Ack x)
      (has_right (map (λ y. Lose y) (names_of t.copies)) agains (Ack x)
      (has_right (map (λ y. Again y) (repeatable t)) lasts (Ack x)
      (has_left (map (λ y. Ack y) (names_of t.acks)) (map (λ y. Drop y) (names_of t.acks)) (Ack x)
      (has_map (λ y. Ack y) (names_of t.acks) x (pile_has x t.acks is.acks can))))))
  listed (Drop x) can =
      has_right goes_over (wire_choices t) (Drop x)
      (has_right (map (λ y. Take y) (names_of t.copies)) loses (Drop x)
      (has_right (map (λ y. Lose y) (names_of t.copies)) agains (Drop x)
      (has_right (map (λ y. Again y) (repeatable t)) lasts (Drop x)
      (has_right (map (λ y. Ack y) (names_of t.acks)) (map (λ y. Drop y) (names_of t.acks)) (Drop x)
      (has_map (λ y. Drop y) (names_of t.acks) x (pile_has x t.acks is.acks can))))))

  pub link_listed : (e : LinkEvent) → link_possible l e ≡ true → Contains (link_choices l) e
  link_listed e can =
      let both = and_parts (not (finished l.world)) (can_happen l e) can in
      let on : finished l.world ≡ false = not-true (finished l.world) both.0 in
      contains_from_has (link_choices l) e
      (subst (λ b. Has (if b then [] else goes_over ++ wire_choices t) e) (sym on) (listed e both.1))

-- ---- what is possible is played
free_if : (b : Bool) (fault : LinkFault) → (b ≡ true) ↔ ((if b then None else Some fault) ≡ None)
free_if true fault = ((λ e. refl), (λ e. refl))
free_if false fault = ((λ e. absurd (false≢true e)), (λ e. absurd (let g = e in cc)))

go_free : (b : Bool) (o : Option EventFault) (can : Bool) → ((can ≡ true) ↔ ((if b then Some RunOver else o) ≡ None)) →
    ((not b && can) ≡ true) ↔ ((if b then Some (Plain RunOver) else option_map (λ f. Plain f) o) ≡ None)
go_free true o can goes = ((λ e. absurd (false≢true e)), (λ e. absurd (let g = e in cc)))
go_free false None can goes = ((λ e. refl), (λ e. goes.1 refl))
go_free false (Some f) can goes = (
  (λ e. absurd (let g = goes.0 e in cc)),
  (λ e. absurd (let g = e in cc)),
)

other_free : (b can : Bool) (o : Option LinkFault) → ((can ≡ true) ↔ (o ≡ None)) →
    ((not b && can) ≡ true) ↔ ((if b then Some (Plain RunOver) else o) ≡ None)
other_free true can o free = ((λ e. absurd (false≢true e)), (λ e. absurd (let g = e in cc)))
other_free false can o free = free

pub possible_free : (l : Linked) → GoesOn l.world → (e : LinkEvent) →
    (link_possible l e ≡ true) ↔ (link_fault_of l e ≡ None)
possible_free l goes (Go m) =
    go_free (finished l.world) (event_fault l.world (plain.Go m)) (possible l.world (plain.Go m))
    (goes.played (plain.Go m))
possible_free l goes (Take x) =
    other_free (finished l.world) (has_copy l.traffic x) (fault_within l (Take x))
    (free_if (has_copy l.traffic x) (Plain NotUnderWay))
possible_free l goes (Lose x) =
    other_free (finished l.world) (has_copy l.traffic x) (fault_within l (Lose x))
    (free_if (has_copy l.traffic x) (Plain NotUnderWay))
possible_free l goes (Again x) =
    other_free (finished l.world) (can_repeat l.traffic x) (fault_within l (Again x))
    (free_if (can_repeat l.traffic x) NotAgain)
possible_free l goes (Ack x) =
    other_free (finished l.world) (has_ack l.traffic x) (fault_within l (Ack x))
    (free_if (has_ack l.traffic x) NoAck)
possible_free l goes (Drop x) =
    other_free (finished l.world) (has_ack l.traffic x) (fault_within l (Drop x))
    (free_if (has_ack l.traffic x) NoAck)
