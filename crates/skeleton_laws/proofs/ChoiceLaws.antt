-- The events that may come next.
use Rattle.skeleton_laws.proofs.NamesInOrder.{has_ordered_cases, has_ordered, names_rise, not_before_self}
use Rattle.std.proofs.Common.{◌≡◌, ◌≢◌, ◌⊎◌, ℕ, zero, suc, ◌+◌, ◌<◌, ◌≤◌, Bool, true, false, ◌&&◌, not, List, [], ◌∷◌, ◌++◌, length, map, Some, None, refl, ap, sym, ◌∙◌, subst, inl, inr, arith, ⊎_elim, slice_get}
use Rattle.std.specs.Prelude.{if◌then◌else◌}
use Rattle.std.specs.List.{filter, range_with_len}
use Rattle.std.proofs.lemmas.Option.{same_Some, slice_get_past, none-some}
use Rattle.std.proofs.lemmas.Bool.{cases_lt, false≢true, and_from, not_from_false, and_parts}
use Rattle.vert_base.specs.declared.message.Name.{Name}
use Rattle.vert_base.specs.declared.message.Event.{Event}
use Rattle.vert_base.specs.declared.message.Event.TheVariants.{Go, Take}
use Rattle.vert_base.specs.declared.value.Ruling.{Ruling}
use Rattle.vert_base.proofs.NameOrder.{apart}
use Rattle.circulant_plan.specs.declared.spot.Ring.{Ring}
use Rattle.circulant_plan.specs.Skeleton.{Skeleton, Blocks, may_rule, is_over, is_ready, can_go, is_possible, is_finished, step_of}
use Rattle.circulant_plan.specs.Runs.{judged_round, ruled}
use Rattle.circulant_plan.specs.Choosing.{names_in_order, goes_of, choices_of, plain_of, could_act, ready_machines, missing_of}
use Rattle.circulant_plan.proofs.Members.{Has, has_from_contains, contains_from_has, has_append_cases, has_left, has_right, has_map_cases, has_map, has_range}
use Rattle.circulant_plan.proofs.NameLists.{has_from_name, name_from_has}
use Rattle.circulant_plan.proofs.Rise.{Rise, rise_least, rise_lower}
use Rattle.skeleton_laws.specs.Laws.{EachOnce, NamesRise, AreChoices, RunsCarryRulings}
use Rattle.skeleton_laws.proofs.Settled.{SettledState, view_of, not_true}
use Rattle.skeleton_laws.proofs.Kept.{Possible, goes, takes}
use Rattle.skeleton_laws.proofs.Standings.{standing_of, got, all_over_at, one_going}
use Rattle.skeleton_laws.proofs.MoveLaws.{Ready, moving, some_moves, nothing_flies, still}

-- which event it is
abbrev pub name_in : Name → Event → Name
name_in d (Go m) = d
name_in d (Take x) = x

abbrev pub number_in : Event → ℕ
number_in (Go m) = m
number_in (Take x) = 0

abbrev pub is_go : Event → Bool
is_go (Go m) = true
is_go (Take x) = false

takes_once : (xs : List Name) → NamesRise xs → EachOnce (map (λ x. Take x) xs)
takes_once [] rise = tt
takes_once (x ∷ xs) rise = (
  (λ again.
      let c = has_map_cases (λ y. Take y) xs (Take x) (has_from_contains (map (λ y. Take y) xs) (Take x) again) in
      let same : c.0 ≡ x = ap (name_in x) c.2 in
      not_before_self x (rise.0 x (contains_from_has xs x (subst (λ q. Has xs q) same c.1)))),
  takes_once xs rise.1,
)

filter_rise_step : (test : ℕ → Bool) (a : ℕ) (ns : List ℕ) (b : Bool) → Rise (a + 1) (filter test ns) →
    Rise a (if b then a ∷ filter test ns else filter test ns)
filter_rise_step test a ns true rise = (omega arith, rise)
filter_rise_step test a ns false rise = rise_lower (a + 1) a (filter test ns) (omega arith) rise

pub filter_rises : (test : ℕ → Bool) (a n : ℕ) → Rise a (filter test (range_with_len a n))
filter_rises test a zero = tt
filter_rises test a (suc n) = filter_rise_step test a (range_with_len (a + 1) n) (test a) (filter_rises test (a + 1) n)

goes_once : (a : ℕ) (ns : List ℕ) → Rise a ns → EachOnce (map (λ m. Go m) ns)
goes_once a [] rise = tt
goes_once a (n ∷ ns) rise = (
  (λ again.
      let c = has_map_cases (λ m. Go m) ns (Go n) (has_from_contains (map (λ m. Go m) ns) (Go n) again) in
      let same : c.0 ≡ n = ap number_in c.2 in
      let low = rise_least (n + 1) ns c.0 rise.1 c.1 in
      absurd (omega arith)),
  goes_once (n + 1) ns rise.1,
)

once_append : (xs ys : List Event) → EachOnce xs → EachOnce ys → ((e : Event) → Has xs e → Has ys e → ⊥) →
    EachOnce (xs ++ ys)
once_append [] ys f g apart = g
once_append (x ∷ xs) ys f g apart = (
  (λ again.
      ⊎_elim (λ (a : Has xs x). f.0 (contains_from_has xs x a)) (λ (b : Has ys x). apart x (inl refl) b)
      (has_append_cases xs ys x (has_from_contains (xs ++ ys) x again))),
  once_append xs ys f.1 g (λ e h k. apart e (inr h) k),
)

go_not_take : (ns : List ℕ) (xs : List Name) (e : Event) → Has (map (λ m. Go m) ns) e → Has (map (λ x. Take x) xs) e → ⊥
go_not_take ns xs e h k =
    let a = has_map_cases (λ m. Go m) ns e h in
    let b = has_map_cases (λ x. Take x) xs e k in
    false≢true (ap is_go (b.2 ∙ sym a.2))

-- what a filter keeps
filter_cases_step : (test : ℕ → Bool) (x : ℕ) (xs : List ℕ) (y : ℕ) (b : Bool) → test x ≡ b →
    Has (if b then x ∷ filter test xs else filter test xs) y →
    (Has (filter test xs) y → Has xs y × (test y ≡ true)) → Has (x ∷ xs) y × (test y ≡ true)
filter_cases_step test x xs y true e (inl is) more = (inl is, subst (λ q. test q ≡ true) is e)
filter_cases_step test x xs y true e (inr h) more = let m = more h in (inr m.0, m.1)
filter_cases_step test x xs y false e h more = let m = more h in (inr m.0, m.1)

pub has_filter_cases : (test : ℕ → Bool) (xs : List ℕ) (y : ℕ) → Has (filter test xs) y → Has xs y × (test y ≡ true)
has_filter_cases test [] y h = absurd h
has_filter_cases test (x ∷ xs) y h = filter_cases_step test x xs y (test x) refl h (has_filter_cases test xs y)

filter_put : (test : ℕ → Bool) (x : ℕ) (xs : List ℕ) (y : ℕ) (b : Bool) → test x ≡ b → test y ≡ true →
    (x ≡ y) ⊎ Has (filter test xs) y → Has (if b then x ∷ filter test xs else filter test xs) y
filter_put test x xs y true e f h = h
filter_put test x xs y false e f (inl is) = absurd (false≢true (sym e ∙ ap test is ∙ f))
filter_put test x xs y false e f (inr h) = h

pub has_filter : (test : ℕ → Bool) (xs : List ℕ) (y : ℕ) → Has xs y → test y ≡ true → Has (filter test xs) y
has_filter test [] y h f = absurd h
has_filter test (x ∷ xs) y (inl is) f = filter_put test x xs y (test x) refl f (inl is)
has_filter test (x ∷ xs) y (inr h) f = filter_put test x xs y (test x) refl f (inr (has_filter test xs y h f))

-- a possible go is of a machine
go_within : (ring : Ring) (blocks : Blocks) (ruling : Ruling) (k : Skeleton) (m : ℕ) →
    is_possible ring blocks ruling (Go m) k ≡ true → m < length k.standings
go_within ring blocks ruling k m can =
    ⊎_elim
    (λ (lt : m < length k.standings). lt)
    (λ (past : length k.standings ≤ m).
    absurd
    (false≢true
    (subst (λ o. can_go ring blocks ruling m o k.taken ≡ true)
    (slice_get_past k.standings m past) can)))
    (cases_lt m (length k.standings))

-- and a ready machine is one
pub go_within_slot : (ring : Ring) (k : Skeleton) (m : ℕ) →
    could_act ring m (slice_get k.standings m) k.taken ≡ true → m < length k.standings
go_within_slot ring k m so =
    ⊎_elim
    (λ (lt : m < length k.standings). lt)
    (λ (past : length k.standings ≤ m).
    absurd
    (false≢true (subst (λ o. could_act ring m o k.taken ≡ true) (slice_get_past k.standings m past) so)))
    (cases_lt m (length k.standings))

module _ (ring : Ring) (blocks : Blocks) (ruling : Ruling) (k : Skeleton) where
  abbrev can : ℕ → Bool
  can m = is_possible ring blocks ruling (Go m) k

  abbrev gos : List Event
  gos = map (λ m. Go m) (goes_of ring blocks ruling k)

  abbrev takings : List Event
  takings = map (λ x. Take x) (names_in_order k.under_way)

  pub choice_possible : (e : Event) → Has (choices_of ring blocks ruling k) e →
      is_possible ring blocks ruling e k ≡ true
  choice_possible e h =
      ⊎_elim
      (λ (a : Has gos e).
      let c = has_map_cases (λ m. Go m) (goes_of ring blocks ruling k) e a in
      subst (λ q. is_possible ring blocks ruling q k ≡ true) c.2
      (has_filter_cases can (range_with_len 0 (length k.standings)) c.0 c.1).1)
      (λ (b : Has takings e).
      let c = has_map_cases (λ x. Take x) (names_in_order k.under_way) e b in
      subst (λ q. is_possible ring blocks ruling q k ≡ true) c.2
      (name_from_has c.0 k.under_way (has_ordered_cases k.under_way c.0 c.1)))
      (has_append_cases gos takings e h)

  pub possible_listed : (e : Event) → is_possible ring blocks ruling e k ≡ true →
      Has (choices_of ring blocks ruling k) e
  possible_listed (Go m) so =
      let lt = go_within ring blocks ruling k m so in
      has_left gos takings (Go m)
      (has_map (λ n. Go n) (goes_of ring blocks ruling k) m
      (has_filter can (range_with_len 0 (length k.standings)) m
      (has_range 0 (length k.standings) m (omega arith) (omega arith)) so))
  possible_listed (Take x) so =
      has_right gos takings (Take x)
      (has_map (λ y. Take y) (names_in_order k.under_way) x
      (has_ordered k.under_way x (has_from_name x k.under_way so)))

  pub choices_are : AreChoices ring blocks ruling k
  choices_are = record {
    possible = λ e h. choice_possible e (has_from_contains (choices_of ring blocks ruling k) e h);
    listed = λ e so. contains_from_has (choices_of ring blocks ruling k) e (possible_listed e so);
    once =
        once_append gos takings
        (goes_once 0 (goes_of ring blocks ruling k) (filter_rises can 0 (length k.standings)))
        (takes_once (names_in_order k.under_way) (names_rise k.under_way))
        (go_not_take (goes_of ring blocks ruling k) (names_in_order k.under_way));
    rise = names_rise k.under_way;
  }

-- the first of a list
pub first_there : (xs : List Event) (e : Event) → slice_get xs 0 ≡ Some e → Has xs e
first_there [] e is = absurd (none-some e is)
first_there (x ∷ xs) e is = inl (same_Some x e is)

none_first : (xs : List Event) → ((e : Event) → Has xs e → ⊥) → slice_get xs 0 ≡ None
none_first [] none = refl
none_first (x ∷ xs) none = absurd (none x (inl refl))

some_first : (xs : List Event) (e : Event) → Has xs e → slice_get xs 0 ≢ None
some_first [] e h none = h
some_first (x ∷ xs) e h none = none-some x (sym none)

module _ (state : SettledState) where
  open state use {ring, few, some, blocks, k, settled}

  abbrev ready : ℕ → Bool
  ready m = could_act ring m (slice_get k.standings m) k.taken

  abbrev first_takes : List Event
  first_takes = map (λ x. Take x) (names_in_order k.under_way)

  abbrev then_goes : List Event
  then_goes = map (λ m. Go m) (ready_machines ring k)

  ready_going : (m : ℕ) → ready m ≡ true → (m < length k.standings) × (is_over (standing_of k.standings m).spot ≡ false)
  ready_going m so =
      ⊎_elim
      (λ (lt : m < length k.standings).
      let s = standing_of k.standings m in
      let c : could_act ring m (Some s) k.taken ≡ true =
      subst (λ o. could_act ring m o k.taken ≡ true) (got k.standings m lt) so in
      (lt, not_true (is_over s.spot) (and_parts (not (is_over s.spot)) (is_ready ring m s k.taken) c).0))
      (λ (past : length k.standings ≤ m).
      absurd
      (false≢true (subst (λ o. could_act ring m o k.taken ≡ true) (slice_get_past k.standings m past) so)))
      (cases_lt m (length k.standings))

  none_missing : is_finished k ≡ true → (e : Event) → Has (first_takes ++ then_goes) e → ⊥
  none_missing finished e h =
      ⊎_elim
      (λ (a : Has first_takes e).
      let c = has_map_cases (λ x. Take x) (names_in_order k.under_way) e a in
      subst (λ xs. Has xs c.0) (nothing_flies state finished) (has_ordered_cases k.under_way c.0 c.1))
      (λ (b : Has then_goes e).
      let c = has_map_cases (λ m. Go m) (ready_machines ring k) e b in
      let g = ready_going c.0 (has_filter_cases ready (range_with_len 0 (length k.standings)) c.0 c.1).1 in
      false≢true (sym g.1 ∙ all_over_at k.standings c.0 finished g.0))
      (has_append_cases first_takes then_goes e h)

  one_missing : Possible ring.machines (Ready state) (view_of k) → (e : Event) × Has (first_takes ++ then_goes) e
  one_missing (goes m lt going so) =
      let all = settled.rules.all_there in
      let here : m < length k.standings = omega arith in
      let s = standing_of k.standings m in
      let is_ready_m : ready m ≡ true =
      subst (λ o. could_act ring m o k.taken ≡ true) (sym (got k.standings m here))
      (and_from (not (is_over s.spot)) (is_ready ring m s k.taken) (not_from_false (is_over s.spot) going) so)
      in (
        Go m,
        has_right first_takes then_goes (Go m)
            (has_map (λ n. Go n) (ready_machines ring k) m
            (has_filter ready (range_with_len 0 (length k.standings)) m
            (has_range 0 (length k.standings) m (omega arith) (omega arith)) is_ready_m)),
      )
  one_missing (takes x flew) = (
    Take x,
    has_left first_takes then_goes (Take x)
        (has_map (λ y. Take y) (names_in_order k.under_way) x
        (has_ordered k.under_way x (has_from_name x k.under_way flew))),
  )

  pub missing_none : is_finished k ≡ true → missing_of ring k ≡ None
  missing_none finished = none_first (first_takes ++ then_goes) (none_missing finished)

  pub missing_some : is_finished k ≡ false → missing_of ring k ≢ None
  missing_some unfinished =
      let one = one_going k.standings unfinished in
      let all = settled.rules.all_there in
      let lt = one.1 in
      let within : one.0 < ring.machines = omega arith in
      let e = one_missing (moving state one.0 within one.2) in
      some_first (first_takes ++ then_goes) e.0 e.1

  pub plain_none : (ruling : Ruling) → is_finished k ≡ true → plain_of ring blocks ruling k ≡ None
  plain_none ruling finished =
      none_first (choices_of ring blocks ruling k)
      (λ e h. false≢true (sym (still state finished ruling e) ∙ choice_possible ring blocks ruling k e h))

  pub plain_some : (ruling : Ruling) → is_finished k ≡ false →
      may_rule blocks (judged_round k) ruling ≡ true → plain_of ring blocks ruling k ≢ None
  plain_some ruling unfinished may =
      let one = some_moves state unfinished in
      some_first (choices_of ring blocks ruling k) one.0 (possible_listed ring blocks ruling k one.0 (one.1 ruling may))

-- runs under a function of rulings
pub runs_carry : RunsCarryRulings
runs_carry ring blocks ruling [] k = (refl, refl)
runs_carry ring blocks ruling (e ∷ es) k =
    let more = runs_carry ring blocks ruling es (step_of ring (ruled ruling k) e k) in
    (ap (λ b. is_possible ring blocks (ruled ruling k) e k && b) more.0, more.1)
