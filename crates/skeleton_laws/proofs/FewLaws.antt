-- Messages under way are few: a number tells each name that can be taken, and these numbers lie below a bound.
use Rattle.std.proofs.Common.{◌≡◌, ℕ, ◌+◌, ◌*◌, ◌<◌, ◌≤◌, true, false, List, [], ◌∷◌, length, map, refl, ap, sym, ◌∙◌, subst, inl, inr, arith, eqb}
use Rattle.std.specs.List.{AllByRecursion, IsDistinct, list_any}
use Rattle.std.proofs.lemmas.Bool.Decides.{nat_tests}
use Rattle.std.proofs.lemmas.List.{length-map}
use Rattle.std.proofs.lemmas.Map.Steps.{length-le_from_distinct_below}
use Rattle.vert_base.specs.declared.message.Name.{Name}
use Rattle.vert_base.specs.declared.message.NameKind.{NameKind}
use Rattle.vert_base.specs.declared.message.NameKind.TheVariants.{Refresh, Dep, Update, Push, Tally, Verdict}
use Rattle.vert_base.specs.Names.{kind_place, numbers_of, same_numbers}
use Rattle.vert_base.proofs.LetterLaws.{names_law, same_self}
use Rattle.circulant_plan.proofs.Members.{Has, has_from_contains}
use Rattle.circulant_plan.proofs.NameLists.{Once, name_from_has}
use Rattle.circulant_plan.proofs.NameLaws.{offset_small}
use Rattle.circulant_plan.proofs.GiftLists.{gives_small}
use Rattle.skeleton_laws.specs.Laws.{EachOnce, AreFew}
use Rattle.skeleton_laws.proofs.Settled.{SettledState, course_in, mode_in, modes_in, agrees_in, FitsBy, names_are_planned}
use Rattle.skeleton_laws.proofs.Standings.{standing_of}

-- lists of numbers, each once
not_there : (f : Name → ℕ) (x : Name) (ys : List Name) → ((y : Name) → Has ys y → f x ≡ f y → ⊥) →
    AllByRecursion (λ n. eqb (f x) n ≡ false) (map f ys)
not_there f x [] apart = tt
not_there f x (y ∷ ys) apart =
    let differ : f x ≡ f y → ⊥ = apart y (inl refl) in
    (grind (arith, nat_tests), not_there f x ys (λ z h. apart z (inr h)))

distinct_by : (f : Name → ℕ) (xs : List Name) → Once xs →
    ((x y : Name) → Has xs x → Has xs y → f x ≡ f y → x ≡ y) → IsDistinct eqb (map f xs)
unfolding IsDistinct
distinct_by f [] once apart = tt
distinct_by f (x ∷ xs) once apart = (
  not_there f x xs (λ y h e. once.0 (subst (λ z. Has xs z) (sym (apart x y (inl refl) (inr h) e)) h)),
  distinct_by f xs once.1 (λ y z h g. apart y z (inr h) (inr g)),
)

low_by : (f : Name → ℕ) (bound : ℕ) (xs : List Name) → ((x : Name) → Has xs x → f x < bound) → (q : ℕ) →
    list_any (eqb q) (map f xs) ≡ true → q < bound
low_by f bound [] low q e = absurd (grind arith)
low_by f bound (x ∷ xs) low q e =
    let first : f x < bound = low x (inl refl) in
    let more = low_by f bound xs (λ y h. low y (inr h)) q in
    grind (arith, nat_tests)

count_by_number : (f : Name → ℕ) (bound : ℕ) (xs : List Name) → Once xs →
    ((x y : Name) → Has xs x → Has xs y → f x ≡ f y → x ≡ y) →
    ((x : Name) → Has xs x → f x < bound) → length xs ≤ bound
count_by_number f bound xs once apart low =
    let few = length-le_from_distinct_below (map f xs) bound (distinct_by f xs once apart) (low_by f bound xs low) in
    let same = length-map xs f in
    omega arith

-- the number of a name but for its round
abbrev number_of : Name → ℕ
number_of x = (((kind_place x.kind * 64 + x.step) * 2 + x.half) * 64 + x.from) * 64 + x.to

pub record IsSmall (x : Name) : Type 0 where
  pub step : x.step < 64
  pub half : x.half ≤ 1
  pub from : x.from < 64
  pub to : x.to < 64

kind_small : (kind : NameKind) → kind_place kind ≤ 5
kind_small Refresh = omega arith
kind_small Dep = omega arith
kind_small Update = omega arith
kind_small Push = omega arith
kind_small Tally = omega arith
kind_small Verdict = omega arith

number_small : (x : Name) → IsSmall x → number_of x < 3145728
number_small x small =
    let kind = kind_small x.kind in
    let step = small.step in
    let half = small.half in
    let from = small.from in
    let to = small.to in
    omega arith

-- one digit
digit_64 : (a b c d : ℕ) → b < 64 → d < 64 → a * 64 + b ≡ c * 64 + d → (a ≡ c) × (b ≡ d)
digit_64 a b c d low_b low_d e = (omega arith, omega arith)

digit_2 : (a b c d : ℕ) → b ≤ 1 → d ≤ 1 → a * 2 + b ≡ c * 2 + d → (a ≡ c) × (b ≡ d)
digit_2 a b c d low_b low_d e = (omega arith, omega arith)

-- names are the same where their numbers and rounds are
number_tells : (x y : Name) → IsSmall x → IsSmall y → x.round ≡ y.round → number_of x ≡ number_of y → x ≡ y
number_tells x y small_x small_y round e =
    let to =
    digit_64 (((kind_place x.kind * 64 + x.step) * 2 + x.half) * 64 + x.from) x.to
    (((kind_place y.kind * 64 + y.step) * 2 + y.half) * 64 + y.from) y.to small_x.to small_y.to e in
    let from =
    digit_64 ((kind_place x.kind * 64 + x.step) * 2 + x.half) x.from
    ((kind_place y.kind * 64 + y.step) * 2 + y.half) y.from small_x.from small_y.from to.0 in
    let half =
    digit_2 (kind_place x.kind * 64 + x.step) x.half
    (kind_place y.kind * 64 + y.step) y.half small_x.half small_y.half from.0 in
    let step = digit_64 (kind_place x.kind) x.step (kind_place y.kind) y.step small_x.step small_y.step half.0 in
    let same : numbers_of x ≡ numbers_of y =
    same_six (kind_place x.kind) (kind_place y.kind) step.0 round step.1 half.1 from.1 to.1 in
    names_law x y (subst (λ ns. same_numbers (numbers_of x) ns ≡ true) same (same_self (numbers_of x))) where
      same_six : (k j : ℕ) {r s h f t r' s' h' f' t' : ℕ} → k ≡ j → r ≡ r' → s ≡ s' → h ≡ h' → f ≡ f' → t ≡ t' →
          (k ∷ r ∷ s ∷ h ∷ f ∷ t ∷ []) ≡ (j ∷ r' ∷ s' ∷ h' ∷ f' ∷ t' ∷ [])
      same_six k j a b c d e f = rw (a, b, c, d, e, f) refl

module _ (state : SettledState) where
  open state use {ring, few, some, blocks, k, settled}

  fit : FitsBy (course_in state) k
  fit = settled.by (mode_in k) (modes_in k) (agrees_in k)

  small_at : (x : Name) → Has k.under_way x → IsSmall x
  small_at x h =
      let named = (fit.fits.flies x (name_from_has x k.under_way h)).named in
      let to = (names_are_planned (course_in state)).to_within x named in
      let from = named.from in
      let low = gives_small ring few x.from (mode_in k x.round) (mode_in k x.round) _ x named.has named.sent in
      record { step = low.0; half = low.1; from = omega arith; to = omega arith }

  -- a message under way is of the round in which its receiver stands
  round_at_receiver : (x : Name) → Has k.under_way x → x.round ≡ (standing_of k.standings x.to).round
  round_at_receiver x h =
      let flight = fit.fits.flies x (name_from_has x k.under_way h) in
      let plan = names_are_planned (course_in state) in
      let to = plan.to_within x flight.named in
      let s = standing_of k.standings x.to in
      let off = offset_small (course_in state) x.to (mode_in k s.round) s.spot (fit.has x.to to) in
      let entered = flight.entered in
      let not_past = flight.not_past in
      let high = plan.needed_to x flight.named in
      omega arith

  number_apart : (x y : Name) → Has k.under_way x → Has k.under_way y → number_of x ≡ number_of y → x ≡ y
  number_apart x y h g e =
      let small_x = small_at x h in
      let small_y = small_at y g in
      let to =
      (digit_64 (((kind_place x.kind * 64 + x.step) * 2 + x.half) * 64 + x.from) x.to
      (((kind_place y.kind * 64 + y.step) * 2 + y.half) * 64 + y.from) y.to small_x.to small_y.to e).1 in
      let round : x.round ≡ y.round =
      round_at_receiver x h
      ∙ ap (λ j. (standing_of k.standings j).round) to
      ∙ sym (round_at_receiver y g) in
      number_tells x y small_x small_y round e

  pub few_under_way : length k.under_way ≤ 3145728
  few_under_way =
      count_by_number number_of 3145728 k.under_way settled.rules.once number_apart
      (λ x h. number_small x (small_at x h))

each_once : (xs : List Name) → Once xs → EachOnce xs
each_once [] once = tt
each_once (x ∷ xs) once = ((λ again. once.0 (has_from_contains xs x again)), each_once xs once.1)

pub are_few : (state : SettledState) → AreFew state.k.under_way
are_few state =
    record {
      once = each_once state.k.under_way state.settled.rules.once;
      few = let n = few_under_way state in omega arith;
    }
