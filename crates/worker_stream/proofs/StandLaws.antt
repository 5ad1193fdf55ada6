-- A machine stands rightly after each action and each message, with the names that it has taken.
use Rattle.std.proofs.Common.{◌≡◌, ◌≢◌, ℕ, ◌+◌, ◌-◌, ◌*◌, ◌<◌, ◌≤◌, ◌∙◌, Bool, true, false, not, ◌&&◌, ◌||◌, None, List, [], ◌∷◌, length, refl, sym, ap, subst, arith, ⊎_elim}
use Rattle.std.specs.Prelude.{is_some, if◌then◌else◌}
use Rattle.std.specs.List.{All, AllByRecursion}
use Rattle.std.proofs.lemmas.Bool.{cases_eq, cases_lt, false≢true}
use Rattle.std.proofs.lemmas.List.Elements.{All-from_recursion, All-nil, recursion_from_All}
use Rattle.vert_base.specs.declared.message.Name.{Name}
use Rattle.vert_base.specs.Letters.{Ascends, Letter, found, placed}
use Rattle.vert_base.specs.Names.{is_before, numbers_of, same_name}
use Rattle.vert_base.proofs.LetterLaws.{longer, one_way, placed_ascends, placed_law}
use Rattle.vert_base.proofs.NameOrder.{apart}
use Rattle.vert_tree.proofs.TypedLaws.{few_rounds}
use Rattle.circulant_plan.specs.Skeleton.{is_over}
use Rattle.circulant_plan.specs.Standing.{Standing}
use Rattle.double_buffer.specs.Held.{AreOfRound, Held, with_letter}
use Rattle.double_buffer.specs.Places.{place_of}
use Rattle.double_buffer.specs.Taking.{CanTake}
use Rattle.double_buffer.proofs.BufferLaws.{of_round_placed}
use Rattle.double_buffer.proofs.PlaceLaws.{has_place, place_before, place_same}
use Rattle.instrument.specs.declared.split.Split.{Split}
use Rattle.symple_face.specs.declared.action.Action.TheVariants.{Ready}
use Rattle.symple_face.specs.Lawful.{CanRun, IsLawful, acting, is_begin}
use Rattle.symple_face.specs.Parts.{PlainPart}
use Rattle.symple_face.specs.Plans.{ring_of}
use Rattle.symple_face.specs.State.{IsTakeable, State, action_of, has_taken, machine, p_of, ruling_read}
use Rattle.symple_face.specs.Work.{Work}
use Rattle.cluster_run.proofs.NextStandings.{IsOnward, begins, ends, onward, stays}
use Rattle.round_laws.proofs.Planned.{planned_can_be_taken}
use Rattle.worker_stream.specs.Walks.{AreTaken, IsLow, Stands, chances, names_from, no_names}
use Rattle.worker_stream.proofs.StateWalks.{first_walks, go_walks, planned, ready_on, take_walks}
use Rattle.state_laws.proofs.Letters.{all_placed}
use Rattle.state_laws.proofs.Options.{none_found, some_if}
use Rattle.state_laws.proofs.Rulings.{taken_round}
use Rattle.state_laws.specs.Letters.{bare}

-- ---- no machine can take more messages in a round than it has places for
-- what comes behind a name lies behind its place
place_less : (p : ℕ) (a b : Name) → a.round ≡ b.round → a.to ≡ b.to → CanTake p a → CanTake p b →
    is_before a b ≡ true → place_of p a < place_of p b
place_less p a b rounds tos can_a can_b before =
    ⊎_elim
    (λ (less : place_of p a < place_of p b). less)
    (λ (after : place_of p b ≤ place_of p a).
    ⊎_elim
    (λ (same : place_of p a ≡ place_of p b).
    absurd (false≢true (sym (apart (numbers_of a) (numbers_of b) before)
    ∙ place_same p a b rounds tos can_a can_b same)))
    (λ (ne : place_of p a ≢ place_of p b).
    let more : place_of p b < place_of p a = omega arith in
    absurd (false≢true (sym (one_way a b before) ∙ place_before p b a (sym rounds) can_b can_a more)))
    (cases_eq (place_of p a) (place_of p b)))
    (cases_lt (place_of p a) (place_of p b))

-- the letters are of this round, go to this machine, and can be taken there
abbrev AreHere : ℕ → ℕ → ℕ → List Letter → Type 0
AreHere p round to ms =
    AllByRecursion (λ y. ((y.name.round ≡ round) × (y.name.to ≡ to)) × CanTake p y.name) ms

module _ (p round to : ℕ) (x : Name) where
  all_later : (ms : List Letter) → x.round ≡ round → x.to ≡ to → CanTake p x →
      AllByRecursion (λ z. is_before x z.name ≡ true) ms → AreHere p round to ms →
      AllByRecursion (λ z. place_of p x + 1 ≤ place_of p z.name) ms
  all_later [] r t can behind here = tt
  all_later (y ∷ ys) r t can behind here =
      let less = place_less p x y.name (r ∙ sym here.0.0.0) (t ∙ sym here.0.0.1) can here.0.1 behind.0 in
      (omega arith, all_later ys r t can behind.1 here.1)

few_from : (p round to low : ℕ) (ms : List Letter) → Ascends ms → AreHere p round to ms →
    AllByRecursion (λ z. low ≤ place_of p z.name) ms → length ms ≤ 12 * p - low
few_from p round to low [] up here above = omega arith
few_from p round to low (y ∷ ys) up here above =
    let place = has_place p y.name here.0.1 in
    let least = above.0 in
    let more = few_from p round to (place_of p y.name + 1) ys up.1 here.1
    (all_later p round to y.name ys here.0.0.0 here.0.0.1 here.0.1 up.0 here.1) in
    omega arith

all_low : (p : ℕ) (ms : List Letter) → AllByRecursion (λ z. 0 ≤ place_of p z.name) ms
all_low p [] = tt
all_low p (y ∷ ys) = (omega arith, all_low p ys)

both_hold : (p round to : ℕ) (ms : List Letter) →
    AllByRecursion (λ (y : Letter). (y.name.round ≡ round) × (y.name.to ≡ to)) ms →
    AllByRecursion (λ (y : Letter). CanTake p y.name) ms → AreHere p round to ms
both_hold p round to [] a b = tt
both_hold p round to (y ∷ ys) a b = ((a.0, b.0), both_hold p round to ys a.1 b.1)

pub few_names : (p round to : ℕ) (ms : List Letter) → p ≤ 64 → Ascends ms → AreOfRound round to ms →
    All (λ (y : Letter). CanTake p y.name) ms → length ms ≤ 768
few_names p round to ms few up together planned =
    let here = both_hold p round to ms
    (recursion_from_All (λ (y : Letter). (y.name.round ≡ round) × (y.name.to ≡ to)) ms together)
    (recursion_from_All (λ (y : Letter). CanTake p y.name) ms planned) in
    let most = few_from p round to 0 ms up here (all_low p ms) in
    omega arith

-- ---- one name more
-- ---- names where a round begins
kept : (b : Bool) (names : Held) → (if b then no_names names else names).machines ≡ names.machines
kept true names = refl
kept false names = refl

nothing_found : (b : Bool) (names : Held) (x : Name) (held : Bool) → is_some (found x names.letters) ≡ held →
    is_some (found x (if b then no_names names else names).letters) ≡ (not b && held)
nothing_found true names x held e = refl
nothing_found false names x held e = e

some_kept : (b : Bool) (names : Held) (P : Letter → Type 0) → (b ≡ false → All P names.letters) →
    All P (if b then no_names names else names).letters
some_kept true names P all = All-nil P
some_kept false names P all = all refl

still_ascends : (b : Bool) (names : Held) → Ascends names.letters →
    Ascends (if b then no_names names else names).letters
still_ascends true names up = tt
still_ascends false names up = up

module _ (work : Work) (sound : State → Type 0) (lawful : IsLawful work sound) where
  -- ---- the first state
  pub first_stands : (part : PlainPart) (split : Split) (names : Held) → CanRun part split →
      names ≡ record { machines = part.at.machines; letters = [] } → Stands sound (work.first part split) names
  first_stands part split names can is =
      let s = work.first part split in
      let parts = lawful.first_part part split in
      let run : CanRun s.part s.split =
      subst (λ (p : PlainPart). CanRun p s.split) (sym parts)
      (subst (λ (q : Split). CanRun part q) (sym (lawful.first_split part split)) can) in
      let start : Held = record { machines = part.at.machines; letters = [] } in
      let taken : AreTaken s start = record {
        machines = ap (λ (p : PlainPart). p.at.machines) (sym parts);
        has = λ x. ap (λ (ms : List Letter). is_some (found x ms)) (sym (lawful.first_held part split));
        together = λ going. All-nil (λ (y : Letter). (y.name.round ≡ s.at.round) × (y.name.to ≡ machine s));
        planned = All-nil (λ (y : Letter). CanTake (p_of s) y.name);
        ascends = tt;
      } in
      record {
        can_run = run;
        is_sound = lawful.first_sound part split can;
        walks = first_walks work sound lawful part split can;
        taken = subst (λ (q : Held). AreTaken s q) (sym is) taken;
      }

  module _ (s : State) (names : Held) (stands : Stands sound s names) where
    run_there : (t : State) → t.part ≡ s.part → t.split ≡ s.split → CanRun t.part t.split
    run_there t part split =
        subst (λ (p : PlainPart). CanRun p t.split) (sym part)
        (subst (λ (q : Split). CanRun s.part q) (sym split) stands.can_run)

    few_here : is_over s.at.spot ≡ false → length names.letters ≤ 768
    few_here going =
        few_names (p_of s) s.at.round (machine s) names.letters stands.walks.few stands.taken.ascends
        (stands.taken.together going) stands.taken.planned

    -- ---- an action
    module _ (ready : action_of s ≡ Ready) where
      going : is_over s.at.spot ≡ false
      going = ready_on s ready

      next : State
      next = work.go s

      abbrev now : Bool
      now = is_begin (work.go s).at.spot

      machine_same : machine (work.go s) ≡ machine s
      machine_same = ap (λ (p : PlainPart). p.at.machine) (lawful.go_part s)

      count_same : p_of (work.go s) ≡ p_of s
      count_same = ap (λ (p : PlainPart). p.at.machines) (lawful.go_part s)

      moves_on : IsOnward s.at (work.go s).at
      moves_on = subst (λ (n : Standing). IsOnward s.at n) (sym (lawful.go_at s))
          (onward (ring_of s.split (p_of s)) (machine s) (acting work s) s.at stands.walks.round)

      stays_there : is_over (work.go s).at.spot ≡ false → now ≡ false → (work.go s).at.round ≡ s.at.round
      stays_there on still = by moves_on
        where
          by : IsOnward s.at (work.go s).at → (work.go s).at.round ≡ s.at.round
          by (ends over) = absurd (false≢true (sym on ∙ over))
          by (begins b less) = absurd (false≢true (sym still ∙ b))
          by (stays b same) = same

      rises_there : is_over (work.go s).at.spot ≡ false → now ≡ true → s.at.round < (work.go s).at.round
      rises_there on starts = by moves_on
        where
          by : IsOnward s.at (work.go s).at → s.at.round < (work.go s).at.round
          by (ends over) = absurd (false≢true (sym on ∙ over))
          by (begins b less) = less
          by (stays b same) = absurd (false≢true (sym b ∙ starts))

      go_taken : AreTaken (work.go s) (names_from (work.go s) names)
      go_taken = record {
        machines = kept now names ∙ (stands.taken.machines ∙ sym count_same);
        has = λ x. nothing_found now names x (has_taken s x) (stands.taken.has x) ∙ sym (lawful.go_held s x);
        together = λ on. some_kept now names
            (λ (y : Letter). (y.name.round ≡ (work.go s).at.round) × (y.name.to ≡ machine (work.go s)))
            (λ still. subst (λ (n : ℕ). AreOfRound n (machine (work.go s)) names.letters) (sym (stays_there on still))
            (subst (λ (n : ℕ). AreOfRound s.at.round n names.letters) (sym machine_same)
            (stands.taken.together going)));
        planned = subst (λ (n : ℕ). All (λ (y : Letter). CanTake n y.name) (names_from (work.go s) names).letters)
            (sym count_same)
            (some_kept now names (λ (y : Letter). CanTake (p_of s) y.name) (λ still. stands.taken.planned));
        ascends = still_ascends now names stands.taken.ascends;
      }

      pub go_stands : Stands sound (work.go s) (names_from (work.go s) names)
      go_stands = record {
        can_run = run_there (work.go s) (lawful.go_part s) (lawful.go_split s);
        is_sound = lawful.go_sound s stands.is_sound ready;
        walks = (go_walks work sound lawful s stands.walks ready).walks;
        taken = go_taken;
      }

      pub go_less : chances (work.go s) (names_from (work.go s) names) < chances s names
      go_less =
          let less = (go_walks work sound lawful s stands.walks ready).less in
          let few = few_here going in
          omega arith

      low_by : (b : Bool) → now ≡ b → IsLow s names 0 → (at : ℕ) → IsLow s names at →
          is_over (work.go s).at.spot ≡ false →
          at ≤ 8589934592 * (768 * (work.go s).at.round + length (if b then no_names names else names).letters)
      low_by true is low0 at low on =
          let rise = rises_there on is in
          let few = few_here going in
          let bound = low going in
          omega arith
      low_by false is low0 at low on =
          let same = stays_there on is in
          let bound = low going in
          omega arith

      pub go_low : (at : ℕ) → IsLow s names at → IsLow (work.go s) (names_from (work.go s) names) (at + 0)
      go_low at low on =
          let bound = low_by now refl (λ g. omega arith) at low on in
          omega arith

    -- ---- a message
    module _ (l : Letter) (can : IsTakeable s l) where
      take_machine : machine (work.take s l) ≡ machine s
      take_machine = ap (λ (p : PlainPart). p.at.machine) (lawful.take_part s l)

      take_count : p_of (work.take s l) ≡ p_of s
      take_count = ap (λ (p : PlainPart). p.at.machines) (lawful.take_part s l)

      take_round : (work.take s l).at.round ≡ s.at.round
      take_round = ap (λ (n : Standing). n.round) (lawful.take_at s l)
          ∙ taken_round l.name.kind (ruling_read l.body) s.at

      abbrev after : List Letter
      after = placed (bare l.name) names.letters

      pub fresh : found l.name names.letters ≡ None
      fresh = none_found (found l.name names.letters) (stands.taken.has l.name ∙ ap is_some can.new)

      after_together : AreOfRound s.at.round (machine s) after
      after_together = of_round_placed s.at.round (machine s) (bare l.name) names.letters can.round can.here
          (stands.taken.together can.going)

      pub can_take : CanTake (p_of s) l.name
      can_take = planned_can_be_taken s.split (p_of s) (machine s) l.name (planned s l can)

      -- what marking the name asks for
      pub can_mark : CanTake names.machines l.name
      can_mark = subst (λ (n : ℕ). CanTake n l.name) (sym stands.taken.machines) can_take

      pub mark_together : AreOfRound l.name.round l.name.to names.letters
      mark_together =
          subst (λ (n : ℕ). AreOfRound n l.name.to names.letters) (sym can.round)
          (subst (λ (n : ℕ). AreOfRound s.at.round n names.letters) (sym can.here) (stands.taken.together can.going))

      after_planned : All (λ (y : Letter). CanTake (p_of s) y.name) after
      after_planned =
          let P : Letter → Type 0 = λ y. CanTake (p_of s) y.name in
          All-from_recursion P after
          (all_placed P (bare l.name) names.letters can_take (recursion_from_All P names.letters stands.taken.planned))

      after_ascends : Ascends after
      after_ascends = placed_ascends (bare l.name) names.letters stands.taken.ascends fresh

      few_after : length after ≤ 768
      few_after = few_names (p_of s) s.at.round (machine s) after stands.walks.few after_ascends after_together
          after_planned

      take_taken : AreTaken (work.take s l) (with_letter (bare l.name) names)
      take_taken = record {
        machines = stands.taken.machines ∙ sym take_count;
        has = λ x. ap is_some (placed_law (bare l.name) names.letters x)
            ∙ (some_if (same_name l.name x) (bare l.name) (found x names.letters)
            ∙ (ap (λ b. same_name l.name x || b) (stands.taken.has x) ∙ sym (lawful.take_held s l x)));
        together = λ on. subst (λ (n : ℕ). AreOfRound n (machine (work.take s l)) after) (sym take_round)
            (subst (λ (n : ℕ). AreOfRound s.at.round n after) (sym take_machine) after_together);
        planned = subst (λ (n : ℕ). All (λ (y : Letter). CanTake n y.name) after) (sym take_count) after_planned;
        ascends = after_ascends;
      }

      pub take_stands : Stands sound (work.take s l) (with_letter (bare l.name) names)
      take_stands = record {
        can_run = run_there (work.take s l) (lawful.take_part s l) (lawful.take_split s l);
        is_sound = lawful.take_sound s l stands.is_sound can;
        walks = (take_walks work sound lawful s l stands.walks can).walks;
        taken = take_taken;
      }

      pub take_less : chances (work.take s l) (with_letter (bare l.name) names) < chances s names
      take_less =
          let no_more = (take_walks work sound lawful s l stands.walks can).no_more in
          let few = few_after in
          let long = longer (bare l.name) names.letters in
          omega arith

      pub take_low : (at size : ℕ) → size < 8589934592 → IsLow s names at →
          IsLow (work.take s l) (with_letter (bare l.name) names) (at + size)
      take_low at size small low on =
          let bound = low can.going in
          let long = longer (bare l.name) names.letters in
          let round = take_round in
          omega arith

    -- ---- the bytes that were used fit 64 bits
    pub at_fits : (at size : ℕ) → is_over s.at.spot ≡ false → IsLow s names at → size < 8589934592 →
        at + size < 18446744073709551616
    at_fits at size on low small =
        let bound = low on in
        let few = few_here on in
        let place = stands.walks.low on in
        let rounds = few_rounds s.split.program.program s.split.program.typed in
        omega arith
