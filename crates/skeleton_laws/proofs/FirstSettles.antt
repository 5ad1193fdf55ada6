-- The first states are settled.
use Rattle.std.proofs.Common.{◌≡◌, ◌≢◌, ℕ, zero, suc, ◌+◌, ◌*◌, ◌<◌, ◌≤◌, true, false, List, [], ◌∷◌, length, map, refl, ap, sym, ◌∙◌, subst, inr, arith, ⊎_elim}
use Rattle.std.specs.Prelude.{replicate}
use Rattle.std.proofs.lemmas.Bool.{cases_eq, false≢true}
use Rattle.vert_base.specs.declared.message.Name.{Name}
use Rattle.vert_base.specs.declared.message.NameKind.TheVariants.{Verdict}
use Rattle.vert_base.specs.declared.value.Ruling.{Ruling}
use Rattle.vert_base.specs.declared.value.Ruling.TheVariants.{Stop}
use Rattle.circulant_plan.specs.declared.spot.Ring.{Ring}
use Rattle.circulant_plan.specs.declared.spot.Spot.{Spot}
use Rattle.circulant_plan.specs.declared.spot.Spot.TheVariants.{Tell, Begin}
use Rattle.circulant_plan.specs.Names.{verdict_name}
use Rattle.circulant_plan.specs.Table.{others_of}
use Rattle.circulant_plan.specs.Standing.{Standing, standing_at, round_of, place_of}
use Rattle.circulant_plan.specs.Deliveries.{HasSpot, sending_spot, place_at}
use Rattle.circulant_plan.specs.Skeleton.{Skeleton, Blocks, has_name, ruling_in, may_rule, is_over, first_skeleton, resumed_skeleton}
use Rattle.circulant_plan.proofs.ActionLaws.{Course, course_by}
use Rattle.circulant_plan.proofs.Members.{Has, has_map, has_map_cases, has_others_cases}
use Rattle.circulant_plan.proofs.SendingLaws.{sent_at, sent_place, sent_round, sending_not_over}
use Rattle.circulant_plan.proofs.NameLists.{has_from_name, name_from_has}
use Rattle.circulant_plan.proofs.NameLaws.{IsName, verdict_named, verdict_is, has_round, place_least}
use Rattle.skeleton_laws.proofs.Standings.{standing_of}
use Rattle.skeleton_laws.proofs.Settled.{names_are_planned, Rules, FitsBy, Settled}
use Rattle.skeleton_laws.proofs.GoFacts.{may_limit, ruling_here, ruling_other}

pub all_stand : (n j : ℕ) (s : Standing) → j < n → standing_of (replicate n s) j ≡ s
all_stand zero j s lt = absurd (omega arith)
all_stand (suc n) zero s lt = refl
all_stand (suc n) (suc j) s lt = all_stand n j s (omega arith)

pub all_count : (n : ℕ) (s : Standing) → length (replicate n s) ≡ n
all_count zero s = refl
all_count (suc n) s = ap suc (all_count n s)

-- all machines stand at one spot
pub record Gathered : Type 0 where
  pub ring : Ring
  pub few : ring.machines ≤ 64
  pub some : 1 ≤ ring.machines
  pub spot : Spot
  pub going : is_over spot ≡ false
  pub made : List (ℕ × Ruling)
  pub taken : List Name

module _ (gathered : Gathered) where
  open gathered use {ring, few, some, spot, going, made, taken}

  abbrev one : Skeleton
  one =
      record {
        standings = replicate ring.machines (standing_at 0 spot);
        rulings = made;
        under_way = [];
        taken = taken;
      }

  at : (j : ℕ) → j < ring.machines → standing_of one.standings j ≡ standing_at 0 spot
  at j lt = all_stand ring.machines j (standing_at 0 spot) lt

  at_zero : standing_of one.standings 0 ≡ standing_at 0 spot
  at_zero = at 0 (omega arith)

  none_over : (j : ℕ) → j < ring.machines → is_over (standing_of one.standings j).spot ≡ true → ⊥
  none_over j lt over = false≢true (sym going ∙ sym (ap (λ s. is_over s.spot) (at j lt)) ∙ over)

  module _ (mode : ℕ → Ruling) (not_stop : (r : ℕ) → mode r ≢ Stop) where
    abbrev course : Course
    course = course_by ring few mode not_stop

    pub one_fits : ((j : ℕ) → j < ring.machines → HasSpot ring j (mode (round_of 0 spot)) spot) →
        ((x : Name) → IsName course x → sent_at x < place_at spot → place_at spot < 256 * x.round + 256 →
        has_name x taken ≡ true) →
        ((x : Name) → has_name x taken ≡ true →
        IsName course x × (sent_at x < place_at spot) × (256 * x.round ≤ place_at spot)) →
        FitsBy course one
    one_fits has there were =
        let plan = names_are_planned course in
        record {
          has = λ j lt. subst (λ s. HasSpot ring j (mode s.round) s.spot) (sym (at j lt)) (has j lt);
          fits = record {
            needs_sent = λ x named past.
                let from = ap place_of (at x.from (plan.from_within x named)) in
                let to = ap place_of (at x.to (plan.to_within x named)) in
                let sooner = plan.sooner x named in
                omega arith;
            sent_there = λ x named was on within.
                let from = ap place_of (at x.from (plan.from_within x named)) in
                let to = ap place_of (at x.to (plan.to_within x named)) in
                inr (there x named (omega arith) (omega arith));
            flies = λ x flew. absurd (false≢true flew);
            taken = λ x was.
                let t = were x was in
                let from = ap place_of (at x.from (plan.from_within x t.0)) in
                let to = ap place_of (at x.to (plan.to_within x t.0)) in
                let sent = t.1 in
                let low = t.2 in
                (t.0, omega arith, omega arith);
            over_last = λ i j lt_i lt_j over. absurd (none_over i lt_i over);
          };
        }

  pub one_rules : (blocks : Blocks) → round_of 0 spot ≡ round_of (round_of 0 spot) spot →
      place_at spot ≤ 256 * (blocks.limit + 1) → ((r : ℕ) → may_rule blocks r (ruling_in made r) ≡ true) →
      (1 ≤ round_of 0 spot → ruling_in made (round_of 0 spot) ≢ Stop) →
      ((x : Name) → has_name x taken ≡ true → ruling_in made x.round ≢ Stop) → Rules ring blocks one
  one_rules blocks round low allowed ruled given = record {
    all_there = all_count ring.machines (standing_at 0 spot);
    rounds = λ j lt. subst (λ s. s.round ≡ round_of s.round s.spot) (sym (at j lt)) round;
    low = λ j lt. let e = ap place_of (at j lt) in omega arith;
    allowed = allowed;
    zero_going =
        λ on later stop.
        let e : (standing_of one.standings 0).round ≡ round_of 0 spot = ap (λ s. s.round) at_zero in
        ruled (omega arith) (sym (ap (ruling_in made) e) ∙ stop);
    zero_over = λ over. absurd (none_over 0 (omega arith) over);
    stop_flies = λ x flew verdict stop. absurd (false≢true flew);
    stop_taken = λ x was verdict stop. absurd (given x was stop);
    once = tt;
    over_zero = λ j lt over. absurd (none_over j lt over);
  }

module _ (ring : Ring) (few : ring.machines ≤ 64) (some : 1 ≤ ring.machines) (blocks : Blocks) where
  abbrev fresh : Gathered
  fresh = record { ring = ring; few = few; some = some; spot = Tell; going = refl; made = []; taken = [] }

  -- where round q is begun again by this ruling
  abbrev again_at : ℕ → Ruling → Gathered
  again_at q ruling = record {
    ring = ring;
    few = few;
    some = some;
    spot = Begin q;
    going = refl;
    made = (q, ruling) ∷ [];
    taken = map (verdict_name q) (others_of ring.machines 0);
  }

  pub first_settles : Settled ring few blocks (first_skeleton ring.machines)
  first_settles = record {
    rules =
        one_rules fresh blocks refl (omega arith) (λ r. refl) (λ later. absurd (omega arith))
        (λ x was. absurd (false≢true was));
    by = λ mode not_stop agrees. one_fits fresh mode not_stop (λ j lt. tt)
        (λ x named sent within.
        let least =
        place_least (course_by ring few mode not_stop) x.from (sending_spot (mode x.round) x)
        (has_round (course_by ring few mode not_stop) x named)
        (sending_not_over (mode x.round) x (not_stop x.round)) in
        let e = sent_place (mode x.round) x (not_stop x.round) in
        absurd (omega arith))
        (λ x was. absurd (false≢true was));
  }

  pub resumed_settles : (q : ℕ) (ruling : Ruling) → 1 ≤ q → may_rule blocks q ruling ≡ true →
      ruling ≢ Stop → Settled ring few blocks (resumed_skeleton ring.machines q ruling)
  resumed_settles q ruling later may going =
      let made : List (ℕ × Ruling) = (q, ruling) ∷ [] in
      let given : List Name = map (verdict_name q) (others_of ring.machines 0) in
      let zero_lt : 0 < ring.machines = omega arith in
      let low = may_limit blocks q ruling may going in
      record {
        rules = one_rules (again_at q ruling) blocks refl (omega arith)
            (λ r.
            ⊎_elim
            (λ (e : q ≡ r).
            subst (λ i. may_rule blocks i (ruling_in made i) ≡ true) e
            (subst (λ a. may_rule blocks q a ≡ true) (sym (ruling_here [] ruling q)) may))
            (λ (ne : q ≢ r).
            subst (λ a. may_rule blocks r a ≡ true) (sym (ruling_other [] ruling q r ne)) refl)
            (cases_eq q r))
            (λ some_round stop. going (sym (ruling_here [] ruling q) ∙ stop))
            (λ x was stop.
            let c = has_map_cases (verdict_name q) (others_of ring.machines 0) x (has_from_name x given was) in
            going (sym (ruling_here [] ruling q) ∙ ap (λ (y : Name). ruling_in made y.round) c.2 ∙ stop));
        by = λ mode not_stop agrees. one_fits (again_at q ruling) mode not_stop (λ j lt. later)
            (λ x named sent within.
            ⊎_elim
            (λ (verdict : x.kind ≡ Verdict).
            let is = verdict_is (course_by ring few mode not_stop) x named verdict in
            let at = is.sent in
            let some_round = is.later in
            let same : x.round ≡ q = omega arith in
            let there : Has given (verdict_name q x.to) =
            has_map (verdict_name q) (others_of ring.machines 0) x.to is.listed in
            let name : verdict_name q x.to ≡ x = ap (λ r. verdict_name r x.to) (sym same) ∙ sym is.same in
            name_from_has x given (subst (λ y. Has given y) name there))
            (λ (le : 256 * x.round ≤ sent_at x). absurd (omega arith))
            (sent_round x))
            (λ x was.
            let c = has_map_cases (verdict_name q) (others_of ring.machines 0) x (has_from_name x given was) in
            let o = has_others_cases ring.machines 0 c.0 zero_lt c.1 in
            subst
            (λ y. IsName (course_by ring few mode not_stop) y × (sent_at y < place_at (Begin q)) ×
            (256 * y.round ≤ place_at (Begin q))) c.2 (
              verdict_named (course_by ring few mode not_stop) q c.0 later o.0 o.1,
              omega arith,
              omega arith,
            ));
      }
