-- A machine gets on in its list of actions, whatever messages it takes.
use Rattle.std.proofs.Common.{◌≡◌, ◌≢◌, ℕ, ◌+◌, ◌-◌, ◌*◌, ◌<◌, ◌≤◌, ◌∙◌, Bool, true, false, not, ◌&&◌, inl, inr, refl, sym, ap, subst, arith, ⊎_elim}
use Rattle.std.specs.Prelude.{◌==◌, nat_lt, if◌then◌else◌}
use Rattle.std.proofs.lemmas.Bool.{cases_Bool, cases_eq, cases_lt, false≢true}
use Rattle.vert_base.specs.declared.value.Ruling.{Ruling}
use Rattle.vert_base.specs.declared.value.Ruling.TheVariants.{Stop, Dense, Sparse}
use Rattle.circulant_plan.specs.declared.spot.Ring.{Ring}
use Rattle.circulant_plan.specs.declared.spot.Spot.{Spot}
use Rattle.circulant_plan.specs.declared.spot.Spot.TheVariants.{Tell, Judge, Begin, Scan, Close, Over}
use Rattle.circulant_plan.specs.Deliveries.{HasSpot, IsOneOn}
use Rattle.circulant_plan.specs.Remaining.{way_left}
use Rattle.circulant_plan.specs.Skeleton.{Blocks, acting_ruling, is_over, may_rule}
use Rattle.circulant_plan.specs.Standing.{Standing, next_standing, place_of, round_of, ruled_standing}
use Rattle.circulant_plan.specs.Table.{next_spot}
use Rattle.circulant_plan.proofs.StandingLaws.{actions_lead_on, below_false, is_zero, not_zero}
use Rattle.symple_face.specs.Lawful.{is_begin}
use Rattle.worker_stream.specs.Walks.{IsKnown, IsWalk}
use Rattle.state_laws.proofs.Rulings.{within_limit}

going_on : is_over Over ≡ false → ⊥
going_on e = false≢true (sym e)

-- ---- an action
acting_has : (ring : Ring) (m : ℕ) (judged known : Ruling) (spot : Spot) → HasSpot ring m known spot →
    HasSpot ring m (acting_ruling judged known spot) spot
acting_has ring m judged known Tell has = has
acting_has ring m judged known (Judge r) has = has
acting_has ring m judged known (Begin r) has = has
acting_has ring m judged known (Scan r s h) has = has
acting_has ring m judged known (Close r true) has = has
acting_has ring m judged known (Close r false) has = has
acting_has ring m judged known Over has = has

-- the next spot lies within the limit, and what has to be known there is
record IsNext (blocks : Blocks) (m : ℕ) (ruling : Ruling) (knows : ℕ → Bool) (s : Standing) : Type 0 where
  low : is_over s.spot ≡ false → place_of s ≤ 256 * (blocks.limit + 1)
  known : IsKnown blocks m ruling knows s.spot

module _ (blocks : Blocks) (m : ℕ) (knows later : ℕ → Bool) where
  -- what is taken stays, but for a begin
  abbrev pub Stays : Spot → Type 0
  Stays next = (r : ℕ) → later r ≡ (not (is_begin next) && knows r)

  over_next : (ruling : Ruling) (round : ℕ) → IsNext blocks m ruling later (record { spot = Over; round = round })
  over_next ruling round = record { low = λ e. absurd (going_on e); known = tt }

  judge_next : (ruling : Ruling) (r : ℕ) → r ≤ blocks.limit →
      IsNext blocks m ruling later (record { spot = Judge r; round = r })
  judge_next ruling r low = record { low = λ e. omega arith; known = tt }

  -- behind a close, where the names are dropped
  begin_next : (ruling : Ruling) (r : ℕ) → r ≤ blocks.limit + 1 → m ≢ 0 → Stays (Begin r) →
      IsNext blocks m ruling later (record { spot = Begin r; round = r })
  begin_next ruling r low other stays = record {
    low = λ e. omega arith;
    known = λ either. ⊎_elim (λ (zero : m ≡ 0). absurd (other zero))
        (λ (knew : later r ≡ true). absurd (false≢true (sym (stays r) ∙ knew))) either;
  }

  ruled_next : (ruling : Ruling) (r : ℕ) → ruling ≢ Stop → may_rule blocks r ruling ≡ true →
      IsNext blocks m ruling later (record { spot = Begin r; round = r })
  ruled_next ruling r on may =
      let low = within_limit blocks r ruling on may in
      record { low = λ e. omega arith; known = λ either. (on, may) }

  module _ (ruling : Ruling) (r s h : ℕ) where
    scan_next : r ≤ blocks.limit → s < 64 → h ≤ 1 → (m ≢ 0 → knows r ≡ true) → Stays (Scan r s h) →
        IsNext blocks m ruling later (record { spot = Scan r s h; round = r })
    scan_next low few half known stays =
        record { low = λ e. omega arith; known = λ other. stays r ∙ known other }

  close_next : (ruling : Ruling) (r : ℕ) (dense : Bool) → r ≤ blocks.limit → (m ≢ 0 → knows r ≡ true) →
      Stays (Close r dense) → IsNext blocks m ruling later (record { spot = Close r dense; round = r })
  close_next ruling r dense low known stays =
      record { low = λ e. omega arith; known = λ other. stays r ∙ known other }

module _ (ring : Ring) (blocks : Blocks) (m : ℕ) (judged : Ruling) (knows later : ℕ → Bool) where
  abbrev Next : Ruling → Spot → ℕ → Type 0
  Next ruling spot round =
      let acting = acting_ruling judged ruling spot in
      IsNext blocks m acting later (next_standing ring m acting (record { spot = spot; round = round }))

  abbrev Remains : Ruling → Spot → Type 0
  Remains ruling spot = Stays blocks m knows later (next_spot ring m spot (acting_ruling judged ruling spot))

  judged_next : (a : Ruling) (r : ℕ) → may_rule blocks (r + 1) a ≡ true →
      IsNext blocks m a later (next_standing ring m a (record { spot = Judge r; round = r }))
  judged_next Stop r may = over_next blocks m knows later Stop (r + 1)
  judged_next Dense r may = ruled_next blocks m knows later Dense (r + 1) (λ e. absurd (cc)) may
  judged_next Sparse r may = ruled_next blocks m knows later Sparse (r + 1) (λ e. absurd (cc)) may

  begun_next : (a : Ruling) (r : ℕ) → a ≢ Stop → may_rule blocks r a ≡ true → (m ≢ 0 → knows r ≡ true) →
      Stays blocks m knows later (next_spot ring m (Begin r) a) →
      IsNext blocks m a later (next_standing ring m a (record { spot = Begin r; round = r }))
  begun_next Stop r on may ready stays = absurd (on refl)
  begun_next Dense r on may ready stays =
      scan_next blocks m knows later Dense r 0 0 (within_limit blocks r Dense on may) (omega arith) (omega arith)
      ready stays
  begun_next Sparse r on may ready stays =
      close_next blocks m knows later Sparse r false (within_limit blocks r Sparse on may) ready stays

  -- the place of the spot, where its round is known
  abbrev Lies : Spot → ℕ → Type 0
  Lies spot round = place_of (record { spot = spot; round = round }) ≤ 256 * (blocks.limit + 1)

  tell_next : (ruling : Ruling) → Stays blocks m knows later (if m == 0 then Judge 0 else Begin 1) →
      IsNext blocks m ruling later (next_standing ring m ruling (record { spot = Tell; round = 0 }))
  tell_next ruling stays =
      ⊎_elim
      (λ (zero : m ≡ 0).
      subst (λ b. IsNext blocks m ruling later (record {
        spot = if b then Judge 0 else Begin 1;
        round = round_of 0 (if b then Judge 0 else Begin 1);
      })) (sym (is_zero m zero)) (judge_next blocks m knows later ruling 0 (omega arith)))
      (λ (other : m ≢ 0).
      let b = not_zero m other in
      subst (λ b. IsNext blocks m ruling later (record {
        spot = if b then Judge 0 else Begin 1;
        round = round_of 0 (if b then Judge 0 else Begin 1);
      })) (sym b) (begin_next blocks m knows later ruling 1 (omega arith) other
      (subst (λ b. Stays blocks m knows later (if b then Judge 0 else Begin 1)) b stays)))
      (cases_eq m 0)

  close_end : (ruling : Ruling) (r : ℕ) → r ≤ blocks.limit →
      Stays blocks m knows later (if m == 0 then Judge r else Begin (r + 1)) →
      IsNext blocks m ruling later (record {
        spot = if m == 0 then Judge r else Begin (r + 1);
        round = round_of r (if m == 0 then Judge r else Begin (r + 1));
      })
  close_end ruling r low stays =
      ⊎_elim
      (λ (zero : m ≡ 0).
      subst (λ b. IsNext blocks m ruling later (record {
        spot = if b then Judge r else Begin (r + 1);
        round = round_of r (if b then Judge r else Begin (r + 1));
      })) (sym (is_zero m zero)) (judge_next blocks m knows later ruling r low))
      (λ (other : m ≢ 0).
      let b = not_zero m other in
      subst (λ b. IsNext blocks m ruling later (record {
        spot = if b then Judge r else Begin (r + 1);
        round = round_of r (if b then Judge r else Begin (r + 1));
      })) (sym b) (begin_next blocks m knows later ruling (r + 1) (omega arith) other
      (subst (λ b. Stays blocks m knows later (if b then Judge r else Begin (r + 1))) b stays)))
      (cases_eq m 0)

  abbrev scan_on : ℕ → ℕ → ℕ → Bool → Bool → Spot
  scan_on r s h b c = if b then Scan r s 1 else if c then Scan r (s + 1) 0 else Close r true

  abbrev ScanNext : Ruling → ℕ → ℕ → ℕ → Bool → Bool → Type 0
  ScanNext ruling r s h b c =
      Stays blocks m knows later (scan_on r s h b c) →
      IsNext blocks m ruling later (record { spot = scan_on r s h b c; round = round_of r (scan_on r s h b c) })

  module _ (ruling : Ruling) (r s h : ℕ) where
    scan_by : (b c : Bool) → r ≤ blocks.limit → s < 64 → (c ≡ true → s + 1 < 64) → (m ≢ 0 → knows r ≡ true) →
        ScanNext ruling r s h b c
    scan_by true c low few more known stays =
        scan_next blocks m knows later ruling r s 1 low few (omega arith) known stays
    scan_by false true low few more known stays =
        scan_next blocks m knows later ruling r (s + 1) 0 low (more refl) (omega arith) known stays
    scan_by false false low few more known stays =
        close_next blocks m knows later ruling r true low known stays

  module _ (ruling : Ruling) (round : ℕ) (few : ring.machines ≤ 64) where
    next_is : (spot : Spot) → round ≡ round_of round spot → HasSpot ring m ruling spot → is_over spot ≡ false →
        Lies spot round → IsKnown blocks m ruling knows spot →
        ((r : ℕ) → spot ≡ Judge r → may_rule blocks (r + 1) judged ≡ true) × ((r : ℕ) → spot ≡ Begin r → m ≢ 0 →
        knows r ≡ true) → Remains ruling spot → Next ruling spot round
    next_is Tell e has on low known can stays =
        subst (λ q. Next ruling Tell q) (sym e) (tell_next ruling stays)
    next_is (Judge r) e has on low known can stays =
        subst (λ q. Next ruling (Judge r) q) (sym e) (judged_next judged r (can.0 r refl))
    next_is (Begin r) e has on low known can stays =
        let mode = ⊎_elim (λ (zero : m ≡ 0). known (inl zero))
        (λ (other : m ≢ 0). known (inr (can.1 r refl other))) (cases_eq m 0) in
        subst (λ q. Next ruling (Begin r) q) (sym e) (begun_next ruling r mode.0 mode.1 (can.1 r refl) stays)
    next_is (Scan r s h) e has on low known can stays =
        let within = has.1 in
        let c = nat_lt s (ring.machines - 1) in
        subst (λ q. Next ruling (Scan r s h) q) (sym e)
        (scan_by ruling r s h (h == 0) c (omega arith) (omega arith)
        (λ is. ⊎_elim (λ (less : s < ring.machines - 1). let few_more : s + 1 < 64 = omega arith in few_more)
        (λ (last : ring.machines - 1 ≤ s). absurd (false≢true (sym (below_false s (ring.machines - 1) last) ∙ is)))
        (cases_lt s (ring.machines - 1)))
        known stays)
    next_is (Close r dense) e has on low known can stays =
        subst (λ q. Next ruling (Close r dense) q) (sym e) (close_end ruling r (omega arith) stays)
    next_is Over e has on low known can stays = absurd (going_on on)

way_less : (blocks : Blocks) (s n : Standing) → is_over s.spot ≡ false → place_of s < place_of n →
    (is_over n.spot ≡ false → place_of n ≤ 256 * (blocks.limit + 1)) → place_of s ≤ 256 * (blocks.limit + 1) →
    way_left blocks n < way_left blocks s
way_less blocks s n going later low here =
    let was : way_left blocks s ≡ 256 * (blocks.limit + 1) + 1 - place_of s = rw going refl in
    ⊎_elim
    (λ (over : is_over n.spot ≡ true). let now : way_left blocks n ≡ 0 = rw over refl in omega arith)
    (λ (on : is_over n.spot ≡ false).
    let now : way_left blocks n ≡ 256 * (blocks.limit + 1) + 1 - place_of n = rw on refl in
    let bound = low on in
    omega arith)
    (cases_Bool (is_over n.spot))

-- after an action
pub record IsFurther (ring : Ring) (blocks : Blocks) (m : ℕ) (ruling : Ruling) (s n : Standing) (later : ℕ → Bool) :
    Type 0 where
  pub walk : IsWalk ring blocks m ruling n later
  pub less : way_left blocks n < way_left blocks s

module _ (ring : Ring) (blocks : Blocks) (m : ℕ) (judged ruling : Ruling) (s : Standing)
    (knows later : ℕ → Bool) where
  pub walks_on : IsWalk ring blocks m ruling s knows → is_over s.spot ≡ false →
      ((r : ℕ) → s.spot ≡ Judge r → may_rule blocks (r + 1) judged ≡ true) →
      ((r : ℕ) → s.spot ≡ Begin r → m ≢ 0 → knows r ≡ true) →
      let acting = acting_ruling judged ruling s.spot in ((r : ℕ) → later r ≡ (not (is_begin (next_standing ring
      m acting s).spot) && knows r)) → IsFurther ring blocks m acting s (next_standing ring m acting s) later
  walks_on walk going may ready stays =
      let acting = acting_ruling judged ruling s.spot in
      let next = next_is ring blocks m judged knows later ruling s.round walk.few s.spot walk.round walk.has going
      (walk.low going) walk.known (may, ready) stays in
      let on : IsOneOn ring m acting s =
      actions_lead_on ring m acting s walk.place walk.few (acting_has ring m judged ruling s.spot walk.has)
      walk.round (λ e. false≢true (sym going ∙ ap is_over e))
      (λ r e. mode r e) in
      record {
        walk = record {
          place = walk.place;
          few = walk.few;
          round = on.round;
          has = on.has;
          low = next.low;
          known = next.known;
        };
        less = way_less blocks s (next_standing ring m acting s) going on.later next.low (walk.low going);
      }
    where
      mode_by : (spot : Spot) (r : ℕ) → spot ≡ Begin r → IsKnown blocks m ruling knows spot →
          (m ≢ 0 → knows r ≡ true) → acting_ruling judged ruling spot ≢ Stop
      mode_by spot r e known ready =
          subst (λ q. acting_ruling judged ruling q ≢ Stop) (sym e)
          (⊎_elim (λ (zero : m ≡ 0). (subst (IsKnown blocks m ruling knows) e known (inl zero)).0)
          (λ (other : m ≢ 0). (subst (IsKnown blocks m ruling knows) e known (inr (ready other))).0) (cases_eq m 0))

      mode : (r : ℕ) → s.spot ≡ Begin r → acting_ruling judged ruling s.spot ≢ Stop
      mode r e = mode_by s.spot r e walk.known (ready r e)

-- ---- a message
known_alike : (blocks : Blocks) (m : ℕ) (ruling : Ruling) (knows later : ℕ → Bool) (spot : Spot) →
    ((r : ℕ) → later r ≡ knows r) → IsKnown blocks m ruling knows spot → IsKnown blocks m ruling later spot
known_alike blocks m ruling knows later Tell same known = known
known_alike blocks m ruling knows later (Judge r) same known = known
known_alike blocks m ruling knows later (Begin r) same known = λ either.
    known (⊎_elim (λ (zero : m ≡ 0). inl zero) (λ (knew : later r ≡ true). inr (sym (same r) ∙ knew)) either)
known_alike blocks m ruling knows later (Scan r s h) same known = λ other. same r ∙ known other
known_alike blocks m ruling knows later (Close r dense) same known = λ other. same r ∙ known other
known_alike blocks m ruling knows later Over same known = known

module _ (ring : Ring) (blocks : Blocks) (m : ℕ) (ruling : Ruling) (s : Standing) (knows later : ℕ → Bool) where
  pub walks_alike : IsWalk ring blocks m ruling s knows → ((r : ℕ) → later r ≡ knows r) →
      IsWalk ring blocks m ruling s later
  walks_alike walk same = record {
    place = walk.place;
    few = walk.few;
    round = walk.round;
    has = walk.has;
    low = walk.low;
    known = known_alike blocks m ruling knows later s.spot same walk.known;
  }

-- a verdict is taken at the begin of its round
begins_there :
    (blocks : Blocks) (ring : Ring) (m : ℕ) (ruling : Ruling) (knows : ℕ → Bool) (round : ℕ) (spot : Spot) →
    HasSpot ring m ruling spot → IsKnown blocks m ruling knows spot → round ≡ round_of round spot → m ≢ 0 →
    1 ≤ round → is_over spot ≡ false → knows round ≡ false → spot ≡ Begin round
begins_there blocks ring m ruling knows round Tell has known e other some going new = absurd (omega arith)
begins_there blocks ring m ruling knows round (Judge r) has known e other some going new = absurd (other has)
begins_there blocks ring m ruling knows round (Begin r) has known e other some going new = ap Begin (sym e)
begins_there blocks ring m ruling knows round (Scan r s h) has known e other some going new =
    absurd (false≢true (sym new ∙ (ap knows e ∙ known other)))
begins_there blocks ring m ruling knows round (Close r dense) has known e other some going new =
    absurd (false≢true (sym new ∙ (ap knows e ∙ known other)))
begins_there blocks ring m ruling knows round Over has known e other some going new = absurd (going_on going)

module _ (ring : Ring) (blocks : Blocks) (m : ℕ) (old : Ruling) where
  ruled_by : (read : Ruling) (round : ℕ) (knows later : ℕ → Bool) →
      IsWalk ring blocks m old (record { spot = Begin round; round = round }) knows →
      may_rule blocks round read ≡ true →
      IsWalk ring blocks m read (ruled_standing read (record { spot = Begin round; round = round })) later
  ruled_by Stop round knows later walk may = record {
    place = walk.place;
    few = walk.few;
    round = refl;
    has = tt;
    low = λ e. absurd (going_on e);
    known = tt;
  }
  ruled_by Dense round knows later walk may = record {
    place = walk.place;
    few = walk.few;
    round = refl;
    has = walk.has;
    low = walk.low;
    known = λ either. ((λ e. absurd (cc)), may);
  }
  ruled_by Sparse round knows later walk may = record {
    place = walk.place;
    few = walk.few;
    round = refl;
    has = walk.has;
    low = walk.low;
    known = λ either. ((λ e. absurd (cc)), may);
  }

module _ (ring : Ring) (blocks : Blocks) (m : ℕ) (old read : Ruling) (s : Standing) (knows later : ℕ → Bool) where
  pub walks_ruled : IsWalk ring blocks m old s knows → m ≢ 0 → 1 ≤ s.round → is_over s.spot ≡ false →
      knows s.round ≡ false → may_rule blocks s.round read ≡ true →
      IsWalk ring blocks m read (ruled_standing read s) later
  walks_ruled walk other some going new may =
      let at = begins_there blocks ring m old knows s.round s.spot walk.has walk.known walk.round other some going
      new in
      let same : record { spot = Begin s.round; round = s.round } ≡ s =
      ap (λ q. (let t : Standing = record { spot = q; round = s.round } in t)) (sym at) in
      subst (λ t. IsWalk ring blocks m read (ruled_standing read t) later) same
      (ruled_by ring blocks m old read s.round knows later
      (subst (λ t. IsWalk ring blocks m old t knows) (sym same) walk) may)

-- no message lengthens the way
pub way_ruled : (blocks : Blocks) (read : Ruling) (s : Standing) →
    way_left blocks (ruled_standing read s) ≤ way_left blocks s
way_ruled blocks Stop s = omega arith
way_ruled blocks Dense s = omega arith
way_ruled blocks Sparse s = omega arith
