-- What the table of actions says of the names at a spot, and of the spot behind it.
use Rattle.std.proofs.Common.{◌≡◌, ◌≢◌, ℕ, zero, suc, ◌+◌, ◌<◌, ◌≤◌, Bool, true, false, List, [], ◌∷◌, map, refl, ap, sym, subst, inl, inr, arith, nat_lt}
use Rattle.std.specs.Prelude.{if◌then◌else◌, ◌==◌, ◌-◌}
use Rattle.std.proofs.lemmas.Bool.{false≢true}
use Rattle.vert_base.specs.declared.message.Name.{Name}
use Rattle.vert_base.specs.declared.message.NameKind.TheVariants.{Refresh, Dep, Update, Push, Tally, Verdict}
use Rattle.vert_base.specs.declared.value.Ruling.{Ruling}
use Rattle.vert_base.specs.declared.value.Ruling.TheVariants.{Stop, Dense, Sparse}
use Rattle.circulant_plan.specs.declared.spot.Ring.{Ring}
use Rattle.circulant_plan.specs.declared.spot.Spot.{Spot}
use Rattle.circulant_plan.specs.declared.spot.Spot.TheVariants.{Tell, Judge, Begin, Scan, Close, Over}
use Rattle.circulant_plan.specs.Names.{refresh_name, dep_name, update_name, push_name, tally_name, verdict_name}
use Rattle.circulant_plan.specs.Ring.{chunk_of, after_machine}
use Rattle.circulant_plan.specs.Skeleton.{Blocks, is_over, acting_ruling, may_rule, rules_rightly, rulings_after}
use Rattle.symple_face.specs.Lawful.{is_begin}
use Rattle.circulant_plan.specs.Standing.{round_of}
use Rattle.circulant_plan.specs.Table.{others_of, name_if, begin_gives, needs_of, gives_of, after_begin, after_judge, next_spot}
use Rattle.circulant_plan.specs.Deliveries.{HasSpot}
use Rattle.circulant_plan.proofs.Members.{Has, has_map_cases, contains_from_has}
use Rattle.circulant_plan.proofs.Choices.{has_name_if_cases}
use Rattle.circulant_plan.proofs.NeedLaws.{needed_is_sent}
use Rattle.circulant_plan.proofs.StandingLaws.{is_zero}
use Rattle.skeleton_laws.proofs.Settled.{dense_goes, sparse_goes}

-- a spot is in a list of actions by some ruling that isn't stop
pub record HasMode (ring : Ring) (m : ℕ) (spot : Spot) : Type 0 where
  pub mode : Ruling
  pub goes : mode ≢ Stop
  pub has : HasSpot ring m mode spot

pub mode_for : (ring : Ring) (m : ℕ) (ruling : Ruling) (spot : Spot) → HasSpot ring m ruling spot → HasMode ring m spot
mode_for ring m ruling Tell has = record { mode = Dense; goes = dense_goes; has = tt }
mode_for ring m ruling (Judge r) has = record { mode = Dense; goes = dense_goes; has = has }
mode_for ring m ruling (Begin r) has = record { mode = Dense; goes = dense_goes; has = has }
mode_for ring m ruling (Scan r s h) has = record { mode = Dense; goes = dense_goes; has = (has.0, has.1, has.2, refl) }
mode_for ring m ruling (Close r true) has = record { mode = Dense; goes = dense_goes; has = (has.0, refl) }
mode_for ring m ruling (Close r false) has = record { mode = Sparse; goes = sparse_goes; has = (has.0, refl) }
mode_for ring m ruling Over has = record { mode = Dense; goes = dense_goes; has = tt }

-- what a machine needs is addressed to it, and of the round of the spot
module _ (ring : Ring) (m : ℕ) (ruling : Ruling) (spot : Spot) (x : Name) where
  pub need_here : m < ring.machines → ring.machines ≤ 64 → HasSpot ring m ruling spot →
      Has (needs_of ring m spot) x → (x.to ≡ m) × (x.round ≡ round_of 0 spot)
  need_here within few has h =
      let mode = mode_for ring m ruling spot has in
      let sent = needed_is_sent ring m mode.mode spot x within few mode.goes mode.has
      (contains_from_has (needs_of ring m spot) x h) in
      (sent.to, sent.round)

-- ---- what a machine sends
abbrev IsFrom : ℕ → Spot → Name → Type 0
IsFrom m spot x = (x.from ≡ m) × (x.kind ≡ Verdict → (r : ℕ) × (spot ≡ Judge r) × (x.round ≡ r + 1))

named : (f : ℕ → Name) (ns : List ℕ) (m : ℕ) (spot : Spot) (x : Name) → ((k : ℕ) → IsFrom m spot (f k)) →
    Has (map f ns) x → IsFrom m spot x
named f ns m spot x each h = let c = has_map_cases f ns x h in subst (IsFrom m spot) c.2 (each c.0)

tally_from : (m r : ℕ) (spot : Spot) (x : Name) (b : Bool) → Has (if b then [] else tally_name r m ∷ []) x →
    IsFrom m spot x
tally_from m r spot x true h = absurd h
tally_from m r spot x false (inl e) = subst (IsFrom m spot) e (
  refl,
  λ same.
      absurd (let no : Tally ≡ Verdict = same in grind arith),
)
tally_from m r spot x false (inr h) = absurd h

judge_from : (ring : Ring) (m r : ℕ) (x : Name) (b : Bool) → (m == 0) ≡ b →
    Has (if b then map (verdict_name (r + 1)) (others_of ring.machines 0) else []) x → IsFrom m (Judge r) x
judge_from ring m r x true e h =
    named (verdict_name (r + 1)) (others_of ring.machines 0) m (Judge r) x
    (λ k. (sym (first m e), λ same. (r, refl, refl))) h
  where
    first : (m : ℕ) → (m == 0) ≡ true → m ≡ 0
    first zero at = refl
    first (suc m) at = grind arith
judge_from ring m r x false e h = absurd h

begin_from : (p m r : ℕ) (ruling : Ruling) (x : Name) → Has (begin_gives p m r ruling) x → IsFrom m (Begin r) x
begin_from p m r Stop x h = absurd h
begin_from p m r Dense x h =
    named (refresh_name r m) (others_of p m) m (Begin r) x (λ k.
    (refl, λ same. absurd (let no : Refresh ≡ Verdict = same in grind arith))) h
begin_from p m r Sparse x h =
    named (push_name r m) (others_of p m) m (Begin r) x (λ k.
    (refl, λ same. absurd (let no : Push ≡ Verdict = same in grind arith))) h

dep_from : (m r s h : ℕ) (to : ℕ) (x : Name) (carry : Bool) → Has (name_if carry (dep_name r s h m to)) x →
    IsFrom m (Scan r s h) x
dep_from m r s h to x carry has =
    let c = has_name_if_cases carry (dep_name r s h m to) x has in
    subst (IsFrom m (Scan r s h)) c.1 (refl, λ same. absurd (let no : Dep ≡ Verdict = same in grind arith))

scan_from : (ring : Ring) (m r s h : ℕ) (x : Name) (b : Bool) →
    Has (if b then update_name r s h m (chunk_of m s ring.machines)
    ∷ name_if ring.carry (dep_name r s h m (after_machine m ring.machines)) else []) x → IsFrom m (Scan r s h) x
scan_from ring m r s h x true (inl e) = subst (IsFrom m (Scan r s h)) e (
  refl,
  λ same.
      absurd (let no : Update ≡ Verdict = same in grind arith),
)
scan_from ring m r s h x true (inr has) = dep_from m r s h (after_machine m ring.machines) x ring.carry has
scan_from ring m r s h x false has = absurd has

-- what a machine sends is from it, and a verdict comes from a judge
pub gift_from : (ring : Ring) (m : ℕ) (spot : Spot) (ruling : Ruling) (x : Name) → Has (gives_of ring m spot ruling) x
    → IsFrom m spot x
gift_from ring m Tell ruling x h = tally_from m 0 Tell x (m == 0) h
gift_from ring m (Judge r) ruling x h = judge_from ring m r x (m == 0) refl h
gift_from ring m (Begin r) ruling x h = begin_from ring.machines m r ruling x h
gift_from ring m (Scan r s h) ruling x has = scan_from ring m r s h x (nat_lt s (ring.machines - 1)) has
gift_from ring m (Close r dense) ruling x h = tally_from m r (Close r dense) x (m == 0) h
gift_from ring m Over ruling x h = absurd h

-- ---- which ruling counts
-- an action goes by the ruling of its round at a begin alone
pub record ActsAlike (ring : Ring) (m : ℕ) (spot : Spot) (a b : Ruling) : Type 0 where
  pub gives : gives_of ring m spot a ≡ gives_of ring m spot b
  pub next : next_spot ring m spot a ≡ next_spot ring m spot b

acts_by : (ring : Ring) (m : ℕ) (spot : Spot) (a b : Ruling) → a ≡ b → ActsAlike ring m spot a b
acts_by ring m spot a b e = record { gives = ap (gives_of ring m spot) e; next = ap (next_spot ring m spot) e }

pub acts_alike : (ring : Ring) (m : ℕ) (judged known other : Ruling) (spot : Spot) →
    ((r : ℕ) → spot ≡ Begin r → known ≡ other) →
    ActsAlike ring m spot (acting_ruling judged known spot) (acting_ruling judged other spot)
acts_alike ring m judged known other Tell same = record { gives = refl; next = refl }
acts_alike ring m judged known other (Judge r) same = record { gives = refl; next = refl }
acts_alike ring m judged known other (Begin r) same = acts_by ring m (Begin r) known other (same r refl)
acts_alike ring m judged known other (Scan r s h) same = record { gives = refl; next = refl }
acts_alike ring m judged known other (Close r dense) same = record { gives = refl; next = refl }
acts_alike ring m judged known other Over same = record { gives = refl; next = refl }

-- ---- where machine 0 begins a round, it judged before
zero_at : (r : ℕ) (b : Bool) → b ≡ true → is_begin (if b then Judge r else Begin (r + 1)) ≡ true → ⊥
zero_at r true e begins = false≢true begins
zero_at r false e begins = false≢true e

zero_tells : (b : Bool) → b ≡ true → is_begin (if b then Judge 0 else Begin 1) ≡ true → ⊥
zero_tells true e begins = false≢true begins
zero_tells false e begins = false≢true e

begins_no_begin : (r : ℕ) (a : Ruling) → is_begin (after_begin r a) ≡ true → ⊥
begins_no_begin r Stop begins = false≢true begins
begins_no_begin r Dense begins = false≢true begins
begins_no_begin r Sparse begins = false≢true begins

scans_no_begin : (r s : ℕ) (a b : Bool) → is_begin (if a then Scan r s 1 else if b then Scan r (s + 1) 0
    else Close r true) ≡ true → ⊥
scans_no_begin r s true b begins = false≢true begins
scans_no_begin r s false true begins = false≢true begins
scans_no_begin r s false false begins = false≢true begins

pub zero_begins : (ring : Ring) (m : ℕ) (a : Ruling) (spot : Spot) → m ≡ 0 → is_begin (next_spot ring m spot a) ≡ true →
    (r : ℕ) × (spot ≡ Judge r)
zero_begins ring m a Tell first begins = absurd (zero_tells (m == 0) (is_zero m first) begins)
zero_begins ring m a (Judge r) first begins = (r, refl)
zero_begins ring m a (Begin r) first begins = absurd (begins_no_begin r a begins)
zero_begins ring m a (Scan r s h) first begins = absurd
    (scans_no_begin r s (h == 0) (nat_lt s (ring.machines - 1)) begins)
zero_begins ring m a (Close r dense) first begins = absurd (zero_at r (m == 0) (is_zero m first) begins)
zero_begins ring m a Over first begins = absurd (false≢true begins)

-- an action that stays in its round is no judge's
pub record StaysBy (judged known : Ruling) (spot : Spot) (made : List (ℕ × Ruling)) : Type 0 where
  pub acting_is : acting_ruling judged known spot ≡ known
  pub rulings_are : rulings_after judged spot made ≡ made

judge_leaves : (r : ℕ) (a : Ruling) → is_over (after_judge r a) ≡ false → is_begin (after_judge r a) ≡ false → ⊥
judge_leaves r Stop over begins = false≢true (sym over)
judge_leaves r Dense over begins = false≢true (sym begins)
judge_leaves r Sparse over begins = false≢true (sym begins)

module _ (ring : Ring) (m : ℕ) (a judged known : Ruling) where
  pub stays_by : (spot : Spot) (made : List (ℕ × Ruling)) → is_over (next_spot ring m spot a) ≡ false →
      is_begin (next_spot ring m spot a) ≡ false → StaysBy judged known spot made
  stays_by Tell made over begins = record { acting_is = refl; rulings_are = refl }
  stays_by (Judge r) made over begins = absurd (judge_leaves r a over begins)
  stays_by (Begin r) made over begins = record { acting_is = refl; rulings_are = refl }
  stays_by (Scan r s h) made over begins = record { acting_is = refl; rulings_are = refl }
  stays_by (Close r dense) made over begins = record { acting_is = refl; rulings_are = refl }
  stays_by Over made over begins = record { acting_is = refl; rulings_are = refl }

-- at a judge the ruling has to be one that it may make
pub rules_by : (blocks : Blocks) (judged : Ruling) (spot : Spot) →
    ((r : ℕ) → spot ≡ Judge r → may_rule blocks (r + 1) judged ≡ true) → rules_rightly blocks judged spot ≡ true
rules_by blocks judged Tell may = refl
rules_by blocks judged (Judge r) may = may r refl
rules_by blocks judged (Begin r) may = refl
rules_by blocks judged (Scan r s h) may = refl
rules_by blocks judged (Close r dense) may = refl
rules_by blocks judged Over may = refl
