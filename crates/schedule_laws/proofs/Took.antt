-- What else is true of a machine that has taken a message, once it is ideal.
use Rattle.std.proofs.Common.{◌≡◌, ◌⊎◌, inl, inr, ℕ, Bool, true, false, [], refl, sym, ap, subst, ◌∙◌}
use Rattle.std.specs.Prelude.{◌==◌, ◌||◌, if◌then◌else◌, is_some, nat_le}
use Rattle.std.specs.List.{AllByRecursion}
use Rattle.std.proofs.lemmas.Bool.{true≢false}
use Rattle.vert_base.specs.declared.message.Name.{Name}
use Rattle.vert_base.specs.declared.message.NameKind.{NameKind}
use Rattle.vert_base.specs.declared.message.NameKind.TheVariants as kind
use Rattle.vert_base.specs.declared.value.Ruling.{Ruling}
use Rattle.vert_base.specs.declared.value.Ruling.TheVariants as ruling
use Rattle.vert_base.specs.Letters.{Letter, found, placed}
use Rattle.vert_base.specs.Names.{same_name}
use Rattle.circulant_plan.specs.declared.spot.Spot.{Spot}
use Rattle.circulant_plan.specs.declared.spot.Spot.TheVariants.{Tell, Judge, Begin, Scan, Close, Over}
use Rattle.circulant_plan.specs.Deliveries.{HasSpot}
use Rattle.circulant_plan.specs.Names.{verdict_name}
use Rattle.circulant_plan.specs.Skeleton.{is_over, standing_taken}
use Rattle.circulant_plan.specs.Standing.{Standing}
use Rattle.symple_face.specs.CoreSight.{known}
use Rattle.symple_face.specs.CoreSparse.{told_sends, worked}
use Rattle.symple_face.specs.CoreTakes.{noted}
use Rattle.symple_face.specs.CoreWork.{core_take, taken}
use Rattle.symple_face.specs.Source.{Source, stand}
use Rattle.symple_face.specs.State.{State, has_taken, machine, ruling_read}
use Rattle.round_laws.specs.FoldBegins.{IsPushName}
use Rattle.round_laws.specs.IsIdeal.{IsIdeal, awaits_begin, is_open}
use Rattle.work_laws.proofs.Moves.{taken_at, taken_held, taken_part}
use Rattle.schedule_laws.specs.Events.{IsTrue, PushesAreHeld, ring_in}
use Rattle.schedule_laws.proofs.Stands.{IsBegun}
use Rattle.state_laws.proofs.Letters.{all_placed}

over_is : (x : Spot) → is_over x ≡ true → x ≡ Over
over_is Tell e = cc
over_is (Judge r) e = cc
over_is (Begin r) e = cc
over_is (Scan r step h) e = cc
over_is (Close r dense) e = cc
over_is Over e = refl

-- it stands where it stood, or is over in the same round
abbrev Stays : Standing → Standing → Type 0
Stays a b = (b ≡ a) ⊎ ((b.round ≡ a.round) × (is_over b.spot ≡ true))

stays : (k : NameKind) (q : Ruling) (a : Standing) → Stays a (standing_taken k q a)
stays kind.Refresh q a = inl refl
stays kind.Dep q a = inl refl
stays kind.Update q a = inl refl
stays kind.Push q a = inl refl
stays kind.Tally q a = inl refl
stays kind.Verdict ruling.Stop a = inr (refl, refl)
stays kind.Verdict ruling.Dense a = inl refl
stays kind.Verdict ruling.Sparse a = inl refl

same_round : (a b : Standing) → Stays a b → b.round ≡ a.round
same_round a b (inl e) = ap (λ x. x.round) e
same_round a b (inr e) = e.0

-- names that are held, and one more
taken_names : (Q : Name → Type 0) (k : NameKind) (s : State) (l : Letter) → Q l.name →
    AllByRecursion (λ y. Q y.name) s.held → AllByRecursion (λ y. Q y.name) (taken k s l).held
taken_names Q kind.Refresh s l one all = all_placed (λ y. Q y.name) l s.held one all
taken_names Q kind.Dep s l one all = all_placed (λ y. Q y.name) l s.held one all
taken_names Q kind.Update s l one all = all_placed (λ y. Q y.name) (record l { body = [] }) s.held one all
taken_names Q kind.Push s l one all = by (known s)
  where
    by : (b : Bool) → AllByRecursion (λ y. Q y.name)
        (if b then record s {
          held = noted l s.held;
          partials = worked s l.name.round (told_sends s l.name.from l.body) s.part.push s.partials;
        }
        else record s { held = placed l s.held }).held
    by true = all_placed (λ y. Q y.name) (record l { body = [] }) s.held one all
    by false = all_placed (λ y. Q y.name) l s.held one all
taken_names Q kind.Tally s l one all = all_placed (λ y. Q y.name) l s.held one all
taken_names Q kind.Verdict s l one all = all_placed (λ y. Q y.name) l s.held one all

module _ (src : Source) (m : ℕ) (s : State) (l : Letter) where
  abbrev took : State
  took = core_take s l

  here : Stays s.at took.at
  here =
      subst (Stays s.at) (sym (taken_at l.name.kind s l)) (stays l.name.kind (ruling_read l.body) s.at)

  round_is : took.at.round ≡ s.at.round
  round_is = same_round s.at took.at here

  -- a verdict that was taken is still taken
  known_stays : known s ≡ true → known took ≡ true
  known_stays knows =
      ap (λ part. if part.at.machine == 0 then nat_le 1 took.at.round
      else is_some (found (verdict_name took.at.round part.at.machine) took.held)) (taken_part l.name.kind s l)
      ∙ ap (λ r. if machine s == 0 then nat_le 1 r else has_taken took (verdict_name r (machine s))) round_is
      ∙ ap (λ b. if machine s == 0 then nat_le 1 s.at.round else b)
      (taken_held l.name.kind s l (verdict_name s.at.round (machine s)))
      ∙ by (machine s == 0) (nat_le 1 s.at.round) (same_name l.name (verdict_name s.at.round (machine s)))
      (has_taken s (verdict_name s.at.round (machine s))) knows
    where
      by : (b c d e : Bool) → (if b then c else e) ≡ true → (if b then c else (d || e)) ≡ true
      by true c d e is = is
      by false c true e is = refl
      by false c false e is = is

  pub took_on : IsTrue src m s → is_over s.at.spot ≡ false → IsIdeal src m took →
      (l.name.kind ≡ kind.Push → ((stand src s.at.round).ruling ≡ ruling.Sparse) × IsPushName src m s.at.round l.name) →
      IsTrue src m took
  took_on holds going ideal push = record {
    ideal = ideal;
    begun = subst (IsBegun src) (sym round_is) holds.begun;
    has = has here;
    knows = knows here;
    pushes = λ there.
        subst (λ r. PushesAreHeld src m r took.held) (sym round_is)
        (taken_names
        (λ x. x.kind ≡ kind.Push → ((stand src s.at.round).ruling ≡ ruling.Sparse) × IsPushName src m s.at.round x)
        l.name.kind s l push (holds.pushes going));
  }
    where
      has : Stays s.at (core_take s l).at →
          HasSpot (ring_in src) m (stand src (core_take s l).at.round).ruling (core_take s l).at.spot
      has (inl e) = subst (λ a. HasSpot (ring_in src) m (stand src a.round).ruling a.spot) (sym e) holds.has
      has (inr e) =
          subst (λ x. HasSpot (ring_in src) m (stand src (core_take s l).at.round).ruling x)
          (sym (over_is (core_take s l).at.spot e.1)) tt

      knows : Stays s.at (core_take s l).at → is_open (core_take s l).at.spot ≡ true →
          awaits_begin (core_take s l).at.spot ≡ false → known (core_take s l) ≡ true
      knows (inl e) is_going behind =
          known_stays (holds.knows (ap (λ a. is_open a.spot) (sym e) ∙ is_going)
          (ap (λ a. awaits_begin a.spot) (sym e) ∙ behind))
      knows (inr e) is_going behind =
          absurd (true≢false (sym is_going ∙ ap is_open (over_is (core_take s l).at.spot e.1)))
