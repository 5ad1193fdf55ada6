-- What else is true of a machine that has acted, once it is ideal: by where it stands then.
use Rattle.std.proofs.Common.{◌≡◌, ◌⊎◌, inl, inr, ◌≤◌, ◌-◌, ℕ, Bool, true, false, List, [], ◌∷◌, refl, sym, ap, subst, ◌∙◌, arith, ⊎_elim}
use Rattle.std.specs.Prelude.{◌==◌, ◌&&◌, if◌then◌else◌, is_some, nat_le, nat_lt, not}
use Rattle.std.specs.List.{AllByRecursion}
use Rattle.std.proofs.lemmas.Bool.{true≢false}
use Rattle.vert_base.specs.declared.message.Name.{Name}
use Rattle.vert_base.specs.declared.message.NameKind.TheVariants as kind
use Rattle.vert_base.specs.declared.value.Ruling.TheVariants as ruling
use Rattle.vert_base.specs.Letters.{Letter, found}
use Rattle.circulant_plan.specs.declared.spot.Spot.{Spot}
use Rattle.circulant_plan.specs.declared.spot.Spot.TheVariants.{Tell, Judge, Begin, Scan, Close, Over}
use Rattle.circulant_plan.specs.Deliveries.{HasSpot}
use Rattle.circulant_plan.specs.Names.{verdict_name}
use Rattle.circulant_plan.specs.Skeleton.{is_over}
use Rattle.circulant_plan.specs.Standing.{Standing}
use Rattle.symple_face.specs.CoreDense.{needed_dep, scan_kept, scan_read}
use Rattle.symple_face.specs.CoreSparse.{pushes}
use Rattle.symple_face.specs.CoreSight.{known}
use Rattle.symple_face.specs.CoreTakes.{emptied}
use Rattle.symple_face.specs.CoreWork.{acted, core_go, held_at}
use Rattle.symple_face.specs.Lawful.{is_begin}
use Rattle.symple_face.specs.Source.{Source, stand}
use Rattle.symple_face.specs.State.{State, has_taken, machine, p_of}
use Rattle.round_laws.specs.FoldBegins.{IsPushName}
use Rattle.round_laws.specs.IsIdeal.{IsIdeal, awaits_begin, is_open}
use Rattle.round_laws.proofs.FoldScanHeld.{name_stays}
use Rattle.work_laws.proofs.Moves.{acted_part, go_held}
use Rattle.schedule_laws.specs.Events.{IsTrue, PushesAreHeld, ring_in}
use Rattle.schedule_laws.proofs.Stands.{IsBegun}

-- ---- spots
begin_awaits : (x : Spot) → is_begin x ≡ true → awaits_begin x ≡ true
begin_awaits Tell e = cc
begin_awaits (Judge r) e = cc
begin_awaits (Begin r) e = refl
begin_awaits (Scan r step h) e = cc
begin_awaits (Close r dense) e = cc
begin_awaits Over e = cc

over_shut : (x : Spot) → is_over x ≡ true → is_open x ≡ false
over_shut Tell e = cc
over_shut (Judge r) e = cc
over_shut (Begin r) e = cc
over_shut (Scan r step h) e = cc
over_shut (Close r dense) e = cc
over_shut Over e = refl

held_none : (x : Spot) (held : List Letter) → is_begin x ≡ true → held_at x held ≡ []
held_none Tell held e = cc
held_none (Judge r) held e = cc
held_none (Begin r) held e = refl
held_none (Scan r step h) held e = cc
held_none (Close r dense) held e = cc
held_none Over held e = cc

held_on : (x : Spot) (held : List Letter) → is_begin x ≡ false → held_at x held ≡ held
held_on Tell held e = refl
held_on (Judge r) held e = refl
held_on (Begin r) held e = cc
held_on (Scan r step h) held e = refl
held_on (Close r dense) held e = refl
held_on Over held e = refl

-- ---- names that are held
names_stay : (Q : Name → Type 0) (xs : List Name) (held : List Letter) → AllByRecursion (λ l. Q l.name) held →
    AllByRecursion (λ l. Q l.name) (emptied xs held)
names_stay Q xs [] all = tt
names_stay Q xs (y ∷ ys) all = (subst Q (sym (name_stays xs y)) all.0, names_stay Q xs ys all.1)

acted_names : (Q : Name → Type 0) (s : State) (x : Spot) → AllByRecursion (λ l. Q l.name) s.held →
    AllByRecursion (λ l. Q l.name) (acted s x).held
acted_names Q s Tell all = all
acted_names Q s (Judge r) all = all
acted_names Q s (Begin r) all = names_stay Q (pushes s r) s.held all
acted_names Q s (Scan r step h) all = by (nat_lt step (p_of s - 1))
  where
    by : (b : Bool) →
        AllByRecursion (λ l. Q l.name) (if b then scan_read s r step h else scan_kept s r step h).held
    by true = names_stay Q (needed_dep s r step h) s.held all
    by false = names_stay Q (needed_dep s r step h) s.held all
acted_names Q s (Close r dense) all = all
acted_names Q s Over all = all

-- ---- the next standing
-- it is the begin of a round, or the end, or one more spot of the round, in which the ruling is known
abbrev pub Leads : State → Standing → Type 0
Leads s next = (is_begin next.spot ≡ true)
    ⊎ ((is_over next.spot ≡ true)
    ⊎ ((next.round ≡ s.at.round) × (is_begin next.spot ≡ false) × (is_open next.spot ≡ true → known s ≡ true)))

module _ (src : Source) (m : ℕ) (s : State) (next : Standing) (goes : (core_go s).at ≡ next) where
  abbrev gone : State
  gone = core_go s

  known_on : next.round ≡ s.at.round → is_begin next.spot ≡ false → known gone ≡ known s
  known_on same going =
      ap (λ part. if part.at.machine == 0 then nat_le 1 gone.at.round
      else is_some (found (verdict_name gone.at.round part.at.machine) gone.held)) (acted_part s s.at.spot)
      ∙ ap (λ r. if machine s == 0 then nat_le 1 r else has_taken gone (verdict_name r (machine s)))
      (ap (λ a. a.round) goes ∙ same)
      ∙ ap (λ b. if machine s == 0 then nat_le 1 s.at.round else b)
      (go_held s (verdict_name s.at.round (machine s))
      ∙ ap (λ a. not (is_begin a.spot) && has_taken s (verdict_name s.at.round (machine s))) goes
      ∙ ap (λ b. not b && has_taken s (verdict_name s.at.round (machine s))) going)

  pushes_on : next.round ≡ s.at.round → is_begin next.spot ≡ false → PushesAreHeld src m s.at.round s.held →
      PushesAreHeld src m gone.at.round gone.held
  pushes_on same going all =
      subst (λ r. PushesAreHeld src m r gone.held) (sym (ap (λ a. a.round) goes ∙ same))
      (subst (PushesAreHeld src m s.at.round)
      (sym (held_on gone.at.spot (acted s s.at.spot).held (ap (λ a. is_begin a.spot) goes ∙ going)))
      (acted_names
      (λ x. x.kind ≡ kind.Push → ((stand src s.at.round).ruling ≡ ruling.Sparse) × IsPushName src m s.at.round x) s
      s.at.spot all))

  pub onward : IsTrue src m s → is_over s.at.spot ≡ false → IsIdeal src m gone → s.at.round ≤ next.round →
      HasSpot (ring_in src) m (stand src next.round).ruling next.spot → Leads s next → IsTrue src m gone
  onward holds going ideal later has leads = record {
    ideal = ideal;
    begun = subst (λ a. IsBegun src a.round) (sym goes)
        (⊎_elim (λ (one : src.base ≡ 1). inl one)
        (λ (le : src.base ≤ s.at.round). inr (omega (arith, le, later))) holds.begun);
    has = subst (λ a. HasSpot (ring_in src) m (stand src a.round).ruling a.spot) (sym goes) has;
    knows = λ is_going behind. knows leads (ap (λ a. is_open a.spot) (sym goes) ∙ is_going)
        (ap (λ a. awaits_begin a.spot) (sym goes) ∙ behind);
    pushes = λ there. pushes leads (ap (λ a. is_over a.spot) (sym goes) ∙ there);
  }
    where
      knows : Leads s next → is_open next.spot ≡ true → awaits_begin next.spot ≡ false → known (core_go s) ≡ true
      knows (inl begins) is_going behind = absurd (true≢false (sym (begin_awaits next.spot begins) ∙ behind))
      knows (inr (inl over)) is_going behind = absurd (true≢false (sym is_going ∙ over_shut next.spot over))
      knows (inr (inr on)) is_going behind = known_on on.0 on.1 ∙ on.2 is_going

      pushes : Leads s next → is_over next.spot ≡ false → PushesAreHeld src m (core_go s).at.round (core_go s).held
      pushes (inl begins) there =
          subst (PushesAreHeld src m (core_go s).at.round)
          (sym (held_none (core_go s).at.spot (acted s s.at.spot).held (ap (λ a. is_begin a.spot) goes ∙ begins))) tt
      pushes (inr (inl over)) there = absurd (true≢false (sym over ∙ there))
      pushes (inr (inr on)) there = pushes_on on.0 on.1 (holds.pushes going)
