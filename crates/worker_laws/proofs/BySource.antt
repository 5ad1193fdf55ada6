-- A core that holds what the source's run says acts by the source's rulings, and sends ideal messages.
use Rattle.std.proofs.Common.{◌≡◌, ◌≢◌, ℕ, ◌+◌, ◌<◌, ◌≤◌, Bool, true, false, List, [], ◌∷◌, map, Option, Some, None, refl, ap, sym, ◌∙◌, subst, inl, inr, arith, ⊎_elim}
use Rattle.std.specs.Prelude.{◌==◌, if◌then◌else◌, is_some, nat_le}
use Rattle.std.specs.List.{AllByRecursion, list_all}
use Rattle.std.proofs.lemmas.Bool.{and_from, and_parts, cases_eq}
use Rattle.vert_base.specs.declared.message.Name.{Name}
use Rattle.vert_base.specs.declared.value.Ruling.{Ruling}
use Rattle.vert_base.specs.Letters.{Letter, found}
use Rattle.circulant_plan.specs.declared.spot.Ring.{Ring}
use Rattle.circulant_plan.specs.declared.spot.Spot.{Spot}
use Rattle.circulant_plan.specs.declared.spot.Spot.TheVariants.{Tell, Judge, Begin, Scan, Close, Over}
use Rattle.circulant_plan.specs.Deliveries.{HasSpot}
use Rattle.circulant_plan.specs.Names.{verdict_name}
use Rattle.circulant_plan.specs.Skeleton.{acting_ruling, has_name, is_over}
use Rattle.circulant_plan.specs.Standing.{Standing, next_standing, round_of, round_ruled, standing_at}
use Rattle.circulant_plan.specs.Table.{after_judge, gives_of, needs_of}
use Rattle.circulant_plan.proofs.Members.{Has}
use Rattle.circulant_plan.proofs.StandingLaws.{not_zero}
use Rattle.instrument.specs.declared.split.Split.{Split}
use Rattle.symple_face.specs.declared.action.Action.{Action}
use Rattle.symple_face.specs.declared.action.Action.TheVariants.{Ready, Waits}
use Rattle.symple_face.specs.declared.action.Action.TheVariants as action
use Rattle.symple_face.specs.CoreSight.{known}
use Rattle.symple_face.specs.CoreWork.{core_go, core_sent, core_work}
use Rattle.symple_face.specs.Ideal.{ideal_body, machines_of}
use Rattle.symple_face.specs.Lawful.{acting}
use Rattle.symple_face.specs.Parts.{PlainPart}
use Rattle.symple_face.specs.Plans.{ring_of}
use Rattle.symple_face.specs.Source.{Source, stand}
use Rattle.symple_face.specs.State.{State, action_of, first_missing, machine, needs, p_of, waiting_for}
use Rattle.work_laws.specs.Sound.{FitsSpot, core_sound}
use Rattle.work_laws.proofs.Whole.{core_lawful}
use Rattle.cluster_run.proofs.ActionTables.{ActsAlike, acts_alike}
use Rattle.schedule_laws.specs.Events.{IsTrue, ring_in}
use Rattle.schedule_laws.specs.OutputText.{rulings_of}
use Rattle.schedule_laws.specs.Runs.{IsSourceRun}
use Rattle.schedule_laws.proofs.Follows.{judge_goes, known_zero}
use Rattle.schedule_laws.proofs.Goes.{goes_on}
use Rattle.worker_laws.proofs.Ahead.{CanLead, acts_by, given, led}
use Rattle.worker_stream.proofs.StateWalks.{nothing_missing}
use Rattle.cluster_run.proofs.Worlds.{missing_step}
use Rattle.state_laws.proofs.Rulings.{judged_on}

-- a message with its ideal body
abbrev pub ideal_letter : Source → Name → Letter
ideal_letter src x = record { name = x; body = ideal_body src x }

ideal_letters : (src : Source) (ls : List Letter) → AllByRecursion (λ l. l.body ≡ ideal_body src l.name) ls →
    ls ≡ map (ideal_letter src) (map (λ l. l.name) ls)
ideal_letters src [] all = refl
ideal_letters src (l ∷ ls) all =
    let one : l ≡ ideal_letter src l.name = λ i. record l { body = all.0 i } in
    ap (λ q. q ∷ ls) one ∙ ap (λ qs. ideal_letter src l.name ∷ qs) (ideal_letters src ls all.1)

-- ---- what a ready machine needs
over_or_not : (b : Bool) (a : Action) → (if b then action.Over else a) ≡ Ready → (b ≡ false) × (a ≡ Ready)
over_or_not true a e = absurd (cc)
over_or_not false a e = (refl, e)

pub ready_parts : (s : State) → action_of s ≡ Ready →
    (is_over s.at.spot ≡ false) × (first_missing (needs s) s.held ≡ None)
ready_parts s e =
    let c = over_or_not (is_over s.at.spot) (waiting_for (first_missing (needs s) s.held)) e in
    (c.0, nothing_missing (first_missing (needs s) s.held) c.1)

pub ready_by : (s : State) → is_over s.at.spot ≡ false → first_missing (needs s) s.held ≡ None →
    action_of s ≡ Ready
ready_by s going none =
    ap (λ b. if b then action.Over else waiting_for (first_missing (needs s) s.held)) going ∙ ap waiting_for none

-- where a name is held exactly if it was taken, nothing is missing exactly if all were taken
pub taken_of : (xs : List Name) (held : List Letter) (taken : List Name) →
    ((x : Name) → Has xs x → is_some (found x held) ≡ has_name x taken) → first_missing xs held ≡ None →
    list_all (λ x. has_name x taken) xs ≡ true
taken_of [] held taken same none = refl
taken_of (x ∷ xs) held taken same none =
    let c = missing_step x (is_some (found x held)) (first_missing xs held) none in
    and_from (has_name x taken) (list_all (λ y. has_name y taken) xs) (sym (same x (inl refl)) ∙ c.0)
    (taken_of xs held taken (λ y h. same y (inr h)) c.1)

pub held_of : (xs : List Name) (held : List Letter) (taken : List Name) →
    ((x : Name) → Has xs x → is_some (found x held) ≡ has_name x taken) →
    list_all (λ x. has_name x taken) xs ≡ true → first_missing xs held ≡ None
held_of [] held taken same all = refl
held_of (x ∷ xs) held taken same all =
    let c = and_parts (has_name x taken) (list_all (λ y. has_name y taken) xs) all in
    ap (λ b. if b then first_missing xs held else Some x) (same x (inl refl) ∙ c.0)
    ∙ held_of xs held taken (λ y h. same y (inr h)) c.1

-- ---- the rulings
judged_alike : (spot : Spot) (a b ruling : Ruling) → ((r : ℕ) → spot ≡ Judge r → a ≡ b) →
    acting_ruling a ruling spot ≡ acting_ruling b ruling spot
judged_alike Tell a b ruling same = refl
judged_alike (Judge r) a b ruling same = same r refl
judged_alike (Begin r) a b ruling same = refl
judged_alike (Scan r s h) a b ruling same = refl
judged_alike (Close r dense) a b ruling same = refl
judged_alike Over a b ruling same = refl

module _ (src : Source) (run : IsSourceRun src) (m : ℕ) (low : m < machines_of src) (s : State) (truth : IsTrue src m s)
  where
    pub number : machine s ≡ m
    number = ap (λ (part : PlainPart). part.at.machine) truth.ideal.part

    pub count : p_of s ≡ machines_of src
    count = ap (λ (part : PlainPart). part.at.machines) truth.ideal.part

    pub ring_is : ring_of s.split (p_of s) ≡ ring_in src
    ring_is = ap (ring_of s.split) count ∙ ap (λ (q : Split). ring_of q (machines_of src)) truth.ideal.split

    pub needs_are : needs s ≡ needs_of (ring_in src) m s.at.spot
    needs_are =
        ap (λ (r : Ring). needs_of r (machine s) s.at.spot) ring_is
        ∙ ap (λ n. needs_of (ring_in src) n s.at.spot) number

    module _ (sound : core_sound s) (ready : action_of s ≡ Ready) where
      pub went : IsTrue src m (core_go s) × AllByRecursion (λ l. l.body ≡ ideal_body src l.name) (core_sent s)
      went = goes_on src m s run low sound truth ready

      -- who begins a round knows its ruling
      verdict_held : (r : ℕ) → s.at.spot ≡ Begin r → m ≢ 0 → is_some (found (verdict_name r m) s.held) ≡ true
      verdict_held r at other =
          let one : needs s ≡ verdict_name r m ∷ [] =
          needs_are ∙ ap (needs_of (ring_in src) m) at
          ∙ ap (λ b. if b then [] else verdict_name r m ∷ []) (not_zero m other) in
          (missing_step (verdict_name r m) (is_some (found (verdict_name r m) s.held)) None
          (sym (ap (λ xs. first_missing xs s.held) one) ∙ (ready_parts s ready).1)).0

      begun : (r : ℕ) → s.at.spot ≡ Begin r → s.at.round ≡ r
      begun r at = sym (sym (ap (round_of s.at.round) at) ∙ sym sound.round)

      knows : (r : ℕ) → s.at.spot ≡ Begin r → known s ≡ true
      knows r at =
          let round : s.at.round ≡ r = begun r at in
          let some : 1 ≤ r = subst (HasSpot (ring_in src) m (stand src s.at.round).ruling) at truth.has in
          ⊎_elim
          (λ (first : m ≡ 0). known_zero s (number ∙ first) (omega (arith, some, round)))
          (λ (other : m ≢ 0).
          ap (λ n. if n == 0 then nat_le 1 s.at.round else is_some (found (verdict_name s.at.round n) s.held)) number
          ∙ ap (λ b. if b then nat_le 1 s.at.round else is_some (found (verdict_name s.at.round m) s.held))
          (not_zero m other)
          ∙ ap (λ q. is_some (found (verdict_name q m) s.held)) round
          ∙ verdict_held r at other)
          (cases_eq m 0)

      begin_ruling : (r : ℕ) → s.at.spot ≡ Begin r → s.ruling ≡ (stand src s.at.round).ruling
      begin_ruling r at = truth.ideal.ruling (knows r at)

      -- and a judge makes the source's
      judges_so : (r : ℕ) → s.at.spot ≡ Judge r → core_work.judge s ≡ (stand src (s.at.round + 1)).ruling
      judges_so r at =
          let first : m ≡ 0 = subst (HasSpot (ring_in src) m (stand src s.at.round).ruling) at truth.has in
          let next : (core_go s).at ≡ standing_at (r + 1) (after_judge r (core_work.judge s)) =
          core_lawful.go_at s
          ∙ ap (λ n. next_standing (ring_of s.split (p_of s)) n (acting core_work s) s.at) (number ∙ first)
          ∙ judge_goes (ring_of s.split (p_of s)) (acting core_work s) s.at r at
          ∙ ap (λ q. standing_at (r + 1) (after_judge r (acting_ruling (core_work.judge s) s.ruling q))) at in
          let round : (core_go s).at.round ≡ r + 1 =
          ap (λ (t : Standing). t.round) next ∙ judged_on r (core_work.judge s) in
          let here : s.at.round ≡ r = sound.round ∙ ap (round_of s.at.round) at in
          let numbered : machine (core_go s) ≡ 0 =
          ap (λ (part : PlainPart). part.at.machine) (core_lawful.go_part s) ∙ number ∙ first in
          let later : known (core_go s) ≡ true = known_zero (core_go s) numbered (omega (arith, round)) in
          sym (core_lawful.go_ruling s ∙ ap (acting_ruling (core_work.judge s) s.ruling) at)
          ∙ went.0.ideal.ruling later
          ∙ ap (λ q. (stand src q).ruling) (round ∙ ap (λ q. q + 1) (sym here))

      alike : ActsAlike (ring_in src) m s.at.spot (acting core_work s) (acts_by (rulings_of src) s.at)
      alike =
          subst (ActsAlike (ring_in src) m s.at.spot (acting core_work s))
          (judged_alike s.at.spot (core_work.judge s) (stand src (s.at.round + 1)).ruling (stand src s.at.round).ruling
          judges_so)
          (acts_alike (ring_in src) m (core_work.judge s) s.ruling (stand src s.at.round).ruling s.at.spot
          begin_ruling)

      pub goes_to : (core_go s).at ≡ led (ring_in src) (rulings_of src) m s.at
      goes_to =
          core_lawful.go_at s
          ∙ ap (λ (r : Ring). next_standing r (machine s) (acting core_work s) s.at) ring_is
          ∙ ap (λ n. next_standing (ring_in src) n (acting core_work s) s.at) number
          ∙ ap (standing_at (round_ruled s.at.round s.at.spot)) alike.next

      pub sends : core_sent s ≡ map (ideal_letter src) (given (ring_in src) (rulings_of src) m s.at)
      sends =
          ideal_letters src (core_sent s) went.1
          ∙ ap (map (ideal_letter src))
          (core_lawful.sent_names s
          ∙ ap (λ (r : Ring). gives_of r (machine s) s.at.spot (acting core_work s)) ring_is
          ∙ ap (λ n. gives_of (ring_in src) n s.at.spot (acting core_work s)) number
          ∙ alike.gives)

      -- its action is possible where it holds what was taken
      pub can_lead : (taken : List Name) →
          ((x : Name) → Has (needs_of (ring_in src) m s.at.spot) x → is_some (found x s.held) ≡ has_name x taken) →
          CanLead (ring_in src) (rulings_of src) m taken s.at
      can_lead taken same = record {
        going = (ready_parts s ready).0;
        ready = taken_of (needs_of (ring_in src) m s.at.spot) s.held taken same
            (sym (ap (λ xs. first_missing xs s.held) needs_are) ∙ (ready_parts s ready).1);
        begins = λ r at stop.
            let fits : FitsSpot s (Begin r) = subst (FitsSpot s) at sound.spot in
            (fits.2 (knows r at)).0 (begin_ruling r at ∙ stop);
      }
