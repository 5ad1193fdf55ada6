-- A core that acts as soon as it can, beside the same core of a run: it is ahead by some actions.
use Rattle.std.proofs.Common.{◌≡◌, ◌≢◌, ℕ, suc, ◌<◌, ◌≤◌, Bool, true, false, ◌&&◌, ◌||◌, not, List, ◌∷◌, Option, Some, None, refl, ap, sym, ◌∙◌, subst, arith, ⊎_elim}
use Rattle.std.specs.Prelude.{◌==◌, is_some}
use Rattle.std.proofs.Math.Bool.{and-true}
use Rattle.std.proofs.lemmas.Bool.{and_parts, cases_Bool, false≢true}
use Rattle.vert_base.specs.declared.message.Name.{Name}
use Rattle.vert_base.specs.declared.message.NameKind.{NameKind}
use Rattle.vert_base.specs.declared.message.NameKind.TheVariants.{Refresh, Dep, Update, Push, Tally, Verdict}
use Rattle.vert_base.specs.declared.value.Ruling.{Ruling}
use Rattle.vert_base.specs.Names.{same_name}
use Rattle.vert_base.proofs.LetterLaws.{names_law}
use Rattle.circulant_plan.specs.Skeleton.{has_name, is_over, standing_taken}
use Rattle.circulant_plan.specs.Standing.{Standing, place_of}
use Rattle.circulant_plan.specs.Table.{needs_of}
use Rattle.circulant_plan.proofs.Members.{Has}
use Rattle.skeleton_laws.proofs.Settled.{is_standing_at}
use Rattle.symple_face.specs.declared.action.Action.TheVariants.{Ready}
use Rattle.symple_face.specs.CoreWork.{core_go, core_work}
use Rattle.symple_face.specs.Ideal.{machines_of}
use Rattle.symple_face.specs.Source.{Source}
use Rattle.symple_face.specs.State.{State, action_of}
use Rattle.work_laws.specs.Sound.{core_sound}
use Rattle.work_laws.proofs.Whole.{core_lawful}
use Rattle.cluster_run.proofs.GoWorlds.{same_from}
use Rattle.cluster_run.proofs.LetterLists.{has_letter}
use Rattle.cluster_run.proofs.NextStandings.{IsOnward, begins, ends, onward, stays}
use Rattle.cluster_run.proofs.ActionTables.{need_here}
use Rattle.cluster_run.proofs.Worlds.{is_for, is_for_it}
use Rattle.schedule_laws.specs.Events.{IsTrue, ring_in}
use Rattle.schedule_laws.specs.OutputText.{rulings_of}
use Rattle.schedule_laws.specs.Runs.{IsSourceRun}
use Rattle.worker_stream.specs.Walks.{Walks}
use Rattle.worker_stream.proofs.StateWalks.{go_walks}
use Rattle.worker_laws.proofs.Ahead.{AreLed, CanLead, IsAt, acts_by, are_led_more, is_at, led, led_far, led_more, led_on, low_offset, still_led}
use Rattle.worker_laws.proofs.BySource.{can_lead, goes_to, ready_parts, went}

-- the core is ahead by so many actions, where machine m of the run stands there and has taken these names
pub record IsAlong (src : Source) (m : ℕ) (taken : List Name) (from : Standing) (n : ℕ) (s : State) : Type 0 where
  pub truth : IsTrue src m s
  pub sound : core_sound s
  pub walks : Walks s
  pub agrees : is_over s.at.spot ≡ false → (x : Name) →
      has_letter x s.held ≡ (has_name x taken && is_for m s.at.round x)
  pub led : AreLed (ring_in src) (rulings_of src) m taken n from
  pub at : s.at ≡ led_on (ring_in src) (rulings_of src) m n from

pub stands_still : (k : NameKind) (a : Ruling) (s : Standing) → k ≢ Verdict → standing_taken k a s ≡ s
stands_still Refresh a s ne = refl
stands_still Dep a s ne = refl
stands_still Update a s ne = refl
stands_still Push a s ne = refl
stands_still Tally a s ne = refl
stands_still Verdict a s ne = absurd (ne refl)

pub round_still : (k : NameKind) (a : Ruling) (s : Standing) → (standing_taken k a s).round ≡ s.round
round_still Refresh a s = refl
round_still Dep a s = refl
round_still Update a s = refl
round_still Push a s = refl
round_still Tally a s = refl
round_still Verdict Ruling.Stop s = refl
round_still Verdict Ruling.Dense s = refl
round_still Verdict Ruling.Sparse s = refl

-- a name taken here counts
module _ (m round : ℕ) (x y : Name) where
  pub for_it : (b taken : Bool) → same_name y x ≡ b → x.to ≡ m → x.round ≡ round →
      (b || (taken && is_for m round y)) ≡ ((b || taken) && is_for m round y)
  for_it true taken e to at =
      let named : y ≡ x = names_law y x e in
      sym (is_for_it m round y (ap (λ (z : Name). z.to) named ∙ to) (ap (λ (z : Name). z.round) named ∙ at))
  for_it false taken e to at = refl

-- one taken elsewhere doesn't
for_other : (m round : ℕ) (x y : Name) (b taken : Bool) → same_name y x ≡ b → x.to ≢ m →
    (taken && is_for m round y) ≡ ((b || taken) && is_for m round y)
for_other m round x y true taken e other =
    let named : y ≡ x = names_law y x e in
    let not_it : (y.to == m) ≡ false = ⊎_elim (λ (is : (y.to == m) ≡ true).
    absurd (other (sym (ap (λ (z : Name). z.to) named) ∙ same_from y.to m is))) (λ (is : (y.to == m) ≡ false).
    is) (cases_Bool (y.to == m)) in
    ap (λ c. taken && (c && y.round == round)) not_it ∙ none taken
    ∙ sym (ap (λ c. c && y.round == round) not_it)
  where
    none : (a : Bool) → (a && false) ≡ false
    none true = refl
    none false = refl
for_other m round x y false taken e other = refl

either : (a b : Bool) → b ≡ true → (a || b) ≡ true
either true b e = refl
either false b e = e

pub grown : (taken : List Name) (x y : Name) → has_name y taken ≡ true → has_name y (x ∷ taken) ≡ true
grown taken x y e = either (same_name y x) (has_name y taken) e

pub few_machines : (src : Source) → IsSourceRun src → (ring_in src).machines ≤ 64
few_machines src run = run.ends.1

module _ (src : Source) (run : IsSourceRun src) (m : ℕ) (low : m < machines_of src) where
  pub stands_at : (s : State) → core_sound s → IsTrue src m s → IsAt (ring_in src) (rulings_of src) m s.at
  stands_at s sound truth = is_at (ring_in src) (rulings_of src) m s.at truth.has sound.round

  module _ (taken : List Name) (from : Standing) (is_from : IsAt (ring_in src) (rulings_of src) m from) (n : ℕ)
      (s : State) (along : IsAlong src m taken from n s) where
    -- it isn't in an earlier round
    round_on : from.round ≤ s.at.round
    round_on =
        let far = led_far (ring_in src) (few_machines src run) (rulings_of src) m low taken n from is_from along.led in
        let same = ap place_of along.at in
        let off = low_offset (ring_in src) (few_machines src run) (rulings_of src) m low s.at
        (stands_at s along.sound along.truth) in
        omega arith

    -- what it needs it holds where it was taken
    pub holds : is_over s.at.spot ≡ false → (x : Name) → Has (needs_of (ring_in src) m s.at.spot) x →
        has_letter x s.held ≡ has_name x taken
    holds going x h =
        let need = need_here (ring_in src) m (rulings_of src s.at.round) s.at.spot x low (few_machines src run)
        along.truth.has h in
        let round : x.round ≡ s.at.round =
        need.1 ∙ sym (ap (λ (q : Standing). q.round) (is_standing_at s.at along.sound.round going)) in
        along.agrees going x
        ∙ ap (λ b. has_name x taken && b) (is_for_it m s.at.round x need.0 round)
        ∙ and-true (has_name x taken)

    -- ---- it acts
    module _ (early : (x : Name) → has_name x taken ≡ true → x.to ≡ m → x.round ≤ from.round)
        (ready : action_of s ≡ Ready) where
      going : is_over s.at.spot ≡ false
      going = (ready_parts s ready).0

      none_early : (x : Name) (round : ℕ) → s.at.round < round → (has_name x taken && is_for m round x) ≡ false
      none_early x round late =
          ⊎_elim
          (λ (e : (has_name x taken && is_for m round x) ≡ true).
          let was = and_parts (has_name x taken) (is_for m round x) e in
          let for_it = and_parts (x.to == m) (x.round == round) was.1 in
          let of_it : x.round ≡ round = same_from x.round round for_it.1 in
          let before = early x was.0 (same_from x.to m for_it.0) in
          let on = round_on in
          absurd (omega arith))
          (λ (e : (has_name x taken && is_for m round x) ≡ false). e)
          (cases_Bool (has_name x taken && is_for m round x))

      to : (core_go s).at ≡ led (ring_in src) (rulings_of src) m s.at
      to = goes_to src run m low s along.truth along.sound ready

      moves : IsOnward s.at (core_go s).at
      moves = subst (IsOnward s.at) (sym to)
          (onward (ring_in src) m (acts_by (rulings_of src) s.at) s.at along.sound.round)

      agrees_on : is_over (core_go s).at.spot ≡ false → (x : Name) → IsOnward s.at (core_go s).at →
          has_letter x (core_go s).held ≡ (has_name x taken && is_for m (core_go s).at.round x)
      agrees_on on x (ends over) = absurd (false≢true (sym on ∙ over))
      agrees_on on x (begins b late) =
          core_lawful.go_held s x ∙ ap (λ c. not c && has_letter x s.held) b
          ∙ sym (none_early x (core_go s).at.round late)
      agrees_on on x (stays b round) =
          core_lawful.go_held s x ∙ ap (λ c. not c && has_letter x s.held) b
          ∙ along.agrees going x
          ∙ ap (λ r. has_name x taken && is_for m r x) (sym round)

      pub acts_along : IsAlong src m taken from (suc n) (core_go s)
      acts_along = record {
        truth = (went src run m low s along.truth along.sound ready).0;
        sound = core_lawful.go_sound s along.sound ready;
        walks = (go_walks core_work core_sound core_lawful s along.walks ready).walks;
        agrees = λ on x. agrees_on on x moves;
        led = are_led_more (ring_in src) (rulings_of src) m taken n from along.led
            (subst (CanLead (ring_in src) (rulings_of src) m taken) along.at
            (can_lead src run m low s along.truth along.sound ready taken (holds going)));
        at = to ∙ ap (led (ring_in src) (rulings_of src) m) along.at
            ∙ sym (led_more (ring_in src) (rulings_of src) m n from);
      }

    -- ---- another machine takes a message
    pub others_along : (x : Name) → x.to ≢ m → IsAlong src m (x ∷ taken) from n s
    others_along x other = record {
      truth = along.truth;
      sound = along.sound;
      walks = along.walks;
      agrees = λ on y. along.agrees on y
          ∙ for_other m s.at.round x y (same_name y x) (has_name y taken) refl other;
      led = still_led (ring_in src) (rulings_of src) m taken (x ∷ taken) (grown taken x) n from along.led;
      at = along.at;
    }
