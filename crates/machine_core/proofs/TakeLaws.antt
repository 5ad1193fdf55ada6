-- What a takeable message is to a machine's buffer.
use Rattle.std.proofs.Common.{◌≡◌, ◌≢◌, ◌==◌, ℕ, ◌≤◌, ◌<◌, Bool, true, false, sym, ap, subst, ◌∙◌, arith}
use Rattle.std.specs.Prelude.{if◌then◌else◌, is_some, nat_le}
use Rattle.circulant_plan.specs.Names.{verdict_name}
use Rattle.std.proofs.Math.Logic.{∥∥₁_elim, ∥∥₁_map}
use Rattle.std.proofs.Props.{props}
use Rattle.std.proofs.lemmas.Bool.{and_parts, eq-eqb, leb-true}
use Rattle.vert_tree.proofs.TypedLaws.{few_rounds}
use Rattle.circulant_plan.specs.declared.spot.Spot.{Spot}
use Rattle.vert_base.specs.declared.message.NameKind.{NameKind}
use Rattle.vert_base.specs.declared.message.NameKind.TheVariants.{Push, Update}
use Rattle.vert_base.specs.Letters.{Letter, found}
use Rattle.double_buffer.specs.Held.{AreOfRound, Held, with_letter}
use Rattle.double_buffer.specs.Taking.{CanTake, CanTakeKind}
use Rattle.double_buffer.proofs.BufferLaws.{of_round_placed}
use Rattle.round_laws.proofs.Planned.{planned_can_be_taken}
use Rattle.symple_face.specs.CoreSight.{known, program_of}
use Rattle.symple_face.specs.CoreSparse.{told_sends, worked}
use Rattle.symple_face.specs.CoreTakes.{noted}
use Rattle.symple_face.specs.CoreWork.{core_take, kept, taken}
use Rattle.symple_face.specs.Plans.{blocks_of, concerns, goes_by_plan, is_in_range, is_planned, ring_of, serves}
use Rattle.vert_base.specs.declared.message.Name.{Name}
use Rattle.symple_face.specs.State.{IsTakeable, State, machine, p_of}
use Rattle.work_laws.specs.Sound.{core_sound}
use Rattle.work_laws.proofs.Held.{planned_apart, shape_parts}
use Rattle.work_laws.proofs.Taken.{take_sound}
use Rattle.machine_steps.specs.Kept.{IsBuffer}

module _ (s : State) (l : Letter) (takes : IsTakeable s l) (held : Held)
    (buffer : IsBuffer (p_of s) (machine s) s.at.round s.at.spot held) where
  pub can_put : CanTake held.machines l.name
  can_put = subst (λ (p : ℕ). CanTake p l.name) (sym buffer.machines)
      (planned_can_be_taken s.split (p_of s) (machine s) l.name
      (shape_parts s.split s.part l.name takes.shape takes.has).0)

  pub half_of_update : l.name.kind ≡ Update → l.name.half ≤ 1
  half_of_update kind =
      let h : CanTakeKind Update held.machines l.name =
      subst (λ (k : NameKind). CanTakeKind k held.machines l.name) kind can_put in
      h.half

  pub can_join : AreOfRound l.name.round l.name.to held.letters
  can_join =
      subst (λ (r : ℕ). AreOfRound r l.name.to held.letters) (sym takes.round)
      (subst (λ (m : ℕ). AreOfRound s.at.round m held.letters) (sym takes.here) (buffer.together takes.going))

  -- with the letter, whatever of its body is kept
  pub joined : (k : Letter) (new : Held) (spot : Spot) → k.name ≡ l.name → new ≡ with_letter k held →
      IsBuffer (p_of s) (machine s) s.at.round spot new
  joined k new spot same is =
      subst (IsBuffer (p_of s) (machine s) s.at.round spot) (sym is)
      (record {
        machines = buffer.machines;
        together = λ on. of_round_placed s.at.round (machine s) k held.letters
            (ap (λ x. x.round) same ∙ takes.round) (ap (λ x. x.to) same ∙ takes.here) (buffer.together takes.going);
      })

pub took : (s t : State) (l : Letter) → ∥ core_sound s ∥₁ → IsTakeable s l → t ≡ core_take s l → ∥ core_sound t ∥₁
took s t l sound takes is =
    ∥∥₁_map sound (λ k. subst core_sound (sym is) (take_sound s l k takes))

pub taken_by : (s : State) (l : Letter) (kind : NameKind) → l.name.kind ≡ kind → core_take s l ≡ taken kind s l
taken_by s l kind e = ap (λ k. taken k s l) e

-- ---- a push
-- another machine sends it, in a round within the limit
pub push_parts : (s : State) (l : Letter) → ∥ core_sound s ∥₁ → IsTakeable s l → l.name.kind ≡ Push →
    (l.name.from < p_of s) × (l.name.from ≢ machine s) × (l.name.round ≤ 10000)
push_parts s l sound takes kind =
    ∥∥₁_elim sound (hlevel props)
    (λ k.
    let planned = (shape_parts s.split s.part l.name takes.shape takes.has).0 in
    let apart = planned_apart s.split (p_of s) (machine s) l.name planned in
    let few = few_rounds (program_of s.split) k.can.program.typed in
    let low = round_low (program_of s.split).limit l.name.round
    (ap (λ q. is_in_range (program_of s.split).limit q l.name.round) (sym kind)
    ∙ in_range s l planned) in (
      apart.0,
      λ e. differ l.name.from l.name.to apart.2 (e ∙ sym takes.here),
      omega (arith, few, low),
    ))
  where
    round_low : (limit r : ℕ) → is_in_range limit Push r ≡ true → r ≤ limit
    round_low limit r e = leb-true r limit (and_parts (nat_le 1 r) (nat_le r limit) e).1

    in_range : (s : State) (l : Letter) → is_planned s.split (p_of s) (machine s) l.name ≡ true →
        is_in_range (program_of s.split).limit l.name.kind l.name.round ≡ true
    in_range s l planned =
        let x : Name = l.name in
        let a = and_parts (concerns (p_of s) (machine s) x) _ planned in
        let b = and_parts (goes_by_plan (ring_of s.split (p_of s)) x.kind x) _ a.1 in
        (and_parts (serves (blocks_of s.split) x.kind) _ b.1).1

    differ : (a b : ℕ) → (a == b) ≡ false → a ≢ b
    differ a b e same =
        let no : true ≡ false = sym (eq-eqb a b same) ∙ e in
        cc

-- machine 0 knows the totals of a round that is begun
pub knows_round : (s : State) → known s ≡ true → (machine s == 0) ≡ true → 1 ≤ s.at.round
knows_round s knows zeroth =
    leb-true 1 s.at.round (ap (λ b. if b then nat_le 1 s.at.round else other) (sym zeroth) ∙ knows)
  where
    other : Bool
    other = is_some (found (verdict_name s.at.round (machine s)) s.held)

-- by whether the totals are known
pub push_by : (s : State) (l : Letter) (knows : Bool) → l.name.kind ≡ Push → known s ≡ knows →
    core_take s l ≡ (if knows
    then record s {
      held = noted l s.held;
      partials = worked s l.name.round (told_sends s l.name.from l.body) s.part.push s.partials;
    }
    else kept s l)
push_by s l knows kind e =
    taken_by s l Push kind
    ∙ ap (λ b. if b
    then record s {
      held = noted l s.held;
      partials = worked s l.name.round (told_sends s l.name.from l.body) s.part.push s.partials;
    }
    else kept s l) e
