-- The receiver of a planned message can take it.
use Rattle.std.proofs.Common.{◌≡◌, ◌≢◌, ℕ, ◌-◌, ◌<◌, true, false, not, ap, sym, ◌∙◌, arith}
use Rattle.std.specs.Prelude.{◌==◌}
use Rattle.std.proofs.lemmas.Bool.{and_parts, eqb-true, leb-true, ltb-true}
use Rattle.vert_base.specs.declared.message.Name.{Name}
use Rattle.vert_base.specs.declared.message.NameKind.{NameKind}
use Rattle.vert_base.specs.declared.message.NameKind.TheVariants.{Refresh, Dep, Update, Push, Tally, Verdict}
use Rattle.circulant_plan.specs.declared.spot.Ring.{Ring}
use Rattle.circulant_plan.specs.Ring.{before_machine, order_of}
use Rattle.circulant_plan.proofs.CircleLaws.{before_after, order_of_chunk}
use Rattle.double_buffer.specs.Taking.{CanTakeKind, IsOfRound, IsOfStep}
use Rattle.symple_face.specs.Plans.{concerns, goes_by_plan, is_half, is_whole, ring_of}
use Rattle.round_laws.specs.Planned.{PlannedCanBeTaken}

-- from one machine of p to another one
record Goes (p : ℕ) (x : Name) : Type 0 where
  from : x.from < p
  to : x.to < p
  other : x.from ≢ x.to

not_same : (a b : ℕ) → not (a == b) ≡ true → a ≢ b
not_same a b h e = let same : (a == b) ≡ true = grind (arith, e) in let no : false ≡ true = sym (ap not same) ∙ h in cc

goes : (p m : ℕ) (x : Name) → concerns p m x ≡ true → Goes p x
goes p m x h =
    let one = and_parts _ _ h in
    let two = and_parts _ _ one.1 in
    let three = and_parts _ _ two.1 in
    record { from = ltb-true x.from p one.0; to = ltb-true x.to p two.0; other = not_same x.from x.to three.0 }

whole : (p : ℕ) (x : Name) → Goes p x → is_whole x ≡ true → IsOfRound p x
whole p x g h =
    let both = and_parts _ _ h in
    record {
      from = g.from;
      to = g.to;
      other = g.other;
      step = eqb-true x.step 0 both.0;
      half = eqb-true x.half 0 both.1;
    }

half : (p sender : ℕ) (x : Name) → Goes p x → is_half p x ≡ true → x.from ≡ sender → IsOfStep p sender x
half p sender x g h from =
    let both = and_parts _ _ h in
    let early = ltb-true x.step (p - 1) both.0 in
    record { from = from; to = g.to; step = omega arith; half = leb-true x.half 1 both.1 }

by_plan :
    (ring : Ring) (kind : NameKind) (x : Name) → Goes ring.machines x → goes_by_plan ring kind x ≡ true →
    CanTakeKind kind ring.machines x
by_plan ring Refresh x g h = whole ring.machines x g h
by_plan ring Push x g h = whole ring.machines x g h
by_plan ring Dep x g h =
    let one = and_parts _ _ h in
    let two = and_parts _ _ one.1 in
    let p = ring.machines in
    let from : x.from ≡ before_machine x.to p = sym (before_after x.from p g.from)
    ∙ ap (λ q. before_machine q p) (sym (eqb-true _ _ two.1)) in
    half p (before_machine x.to p) x g one.0 from
by_plan ring Update x g h =
    let one = and_parts _ _ h in
    let p = ring.machines in
    let both = and_parts _ _ one.0 in
    let early = ltb-true x.step (p - 1) both.0 in
    let from : x.from ≡ order_of x.to x.step p =
    sym (order_of_chunk p x.from x.step g.from (omega arith))
    ∙ ap (λ q. order_of q x.step p) (sym (eqb-true _ _ one.1)) in
    half p (order_of x.to x.step p) x g one.0 from
by_plan ring Tally x g h = let both = and_parts _ _ h in (whole ring.machines x g both.0, eqb-true _ _ both.1)
by_plan ring Verdict x g h = let both = and_parts _ _ h in (whole ring.machines x g both.0, eqb-true _ _ both.1)

pub planned_can_be_taken : PlannedCanBeTaken
planned_can_be_taken split p m x h =
    let one = and_parts _ _ h in
    let two = and_parts _ _ one.1 in
    by_plan (ring_of split p) x.kind x (goes p m x one.0) two.0
