use Rattle.std.proofs.Common.{ap, length, ◌∙◌, arith}
use Rattle.instrument.specs.Loops.{body_emits}
use Rattle.instrument.proofs.EmitLaws.{slot_left, slot_taken}
use Rattle.instrument.proofs.split.slots_of.Goals as goal
use Rattle.instrument.proofs.split.slots_of.Goals.{then-body_emits, else-body_emits}

pub loop-slot-preserved : goal.loop-slot-preserved
loop-slot-preserved c =
    elim c.if-body_emits.branch [
      | then-body_emits w ↦ record {
        slots = slot_taken (λ slot. body_emits slot c.args.body.now) c.loop-slot.slot c.body_emits.result
            c.loop-slot.slots.items _ c.loop-slot.invariant.slots c.body_emits.ensures w.if-body_emits.true
            (ap (λ v. v.items) w.slots-is ∙ w.push.ensures.items);
        few = omega (arith, ap (λ v. length v.items) w.slots-is, w.push.ensures.len);
      }
      | else-body_emits w ↦ record {
        slots = slot_left (λ slot. body_emits slot c.args.body.now) c.loop-slot.slot c.body_emits.result
            c.loop-slot.slots.items _ c.loop-slot.invariant.slots c.body_emits.ensures w.if-body_emits.false
            (ap (λ v. v.items) w.slots-is);
        few = omega (arith, ap (λ v. length v.items) w.slots-is);
      }
    ]
