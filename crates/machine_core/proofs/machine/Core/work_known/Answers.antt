use Rattle.std.proofs.Common.{◌∙◌, ap, sym, refl, lit<, length, [], ℕ, List, true, arith}
use Rattle.std.proofs.lemmas.Bool.{eqb-true}
use Rattle.vert_base.specs.Letters.{letter_of}
use Rattle.double_buffer.specs.Held.{Held}
use Rattle.symple_face.specs.CoreSparse.{told_sends, worked}
use Rattle.symple_face.specs.CoreTakes.{noted}
use Rattle.symple_face.specs.PartViews.{plain_of}
use Rattle.symple_face.specs.State.{State, machine}
use Rattle.machine_core.specs.CoreState.{core_state}
use Rattle.vertex_work.specs.Shown.{Shows}
use Rattle.machine_core.proofs.SoundLaws.{steady}
use Rattle.machine_core.proofs.TakeLaws.{can_join, can_put, joined, knows_round, push_by, push_parts, took}
use Rattle.machine_core.proofs.TotalsLaws.{known_count}
use Rattle.machine_core.proofs.machine.Core.work_known.Goals as goal

pub work_push-requires : goal.work_push-requires
work_push-requires c =
    let self = c.args.self.now in
    let s = core_state self in
    let k = steady s self.sound in
    let width = self.wide.partials in
    let parts = push_parts s (letter_of c.args.msg.now) self.sound c.requires.takes c.requires.kind in
    record {
      from = parts.0;
      other = parts.1;
      rows = record {
        count = k.rows;
        width = self.wide.rows;
        sums = ap length (c.as_slice.ensures.value ∙ c.totals-totals.ensures)
            ∙ known_count s (λ zeroth. self.summed (knows_round s c.requires.knows zeroth)
            (eqb-true (machine s) 0 zeroth));
      };
      partials = record {
        count = k.partials;
        each = λ i d lt. k.cells i d lt ∙ sym self.wide.partials;
        slots = omega arith;
      };
      round = parts.2;
    }

pub mark-requires : goal.mark-requires
mark-requires c =
    let self = c.args.self.now in
    let s = core_state self in
    let l = letter_of c.args.msg.now in
    let takes = c.requires.takes in
    (lit< tt, (can_put s l takes self.held self.buffer, (takes.new, can_join s l takes self.held self.buffer)))

pub invariant_of-self-clause-sound : goal.invariant_of-self-clause-sound
invariant_of-self-clause-sound c =
    let self = c.args.self.now in
    let s = core_state self in
    let l = letter_of c.args.msg.now in
    let part = plain_of self.ground.part in
    let shows : Shows part s.split c.as_slice.result.now s.rows s = record {
      part = refl;
      split = refl;
      totals = sym (c.as_slice.ensures.value ∙ c.totals-totals.ensures);
      rows = refl;
    } in
    let t : State = record s { held = c.mark.new.self.letters; partials = c.work_push.new.partials.rows } in
    took s t l self.sound c.requires.takes
    (ap (λ (h : Held). record s { held = h.letters; partials = c.work_push.new.partials.rows }) c.mark.ensures
    ∙ ap (λ ps. record s { held = noted l s.held; partials = ps }) (c.work_push.ensures.worked s shows)
    ∙ ap (λ (body : List ℕ). record s {
      held = noted l s.held;
      partials = worked s l.name.round (told_sends s l.name.from body) s.part.push s.partials;
    }) c.deref.ensures.value
    ∙ sym (push_by s l true c.requires.kind c.requires.knows))

pub invariant_of-self-clause-wide : goal.invariant_of-self-clause-wide
invariant_of-self-clause-wide c =
    let self = c.args.self.now in
    record { rows = self.wide.rows; partials = c.work_push.ensures.width ∙ self.wide.partials; ring = self.wide.ring }

pub invariant_of-self-clause-buffer : goal.invariant_of-self-clause-buffer
invariant_of-self-clause-buffer c =
    let self = c.args.self.now in
    let l = letter_of c.args.msg.now in
    joined (core_state self) l c.requires.takes self.held self.buffer (record l { body = [] }) c.mark.new.self self.spot
    refl c.mark.ensures

pub returns : goal.returns
returns c =
    let self = c.args.self.now in
    let s = core_state self in
    let l = letter_of c.args.msg.now in
    let part = plain_of self.ground.part in
    let shows : Shows part s.split c.as_slice.result.now s.rows s = record {
      part = refl;
      split = refl;
      totals = sym (c.as_slice.ensures.value ∙ c.totals-totals.ensures);
      rows = refl;
    } in
    ap (λ (h : Held). record s { held = h.letters; partials = c.work_push.new.partials.rows }) c.mark.ensures
    ∙ ap (λ ps. record s { held = noted l s.held; partials = ps }) (c.work_push.ensures.worked s shows)
    ∙ ap (λ (body : List ℕ). record s {
      held = noted l s.held;
      partials = worked s l.name.round (told_sends s l.name.from body) s.part.push s.partials;
    }) c.deref.ensures.value
    ∙ sym (push_by s l true c.requires.kind c.requires.knows)
