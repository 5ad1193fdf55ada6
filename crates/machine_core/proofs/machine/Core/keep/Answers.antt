use Rattle.std.proofs.Common.{◌∙◌, ap, sym, refl, lit<}
use Rattle.vert_base.specs.Letters.{letter_of}
use Rattle.double_buffer.specs.Held.{Held}
use Rattle.symple_face.specs.State.{State}
use Rattle.machine_core.specs.CoreState.{core_state}
use Rattle.machine_core.proofs.TakeLaws.{can_join, can_put, joined, took}
use Rattle.machine_core.proofs.machine.Core.keep.Goals as goal

pub put-requires : goal.put-requires
put-requires c =
    let self = c.args.self.now in
    let s = core_state self in
    let l = letter_of c.args.msg in
    let takes = c.requires.takes in
    (lit< tt, (can_put s l takes self.held self.buffer, (takes.new, can_join s l takes self.held self.buffer)))

pub invariant_of-self-clause-sound : goal.invariant_of-self-clause-sound
invariant_of-self-clause-sound c =
    let self = c.args.self.now in
    let s = core_state self in
    let l = letter_of c.args.msg in
    let t : State = record s { held = c.put.new.self.letters } in
    took s t l self.sound c.requires.takes
    (ap (λ (h : Held). record s { held = h.letters }) c.put.ensures ∙ sym c.requires.same)

pub invariant_of-self-clause-buffer : goal.invariant_of-self-clause-buffer
invariant_of-self-clause-buffer c =
    let self = c.args.self.now in
    let l = letter_of c.args.msg in
    joined (core_state self) l c.requires.takes self.held self.buffer l c.put.new.self self.spot refl c.put.ensures
