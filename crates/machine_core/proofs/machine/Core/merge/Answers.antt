use Rattle.std.proofs.Common.{◌∙◌, ap, sym, refl, lit<, [], ℕ, List}
use Rattle.flat_table.specs.Grids.{Rows}
use Rattle.slot_merge.specs.declared.partial.Partial.{Partial}
use Rattle.vert_base.specs.declared.message.NameKind.TheVariants.{Update}
use Rattle.vert_base.specs.Letters.{letter_of}
use Rattle.double_buffer.specs.Held.{Held}
use Rattle.symple_face.specs.CoreTakes.{noted, with_update}
use Rattle.symple_face.specs.State.{State}
use Rattle.machine_core.specs.CoreState.{core_state}
use Rattle.machine_core.proofs.SoundLaws.{steady}
use Rattle.machine_core.proofs.TakeLaws.{can_join, can_put, half_of_update, joined, taken_by, took}
use Rattle.machine_core.proofs.machine.Core.merge.Goals as goal

pub add_update-requires : goal.add_update-requires
add_update-requires c =
    let self = c.args.self.now in
    let s = core_state self in
    let k = steady s self.sound in
    record {
      half = half_of_update s (letter_of c.args.msg.now) c.requires.takes self.held self.buffer c.requires.kind;
      count = k.partials;
      width = self.wide.partials;
      each = λ i d lt. k.cells i d lt ∙ sym self.wide.partials;
    }

pub mark-requires : goal.mark-requires
mark-requires c =
    let self = c.args.self.now in
    let s = core_state self in
    let l = letter_of c.args.msg.now in
    let takes = c.requires.takes in
    (lit< tt, (can_put s l takes self.held self.buffer, (takes.new, can_join s l takes self.held self.buffer)))

pub invariant_of-self-clause-sound : goal.invariant_of-self-clause-sound
invariant_of-self-clause-sound c =
    let self = c.args.self.now in
    let s = core_state self in
    let l = letter_of c.args.msg.now in
    let t : State = record s { held = c.mark.new.self.letters; partials = c.add_update.new.partials.rows } in
    took s t l self.sound c.requires.takes
    (ap (λ (h : Held). record s { held = h.letters; partials = c.add_update.new.partials.rows }) c.mark.ensures
    ∙ ap (λ (g : Rows Partial). record s { held = noted l s.held; partials = g.rows })
    (c.add_update.ensures s (record { part = refl; split = refl; partials = refl }))
    ∙ ap (λ (body : List ℕ). record s { held = noted l s.held; partials = with_update s l.name body })
    c.deref.ensures.value
    ∙ sym (taken_by s l Update c.requires.kind))

pub invariant_of-self-clause-wide : goal.invariant_of-self-clause-wide
invariant_of-self-clause-wide c =
    let self = c.args.self.now in
    let s = core_state self in
    record {
      rows = self.wide.rows;
      partials = ap (λ (g : Rows Partial). g.width)
          (c.add_update.ensures s (record { part = refl; split = refl; partials = refl })) ∙ self.wide.partials;
      ring = self.wide.ring;
    }

pub invariant_of-self-clause-buffer : goal.invariant_of-self-clause-buffer
invariant_of-self-clause-buffer c =
    let self = c.args.self.now in
    let l = letter_of c.args.msg.now in
    joined (core_state self) l c.requires.takes self.held self.buffer (record l { body = [] }) c.mark.new.self self.spot
    refl c.mark.ensures

pub returns : goal.returns
returns c =
    let self = c.args.self.now in
    let s = core_state self in
    let l = letter_of c.args.msg.now in
    ap (λ (h : Held). record s { held = h.letters; partials = c.add_update.new.partials.rows }) c.mark.ensures
    ∙ ap (λ (g : Rows Partial). record s { held = noted l s.held; partials = g.rows })
    (c.add_update.ensures s (record { part = refl; split = refl; partials = refl }))
    ∙ ap (λ (body : List ℕ). record s { held = noted l s.held; partials = with_update s l.name body })
    c.deref.ensures.value
    ∙ sym (taken_by s l Update c.requires.kind)
