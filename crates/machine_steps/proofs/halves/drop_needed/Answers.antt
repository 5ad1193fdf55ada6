use Rattle.std.proofs.Common.{◌-◌, ◌∙◌, Bool, ap, sym}
use Rattle.circulant_plan.specs.Names.{dep_name}
use Rattle.circulant_plan.specs.Ring.{before_machine}
use Rattle.circulant_plan.specs.Table.{name_if}
use Rattle.double_buffer.specs.Held.{Held}
use Rattle.symple_face.specs.CoreTakes.{emptied}
use Rattle.machine_steps.proofs.DropLaws.{emptied-none}
use Rattle.machine_steps.proofs.halves.drop_needed.Goals as goal

pub returns-else-follows : goal.returns-else-follows
returns-else-follows c =
    let held : Held = c.args.held.now in
    let at = c.args.ground.now.part.at in
    let x = dep_name c.args.round (c.args.step - 1) c.args.half (before_machine at.machine at.machines) at.machine in
    sym
    (ap (λ (b : Bool). record held { letters = emptied (name_if b x) held.letters })
    (sym c.follows.ensures ∙ c.if-follows.false)
    ∙ ap (λ ls. record held { letters = ls }) (emptied-none held.letters))
