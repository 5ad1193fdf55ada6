use Rattle.std.proofs.Common.{◌++◌, flat_map, map, take, get_or, ap, ◌∙◌}
use Rattle.std.proofs.lemmas.List.{take_more, take_all}
use Rattle.std.specs.String.{string_bytes}
use Rattle.vert_base.specs.declared.value.Combine.TheVariants.{Min}
use Rattle.vert_tree.specs.declared.name.What.TheVariants.{Unread}
use Rattle.vert_tree.specs.declared.program.SlotDecl.{SlotDecl}
use Rattle.vert_tree.specs.Plain.{nowhere}
use Rattle.vert_tree.specs.Printed.{printed_slot}
use Rattle.vert_tree.specs.Views.{view_slot}
use Rattle.vert_tree.proofs.Printing.{more_of}
use Rattle.vert_tree.proofs.print.declaration.print_slots.Goals as goal

pub lines-preserved : goal.lines-preserved
lines-preserved c =
    let d : SlotDecl = record { name = record { span = nowhere; name = 0; what = Unread }; op = Min } in
    let i = c.lines.slot-index in
    more_of printed_slot (view_slot c.args.names.now) _ (take i c.args.slots.now) (get_or c.args.slots.now i d) _ _ _
    (take_more c.args.slots.now i d c.lines-test.true) c.lines.invariant c.in_ok-print_slot.ensures

pub returns : goal.returns
returns c = c.lines.invariant ∙ ap (λ l. string_bytes c.args.out.now
    ++ flat_map printed_slot (map (view_slot c.args.names.now) l)) (take_all _ _ c.lines-test.false)
