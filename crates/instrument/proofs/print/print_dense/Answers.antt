use Rattle.std.proofs.Common.{◌≡◌, Some, length, ap, sym, ◌∙◌, option_map}
use Rattle.carry_analysis.specs.Classes.{body_marks}
use Rattle.instrument.specs.Loops.{loop_split}
use Rattle.instrument.proofs.TypedLaws.{length-let_classes}
use Rattle.instrument.proofs.print.print_dense.Goals as goal

pub print_loop-requires : goal.print_loop-requires
print_loop-requires c =
    let d = c.in-Some-Some.dense in
    let whole : Some c.in-Some-Some.part ≡ Some (loop_split d) =
    sym c.in-Some-Some.is-1 ∙ c.args.split.now.split ∙ ap (option_map loop_split) c.in-Some-Some.is-0 in
    let same : c.in-Some-Some.part ≡ loop_split d = cc in
    ap (λ s. length s.classes.locals.items) same ∙ length-let_classes 0 d.lets.items (body_marks d.body.items)
