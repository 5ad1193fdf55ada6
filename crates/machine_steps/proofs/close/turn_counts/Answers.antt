-- The counts of the last round, of which there is one for each target, are all 0.
use Rattle.std.proofs.Common.{◌∙◌, ap, length, sym, replicate, subst}
use Rattle.machine_steps.specs.Counts.{AreCounts, lists_read}
use Rattle.machine_steps.proofs.CloseNeeds.{none_counted, none_read}
use Rattle.machine_steps.proofs.close.turn_counts.Goals as goal

pub returns-clause-none : goal.returns-clause-none
returns-clause-none c part are =
    let n = length c.args.reads.now.items in
    ap (lists_read part) (c.clear_list.ensures ∙ ap (λ v. replicate (length v.items) 0) c.swap.ensures.x_after)
    ∙ none_read part n are.each

pub returns-clause-counts : goal.returns-clause-counts
returns-clause-counts c part are =
    let n = length c.args.reads.now.items in
    subst (AreCounts part)
    (sym (c.clear_list.ensures ∙ ap (λ v. replicate (length v.items) 0) c.swap.ensures.x_after))
    (none_counted part n are.each)
