-- There are as many states as marks.
use Rattle.std.proofs.Common.{sym, ◌∙◌}
use Rattle.machine_parts.proofs.FlatLaws.{states_count}
use Rattle.machine_parts.proofs.ring_half.RingHalf.len.Goals as goal

pub returns : goal.returns
returns c =
    let r = c.self.inside in
    c.len.ensures ∙ c.self.inside.marks.ok.0 ∙ sym (states_count c.args.self.now r.width r.marks.items r.words
    c.self.view_is c.self.invariant.0)
