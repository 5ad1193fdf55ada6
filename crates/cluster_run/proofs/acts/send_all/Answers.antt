use Rattle.std.proofs.Common.{◌∙◌}
use mathlib.Core.List.{reverse}
use Rattle.cluster_run.proofs.MachineMoves.{popped, shifted}
use Rattle.cluster_run.proofs.acts.send_all.Goals as goal

pub loop-message-preserved : goal.loop-message-preserved
loop-message-preserved c =
    let first = popped c.loop-message.out.items c.pop.new.self.items c.in-Some.message c.in-Some.ensures.items in
    let next =
    shifted (reverse c.loop-message.out.items) (reverse c.pop.new.self.items) c.in-Some.message c.loop-message.flight
    c.send.new.flight first c.in_ok-send.ensures c.loop-message.invariant.can in
    record { rest = next.rest_is ∙ c.loop-message.invariant.rest; can = next.can }
