use Rattle.std.proofs.Common.{length}
use Rattle.order_free.proofs.forms.+ends_loop.Given as goal

abbrev pub decreases-ends_loop : goal.decreases-ends_loop
decreases-ends_loop l = length l.body.now
