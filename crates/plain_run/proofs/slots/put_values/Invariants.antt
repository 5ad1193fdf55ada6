use Rattle.std.proofs.Common.{◌≡◌, take, map}
use Rattle.plain_run.proofs.slots.put_values.Given as goal

abbrev pub invariant-loop-partial : goal.invariant-loop-partial
invariant-loop-partial l = l.values.items ≡ map (λ p. p.value) (take l.partial-index l.partial-items)
