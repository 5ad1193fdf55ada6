use Rattle.std.proofs.Common.{◌≡◌, [], map}
use Rattle.std.specs.List.{range_with_len}
use Rattle.mirror_table.proofs.edges.empty_lists.Given as goal

abbrev pub invariant-loop-machine : goal.invariant-loop-machine
invariant-loop-machine l = map (λ list. list.items) l.lists.items ≡ map (λ _. []) (range_with_len 0 l._machine)
