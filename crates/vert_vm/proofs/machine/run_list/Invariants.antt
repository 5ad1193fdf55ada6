use Rattle.std.proofs.Common.{◌≡◌, ◌≤◌, ◌-◌, length, drop}
use Rattle.vert_eval.specs.Frames.{SameFrame}
use Rattle.vert_code.specs.Machine.{goes_on, run_code}
use Rattle.vert_vm.specs.Steps.{IsEntered}
use Rattle.vert_vm.specs.Ends.{SameEnd}
use Rattle.vert_vm.proofs.machine.run_list.Given as goal

-- what is left to run ends as the whole does
abbrev pub invariant-loop-place : goal.invariant-loop-place
invariant-loop-place l = record {
  ends : SameEnd l.env.key l.emits.slots.items (goes_on l.place (drop l.place l.list) 0 l.stack l.env)
      l.initial.env.key l.initial.emits.slots.items (run_code l.list l.initial.env);
  entered : IsEntered l.place (length l.stack) (drop l.place l.list);
  within : l.place ≤ length l.list;
  kept : SameFrame l.initial.env l.env;
  partials : length l.emits.slots.items ≡ length l.initial.emits.slots.items;
}

abbrev pub decreases-loop-place : goal.decreases-loop-place
decreases-loop-place l = length l.list - l.place
