use Rattle.std.proofs.Common.{◌≡◌, length, drop}
use Rattle.vert_eval.specs.Runs.{run}
use Rattle.plain_run.specs.Frames.{SameEnd, SameCounts}
use Rattle.plain_run.proofs.run.+run.Given as goal

-- what is left to run ends as the whole does
abbrev pub invariant-run_body-loop-stmt : goal.invariant-run_body-loop-stmt
invariant-run_body-loop-stmt l = record {
  ends : SameEnd l.env.key l.emits.slots.items (run (drop l.stmt-index l.body) l.env) l.initial.env.key
      l.initial.emits.slots.items (run l.body l.initial.env);
  kept : SameCounts l.initial.env l.env;
  partials : length l.emits.slots.items ≡ length l.initial.emits.slots.items;
}
