use Rattle.std.proofs.Common.{true, ◌≡◌, ◌+◌, length, drop}
use Rattle.vert_tree.specs.Places.{lets_placed}
use Rattle.vert_eval.specs.Values.{counts_of}
use Rattle.vert_eval.specs.Rounds.{with_lets}
use Rattle.plain_run.specs.Frames.{SameDraws}
use Rattle.plain_run.proofs.dense.run_lets.Given as goal

-- what is left of the lets ends as all of them do
abbrev pub invariant-loop-decl : goal.invariant-loop-decl
invariant-loop-decl l = record {
  value : with_lets (drop l.decl-index l.lets) l.env ≡ with_lets l.lets l.initial.env;
  names : lets_placed (counts_of l.env) (drop l.decl-index l.lets) ≡ true;
  counts : counts_of l.env ≡ record (counts_of l.initial.env) {
    locals = length l.initial.env.locals.items
        + l.decl-index;
  };
  same : SameDraws l.initial.env l.env;
}
