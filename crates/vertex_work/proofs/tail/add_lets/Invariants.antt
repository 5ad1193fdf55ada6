-- What is left of the lets ends as all of them do.
use Rattle.std.proofs.Common.{true, ◌≡◌, ◌+◌, length, drop}
use Rattle.vert_tree.specs.Places.{lets_placed}
use Rattle.vert_eval.specs.Rounds.{with_lets}
use Rattle.vert_eval.specs.Values.{CanDraw, counts_of}
use Rattle.vertex_work.proofs.tail.add_lets.Given as goal

abbrev pub invariant-loop-decl : goal.invariant-loop-decl
invariant-loop-decl l = record {
  lets : with_lets (drop l.decl-index l.lets) l.env ≡ with_lets l.lets l.initial.env;
  names : lets_placed (counts_of l.env) (drop l.decl-index l.lets) ≡ true;
  draws : CanDraw l.env;
  counts : counts_of l.env ≡ record
      (counts_of l.initial.env) { locals = length l.initial.env.locals.items + l.decl-index };
}
