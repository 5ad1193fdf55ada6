use Rattle.std.proofs.Common.{true, ◌≡◌, ◌+◌, All, length, drop}
use Rattle.std.specs.Prelude.{FitsSigned}
use Rattle.std.specs.Int.{w64}
use Rattle.vert_tree.specs.Places.{lets_placed}
use Rattle.vert_eval.specs.Values.{CanDraw, counts_of}
use Rattle.vert_eval.specs.Rounds.{with_lets}
use Rattle.instrument.proofs.segment.add_lets.Given as goal

-- what is left of the lets ends as all of them do
abbrev pub invariant-loop-decl : goal.invariant-loop-decl
invariant-loop-decl l = record {
  lets : with_lets (drop l.decl-index l.lets) l.env ≡ with_lets l.lets l.initial.env;
  names : lets_placed (counts_of l.env) (drop l.decl-index l.lets) ≡ true;
  draws : CanDraw l.env;
  counts : counts_of l.env ≡ record
      (counts_of l.initial.env) { locals = length l.initial.env.locals.items + l.decl-index };
  words : All (FitsSigned w64) l.env.locals.items;
}
