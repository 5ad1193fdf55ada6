-- Each name of the test has its place.
use Rattle.std.proofs.Common.{ap, ◌∙◌}
use Rattle.vert_tree.specs.Places.{expr_placed}
use Rattle.vertex_work.proofs.StepLaws.{test_placed}
use Rattle.vertex_work.proofs.vertex.passes.Goals as goal

pub eval-requires : goal.eval-requires
eval-requires c =
    let b = c.args.body.now in record {
      names = ap (λ k. expr_placed k b.dense.now.when_test) c.requires.counts
          ∙ test_placed b.code.now b.split.now b.dense.now b.parts.now b.is;
      draws = c.requires.draws;
    }
