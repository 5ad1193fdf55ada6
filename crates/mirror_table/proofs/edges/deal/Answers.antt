-- The one machine has all edges.
use Rattle.std.proofs.Common.{◌≡◌, ◌∙◌, length, sym}
use Rattle.vert_base.specs.Neighbours.{source, target}
use Rattle.mirror_table.proofs.ShareLaws.{one_share}
use Rattle.mirror_table.proofs.edges.deal.Goals as goal

pub returns-then-count-eq1-clause-scans : goal.returns-then-count-eq1-clause-scans
returns-then-count-eq1-clause-scans c =
    let one : length c.args.cuts.now ≡ 1 = sym c.count.ensures.value ∙ c.if-count-eq1.true in
    c.in_ok-whole.ensures ∙ one_share c.args.cuts.now source c.args.lists.ins.items one c.requires.sources

pub returns-then-count-eq1-clause-pushes : goal.returns-then-count-eq1-clause-pushes
returns-then-count-eq1-clause-pushes c =
    let one : length c.args.cuts.now ≡ 1 = sym c.count.ensures.value ∙ c.if-count-eq1.true in
    c.in_ok-whole-2.ensures ∙ one_share c.args.cuts.now target c.args.lists.outs.items one c.requires.targets
