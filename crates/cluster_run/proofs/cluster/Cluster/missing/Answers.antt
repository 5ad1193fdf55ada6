use Rattle.std.proofs.Common.{◌≡◌, ◌∙◌, false, ap, sym}
use Rattle.cluster_run.specs.Driven.{Driven}
use Rattle.cluster_run.specs.Ready.{flags_of}
use Rattle.cluster_run.specs.Faults.{lacking}
use Rattle.cluster_run.proofs.WorldChoices.{nothing_lacks, reached_in, seen}
use Rattle.cluster_run.proofs.cluster.Cluster.missing.Goals as goal

pub returns-clause-none : goal.returns-clause-none
returns-clause-none g c =
    let reached = reached_in g.S.Site.work g.S.Site.sound _ c.args.self.now c.self.view_is c.self.invariant.0
    c.requires.on in
    nothing_lacks g.S.Site.work g.S.Site.sound g.met.S.Site.lawful c.args.self.now.world reached c.first_missing.result
    (seen g.S.Site.state lacking c.deref.result.now c.self.inside.sites.items
    c.self.inside.flight c.self.inside.ended c.args.self.now c.first_missing.result c.deref.ensures.value c.self.view_is
    c.first_missing.ensures)

pub first_missing-requires-clause-flags : goal.first_missing-requires-clause-flags
first_missing-requires-clause-flags g c =
    let on : c.self.inside.ended ≡ false = ap (λ (d : Driven). d.ended) c.self.view_is ∙ c.requires.on in
    c.deref-2.ensures.value ∙ c.self.invariant.2 on ∙ sym (ap (flags_of g.S.Site.state) c.deref.ensures.value)
