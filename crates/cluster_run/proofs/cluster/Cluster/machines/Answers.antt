use Rattle.std.proofs.Common.{◌≡◌, ◌≤◌, ◌∙◌, length, false, ap, arith}
use Rattle.std.proofs.lemmas.List.{length-map}
use Rattle.cluster_run.specs.Driven.{Driven, world_of}
use Rattle.cluster_run.proofs.ReachedWorldLaws.{reached_some}
use Rattle.cluster_run.proofs.cluster.Cluster.machines.Goals as goal

pub returns-clause-some : goal.returns-clause-some
returns-clause-some g c = λ on.
    let inside : c.self.inside.ended ≡ false = ap (λ (d : Driven). d.ended) c.self.view_is ∙ on in
    let some = reached_some g.S.Site.work g.S.Site.sound g.met.S.Site.lawful
    (world_of g.S.Site.state c.self.inside.sites.items c.self.inside.flight) (c.self.invariant.0.reached inside) in
    let size = length-map c.self.inside.sites.items g.S.Site.state in
    let many : 1 ≤ length c.self.inside.sites.items = omega arith in
    omega arith
