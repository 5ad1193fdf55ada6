use Rattle.std.proofs.Common.{◌≡◌, ◌&&◌, not, false, ap, sym, ◌∙◌}
use Rattle.symple_face.specs.Cluster.{finished}
use Rattle.link_core.specs.LinkRuns.{DrivenLinks, linked_of}
use Rattle.link_core.specs.Links.{Linked, can_happen, link_possible}
use Rattle.link_core.proofs.LinkOrderLaws.{free}
use Rattle.link_core.proofs.links.Links.possible.Goals as goal

pub returns-then-not-finished-clause-played : goal.returns-then-not-finished-clause-played
returns-then-not-finished-clause-played g c =
    let l : Linked = c.args.self.now.links in
    let view : linked_of c.self.inside.cluster.world c.self.inside.wire ≡ l =
    ap (λ (d : DrivenLinks). d.links) c.self.view_is in
    let on : finished l.world ≡ false =
    sym (ap (λ (q : Linked). finished q.world) view) ∙ sym c.finished.ensures ∙ c.if-not-finished.true in
    let is : c.can_happen.result ≡ link_possible l c.args.event.now =
    c.can_happen.ensures
    ∙ ap (λ (q : Linked). can_happen q c.args.event.now) view
    ∙ sym (ap (λ b. not b && can_happen l c.args.event.now) on) in
    let both = free g.S.Site.work g.S.Site.sound g.met.S.Site.lawful l (c.tells_reached.ensures c.requires.on)
    c.args.event.now in
    ((λ yes. both.0 (sym is ∙ yes)), (λ none. is ∙ both.1 none))
