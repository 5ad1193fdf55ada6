use Rattle.std.proofs.Common.{◌≡◌, None, false, ap, sym, ◌∙◌, subst}
use Rattle.symple_face.specs.Cluster.{finished}
use Rattle.link_core.specs.LinkFaults.{link_fault_of}
use Rattle.link_core.specs.LinkRuns.{DrivenLinks, linked_of}
use Rattle.link_core.specs.Links.{Linked, link_step}
use Rattle.link_core.proofs.EventMoves.{played_driven, played_free, played_links}
use Rattle.link_core.proofs.links.Links.event.Goals as goal

pub invariant_of-self : goal.invariant_of-self
invariant_of-self g c = λ e.
    let on : finished c.self.inside.cluster.world ≡ false = sym c.finished.ensures ∙ c.if-finished.false in
    played_driven g.S.Site.work g.S.Site.sound g.met.S.Site.lawful
    (linked_of c.self.inside.cluster.world c.self.inside.wire) c.args.event.now c.play.new.cluster c.play.new.wire
    (c.self.invariant e).reached on c.in-Ok.ensures.played

pub returns-in-Ok-clause-ok : goal.returns-in-Ok-clause-ok
returns-in-Ok-clause-ok g c =
    let on : finished c.self.inside.cluster.world ≡ false = sym c.finished.ensures ∙ c.if-finished.false in
    let before : Linked = linked_of c.self.inside.cluster.world c.self.inside.wire in
    let view : before ≡ c.args.self.now.links = ap (λ (d : DrivenLinks). d.links) c.self.view_is in (
      subst (λ q. link_fault_of q c.args.event.now ≡ None) view
          (played_free before c.args.event.now on c.in-Ok.ensures.played.free),
      ap (λ (q : Linked). (let d : DrivenLinks = record { links = q; ended = c.self.inside.ended } in d))
          (played_links g.S.Site.work before c.args.event.now c.play.new.cluster c.play.new.wire
          c.in-Ok.ensures.played)
          ∙ ap (λ b. (let d : DrivenLinks = record {
            links = link_step g.S.Site.work before c.args.event.now;
            ended = b;
          } in d)) c.if-self.false
          ∙ ap (λ (q : Linked). (let d : DrivenLinks = record {
            links = link_step g.S.Site.work q c.args.event.now;
            ended = false;
          } in d)) view,
    )
