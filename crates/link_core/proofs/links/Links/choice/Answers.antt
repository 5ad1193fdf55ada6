use Rattle.std.proofs.Common.{◌≡◌, ◌+◌, Some, false, length, ap, sym, ◌∙◌, slice_get}
use Rattle.symple_face.specs.Cluster.{finished, ready_machines}
use Rattle.link_core.specs.declared.event.LinkEvent.TheVariants.{Go}
use Rattle.link_core.specs.LinkChoices.{link_choices, wire_choices}
use Rattle.link_core.specs.LinkRuns.{DrivenLinks, linked_of}
use Rattle.link_core.specs.Links.{Linked}
use Rattle.link_core.proofs.LinkOrderLaws.{none_past, nth_free}
use Rattle.link_core.proofs.LinkChoicePlaces.{nth_go, nth_wire}
use Rattle.link_core.proofs.links.Links.choice.Goals as goal

pub returns-in-Ok-clause-played : goal.returns-in-Ok-clause-played
returns-in-Ok-clause-played g c =
    let l : Linked = c.args.self.now.links in
    let view : linked_of c.self.inside.cluster.world c.self.inside.wire ≡ l =
    ap (λ (d : DrivenLinks). d.links) c.self.view_is in
    let on : finished l.world ≡ false =
    sym (ap (λ (q : Linked). finished q.world) view) ∙ sym c.finished.ensures ∙ c.if-finished.false in
    let at : slice_get (ready_machines l.world) c.args.k ≡ Some c.in-Ok.machine =
    sym (ap (λ (q : Linked). slice_get (ready_machines q.world) c.args.k) view) ∙ c.in-Ok.ensures.there in
    nth_free g.S.Site.work g.S.Site.sound g.met.S.Site.lawful l (c.tells_reached.ensures c.requires.on) c.args.k
    (Some (Go c.in-Ok.machine)) (nth_go l on c.args.k c.in-Ok.machine at)

pub returns-in-Err-clause-is : goal.returns-in-Err-clause-is
returns-in-Err-clause-is g c =
    let l : Linked = c.args.self.now.links in
    let view : linked_of c.self.inside.cluster.world c.self.inside.wire ≡ l =
    ap (λ (d : DrivenLinks). d.links) c.self.view_is in
    let on : finished l.world ≡ false =
    sym (ap (λ (q : Linked). finished q.world) view) ∙ sym c.finished.ensures ∙ c.if-finished.false in
    nth_wire l on c.args.k c.in-Err.left c.nth_on_wire.result
    (c.in-Err.ensures.past ∙ ap (λ (q : Linked). length (ready_machines q.world) + c.in-Err.left) view)
    (c.nth_on_wire.ensures ∙ ap (λ (q : Linked). slice_get (wire_choices q.traffic) c.in-Err.left) view)

pub returns-in-Err-clause-none : goal.returns-in-Err-clause-none
returns-in-Err-clause-none g c =
    let l : Linked = c.args.self.now.links in
    let view : linked_of c.self.inside.cluster.world c.self.inside.wire ≡ l =
    ap (λ (d : DrivenLinks). d.links) c.self.view_is in
    let on : finished l.world ≡ false =
    sym (ap (λ (q : Linked). finished q.world) view) ∙ sym c.finished.ensures ∙ c.if-finished.false in
    none_past (link_choices l) c.args.k c.nth_on_wire.result
    (nth_wire l on c.args.k c.in-Err.left c.nth_on_wire.result
    (c.in-Err.ensures.past ∙ ap (λ (q : Linked). length (ready_machines q.world) + c.in-Err.left) view)
    (c.nth_on_wire.ensures ∙ ap (λ (q : Linked). slice_get (wire_choices q.traffic) c.in-Err.left) view))

pub returns-in-Err-clause-played : goal.returns-in-Err-clause-played
returns-in-Err-clause-played g c =
    let l : Linked = c.args.self.now.links in
    let view : linked_of c.self.inside.cluster.world c.self.inside.wire ≡ l =
    ap (λ (d : DrivenLinks). d.links) c.self.view_is in
    let on : finished l.world ≡ false =
    sym (ap (λ (q : Linked). finished q.world) view) ∙ sym c.finished.ensures ∙ c.if-finished.false in
    nth_free g.S.Site.work g.S.Site.sound g.met.S.Site.lawful l (c.tells_reached.ensures c.requires.on) c.args.k
    c.nth_on_wire.result
    (nth_wire l on c.args.k c.in-Err.left c.nth_on_wire.result
    (c.in-Err.ensures.past ∙ ap (λ (q : Linked). length (ready_machines q.world) + c.in-Err.left) view)
    (c.nth_on_wire.ensures ∙ ap (λ (q : Linked). slice_get (wire_choices q.traffic) c.in-Err.left) view))
