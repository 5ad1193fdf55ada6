use Rattle.std.proofs.Common.{◌≡◌, false, length, ap, sym, ◌∙◌}
use Rattle.std.proofs.lemmas.Bool.{false≢true}
use Rattle.symple_face.specs.Cluster.{finished, ready_machines}
use Rattle.link_core.specs.LinkChoices.{wire_choices}
use Rattle.link_core.specs.LinkRuns.{DrivenLinks, linked_of}
use Rattle.link_core.specs.Links.{Linked}
use Rattle.link_core.proofs.LinkOrderLaws.{counted}
use Rattle.link_core.proofs.LinkChoicePlaces.{count_is}
use Rattle.link_core.proofs.links.Links.choices.Goals as goal

pub returns-clause-none : goal.returns-clause-none
returns-clause-none g c =
    let l : Linked = c.args.self.now.links in
    let view : linked_of c.self.inside.cluster.world c.self.inside.wire ≡ l =
    ap (λ (d : DrivenLinks). d.links) c.self.view_is in
    let on : finished l.world ≡ false =
    sym (ap (λ (q : Linked). finished q.world) view) ∙ sym c.finished.ensures ∙ c.if-finished.false in
    let is = count_is l on c.ready_count.result c.wire_count.result
    (c.ready_count.ensures.count ∙ ap (λ (q : Linked). length (ready_machines q.world)) view)
    (c.wire_count.ensures.count ∙ ap (λ (q : Linked). length (wire_choices q.traffic)) view) in
    let both = counted g.S.Site.work g.S.Site.sound g.met.S.Site.lawful l (c.tells_reached.ensures c.requires.on) in
    ((λ zero. both.0 (sym is ∙ zero)), (λ over. absurd (false≢true (sym on ∙ over))))
