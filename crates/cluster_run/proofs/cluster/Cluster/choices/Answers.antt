use Rattle.std.proofs.Common.{◌≡◌, ◌∙◌, false, ap, length, sym}
use Rattle.cluster_run.specs.Driven.{Driven}
use Rattle.cluster_run.specs.Ready.{flags_of}
use Rattle.symple_face.specs.Cluster.{choices_of}
use Rattle.cluster_run.proofs.WorldChoices.{goes_on, reached_in, seen}
use Rattle.cluster_run.proofs.cluster.Cluster.choices.Goals as goal

pub returns-clause-none : goal.returns-clause-none
returns-clause-none g c =
    let reached = reached_in g.S.Site.work g.S.Site.sound _ c.args.self.now c.self.view_is c.self.invariant.0
    c.requires.on in
    let is : c.choice_count.result ≡ length (choices_of c.args.self.now.world) =
    seen g.S.Site.state (λ w. length (choices_of w)) c.deref.result.now c.self.inside.sites.items
    c.self.inside.flight c.self.inside.ended c.args.self.now c.choice_count.result c.deref.ensures.value c.self.view_is
    c.choice_count.ensures in
    let chosen = (goes_on g.S.Site.work g.S.Site.sound g.met.S.Site.lawful c.args.self.now.world reached).chosen in
    ((λ none. chosen.0 (sym is ∙ none)), (λ over. is ∙ chosen.1 over))

pub choice_count-requires-clause-flags : goal.choice_count-requires-clause-flags
choice_count-requires-clause-flags g c =
    let on : c.self.inside.ended ≡ false = ap (λ (d : Driven). d.ended) c.self.view_is ∙ c.requires.on in
    c.deref-2.ensures.value ∙ c.self.invariant.2 on ∙ sym (ap (flags_of g.S.Site.state) c.deref.ensures.value)
