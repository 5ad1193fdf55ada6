use Rattle.std.proofs.Common.{◌≡◌, ◌∙◌, false, ap, sym, slice_get}
use Rattle.cluster_run.specs.Driven.{Driven}
use Rattle.cluster_run.specs.Ready.{flags_of}
use Rattle.symple_face.specs.Cluster.{choices_of}
use Rattle.cluster_run.proofs.WorldChoices.{first_choice, nth_played, reached_in, seen}
use Rattle.cluster_run.proofs.cluster.Cluster.choice.Goals as goal

pub returns-clause-first : goal.returns-clause-first
returns-clause-first g c =
    let reached = reached_in g.S.Site.work g.S.Site.sound _ c.args.self.now c.self.view_is c.self.invariant.0
    c.requires.on in
    first_choice g.S.Site.work g.S.Site.sound g.met.S.Site.lawful c.args.self.now.world reached c.args.k
    c.nth_choice.result
    (seen g.S.Site.state (λ w. slice_get (choices_of w) c.args.k) c.deref.result.now c.self.inside.sites.items
    c.self.inside.flight c.self.inside.ended c.args.self.now c.nth_choice.result c.deref.ensures.value c.self.view_is
    c.nth_choice.ensures)

pub returns-clause-played : goal.returns-clause-played
returns-clause-played g c =
    let reached = reached_in g.S.Site.work g.S.Site.sound _ c.args.self.now c.self.view_is c.self.invariant.0
    c.requires.on in
    nth_played g.S.Site.work g.S.Site.sound g.met.S.Site.lawful c.args.self.now.world reached c.args.k
    c.nth_choice.result
    (seen g.S.Site.state (λ w. slice_get (choices_of w) c.args.k) c.deref.result.now c.self.inside.sites.items
    c.self.inside.flight c.self.inside.ended c.args.self.now c.nth_choice.result c.deref.ensures.value c.self.view_is
    c.nth_choice.ensures)

pub nth_choice-requires-clause-flags : goal.nth_choice-requires-clause-flags
nth_choice-requires-clause-flags g c =
    let on : c.self.inside.ended ≡ false = ap (λ (d : Driven). d.ended) c.self.view_is ∙ c.requires.on in
    c.deref-2.ensures.value ∙ c.self.invariant.2 on ∙ sym (ap (flags_of g.S.Site.state) c.deref.ensures.value)
