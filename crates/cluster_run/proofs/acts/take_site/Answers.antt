use Rattle.std.proofs.Common.{◌≡◌, get_or, map, Some, ap, sym, ◌∙◌, subst}
use Rattle.std.specs.Prelude.{slice_set}
use Rattle.vert_base.specs.Letters.{letter_of}
use Rattle.symple_face.specs.Cluster.{can_act}
use Rattle.cluster_run.specs.Ready.{flags_of}
use Rattle.cluster_run.proofs.SiteLists.{map_set}
use Rattle.cluster_run.proofs.MachineMoves.{replaced, state_at}
use Rattle.cluster_run.proofs.acts.take_site.Goals as goal

pub take-requires : goal.take-requires
take-requires g c =
    let is = subst (λ i. c.index_mut-site.result.now ≡ get_or c.args.sites.now.items i c.index_mut-site.result.now)
    c.from-receiver.ensures c.index_mut-site.ensures.value in
    c.requires.takeable _
    (state_at g.S.Site.state c.args.sites.now.items c.args.message.name.to c.index_mut-site.result.now
    c.requires.within is)

pub returns-clause-sites : goal.returns-clause-sites
returns-clause-sites g c = λ s at.
    let is = subst (λ i. c.index_mut-site.result.now ≡ get_or c.args.sites.now.items i c.index_mut-site.result.now)
    c.from-receiver.ensures c.index_mut-site.ensures.value in
    let here = state_at g.S.Site.state c.args.sites.now.items c.args.message.name.to c.index_mut-site.result.now
    c.requires.within is in
    ap (λ i. map g.S.Site.state (slice_set c.args.sites.now.items i c.take.new.self)) c.from-receiver.ensures
    ∙ replaced g.S.Site.state c.args.sites.now.items c.args.message.name.to c.index_mut-site.result.now
    c.take.new.self s
    (g.S.Site.work.take s (letter_of c.args.message)) here at
    (λ same. c.take.ensures ∙ ap (λ q. g.S.Site.work.take q (letter_of c.args.message)) same)

pub returns-clause-flags : goal.returns-clause-flags
returns-clause-flags g c =
    ap (λ fs. slice_set fs c.from-receiver.result c.is_ready.result) c.requires.flags
    ∙ ap (slice_set (flags_of g.S.Site.state c.args.sites.now.items) c.from-receiver.result) c.is_ready.ensures
    ∙ sym (map_set (λ x. can_act (Some (g.S.Site.state x))) c.args.sites.now.items c.from-receiver.result
    c.take.new.self)
