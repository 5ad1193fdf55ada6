use Rattle.std.proofs.Common.{◌∙◌, Some, ap, sym}
use Rattle.std.specs.Prelude.{slice_set}
use Rattle.std.proofs.lemmas.Result.{on_ok_weaker}
use Rattle.symple_face.specs.Cluster.{all_placed, can_act}
use Rattle.cluster_run.specs.Ready.{flags_of}
use Rattle.cluster_run.proofs.SiteLists.{map_set}
use Rattle.cluster_run.proofs.MachineMoves.{replaced, sent_by, state_at}
use Rattle.cluster_run.proofs.acts.go_site.Goals as goal

pub returns-clause-sites : goal.returns-clause-sites
returns-clause-sites g c =
    let here = state_at g.S.Site.state c.args.sites.now.items c.args.machine c.index_mut-site.result.now
    c.requires.within
    c.index_mut-site.ensures.value in
    on_ok_weaker c.send_all.result
    (λ empty s at.
    replaced g.S.Site.state c.args.sites.now.items c.args.machine c.index_mut-site.result.now c.go.new.self s
    (g.S.Site.work.go s) here at
    (λ same. c.in_ok-go.ensures.state ∙ ap g.S.Site.work.go same))
    c.send_all.ensures.empty

pub returns-clause-flight : goal.returns-clause-flight
returns-clause-flight g c =
    let here = state_at g.S.Site.state c.args.sites.now.items c.args.machine c.index_mut-site.result.now
    c.requires.within
    c.index_mut-site.ensures.value in
    on_ok_weaker c.send_all.result
    (λ is s at.
    is ∙ ap (λ ls. all_placed ls c.args.flight.now)
    (sent_by g.S.Site.state g.S.Site.work c.args.sites.now.items c.args.machine c.index_mut-site.result.now s
    c.args.out.now.items c.go.new.out.items here at
    c.requires.none c.in_ok-go.ensures.sent))
    c.send_all.ensures.sent

pub returns-clause-flags : goal.returns-clause-flags
returns-clause-flags g c =
    on_ok_weaker c.send_all.result
    (λ empty.
    ap (λ fs. slice_set fs c.args.machine c.is_ready.result) c.requires.flags
    ∙ ap (slice_set (flags_of g.S.Site.state c.args.sites.now.items) c.args.machine) c.is_ready.ensures
    ∙ sym (map_set (λ x. can_act (Some (g.S.Site.state x))) c.args.sites.now.items c.args.machine c.go.new.self))
    c.send_all.ensures.empty
