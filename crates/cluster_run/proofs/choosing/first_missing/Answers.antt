use Rattle.std.proofs.Common.{◌≡◌, ◌+◌, ℕ, List, Some, length, subst, slice_get}
use Rattle.symple_face.specs.Cluster.{ready_machines}
use Rattle.cluster_run.specs.Driven.{world_of}
use Rattle.cluster_run.proofs.ChoiceLists.{go_lacks, none_lacks, set_ready}
use Rattle.cluster_run.proofs.choosing.first_missing.Goals as goal

pub returns-in-Ok : goal.returns-in-Ok
returns-in-Ok g c =
    let is = set_ready g.S.Site.state c.args.sites.now c.args.ready.now c.requires.flags in
    go_lacks (ready_machines (world_of g.S.Site.state c.args.sites.now c.args.flight.now)) c.args.flight.now
    c.in-Ok.machine c.in-None.ensures.name
    (subst (λ (ns : List ℕ). slice_get ns 0 ≡ Some c.in-Ok.machine) is c.in-Ok.ensures.there)

pub returns-in-Err : goal.returns-in-Err
returns-in-Err g c =
    let is = set_ready g.S.Site.state c.args.sites.now c.args.ready.now c.requires.flags in
    none_lacks (ready_machines (world_of g.S.Site.state c.args.sites.now c.args.flight.now)) c.args.flight.now
    c.in-Err.field-0 c.in-None.ensures.name
    (subst (λ (ns : List ℕ). 0 ≡ length ns + c.in-Err.field-0) is c.in-Err.ensures.past)
