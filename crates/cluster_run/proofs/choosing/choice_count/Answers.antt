use Rattle.std.proofs.Common.{◌+◌, ◌∙◌, length, ap}
use Rattle.symple_face.specs.Cluster.{ready_machines}
use Rattle.cluster_run.specs.Driven.{world_of}
use Rattle.cluster_run.proofs.ChoiceLists.{count_choices, set_ready}
use Rattle.cluster_run.proofs.choosing.choice_count.Goals as goal

pub returns : goal.returns
returns g c =
    let is = set_ready g.S.Site.state c.args.sites.now c.args.ready.now c.requires.flags in
    ap (λ n. c.count_set.result + n) c.count.ensures.count
    ∙ count_choices (ready_machines (world_of g.S.Site.state c.args.sites.now c.args.flight.now)) c.args.flight.now
    c.count_set.result (c.count_set.ensures.count ∙ ap length is)
