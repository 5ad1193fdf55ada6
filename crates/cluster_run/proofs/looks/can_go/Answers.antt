use Rattle.cluster_run.proofs.ChoiceLists.{flag_told, no_flag}
use Rattle.cluster_run.proofs.looks.can_go.Goals as goal

pub returns-in-Some : goal.returns-in-Some
returns-in-Some g c =
    let found = c.in-Some.ensures.lookup in
    flag_told g.S.Site.state c.args.sites.now c.args.ready.now c.requires.flags c.from.result c.args.machine
    c.from.ensures c.in-Some.flag.now found.3.0 found.1

pub returns-in-None : goal.returns-in-None
returns-in-None g c =
    no_flag g.S.Site.state c.args.sites.now c.args.ready.now c.requires.flags c.from.result c.args.machine
    c.from.ensures c.in-None.ensures.lookup.3
