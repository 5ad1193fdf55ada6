use Rattle.std.proofs.Common.{arith}
use Rattle.machine_runs.proofs.WorldLaws.{of_run, some_sites}
use Rattle.symple_run.proofs.shown.count_round_if.Goals as goal

pub site-requires : goal.site-requires
site-requires g c =
    let reached = c.tells_reached.ensures c.requires.on in (
      omega arith,
      some_sites reached.one_run.ends reached.split c.args.cluster.now.world
          (of_run g.S.Site.work g.S.Site.sound g.met.S.Site.lawful c.args.cluster.now.world reached),
    )
