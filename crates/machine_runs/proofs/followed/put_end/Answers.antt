use Rattle.std.proofs.Common.{ap, sym}
use Rattle.std.specs.Prelude.{option_map}
use Rattle.machine_runs.specs.Tellings.{by_worlds, lack_of}
use Rattle.machine_runs.proofs.FollowLaws.{ends_well}
use Rattle.machine_runs.proofs.followed.put_end.Goals as goal

pub returns-in_ok-put_table-in-None : goal.returns-in_ok-put_table-in-None
returns-in_ok-put_table-in-None g c = λ lines.
    ends_well (by_worlds g.S.Site.work lines) c.args.cluster.now.world
    (ap (option_map lack_of) (sym c.in-None.ensures.is)) _ _ c.in_ok-put_table-in-None.ensures
