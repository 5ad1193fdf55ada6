use Rattle.std.proofs.Common.{◌≡◌, take}
use Rattle.cluster_run.specs.Ready.{flags_of}
use Rattle.cluster_run.proofs.looks.flags.Given as goal

abbrev pub invariant-loop-site : goal.invariant-loop-site
invariant-loop-site g l = l.ready.items ≡ flags_of g.S.Site.state (take l.site-index l.sites)
