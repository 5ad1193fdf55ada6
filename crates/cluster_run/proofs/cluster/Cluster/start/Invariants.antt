use Rattle.std.proofs.Common.{◌≡◌, ◌++◌, map, vec_len}
use mathlib.Core.List.{reverse}
use Rattle.cluster_run.proofs.PartLists.{made}
use Rattle.cluster_run.proofs.cluster.Cluster.start.Given as goal

abbrev pub invariant-loop-part : goal.invariant-loop-part
invariant-loop-part g l = map g.S.Site.state l.sites.items ++ map (made g.S.Site.work.first) (reverse l.parts.items)
    ≡ map (made g.S.Site.work.first) l.fn.parts.items

abbrev pub decreases-loop-part : goal.decreases-loop-part
decreases-loop-part g l = vec_len l.parts
