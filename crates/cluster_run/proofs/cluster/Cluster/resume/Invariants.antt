use Rattle.std.proofs.Common.{◌≡◌, ◌++◌, map, vec_len}
use mathlib.Core.List.{reverse}
use Rattle.std.specs.List.{All}
use Rattle.symple_face.specs.PartViews.{plain_of}
use Rattle.symple_face.specs.Restarts.{IsStart}
use Rattle.symple_face.specs.Work.{plain_start}
use Rattle.cluster_run.proofs.PartLists.{made}
use Rattle.cluster_run.proofs.cluster.Cluster.resume.Given as goal

abbrev pub invariant-loop-part : goal.invariant-loop-part
invariant-loop-part g l = record {
  on : map g.S.Site.state l.sites.items
      ++ map (made (λ part split. g.S.Site.work.restarted part split (plain_start l.start))) (reverse l.parts.items)
      ≡ map (made (λ part split. g.S.Site.work.restarted part split (plain_start l.start)))
      l.fn.parts.items;
  starts : All (λ part. IsStart (plain_of part) part.split.value (plain_start l.start)) (reverse l.parts.items);
}

abbrev pub decreases-loop-part : goal.decreases-loop-part
decreases-loop-part g l = vec_len l.parts
