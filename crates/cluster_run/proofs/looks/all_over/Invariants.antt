use Rattle.std.proofs.Common.{◌≡◌, map, drop}
use Rattle.std.specs.List.{list_all}
use Rattle.circulant_plan.specs.Skeleton.{is_over}
use Rattle.cluster_run.proofs.looks.all_over.Given as goal

abbrev pub invariant-loop-site : goal.invariant-loop-site
invariant-loop-site g l =
    list_all (λ s. is_over s.at.spot) (map g.S.Site.state (drop l.site-index l.sites))
    ≡ list_all (λ s. is_over s.at.spot) (map g.S.Site.state l.sites)
