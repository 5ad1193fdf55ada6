use Rattle.std.proofs.Common.{map, ap, arith}
use Rattle.std.proofs.lemmas.List.{length-map}
use Rattle.cluster_run.proofs.PartsAt.{parts_few}
use Rattle.link_core.specs.LinkRuns.{DrivenLinks}
use Rattle.symple_face.specs.PartViews.{plain_of}
use Rattle.run_tests.proofs.PartsFrom.{ok_more}
use Rattle.run_tests.proofs.links.links_of.Goals as goal

pub start-requires : goal.start-requires
start-requires g c =
    let parts = c.in_ok-parts.parts in
    let few = parts_few (map plain_of parts.items) c.in_ok-parts.ensures.one_run.0 in (
      omega arith,
      (
        omega (arith, few, length-map parts.items plain_of, parts.ok),
        (c.in_ok-parts.ensures.one_run.0, (c.args.split, c.in_ok-parts.ensures.one_split)),
      ),
    )

pub returns : goal.returns
returns g c = ok_more c.start.result (λ links is. ap (λ (d : DrivenLinks). d.ended) is)
    (c.start.ensures c.args.split c.in_ok-parts.ensures.one_split)
