use Rattle.std.proofs.Common.{map, ap, arith}
use Rattle.std.proofs.lemmas.List.{length-map}
use Rattle.cluster_run.proofs.PartsAt.{parts_few}
use Rattle.cluster_run.specs.Driven.{Driven}
use Rattle.symple_face.specs.PartViews.{plain_of}
use Rattle.symple_face.specs.Work.{plain_start}
use Rattle.run_tests.proofs.PartsFrom.{ok_more}
use Rattle.run_tests.proofs.StartsAt.{parts_ready}
use Rattle.run_tests.proofs.resumes.machines_at.Goals as goal

pub resume-requires : goal.resume-requires
resume-requires g c =
    let parts = c.in_ok-parts.parts in
    let one = c.in_ok-parts.ensures.one_run in
    let few = parts_few (map plain_of parts.items) one.0 in (
      omega arith,
      (
        omega (arith, few, length-map parts.items plain_of, parts.ok),
        (
          one.0,
          (
            (c.args.split, c.in_ok-parts.ensures.one_split),
            parts_ready c.args.edges.vertices parts.items one.0 one.1 c.args.split c.in_ok-parts.ensures.one_split
                (plain_start c.args.start.now) c.requires.ready,
          ),
        ),
      ),
    )

pub returns : goal.returns
returns g c = ok_more c.resume.result (λ cluster is. ap (λ (d : Driven). d.ended) is)
    (c.resume.ensures c.args.split c.in_ok-parts.ensures.one_split)
