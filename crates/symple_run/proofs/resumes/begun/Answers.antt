use Rattle.std.proofs.Common.{◌∙◌, Option, map, arith, ap, sym, subst}
use Rattle.std.specs.Prelude.{option_map}
use Rattle.std.proofs.lemmas.List.{length-map}
use Rattle.cluster_run.proofs.PartsAt.{parts_few}
use Rattle.cluster_run.specs.Driven.{Driven}
use Rattle.edge_reader.specs.Gives.{graph_of_edges}
use Rattle.symple_face.specs.declared.start.Start.{Start}
use Rattle.symple_face.specs.PartViews.{plain_of}
use Rattle.symple_face.specs.Work.{plain_start}
use Rattle.symple_run.specs.Resumes.{IsReady, begun_world}
use Rattle.machine_runs.proofs.PartsFrom.{ok_more}
use Rattle.symple_run.proofs.ResumeLaws.{parts_ready}
use Rattle.symple_run.proofs.resumes.begun.Goals as goal

pub start-requires : goal.start-requires
start-requires g c =
    let parts = c.in_ok-parts.parts in
    let few = parts_few (map plain_of parts.items) c.in_ok-parts.ensures.of_graph.one in (
      omega arith,
      (
        omega (arith, few, length-map parts.items plain_of, parts.ok),
        (c.in_ok-parts.ensures.of_graph.one, (c.args.split, c.in_ok-parts.ensures.split)),
      ),
    )

pub resume-requires : goal.resume-requires
resume-requires g c =
    let parts = c.in_ok-parts.parts in
    let few = parts_few (map plain_of parts.items) c.in_ok-parts.ensures.of_graph.one in
    let ready = subst (IsReady c.args.split c.args.edges.vertices) c.in-Some.is c.requires.ready in (
      omega arith,
      (
        omega (arith, few, length-map parts.items plain_of, parts.ok),
        (
          c.in_ok-parts.ensures.of_graph.one,
          (
            (c.args.split, c.in_ok-parts.ensures.split),
            parts_ready c.args.machines c.args.draws (graph_of_edges c.args.edges) parts.items
                c.in_ok-parts.ensures.of_graph c.args.split c.in_ok-parts.ensures.split (plain_start c.in-Some.start)
                ready,
          ),
        ),
      ),
    )

pub returns-in-None-clause-world : goal.returns-in-None-clause-world
returns-in-None-clause-world g c =
    let parts = map plain_of c.in_ok-parts.parts.items in
    ok_more c.start.result (λ cluster is. (
      parts,
      c.in_ok-parts.ensures.of_graph,
      ap (λ (d : Driven). d.world) is
          ∙ ap (λ (o : Option Start). begun_world g.S.Site.work c.args.split parts (option_map plain_start o))
          (sym c.in-None.is),
    )) (c.start.ensures c.args.split c.in_ok-parts.ensures.split)

pub returns-in-None-clause-on : goal.returns-in-None-clause-on
returns-in-None-clause-on g c = ok_more c.start.result (λ cluster is.
    ap (λ (d : Driven). d.ended) is) (c.start.ensures c.args.split c.in_ok-parts.ensures.split)

pub returns-in-Some-clause-world : goal.returns-in-Some-clause-world
returns-in-Some-clause-world g c =
    let parts = map plain_of c.in_ok-parts.parts.items in
    ok_more c.resume.result (λ cluster is. (
      parts,
      c.in_ok-parts.ensures.of_graph,
      ap (λ (d : Driven). d.world) is
          ∙ ap (λ (o : Option Start). begun_world g.S.Site.work c.args.split parts (option_map plain_start o))
          (sym c.in-Some.is),
    )) (c.resume.ensures c.args.split c.in_ok-parts.ensures.split)

pub returns-in-Some-clause-on : goal.returns-in-Some-clause-on
returns-in-Some-clause-on g c = ok_more c.resume.result (λ cluster is.
    ap (λ (d : Driven). d.ended) is) (c.resume.ensures c.args.split c.in_ok-parts.ensures.split)
