use Rattle.std.proofs.Common.{map, ap, sym, subst, arith, ◌∙◌}
use Rattle.std.proofs.lemmas.List.{length-map}
use Rattle.cluster_run.proofs.PartsAt.{parts_few}
use Rattle.link_core.specs.LinkRuns.{DrivenLinks}
use Rattle.link_core.specs.Links.{linked_anew}
use Rattle.symple_face.specs.PartViews.{plain_of}
use Rattle.vert_tree.specs.declared.typed.Typed.{Typed}
use Rattle.word_kinds.specs.Fits.{IsFitting}
use Rattle.machine_runs.proofs.PartsFrom.{ok_more}
use Rattle.link_runs.proofs.playing.started_links.Goals as goal

pub start-requires : goal.start-requires
start-requires g c =
    let parts = c.in_ok-parts.parts in
    let few = parts_few (map plain_of parts.items) c.in_ok-parts.ensures.of_graph.one in (
      omega arith,
      (
        omega (arith, few, length-map parts.items plain_of, parts.ok),
        (
          c.in_ok-parts.ensures.of_graph.one,
          (c.split_of.result, c.in_ok-parts.ensures.split),
        ),
      ),
    )

pub returns-clause-first : goal.returns-clause-first
returns-clause-first g c =
    let split = c.split_of.result in
    let fits : IsFitting split.program.program = subst (λ (t : Typed). IsFitting t.program) (sym c.split_of.ensures)
    (record { typed = c.args.typed.typed; fits = c.literals_are_words.ensures }) in
    ok_more c.start.result (λ links is. record {
      split = split;
      program_is = ap (λ (t : Typed). t.program) c.split_of.ensures;
      fits = fits;
      parts = map plain_of c.in_ok-parts.parts.items;
      of_graph = c.in_ok-parts.ensures.of_graph;
      here = ap (λ (d : DrivenLinks). d.links.world) is;
    }) (c.start.ensures split c.in_ok-parts.ensures.split)

pub returns-clause-anew : goal.returns-clause-anew
returns-clause-anew g c = ok_more c.start.result (λ links is.
    ap (λ (d : DrivenLinks). d.links) is ∙ sym (ap (λ (d : DrivenLinks). linked_anew d.links.world) is))
    (c.start.ensures c.split_of.result c.in_ok-parts.ensures.split)

pub returns-clause-on : goal.returns-clause-on
returns-clause-on g c = ok_more c.start.result (λ links is.
    ap (λ (d : DrivenLinks). d.ended) is) (c.start.ensures c.split_of.result c.in_ok-parts.ensures.split)
