use Rattle.std.proofs.Common.{◌∙◌, ap, sym}
use Rattle.std.specs.Prelude.{slice_index_or, []}
use Rattle.std.proofs.lemmas.Bool.{ne_eqb}
use Rattle.symple_face.specs.Parts.{lists_of}
use Rattle.symple_face.specs.PartViews.{plain_of}
use Rattle.vertex_work.proofs.KnownLaws.{mirrors_known, own_known}
use Rattle.vertex_work.proofs.ground.Ground.known_count.Goals as goal

pub returns-then-chunk-machine : goal.returns-then-chunk-machine
returns-then-chunk-machine c =
    c.own_count.ensures.count
    ∙ own_known (plain_of c.args.self.now.part) c.args.self.now.can.whole c.args.chunk
    (c.if-chunk-machine.true ∙ c.machine.ensures.number)

pub returns-else-chunk-machine : goal.returns-else-chunk-machine
returns-else-chunk-machine c =
    let part = plain_of c.args.self.now.part in
    mirrors_known part c.args.self.now.can.whole c.args.chunk c.list_at.result.now c.requires
    (ne_eqb c.args.chunk part.at.machine (λ e. c.if-chunk-machine.false (e ∙ sym c.machine.ensures.number)))
    (c.list_at.ensures ∙ ap (λ ls. slice_index_or (lists_of ls) c.args.chunk []) c.deref.ensures.value)
