use Rattle.std.proofs.Common.{◌∙◌, sym, arith}
use Rattle.chunk_split.specs.Chunks.{vertices_of}
use Rattle.vert_base.specs.Neighbours.{target}
use Rattle.symple_face.specs.PartViews.{plain_of}
use Rattle.symple_face.proofs.ListLaws.{ends_met_few}
use Rattle.machine_steps.proofs.CountedLaws.{reads_sum}
use Rattle.machine_steps.proofs.counting.reads_of.Goals as goal

pub sum_of-requires : goal.sum_of-requires
sum_of-requires c =
    let part = plain_of c.args.ground.now.part in
    let within = c.args.ground.now.can.whole.within in
    let each = c.requires.each in
    omega (arith, within, each, ends_met_few target (vertices_of part.ends) part.scan)

pub returns : goal.returns
returns c = c.sum_of.ensures ∙ sym (reads_sum (plain_of c.args.ground.now.part) c.args.counts.now c.requires)
