use Rattle.std.proofs.Common.{length, ap, ◌∙◌, arith}
use Rattle.std.specs.List.{flat_map, range_with_len}
use Rattle.std.proofs.lemmas.List.{length-append}
use Rattle.symple_face.specs.PartViews.{plain_of}
use Rattle.mirror_table.proofs.RangeLaws.{flat_map_more}
use Rattle.vertex_work.specs.Known.{known_in}
use Rattle.vertex_work.proofs.KnownLaws.{known_few}
use Rattle.vertex_work.proofs.ground.Ground.known_before.Goals as goal

pub overflow_add-count : goal.overflow_add-count
overflow_add-count c =
    let part = plain_of c.args.self.now.part in
    let can = c.args.self.now.can in
    let few = known_few part can.whole can.ends c.chunks.k (omega arith) in
    let low = can.place in
    let least = can.ends in
    let count = can.whole.machine in
    omega arith

pub chunks-preserved : goal.chunks-preserved
chunks-preserved c =
    let part = plain_of c.args.self.now.part in
    let can = c.args.self.now.can in
    let few = known_few part can.whole can.ends c.chunks.k (omega arith) in
    let more = ap length (flat_map_more (known_in part) c.chunks.k)
    ∙ length-append (flat_map (known_in part) (range_with_len 0 c.chunks.k)) (known_in part c.chunks.k) in
    let so_far = c.chunks.invariant.so_far in
    record { so_far = omega arith; few = omega arith }
