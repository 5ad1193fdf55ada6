-- There are as many chunk ends as machines.
use Rattle.std.proofs.Common.{◌∙◌, ap, sym}
use Rattle.std.proofs.lemmas.List.{length-map}
use Rattle.byteorder.specs.Endian.{little_number}
use Rattle.edge_reader.specs.EdgePairs.{units_of}
use Rattle.std.proofs.Common.{get_or, length}
use Rattle.worker_stream.proofs.UnitLaws.{fours_count}
use Rattle.worker_stream.proofs.part_numbers.frame_of.Goals as goal

pub returns-clause-count : goal.returns-clause-count
returns-clause-count c =
    let bytes = c.args.sections.now in
    let numbers = units_of 4 bytes.ends.now in
    let machine = get_or bytes.head.now 5 0 in
    let machines = c.in_ok-at.ensures.1 in
    let cuts = c.in_ok-cuts.ensures.1 in
    ap (λ q. q.machines) machines
    ∙ sym (ap length cuts ∙ (length-map numbers (little_number 4)
    ∙ fours_count machine bytes.ends.now c.requires.ends))
