-- The lines of the vertices so far are written.
use Rattle.std.proofs.Common.{◌-◌, ◌≤◌, Ok, flat_map, take}
use Rattle.array_text.specs.Writes.{Writes}
use Rattle.symple_face.specs.Parts.{chunk_vertices}
use Rattle.symple_face.specs.State.{machine}
use Rattle.vert_base.specs.Ends.{start_of}
use Rattle.part_runs.specs.Serving.{own_line}
use Rattle.part_runs.proofs.rows.write_lines.Given as goal

abbrev pub invariant-vertices : goal.invariant-vertices
invariant-vertices g l =
    let s = g.S.Site.state l.site in
    let start = start_of s.part.ends (machine s) in
    (start ≤ l.v) × Writes g.O.Sink.held g.O.Sink.faults g.O.Sink.spare l.fn.out l.out
    (flat_map (own_line g.S.Site.work s) (take (l.v - start) (chunk_vertices s.part.ends (machine s)))) (Ok tt)
