-- Each line is put behind those of the vertices before it.
use Rattle.std.proofs.Common.{◌≡◌, ◌+◌, ◌-◌, ◌<◌, ◌∙◌, ℕ, ap, arith, flat_map, take}
use Rattle.std.specs.Prelude.{slice_index}
use Rattle.array_text.proofs.WritesLaws.{writes_nothing, writes_same}
use Rattle.circulant_plan.proofs.ReadingLaws.{lies_is}
use Rattle.command_steps.proofs.TextLaws.{all_put, one_failed, one_more}
use Rattle.symple_face.specs.Parts.{chunk_vertices}
use Rattle.symple_face.specs.PartViews.{plain_of}
use Rattle.symple_face.specs.State.{machine}
use Rattle.vert_base.specs.Ends.{start_of}
use Rattle.part_runs.specs.Serving.{own_line}
use Rattle.part_runs.proofs.RowLaws.{all_numbers, below_numbers, bound_is, number_at}
use Rattle.part_runs.proofs.rows.write_lines.Goals as goal

pub vertices-init : goal.vertices-init
vertices-init g c =
    let s = g.S.Site.state c.args.site.now in
    let work = g.S.Site.work in
    let ends = s.part.ends in
    let m = machine s in
    let start = start_of ends m in
    let first : c.start-v.result ≡ start = c.start-v.ensures
    ∙ bound_is start_of (plain_of c.part-part.result.now) s.part c.number-machine.result c.part-part.ensures.part
    c.number-machine.ensures.number in
    let none : 0 ≡ c.start-v.result - start = omega (arith, first) in (
      omega (arith, first),
      writes_same (ap (λ (n : ℕ). flat_map (own_line work s) (take n (chunk_vertices ends m))) none)
          (writes_nothing g.O.Sink.held g.O.Sink.faults g.O.Sink.spare c.args.out.now),
    )

pub write_line-requires : goal.write_line-requires
write_line-requires g c =
    let s = g.S.Site.state c.args.site.now in
    let work = g.S.Site.work in
    let ends = s.part.ends in
    let m = machine s in
    let start = start_of ends m in
    let stop = slice_index ends m in
    let first : c.start-v.result ≡ start = c.start-v.ensures
    ∙ bound_is start_of (plain_of c.part-part.result.now) s.part c.number-machine.result c.part-part.ensures.part
    c.number-machine.ensures.number in
    let last : c.end-v-end.result ≡ stop = c.end-v-end.ensures.value
    ∙ bound_is slice_index (plain_of c.part-part.result.now) s.part c.number-machine.result c.part-part.ensures.part
    c.number-machine.ensures.number in
    lies_is ends m c.vertices.v (c.vertices.invariant.0, omega (arith, last, c.vertices-test.true))

pub returns-in_err-write_line : goal.returns-in_err-write_line
returns-in_err-write_line g c =
    let s = g.S.Site.state c.args.site.now in
    let work = g.S.Site.work in
    let ends = s.part.ends in
    let m = machine s in
    let start = start_of ends m in
    let stop = slice_index ends m in
    let first : c.start-v.result ≡ start = c.start-v.ensures
    ∙ bound_is start_of (plain_of c.part-part.result.now) s.part c.number-machine.result c.part-part.ensures.part
    c.number-machine.ensures.number in
    let last : c.end-v-end.result ≡ stop = c.end-v-end.ensures.value
    ∙ bound_is slice_index (plain_of c.part-part.result.now) s.part c.number-machine.result c.part-part.ensures.part
    c.number-machine.ensures.number in
    let v = c.vertices.v in
    let below : v < start + (stop - start) = omega (arith, last, c.vertices-test.true, c.vertices.invariant.0) in
    one_failed (own_line work s) (chunk_vertices ends m) (v - start) 0
    (below_numbers start (stop - start) v c.vertices.invariant.0 below)
    (ap (own_line work s) (number_at start (stop - start) v c.vertices.invariant.0 below)) c.vertices.invariant.1
    c.from_residual.result c.from_residual.ensures.0 c.in_err-write_line.ensures

pub vertices-preserved : goal.vertices-preserved
vertices-preserved g c =
    let s = g.S.Site.state c.args.site.now in
    let work = g.S.Site.work in
    let ends = s.part.ends in
    let m = machine s in
    let start = start_of ends m in
    let stop = slice_index ends m in
    let first : c.start-v.result ≡ start = c.start-v.ensures
    ∙ bound_is start_of (plain_of c.part-part.result.now) s.part c.number-machine.result c.part-part.ensures.part
    c.number-machine.ensures.number in
    let last : c.end-v-end.result ≡ stop = c.end-v-end.ensures.value
    ∙ bound_is slice_index (plain_of c.part-part.result.now) s.part c.number-machine.result c.part-part.ensures.part
    c.number-machine.ensures.number in
    let v = c.vertices.v in
    let below : v < start + (stop - start) = omega (arith, last, c.vertices-test.true, c.vertices.invariant.0) in
    let more : v - start + 1 ≡ v + 1 - start = omega (arith, c.vertices.invariant.0) in (
      omega (arith, c.vertices.invariant.0),
      writes_same (ap (λ (n : ℕ). flat_map (own_line work s) (take n (chunk_vertices ends m))) more)
          (one_more (own_line work s) (chunk_vertices ends m) (v - start) 0
          (below_numbers start (stop - start) v c.vertices.invariant.0 below)
          (ap (own_line work s) (number_at start (stop - start) v c.vertices.invariant.0 below))
          c.vertices.invariant.1 c.in_ok-write_line.ensures),
    )

pub returns : goal.returns
returns g c =
    let s = g.S.Site.state c.args.site.now in
    let work = g.S.Site.work in
    let ends = s.part.ends in
    let m = machine s in
    let start = start_of ends m in
    let stop = slice_index ends m in
    let first : c.start-v.result ≡ start = c.start-v.ensures
    ∙ bound_is start_of (plain_of c.part-part.result.now) s.part c.number-machine.result c.part-part.ensures.part
    c.number-machine.ensures.number in
    let last : c.end-v-end.result ≡ stop = c.end-v-end.ensures.value
    ∙ bound_is slice_index (plain_of c.part-part.result.now) s.part c.number-machine.result c.part-part.ensures.part
    c.number-machine.ensures.number in
    let v = c.vertices.v in
    all_put (own_line work s) (chunk_vertices ends m) (v - start)
    (all_numbers start (stop - start) v
    (omega (arith, first, last, c.vertices-test.false, c.vertices.invariant.0))) c.vertices.invariant.1
