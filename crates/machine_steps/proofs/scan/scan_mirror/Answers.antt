-- A mirror is scanned as it is seen.
use Rattle.std.proofs.Common.{◌≡◌, subst, sym, ◌-◌, ◌∙◌}
use Rattle.std.proofs.lemmas.List.{get_or_default}
use Rattle.vert_base.specs.Neighbours.{bucket, target}
use Rattle.body_shape.specs.Update.{Sent}
use Rattle.symple_face.specs.CoreSight.{none}
use Rattle.symple_face.specs.CoreTakes.{unsent}
use Rattle.machine_parts.specs.Flat.{state_at}
use Rattle.machine_parts.specs.Neighbours.{no_degree}
use Rattle.machine_parts.specs.Spans.{vertex_of}
use Rattle.machine_parts.proofs.SpanLaws.{no_span}
use Rattle.vertex_work.specs.Scanning.{scanned_over}
use Rattle.vertex_work.specs.Stepping.{IsVisited}
use Rattle.machine_steps.proofs.ScanLaws.{members_own, mirror_ins, mirror_outs, mirror_row, passed_over, ready, visited_over}
use Rattle.machine_steps.proofs.scan.scan_mirror.Goals as goal

pub returns-then-is_broken-clause-visited : goal.returns-then-is_broken-clause-visited
returns-then-is_broken-clause-visited c = λ g shows mirrors.
    let b = c.args.body.now in
    let o = c.args.own.now in
    let m = c.args.mirrors.now in
    let half = c.args.half.now in
    let start = c.args.step.start in
    let told : Sent = record {
      values = c.pass_over.new.visit.values.items;
      operands = c.pass_over.new.visit.operands.items;
    } in
    let none_sent : told ≡ unsent b.split.now =
    λ j. record { values = c.pass_over.ensures.values j; operands = c.pass_over.ensures.operands j } in
    subst (λ s. IsVisited (scanned_over b.split.now b.dense.now g c.args.step.key o.edges.now (vertex_of s)
    (state_at half.states (vertex_of s - start))) (bucket target (vertex_of s) o.edges.now) (vertex_of s - start) half
    half told 0)
    (get_or_default m.spans.now c.args.at _ no_span c.requires.at)
    (passed_over b.split.now b.dense.now g c.args.step.key o.edges.now _ _ half told
    (sym c.is_broken.ensures ∙ c.if-is_broken.true) none_sent)

pub scan_vertex-requires-clause-own : goal.scan_vertex-requires-clause-own
scan_vertex-requires-clause-own c =
    let o = c.args.own.now in
    let span = c.requires.spans c.args.at _ c.requires.at in
    members_own o.edges.now c.edges_in-members.result.now _ o.start _ _ o.own.own
    (c.edges_in-members.ensures target span)

pub returns-clause-visited : goal.returns-clause-visited
returns-clause-visited c = λ g shows mirrors.
    let b = c.args.body.now in
    let o = c.args.own.now in
    let m = c.args.mirrors.now in
    let at = c.args.at in
    let lt = c.requires.at in
    let half = c.args.half.now in
    let start = c.args.step.start in
    let told : Sent = record {
      values = c.scan_vertex.new.visit.values.items;
      operands = c.scan_vertex.new.visit.operands.items;
    } in
    let row = mirror_row g m.spans.now m.degrees.now o.rows.now.width m.first m.refresh.now at _ no_degree lt m.each
    mirrors c.width-fields.result c.read_row.new.row c.width-fields.ensures.width c.read_row.ensures in
    let other = mirror_row g m.spans.now m.degrees.now o.rows.now.width m.first m.refresh.now at _ no_degree lt m.each
    mirrors c.width-fields.result c.read_row-2.new.row c.width-fields.ensures.width c.read_row-2.ensures in
    let ins = mirror_ins g m.spans.now m.degrees.now o.rows.now.width m.first m.refresh.now at _ _ lt m.each mirrors in
    let outs = mirror_outs g m.spans.now m.degrees.now o.rows.now.width m.first m.refresh.now at _ _ lt m.each mirrors
    in
    let entered = c.enter.ensures.seen g (none b.split.now) (ready g o.rows.now o.degrees.now o.start
    (none b.split.now) c.args.visit.now.env shows _ _ c.read_row.new.row c.read_row-2.new.row row other ins outs) in
    let span = c.requires.spans at _ lt in
    subst (λ s. IsVisited (scanned_over b.split.now b.dense.now g c.args.step.key o.edges.now (vertex_of s)
    (state_at half.states (vertex_of s - start))) (bucket target (vertex_of s) o.edges.now) (vertex_of s - start) half
    c.scan_vertex.new.half told c.scan_vertex.result)
    (get_or_default m.spans.now at _ no_span lt)
    (visited_over b.split.now b.dense.now g c.args.step.key o.start o.degrees.now o.rows.now o.edges.now
    c.edges_in-members.result.now _ c.args.visit.now.env c.enter.new.env _ _ half c.scan_vertex.new.half told
    c.scan_vertex.result shows o.own span (c.edges_in-members.ensures target span) entered
    (c.scan_vertex.ensures.visited g))
