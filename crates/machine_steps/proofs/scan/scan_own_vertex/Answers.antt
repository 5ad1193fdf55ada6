-- An own vertex is scanned as it is seen.
use Rattle.std.proofs.Common.{◌≡◌, subst, sym, ◌∙◌}
use Rattle.vert_base.specs.Neighbours.{target}
use Rattle.body_shape.specs.Update.{Sent}
use Rattle.symple_face.specs.CoreSight.{none}
use Rattle.symple_face.specs.CoreTakes.{unsent}
use Rattle.machine_parts.specs.Entering.{IsReadyFor}
use Rattle.machine_parts.specs.Spans.{vertex_of}
use Rattle.machine_steps.proofs.ScanLaws.{own_ins, own_outs, own_row, passed_over, ready, visited_over}
use Rattle.machine_steps.proofs.scan.scan_own_vertex.Goals as goal

pub returns-then-is_broken-clause-visited : goal.returns-then-is_broken-clause-visited
returns-then-is_broken-clause-visited c = λ g shows.
    let b = c.args.body.now in
    let o = c.args.own.now in
    let told : Sent = record {
      values = c.pass_over.new.visit.values.items;
      operands = c.pass_over.new.visit.operands.items;
    } in
    let none_sent : told ≡ unsent b.split.now =
    λ j. record { values = c.pass_over.ensures.values j; operands = c.pass_over.ensures.operands j } in
    passed_over b.split.now b.dense.now g c.args.step.key o.edges.now (vertex_of c.args.span.now) _ c.args.half.now told
    (sym c.is_broken.ensures ∙ c.if-is_broken.true) none_sent

pub returns-clause-visited : goal.returns-clause-visited
returns-clause-visited c = λ g shows.
    let b = c.args.body.now in
    let o = c.args.own.now in
    let half = c.args.half.now in
    let span = c.args.span.now in
    let told : Sent = record {
      values = c.scan_vertex.new.visit.values.items;
      operands = c.scan_vertex.new.visit.operands.items;
    } in
    let row = own_row g o.rows.now o.degrees.now o.start (none b.split.now) c.args.visit.now.env shows (vertex_of span)
    c.requires.own c.requires.row in
    let ins = own_ins g o.rows.now o.degrees.now o.start (none b.split.now) c.args.visit.now.env shows (vertex_of span)
    c.requires.own c.requires.row _ o.own.count in
    let outs = own_outs g o.rows.now o.degrees.now o.start (none b.split.now) c.args.visit.now.env shows
    (vertex_of span) c.requires.own c.requires.row _ o.own.count in
    let is_ready = ready g o.rows.now o.degrees.now o.start (none b.split.now) c.args.visit.now.env shows
    (vertex_of span) _ _ _ row row ins outs in
    let entered = c.enter.ensures.seen g (none b.split.now) (subst (IsReadyFor g (vertex_of span) _ (none b.split.now))
    (sym c.read_row_of.ensures.row) is_ready) in
    visited_over b.split.now b.dense.now g c.args.step.key o.start o.degrees.now o.rows.now o.edges.now
    c.edges_in-members.result.now span c.args.visit.now.env c.enter.new.env _ _ half c.scan_vertex.new.half told
    c.scan_vertex.result shows o.own c.requires.span (c.edges_in-members.ensures target c.requires.span) entered
    (c.scan_vertex.ensures.visited g)
