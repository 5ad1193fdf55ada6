-- A vertex sends its words, or nothing.
use Rattle.std.proofs.Common.{Some, ap, sym, ◌∙◌}
use Rattle.vert_base.specs.Neighbours.{bucket, source}
use Rattle.vertex_work.specs.Pushing.{receiving}
use Rattle.vertex_work.proofs.OwnLaws.{active_sends, inactive_silent, sent_edges, settled_at, silent_edges, untrue_silent}
use Rattle.vertex_work.proofs.own.work_sender.Goals as goal

pub returns-then-not-is_active-clause-added : goal.returns-then-not-is_active-clause-added
returns-then-not-is_active-clause-added c =
    let rs = c.args.receivers.now in
    let v = c.args.span.now.vertex.0 in
    silent_edges (receiving c.args.receivers.now) c.args.env.now _ (bucket source v c.args.receivers.now.edges.now)
    c.args.partials.now
    (inactive_silent c.args.sparse.now rs.rows.now.rows rs.degrees.now rs.start v c.args.env.now
    (sym c.is_active.ensures ∙ c.if-not-is_active.true))

pub returns-then-not-passes_test-clause-added : goal.returns-then-not-passes_test-clause-added
returns-then-not-passes_test-clause-added c =
    let rs = c.args.receivers.now in
    let v = c.args.span.now.vertex.0 in
    silent_edges (receiving c.args.receivers.now) c.args.env.now _ (bucket source v c.args.receivers.now.edges.now)
    c.args.partials.now
    (untrue_silent c.args.sparse.now rs.rows.now.rows rs.degrees.now rs.start v c.args.env.now c.enter.new.env
    c.read_row_of.new.env _ c.requires.low c.requires.degree c.read_row_of.ensures.row c.enter.ensures.entered
    (sym c.passes_test.ensures ∙ c.if-not-passes_test.true))

pub returns-clause-added : goal.returns-clause-added
returns-clause-added c =
    let rs = c.args.receivers.now in
    let v = c.args.span.now.vertex.0 in
    sent_edges (receiving c.args.receivers.now) c.args.env.now
    (record c.enter.new.env { sends = c.sent_words-env.result }) _
    (bucket source v c.args.receivers.now.edges.now) c.args.partials.now c.work_span.new.partials
    (active_sends c.args.sparse.now rs.rows.now.rows rs.degrees.now rs.start v c.args.env.now c.enter.new.env
    c.read_row_of.new.env _ c.requires.low c.requires.degree c.read_row_of.ensures.row c.enter.ensures.entered
    (sym c.is_active.ensures ∙ c.if-not-is_active.false) (sym c.passes_test.ensures ∙ c.if-not-passes_test.false)
    ∙ ap Some (sym c.sent_words-env.ensures))
    (settled_at c.args.sparse.now rs.rows.now.rows rs.degrees.now rs.start v c.args.env.now c.enter.new.env
    c.read_row_of.new.env _ c.requires.low c.requires.degree c.read_row_of.ensures.row c.enter.ensures.entered)
    c.work_span.ensures.added
