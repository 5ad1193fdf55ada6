-- One vertex more is told of.
use Rattle.machine_parts.proofs.SendingLaws.{bit_within, vertex_told}
use Rattle.machine_parts.proofs.sends.push_body.Goals as goal

pub tell-requires-clause-within : goal.tell-requires-clause-within
tell-requires-clause-within c =
    bit_within _ c.args.list.now c.vertices.at c.vertices.body.items c.vertices.invariant.body c.vertices-test.true

pub vertices-preserved : goal.vertices-preserved
vertices-preserved c =
    let both = vertex_told c.args.sparse.now c.args.rows.now.rows c.args.degrees.now c.args.start c.vertices.at
    c.args.list.now
    _ _ c.args.env.now c.vertices.env c.read_row_of.new.env c.enter.new.env c.vertices.body.items c.tell.new.body.items
    c.requires.own c.requires.each c.vertices-test.true c.vertices.invariant.env c.read_row_of.ensures.row
    c.enter.ensures.entered c.vertices.invariant.body c.in_ok-tell.ensures in
    record { env = both.0; body = both.1 }
