-- What a vertex leaves is what is scanned there.
use Rattle.std.proofs.Common.{ap, map, sym, take, ◌∙◌, arith}
use Rattle.std.proofs.lemmas.List.{length-map, length-take}
use Rattle.machine_parts.specs.Neighbours.{member_in}
use Rattle.vertex_work.specs.Stepping.{passes}
use Rattle.vertex_work.proofs.VertexLaws.{given_within, members_wide, runs_on, stays}
use Rattle.vertex_work.proofs.vertex.step_vertex.Goals as goal

pub returns-then-passes-clause-scanned : goal.returns-then-passes-clause-scanned
returns-then-passes-clause-scanned c = λ g shows.
    let b = c.args.body.now in
    let o = c.args.own.now in
    let half = c.args.half.now in
    let test = ap (λ mark. passes b.dense.now mark c.args.env.now) (sym c.mark.ensures.mark) ∙ sym c.passes.ensures
    ∙ c.if-passes.true in
    stays b.code.now b.split.now b.dense.now b.parts.now b.is g o.start o.degrees.now o.rows.now.rows
    c.args.members.now c.args.env.now shows c.args.place half c.args.emits.now.slots.items test c.requires.empty

pub run_segment-requires-clause-rows : goal.run_segment-requires-clause-rows
run_segment-requires-clause-rows c =
    let o = c.args.own.now in
    members_wide o.start o.degrees.now o.rows.now.rows c.args.members.now c.args.env.now c.requires.own c.requires.wide

pub overflow_cast-result : goal.overflow_cast-result
overflow_cast-result c =
    let o = c.args.own.now in
    let f = c.run_segment.new.feed in
    let given = map (member_in f.start f.degrees.now f.rows.now.rows) (take f.given f.edges.now) in
    let within = given_within o.start o.degrees.now o.rows.now.rows c.args.members.now given _ _
    c.run_segment.ensures.fed in
    let size = length-map (take f.given f.edges.now) (member_in f.start f.degrees.now f.rows.now.rows)
    ∙ length-take f.given f.edges.now ∙ sym c.min.ensures in
    omega (arith, within, size)

pub returns-clause-scanned : goal.returns-clause-scanned
returns-clause-scanned c = λ g shows.
    let b = c.args.body.now in
    let o = c.args.own.now in
    let f = c.run_segment.new.feed in
    let after = c.run_segment.ensures in
    let given = map (member_in f.start f.degrees.now f.rows.now.rows) (take f.given f.edges.now) in
    let size = length-map (take f.given f.edges.now) (member_in f.start f.degrees.now f.rows.now.rows)
    ∙ length-take f.given f.edges.now ∙ sym c.min.ensures in
    let test = ap (λ mark. passes b.dense.now mark c.args.env.now) (sym c.mark.ensures.mark) ∙ sym c.passes.ensures
    ∙ c.if-passes.false in
    runs_on b.code.now b.split.now b.dense.now b.parts.now b.is g o.start o.degrees.now o.rows.now.rows
    c.args.members.now c.args.env.now shows c.args.place _ given _ c.args.half.now c.run_segment.new.half
    c.args.emits.now.slots.items c.run_segment.new.emits.slots.items c.run_segment.new.env test c.requires.empty
    after.env after.half after.emits after.fed (sym size)

pub returns-clause-within : goal.returns-clause-within
returns-clause-within c =
    let o = c.args.own.now in
    let f = c.run_segment.new.feed in
    let given = map (member_in f.start f.degrees.now f.rows.now.rows) (take f.given f.edges.now) in
    let within = given_within o.start o.degrees.now o.rows.now.rows c.args.members.now given _ _
    c.run_segment.ensures.fed in
    let size = length-map (take f.given f.edges.now) (member_in f.start f.degrees.now f.rows.now.rows)
    ∙ length-take f.given f.edges.now ∙ sym c.min.ensures in
    omega (arith, within, size)
