use Rattle.std.proofs.Common.{◌∙◌, length, map, ap, sym, arith}
use Rattle.std.proofs.lemmas.List.{length-map}
use Rattle.vert_tree.specs.declared.program.Program.{Program}
use Rattle.vert_tree.proofs.TypedLaws.{few_totals, totals_placed}
use Rattle.machine_parts.specs.Counting.{own_total}
use Rattle.symple_face.specs.PartViews.{plain_of}
use Rattle.machine_steps.proofs.CountedLaws.{edges_counted, placed_counts, totals_counted}
use Rattle.vertex_work.proofs.KnownLaws.{own_in}
use Rattle.machine_steps.proofs.counting.counted.Goals as goal

pub own_totals-requires-clause-few : goal.own_totals-requires-clause-few
own_totals-requires-clause-few c =
    let typed = c.args.ground.now.part.split.value.program in
    let few = few_totals typed.program typed.typed in
    let all = ap length c.deref.ensures.value ∙ ap (λ (p : Program). length p.totals.items) c.program.ensures in
    omega (arith, few, all)

pub own_totals-requires-clause-each : goal.own_totals-requires-clause-each
own_totals-requires-clause-each c =
    c.degrees-degrees.ensures.each
    ∙ ap length (own_in (plain_of c.args.ground.now.part) c.machine.result c.machine.ensures.number)
    ∙ sym c.requires.count

pub own_totals-requires-clause-names : goal.own_totals-requires-clause-names
own_totals-requires-clause-names c =
    let typed = c.args.ground.now.part.split.value.program in
    let env = c.new_env-env.result in
    placed_counts typed.program c.deref.result.now c.args.rows.now.width env
    (c.deref.ensures.value ∙ ap (λ (p : Program). p.totals.items) c.program.ensures) c.requires.width
    c.new_env-env.ensures.slots c.new_env-env.ensures.totals (totals_placed typed.program typed.typed)

pub returns-clause-counted : goal.returns-clause-counted
returns-clause-counted c =
    let part = plain_of c.args.ground.now.part in
    let p = c.args.ground.now.part.split.value.program.program in
    let rows = c.args.rows.now.rows in
    let degrees = c.degrees-degrees.result.now in
    let env = c.new_env-env.result in
    let is_n = c.new_env-env.ensures.n ∙ c.setting.ensures.vertices in
    let is_round = c.new_env-env.ensures.round ∙ c.setting.ensures.round in
    let is_draws = c.new_env-env.ensures.draws ∙ c.setting.ensures.draws in
    let edges = c.edges_ahead.ensures
    ∙ edges_counted part rows degrees c.args.round c.machine.result c.start.result env c.machine.ensures.number
    c.start.ensures.start c.requires.count c.degrees-degrees.ensures is_n is_round is_draws
    c.new_env-env.ensures.totals c.new_env-env.ensures.slots in
    let totals = c.own_totals.ensures
    ∙ ap (map (own_total rows degrees c.start.result env))
    (c.deref.ensures.value ∙ ap (λ (p : Program). p.totals.items) c.program.ensures)
    ∙ totals_counted part rows degrees c.args.round c.machine.result c.start.result env c.machine.ensures.number
    c.start.ensures.start c.requires.count c.degrees-degrees.ensures is_n is_round is_draws
    c.new_env-env.ensures.totals c.new_env-env.ensures.slots p.totals.items in
    λ j. record { active = c.active_rows.ensures.active j; edges = edges j; reads = c.args.reads; totals = totals j }

pub returns-clause-each : goal.returns-clause-each
returns-clause-each c =
    ap length c.own_totals.ensures
    ∙ length-map c.deref.result.now (own_total c.args.rows.now.rows c.degrees-degrees.result.now c.start.result
    c.new_env-env.result)
    ∙ ap length c.deref.ensures.value ∙ ap (λ (p : Program). length p.totals.items) c.program.ensures
