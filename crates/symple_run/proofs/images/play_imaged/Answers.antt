use Rattle.std.proofs.lemmas.Result.{err_from_is_err_and}
use Rattle.command_steps.specs.Commands.{play_of}
use Rattle.command_steps.specs.States.{shelf_state}
use Rattle.edge_reader.specs.Gives.{graph_of_edges}
use Rattle.symple_run.proofs.ImageLaws.{imaged_ends, imaged_plays, imaged_table_stops}
use Rattle.symple_words.specs.Views.{job_view}
use Rattle.symple_run.proofs.images.play_imaged.Goals as goal

pub returns-in_err-play_out_imaged-clause-task : goal.returns-in_err-play_out_imaged-clause-task
returns-in_err-play_out_imaged-clause-task g c =
    let keyed = c.args.keyed in
    let play = play_of (job_view c.args.job.now) c.args.machines keyed.typed.program (graph_of_edges keyed.edges) in
    let p = err_from_is_err_and c.from_residual-in_err-play_out_imaged.result
    c.from_residual-in_err-play_out_imaged.ensures.1 in
    rw (p.1, p.2) (λ origin same input. imaged_plays g.S.Site.work play origin keyed.key c.args.image.now
    c.in_ok-cluster.cluster.world c.in_ok-cluster.ensures.first same _ _ _ _ _ c.in_err-play_out_imaged.ensures.err
    input)

pub returns-in_err-put_table-clause-task : goal.returns-in_err-put_table-clause-task
returns-in_err-put_table-clause-task g c =
    let keyed = c.args.keyed in
    let play = play_of (job_view c.args.job.now) c.args.machines keyed.typed.program (graph_of_edges keyed.edges) in
    let shelf = shelf_state g.H.Shelf.files g.H.Shelf.loads g.H.Shelf.stores c.play_out_imaged.new.shelf in
    let p = err_from_is_err_and c.from_residual-in_err-put_table.result c.from_residual-in_err-put_table.ensures.1 in
    rw (p.1, p.2) (λ origin same input. imaged_plays g.S.Site.work play origin keyed.key c.args.image.now
    c.in_ok-cluster.cluster.world c.in_ok-cluster.ensures.first same _ _ _ _ _
    (c.in_ok-play_out_imaged.ensures.ok _ _ _
    (imaged_table_stops g.S.Site.work c.args.job.now.lines keyed.key c.args.image.now
    c.play_out_imaged.new.cluster.world shelf _ _ c.in_err-put_table.field-0.0 c.in_ok-play_out_imaged.ensures.finished
    c.in_err-put_table.ensures)) input)

pub returns-clause-task : goal.returns-clause-task
returns-clause-task g c =
    let keyed = c.args.keyed in
    let play = play_of (job_view c.args.job.now) c.args.machines keyed.typed.program (graph_of_edges keyed.edges) in
    let shelf = shelf_state g.H.Shelf.files g.H.Shelf.loads g.H.Shelf.stores c.play_out_imaged.new.shelf in
    λ origin same input. imaged_plays g.S.Site.work play origin keyed.key c.args.image.now
    c.in_ok-cluster.cluster.world c.in_ok-cluster.ensures.first same _ _ _ _ _
    (c.in_ok-play_out_imaged.ensures.ok _ _ _
    (imaged_ends g.S.Site.work c.args.job.now.lines keyed.key c.args.image.now
    c.play_out_imaged.new.cluster.world shelf _ _ c.in_ok-play_out_imaged.ensures.finished
    c.in_ok-put_table.ensures)) input
