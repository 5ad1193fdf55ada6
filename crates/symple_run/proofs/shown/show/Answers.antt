use Rattle.std.proofs.Common.{refl, subst}
use Rattle.std.proofs.lemmas.Result.{err_from_is_err_and}
use Rattle.command_steps.specs.Leaves.{WantsAtRun}
use Rattle.edge_reader.specs.EdgeList.{Graph}
use Rattle.symple_run.specs.Played.{IsFirstWorld}
use Rattle.symple_run.proofs.ShowLaws.{show_goes, show_stops}
use Rattle.symple_run.proofs.shown.show.Goals as goal

pub returns-in_err-edges : goal.returns-in_err-edges
returns-in_err-edges g c =
    let p = err_from_is_err_and c.from_residual-in_err-edges.result c.from_residual-in_err-edges.ensures.1 in
    rw (p.1, p.2) (λ shelf input. WantsAtRun (record { same = refl; memory = refl }))

pub returns-in_err-counts : goal.returns-in_err-counts
returns-in_err-counts g c =
    let p = err_from_is_err_and c.from_residual-in_err-counts.result c.from_residual-in_err-counts.ensures.1 in
    rw (p.1, p.2) (λ shelf input. WantsAtRun (record { same = refl; memory = refl }))

pub returns-in_err-digest : goal.returns-in_err-digest
returns-in_err-digest g c =
    let p = err_from_is_err_and c.from_residual-in_err-digest.result c.from_residual-in_err-digest.ensures.1 in
    rw (p.1, p.2) (λ shelf input. WantsAtRun (record { same = refl; memory = refl }))

pub returns-in_err-put_shown : goal.returns-in_err-put_shown
returns-in_err-put_shown g c =
    let w = c.in_ok-cluster.cluster.world in
    let is_first = subst (λ (graph : Graph). IsFirstWorld g.S.Site.work c.in_ok-typed.typed.program graph
    c.args.machines 0 w) c.in_ok-edges.ensures c.in_ok-cluster.ensures.first in
    let p = err_from_is_err_and c.from_residual-in_err-put_shown.result c.from_residual-in_err-put_shown.ensures.1 in
    rw (p.1, p.2) (show_stops g.S.Site.work c.args.seed c.args.machines c.in_ok-typed.typed.program
    c.in_ok-typed.ensures w c.play_counted.new.cluster.world is_first c.in_ok-counts.counts.rounds
    c.in_ok-counts.counts.reads c.in_ok-counts.ensures.played c.in_ok-digest.digest c.in_ok-digest.ensures _ _
    c.in_err-put_shown.field-0.0 c.in_err-put_shown.ensures)

pub returns : goal.returns
returns g c =
    let w = c.in_ok-cluster.cluster.world in
    let is_first = subst (λ (graph : Graph). IsFirstWorld g.S.Site.work c.in_ok-typed.typed.program graph
    c.args.machines 0 w) c.in_ok-edges.ensures c.in_ok-cluster.ensures.first in
    show_goes g.S.Site.work c.args.seed c.args.machines c.in_ok-typed.typed.program c.in_ok-typed.ensures w
    c.play_counted.new.cluster.world is_first c.in_ok-counts.counts.rounds c.in_ok-counts.counts.reads
    c.in_ok-counts.ensures.played c.in_ok-digest.digest c.in_ok-digest.ensures _ _ c.in_ok-put_shown.ensures
