use Rattle.std.proofs.Common.{Bool, ap, sym}
use Rattle.command_steps.specs.Commands.{asked}
use Rattle.command_steps.proofs.WalkLaws.{as_order}
use Rattle.symple_run.specs.Played.{IsPlayed}
use Rattle.symple_words.specs.Lines.{RecordOf}
use Rattle.symple_words.specs.Views.{job_view}
use Rattle.symple_run.proofs.top.record_line.Goals as goal

pub returns-then-lossy-clause-order : goal.returns-then-lossy-clause-order
returns-then-lossy-clause-order g c = λ input.
    as_order (IsPlayed g.S.Site.work) _ _ _ _ _
    (ap (λ (lossy : Bool). asked (RecordOf (job_view c.args.job.now) c.args.schedule.now c.args.machines c.args.seed
    lossy)) (sym c.if-lossy.true))
    (c.record_over_links.ensures.order input)

pub returns-clause-order : goal.returns-clause-order
returns-clause-order g c = λ input.
    as_order (IsPlayed g.S.Site.work) _ _ _ _ _
    (ap (λ (lossy : Bool). asked (RecordOf (job_view c.args.job.now) c.args.schedule.now c.args.machines c.args.seed
    lossy)) (sym c.if-lossy.false))
    (c.record.ensures.order input)
