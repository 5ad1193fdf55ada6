use Rattle.std.proofs.Common.{◌∙◌, List, ℕ, Option, String, sym, ap}
use Rattle.std.specs.Global.{Global}
use Rattle.std.specs.Prelude.{option_map}
use Rattle.std.specs.String.{string_bytes}
use Rattle.command_steps.specs.Commands.{asked, image_order}
use Rattle.symple_run.specs.Played.{IsPlayed}
use Rattle.command_steps.proofs.WalkLaws.{as_order}
use Rattle.symple_words.specs.Lines.{RunOf}
use Rattle.symple_words.specs.Views.{job_view}
use Rattle.symple_run.proofs.top.run_line.Goals as goal

pub returns-in-None-clause-order : goal.returns-in-None-clause-order
returns-in-None-clause-order g c =
    λ input. as_order (IsPlayed g.S.Site.work) _ _ _ _ _
    (ap (λ (image : Option (String Global)).
    asked (RunOf (job_view c.args.job.now) c.args.machines (option_map (λ name. string_bytes name) image)))
    (sym c.in-None.is)) (c.run.ensures.order input)

pub returns-in-Some-clause-order : goal.returns-in-Some-clause-order
returns-in-Some-clause-order g c =
    let job = job_view c.args.job.now in
    λ input. as_order (IsPlayed g.S.Site.work) _ _ _ _ _
    (ap (λ (name : List ℕ). image_order job c.args.machines name) c.deref.ensures
    ∙ ap (λ (image : Option (String Global)).
    asked (RunOf job c.args.machines (option_map (λ name. string_bytes name) image))) (sym c.in-Some.is))
    (c.run_imaged.ensures.order input)
