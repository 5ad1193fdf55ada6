use Rattle.std.proofs.Common.{Ok, Option, refl, subst}
use Rattle.delivery_log.specs.declared.fault.ScheduleFault.TheVariants.{Header}
use Rattle.delivery_log.specs.declared.form.Schedule.{Schedule}
use Rattle.symple_run.specs.FileWalks.{BadText, TellsEvents}
use Rattle.symple_run.proofs.schedules.judged.Goals as goal

pub returns-in-Ok-None : goal.returns-in-Ok-None
returns-in-Ok-None c = BadText Header (λ e. cc)
    (subst (λ (told : Option Schedule). TellsEvents c.args.text.now (Ok told)) c.in-Ok-None.field-0-is
    c.in-Ok-None.ensures) refl

pub returns-in-Err : goal.returns-in-Err
returns-in-Err c = c.in-Err.ensures.0
