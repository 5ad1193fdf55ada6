use Rattle.std.proofs.Common.{Err, refl, subst}
use Rattle.delivery_log.specs.declared.fault.ScheduleFault.{ScheduleFault}
use Rattle.delivery_log.specs.declared.fault.ScheduleFault.TheVariants.{Line, TooLong}
use Rattle.delivery_log.specs.Says.{Gives}
use Rattle.symple_run.specs.FileWalks.{BadText}
use Rattle.symple_run.proofs.schedules.told_events.Goals as goal

pub returns-in-Err-Line : goal.returns-in-Err-Line
returns-in-Err-Line c = (
  BadText (Line c.in-Err-Line.line) (λ e. cc)
      (subst (λ (why : ScheduleFault). Gives c.args.text.now (Err why)) c.in-Err-Line.field-0-is
      c.in-Err-Line.ensures) refl,
  λ e. cc,
)

pub returns-in-Err-TooLong : goal.returns-in-Err-TooLong
returns-in-Err-TooLong c = (
  BadText TooLong (λ e. cc)
      (subst (λ (why : ScheduleFault). Gives c.args.text.now (Err why)) c.in-Err-TooLong.field-0-is
      c.in-Err-TooLong.ensures) refl,
  λ e. cc,
)
