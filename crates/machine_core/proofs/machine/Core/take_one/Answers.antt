use Rattle.vert_base.specs.declared.message.NameKind.TheVariants.{Refresh}
use Rattle.vert_base.specs.Letters.{letter_of}
use Rattle.machine_core.specs.CoreState.{core_state}
use Rattle.machine_core.proofs.TakeLaws.{taken_by}
use Rattle.machine_core.proofs.machine.Core.take_one.Goals as goal

pub keep-requires-clause-same : goal.keep-requires-clause-same
keep-requires-clause-same c =
    taken_by (core_state c.args.self.now) (letter_of c.args.msg) Refresh c.in-Refresh.is
