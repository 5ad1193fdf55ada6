use Rattle.std.proofs.Common.{◌∙◌, sym, false}
use Rattle.vert_base.specs.Letters.{letter_of}
use Rattle.machine_core.specs.CoreState.{core_state}
use Rattle.machine_core.proofs.TakeLaws.{push_by}
use Rattle.machine_core.proofs.machine.Core.work.Goals as goal

pub keep-requires-clause-same : goal.keep-requires-clause-same
keep-requires-clause-same c =
    push_by (core_state c.args.self.now) (letter_of c.args.msg) false c.requires.kind
    (sym c.knows.ensures ∙ c.if-knows.false)
