use Rattle.std.proofs.Common.{ℕ, [], take}
use Rattle.delivery_log.specs.Records.{Records}
use Rattle.symple_run.proofs.recording.add_all.Given as goal

-- the events so far were added
abbrev pub invariant-events : goal.invariant-events
invariant-events l = (machines : ℕ) → Records l.fn.recorder machines [] →
    Records l.recorder machines (take l.event-index l.events)
