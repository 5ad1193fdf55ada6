-- The senders that are left, over the partials so far, come to the same as all over those at first.
use Rattle.vertex_work.proofs.ToldLaws.{IsTelling}
use Rattle.vertex_work.proofs.push.work_told.Given as goal

abbrev pub invariant-senders : goal.invariant-senders
invariant-senders l =
    IsTelling l.receivers l.senders l.body l.words l.initial.env l.initial.partials l.at l.earlier l.env l.partials
