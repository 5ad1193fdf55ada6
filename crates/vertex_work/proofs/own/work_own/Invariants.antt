-- The senders that are left, over the partials so far, come to the same as all over those at first.
use Rattle.vertex_work.proofs.OwnLaws.{IsSending}
use Rattle.vertex_work.proofs.own.work_own.Given as goal

abbrev pub invariant-loop-span : goal.invariant-loop-span
invariant-loop-span l =
    IsSending l.sparse l.receivers l.senders l.initial.env l.initial.partials l.span-index l.env l.partials
