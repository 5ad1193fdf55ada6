-- The senders of a chunk are worked.
use Rattle.std.proofs.Common.{ℕ, ap, subst, sym}
use Rattle.flat_table.specs.Grids.{Rows}
use Rattle.slot_merge.specs.declared.partial.Partial.{Partial}
use Rattle.vertex_work.specs.Pushing.{CanReceive}
use Rattle.machine_steps.proofs.WorkingLaws.{chunk_worked, ground_senders, still_works}
use Rattle.machine_steps.proofs.begin.work_chunk.Goals as goal

pub work_told-requires : goal.work_told-requires
work_told-requires c = record {
  senders = ground_senders c.args.ground.now c.args.receivers.now c.requires.can.receiving c.args.from
      c.senders_of-senders.result.now c.senders_of-senders.ensures;
  words = c.sent_count.ensures.few;
  can = subst (λ (n : ℕ). CanReceive c.args.receivers.now n c.args.env.now c.args.partials.now)
      (sym c.sent_count.ensures.count) c.requires.can.can;
}

pub returns : goal.returns
returns c = record {
  worked = chunk_worked c.args.ground.now c.args.receivers.now c.requires.can.receiving c.args.env.now
      c.requires.can.numbers
      c.args.from c.sent_count.result c.senders_of-senders.result.now c.args.body.now c.args.partials.now
      c.work_told.new.partials c.requires.from c.requires.other c.senders_of-senders.ensures
      c.sent_count.ensures.count c.work_told.ensures.added;
  width = ap (λ (t : Rows Partial). t.width) c.work_told.ensures.added;
  settled = c.work_told.ensures.settled;
  can = still_works c.args.ground.now c.args.receivers.now c.args.env.now c.work_told.new.env c.args.partials.now
      c.work_told.new.partials c.requires.can c.work_told.ensures.settled
      (subst (λ (n : ℕ). CanReceive c.args.receivers.now n c.work_told.new.env c.work_told.new.partials)
      c.sent_count.ensures.count c.work_told.ensures.can);
}
