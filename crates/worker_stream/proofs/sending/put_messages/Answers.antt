-- A message of which a part was written.
use Rattle.worker_stream.proofs.SentLaws.{sends_here}
use Rattle.worker_stream.proofs.sending.put_messages.Goals as goal

pub returns-in-Err : goal.returns-in-Err
returns-in-Err g c =
    sends_here c.args.messages.now c.loop-msg.msg-index c.msg-item.result _ c.in-Err.fault c.loop-msg-test.true
    c.msg-item.is c.loop-msg.invariant c.in-Err.ensures
