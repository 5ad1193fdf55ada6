-- The messages so far were written.
use Rattle.std.proofs.Common.{Ok, map, take}
use Rattle.vert_base.specs.Letters.{letter_of}
use Rattle.worker_stream.specs.Sent.{Sends, spelled_letters}
use Rattle.worker_stream.proofs.sending.put_messages.Given as goal

abbrev pub invariant-loop-msg : goal.invariant-loop-msg
invariant-loop-msg g l = Sends g.O.Sink.held g.O.Sink.faults g.O.Sink.spare l.fn.out l.out
    (spelled_letters (map letter_of (take l.msg-index l.messages))) (Ok tt)
