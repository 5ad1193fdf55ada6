-- A vertex sends its words, or nothing.
use Rattle.std.proofs.Common.{None, Some, cond, ap, sym, ◌∙◌}
use Rattle.vert_eval.specs.Rounds.{sent_by}
use Rattle.machine_parts.proofs.SendingLaws.{on_ok_more, tells_none, tells_words}
use Rattle.machine_parts.proofs.sends.tell.Goals as goal

pub returns-then-sends : goal.returns-then-sends
returns-then-sends c =
    let words = sent_by c.args.sparse.now c.args.env.now in
    let told = ap (λ b. cond b (Some words) None) (sym c.sends.ensures ∙ c.if-sends.true)
    ∙ ap Some (sym (c.as_slice.ensures.value ∙ c.sent_words.ensures)) in
    on_ok_more c.put_send.result _ _
    (tells_words c.args.body.now.items c.put_send.new.push.items c.args.at c.as_slice.result.now _ told)
    c.put_send.ensures.put

pub returns-else-sends : goal.returns-else-sends
returns-else-sends c =
    let words = sent_by c.args.sparse.now c.args.env.now in
    tells_none c.args.body.now.items c.args.at _ (ap (λ b. cond b (Some words) None) (sym c.sends.ensures ∙
    c.if-sends.false))
