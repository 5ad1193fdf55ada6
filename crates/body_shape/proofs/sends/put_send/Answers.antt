use Rattle.std.proofs.Common.{◌≡◌, ◌+◌, ◌/◌, ◌%◌, ◌^◌, List, ℕ, Result, Ok, Err, OnOk, get_or, set, subst}
use Rattle.body_shape.proofs.SendLaws.{send_more}
use Rattle.body_shape.proofs.sends.put_send.Goals as goal

on_ok : {T E : Type 0} (r : Result T E) (P : Type 0) → P → OnOk r P
on_ok (Ok x) P holds = holds
on_ok (Err e) P holds = tt

pub returns-clause-put : goal.returns-clause-put
returns-clause-put c =
    let v = c.args.vertex in
    let set_one = c.set_bit.new.push.items in
    let Sets : List ℕ → Type 0 = λ old. get_or old (c.args.vertex / 8) 0 / 2 ^ (c.args.vertex % 8) % 2 ≡ 0
    → c.set_bit.new.push.items ≡ set old (c.args.vertex / 8)
    (get_or old (c.args.vertex / 8) 0 + 2 ^ (c.args.vertex % 8)) in
    on_ok c.lay.result _
    (send_more c.args.push.now.items set_one c.lay.new.bytes.items v c.args.words.now
    (subst Sets c.reserve.ensures.items c.set_bit.ensures.set) c.lay.ensures.items)
