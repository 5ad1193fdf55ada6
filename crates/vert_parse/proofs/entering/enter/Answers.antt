use Rattle.std.proofs.Common.{◌≡◌, true, false, refl, sym, ◌∙◌}
use Rattle.std.specs.String.{string_bytes}
use Rattle.std.specs.Str.{bytes_eq}
use Rattle.vert_parse.specs.Entered.{is_entered}
use Rattle.vert_parse.proofs.Adding.{enter_old, inserted}
use Rattle.vert_parse.proofs.entering.enter.Goals as goal

pub returns-then-contains-clause-entered : goal.returns-then-contains-clause-entered
returns-then-contains-clause-entered c =
    let e : is_entered c.args.used.now.keys c.text_of-text.result.now ≡ true = sym c.contains.ensures
    ∙ c.if-contains.true in
    rw (← c.text_of-text.ensures) (sym (enter_old c.args.used.now.keys c.text_of-text.result.now e))

pub returns-clause-entered : goal.returns-clause-entered
returns-clause-entered c =
    let e : is_entered c.args.used.now.keys c.text_of-text.result.now ≡ false = sym c.contains.ensures
    ∙ c.if-contains.false in
    rw (← c.text_of-text.ensures) (inserted c.args.used.now.keys c.text_of-text.result.now c.in_ok-copy.copy (λ a b.
    bytes_eq (string_bytes a) (string_bytes b)) c.insert.new.self.keys (λ k. refl) e c.in_ok-copy.ensures.ok
    c.in_ok-insert.ensures.keys)
