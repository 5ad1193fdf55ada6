-- The lets have their own words, and then those for the tail.
use Rattle.std.proofs.Common.{◌≡◌, length, ap, ◌∙◌, arith}
use Rattle.carry_analysis.specs.Classes.{body_marks}
use Rattle.vert_eval.specs.declared.environment.Env.{Env}
use Rattle.instrument.proofs.TypedLaws.{length-let_classes}
use Rattle.vertex_work.proofs.TailLaws.{lets_closed}
use Rattle.vertex_work.proofs.tail.close_lets.Goals as goal

pub close_words-requires : goal.close_words-requires
close_words-requires c =
    let d = c.args.dense.now in
    let classes : length c.as_slice.result.now ≡ length d.lets.items =
    ap length c.as_slice.ensures.value ∙ ap (λ s. length s.classes.locals.items) c.requires.split
    ∙ length-let_classes 0 d.lets.items (body_marks d.body.items) in
    let words = ap (λ k. k.locals) c.add_lets.ensures.counts in
    let none = ap length c.clear.ensures in
    let lets = ap length c.deref.ensures.value in
    record { each = omega (arith, classes, words, none, lets) }

pub returns-clause-env : goal.returns-clause-env
returns-clause-env c =
    let d = c.args.dense.now in
    let env = c.args.env.now in
    lets_closed d c.deref.result.now c.args.carried.now c.args.lets.now c.as_slice.result.now env _ c.add_lets.new.env
    c.close_words.new.words.items
    (ap (λ ws. let e : Env = record env { locals = record { items = ws } } in e) c.clear.ensures)
    c.deref.ensures.value c.add_lets.ensures.lets
    (c.as_slice.ensures.value ∙ ap (λ s. s.classes.locals.items) c.requires.split) c.close_words.ensures.items
