use Rattle.std.proofs.Common.{◌∙◌, sym, ap, subst, List, lit<}
use Rattle.vert_base.specs.Letters.{Letter, found}
use Rattle.vert_base.proofs.LetterLaws.{taken_none}
use Rattle.double_buffer.specs.Held.{AreOfRound, Held, with_letter}
use Rattle.double_buffer.proofs.BufferLaws.{of_round_without}
use Rattle.double_buffer.specs.Taking.{CanTake}
use Rattle.machine_steps.proofs.HeldLaws.{dropped, not_held}
use Rattle.machine_steps.proofs.held.drop_body.Goals as goal
use Rattle.state_laws.specs.Letters.{bare}
use Rattle.state_laws.proofs.Options.{none_found}

pub mark-requires : goal.mark-requires
mark-requires c =
    let x = c.args.name.now in
    let rest = sym c.lift-body.ensures.rest in (
      lit< tt,
      (
        subst (λ (h : Held). CanTake h.machines x) rest c.requires.one,
        (
          ap (λ (h : Held). found x h.letters) c.lift-body.ensures.rest
              ∙ taken_none x c.args.held.now.letters c.has.ensures.order,
          subst (λ (h : Held). AreOfRound x.round x.to h.letters) rest
              (of_round_without x.round x.to x c.args.held.now.letters c.requires.together),
        ),
      ),
    )

pub returns-then-has : goal.returns-then-has
returns-then-has c =
    let x = c.args.name.now in
    let held = c.args.held.now in
    c.mark.ensures
    ∙ ap (with_letter (bare x)) c.lift-body.ensures.rest
    ∙ ap (λ (ms : List Letter). record held { letters = ms })
    (dropped x held.letters c.has.ensures.order (sym c.has.ensures.has ∙ c.if-has.true))

pub returns-else-has : goal.returns-else-has
returns-else-has c =
    let x = c.args.name.now in
    let held = c.args.held.now in
    let none = none_found (found x held.letters) (sym c.has.ensures.has ∙ c.if-has.false) in
    ap (λ (ms : List Letter). record held { letters = ms }) (sym (not_held x held.letters none))
