use Rattle.std.proofs.Common.{◌∙◌, ap, arith, Some}
use Rattle.std.proofs.lemmas.Bool.Decides.{nat_tests}
use Rattle.vert_base.proofs.TextLaws.{no_decimal, no_zeros, spelled_value, value_of_decimal}
use Rattle.vert_base.proofs.name_text.number_in.Goals.{then-is_empty-via-then-is_empty, then-is_empty-via-else-is_empty+then-word-eq48, then-word-gt1, else-word-gt1}
use Rattle.vert_base.proofs.name_text.number_in.Goals as goal

pub returns-then-is_empty-clause-found : goal.returns-then-is_empty-clause-found
returns-then-is_empty-clause-found c = λ number small e.
    elim c.then-is_empty.branch [
      | then-is_empty-via-then-is_empty w ↦ absurd
          (no_decimal _ number small e (grind (arith, nat_tests, w.if-is_empty.ensures)))
      | then-is_empty-via-else-is_empty+then-word-eq48 w ↦
          elim w.if-word-gt1.branch [
            | then-word-gt1 v ↦ absurd (no_zeros _ number small e v.if-word-gt1.true
                (grind (arith, nat_tests, v.value-is, w.if-word-eq48.true)))
            | else-word-gt1 v ↦ grind (arith, v.value-is, w.if-word-eq48.true)
          ]
    ]

pub returns-clause-spelled : goal.returns-clause-spelled
returns-clause-spelled c =
    spelled_value c.args.word.now c.value_of.result (grind (arith, nat_tests, c.if-is_empty.ensures))
    (λ lead. elim c.if-word-gt1.branch [
      | then-word-gt1 v ↦ grind (arith, nat_tests, v.value-is, c.if-word-eq48.false)
      | else-word-gt1 v ↦ grind (arith, nat_tests, v.if-word-gt1.false, c.if-is_empty.ensures)
    ])
    c.value_of.ensures.value

pub returns-clause-found : goal.returns-clause-found
returns-clause-found c = λ number small e.
    let value = value_of_decimal c.args.word.now number small e in
    c.value_of.ensures.found value.0 (omega (arith, value.1, small)) ∙ ap Some value.1
