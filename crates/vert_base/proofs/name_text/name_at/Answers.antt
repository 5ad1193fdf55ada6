use Rattle.std.proofs.Common.{ap, arith, [], ◌++◌, length}
use Rattle.std.specs.Prelude.{decimal}
use Rattle.std.proofs.lemmas.Bool.Decides.{nat_tests}
use Rattle.vert_base.specs.NameTexts.{number_text}
use Rattle.vert_base.proofs.TextLaws.{behind_text, from_behind, same_parts, space_ends}
use Rattle.vert_base.proofs.name_text.name_at.Goals as goal

pub returns-in_err-step-clause-found : goal.returns-in_err-step-clause-found
returns-in_err-step-clause-found c = λ x is kind round e.
    let parts = from_behind x c.args.kind c.args.text.now is kind e in
    absurd (c.in_err-step.ensures.found x.step x.half (behind_text x) is.step is.half
    (space_ends (decimal x.from ++ (number_text x.to ++ []))) parts.0 parts.1)

pub returns-in_err-from-clause-found : goal.returns-in_err-from-clause-found
returns-in_err-from-clause-found c = λ x is kind round e.
    let parts = from_behind x c.args.kind c.args.text.now is kind e in
    let steps = c.in_ok-step.ensures.found x.step x.half (behind_text x) is.step is.half
    (space_ends (decimal x.from ++ (number_text x.to ++ []))) parts.0 parts.1 in
    absurd (c.in_err-from.ensures.found x.from (number_text x.to ++ []) is.from (space_ends (decimal x.to ++ []))
    steps.2)

pub returns-in_err-to-clause-found : goal.returns-in_err-to-clause-found
returns-in_err-to-clause-found c = λ x is kind round e.
    let parts = from_behind x c.args.kind c.args.text.now is kind e in
    let steps = c.in_ok-step.ensures.found x.step x.half (behind_text x) is.step is.half
    (space_ends (decimal x.from ++ (number_text x.to ++ []))) parts.0 parts.1 in
    let from = c.in_ok-from.ensures.found x.from (number_text x.to ++ []) is.from (space_ends (decimal x.to ++ []))
    steps.2 in
    absurd (c.in_err-to.ensures.found x.to [] is.to tt from.1)

pub returns-then-not-is_empty-clause-found : goal.returns-then-not-is_empty-clause-found
returns-then-not-is_empty-clause-found c = λ x is kind round e.
    let parts = from_behind x c.args.kind c.args.text.now is kind e in
    let steps = c.in_ok-step.ensures.found x.step x.half (behind_text x) is.step is.half
    (space_ends (decimal x.from ++ (number_text x.to ++ []))) parts.0 parts.1 in
    let from = c.in_ok-from.ensures.found x.from (number_text x.to ++ []) is.from (space_ends (decimal x.to ++ []))
    steps.2 in
    let to = c.in_ok-to.ensures.found x.to [] is.to tt from.1 in
    let none = ap length to.1 in
    absurd (grind (arith, nat_tests, none, c.if-not-is_empty.ensures))

pub returns-clause-found : goal.returns-clause-found
returns-clause-found c = λ x is kind round e.
    let parts = from_behind x c.args.kind c.args.text.now is kind e in
    let steps = c.in_ok-step.ensures.found x.step x.half (behind_text x) is.step is.half
    (space_ends (decimal x.from ++ (number_text x.to ++ []))) parts.0 parts.1 in
    let from = c.in_ok-from.ensures.found x.from (number_text x.to ++ []) is.from (space_ends (decimal x.to ++ []))
    steps.2 in
    let to = c.in_ok-to.ensures.found x.to [] is.to tt from.1 in
    same_parts x c.args.kind c.args.round c.in_ok-step.step c.in_ok-step.half c.in_ok-from.from c.in_ok-to.to kind
    round steps.0 steps.1 from.0 to.0
