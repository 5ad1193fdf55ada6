use Rattle.std.proofs.Common.{◌≡◌, ◌∙◌, ap, sym, get_or}
use Rattle.vert_base.specs.NameTexts.{kind_text}
use Rattle.vert_base.proofs.TextLaws.{first_letter, word_there}
use Rattle.vert_base.proofs.name_text.kind_at.Goals as goal

pub returns-in_err-kind-clause-found : goal.returns-in_err-kind-clause-found
returns-in_err-kind-clause-found c = λ kind rest e.
    let none = c.in_err-kind.ensures kind (sym (first_letter kind rest) ∙ ap (λ t. get_or t 0 0) (sym e)) in
    absurd (cc)

pub returns-in_err-rest-clause-found : goal.returns-in_err-rest-clause-found
returns-in_err-rest-clause-found c = λ kind rest e.
    let found = c.in_ok-kind.ensures kind (sym (first_letter kind rest) ∙ ap (λ t. get_or t 0 0) (sym e)) in
    let same : c.in_ok-kind.kind ≡ kind = cc in
    absurd (word_there c.args.text.now c.word.result.now kind rest e (c.word.ensures ∙ ap kind_text same)
    c.in_err-rest.ensures.cases)
