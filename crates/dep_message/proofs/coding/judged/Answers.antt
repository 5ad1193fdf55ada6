use Rattle.std.proofs.Common.{sym, ap, ◌∙◌, Some, arith}
use Rattle.dep_message.specs.declared.header.Header.{Header}
use Rattle.dep_message.specs.Messages.{forms_of, refusal_of_named}
use Rattle.dep_message.proofs.MessageLaws.{IsWhole, refusal_of-named, behind_header}
use Rattle.dep_message.proofs.coding.judged.Goals as goal

pub returns-in-None-fault_of-clause-accepted : goal.returns-in-None-fault_of-clause-accepted
returns-in-None-fault_of-clause-accepted c =
    let bytes = c.args.bytes.now in
    let forms = forms_of c.args.part.now in
    let read = c.read-header.ensures in
    let whole : IsWhole c.args.bytes.now =
    record { long = omega arith; size = omega (arith, ap (λ (h : Header). h.size) read) } in
    refusal_of-named forms bytes c.in-Some.name whole (ap (λ (h : Header). h.name) (sym read) ∙ c.in-Some.is)
    ∙ ap (λ body. refusal_of_named forms (Some c.in-Some.name) body) (sym (behind_header bytes))
    ∙ sym c.fault_of.ensures ∙ c.in-None-fault_of.is

pub returns-in-Some-fault_of-clause-refused : goal.returns-in-Some-fault_of-clause-refused
returns-in-Some-fault_of-clause-refused c =
    let bytes = c.args.bytes.now in
    let forms = forms_of c.args.part.now in
    let read = c.read-header.ensures in
    let whole : IsWhole c.args.bytes.now =
    record { long = omega arith; size = omega (arith, ap (λ (h : Header). h.size) read) } in
    refusal_of-named forms bytes c.in-Some.name whole (ap (λ (h : Header). h.name) (sym read) ∙ c.in-Some.is)
    ∙ ap (λ body. refusal_of_named forms (Some c.in-Some.name) body) (sym (behind_header bytes))
    ∙ sym c.fault_of.ensures ∙ c.in-Some-fault_of.is
