use Rattle.std.proofs.Common.{Some, sym, ap, ◌∙◌, drop, arith}
use Rattle.vert_base.specs.HeaderBytes.{spelled_message}
use Rattle.dep_message.specs.Messages.{forms_of, refusal_of_named}
use Rattle.dep_message.proofs.MessageLaws.{behind_header, once_law, read_from_accepted}
use Rattle.dep_message.proofs.coding.decode.Goals as goal

pub returns-in-Ok-from_slice-clause-spelled : goal.returns-in-Ok-from_slice-clause-spelled
returns-in-Ok-from_slice-clause-spelled c =
    let bytes = c.args.bytes.now in
    let found = c.in-Ok.ensures in
    let read = read_from_accepted (forms_of c.args.part.now) bytes c.in-Ok.name (λ i.
    omega (arith, c.type_inv.bytes i)) found.accepted found.name in
    let body = c.in-Ok-from_slice.ensures.items ∙ behind_header bytes in
    ap (λ b. spelled_message c.in-Ok.name b) body ∙ read.spelled

pub returns-in-Ok-from_slice-clause-only : goal.returns-in-Ok-from_slice-clause-only
returns-in-Ok-from_slice-clause-only c = λ x others spelling same.
    let bytes = c.args.bytes.now in
    let found = c.in-Ok.ensures in
    let read = read_from_accepted (forms_of c.args.part.now) bytes c.in-Ok.name (λ i.
    omega (arith, c.type_inv.bytes i)) found.accepted found.name in
    let body = c.in-Ok-from_slice.ensures.items ∙ behind_header bytes in
    let both = once_law x c.in-Ok.name others (drop 13 bytes) spelling read.has_spelling (same ∙ sym read.spelled) in
    (both.0, both.1 ∙ sym body)

pub returns-in-Ok-from_slice-clause-fits : goal.returns-in-Ok-from_slice-clause-fits
returns-in-Ok-from_slice-clause-fits c =
    let bytes = c.args.bytes.now in
    let forms = forms_of c.args.part.now in
    let found = c.in-Ok.ensures in
    let read = read_from_accepted forms bytes c.in-Ok.name (λ i. omega (arith, c.type_inv.bytes i)) found.accepted
    found.name in
    let body = c.in-Ok-from_slice.ensures.items ∙ behind_header bytes in
    ap (λ b. refusal_of_named forms (Some c.in-Ok.name) b) body ∙ read.judged
