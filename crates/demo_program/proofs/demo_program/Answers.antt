use Rattle.std.proofs.Common.{◌≡◌, List, ℕ, Result, Ok, Err, ap, subst, ◌∙◌}
use Rattle.program_reader.specs.declared.refusal.ProgramFault.{ProgramFault}
use Rattle.program_reader.specs.declared.refusal.ProgramFault.TheVariants.{Refused}
use Rattle.program_reader.specs.Accepted.{Refuses, Says}
use Rattle.program_reader.specs.Answers.{ReadsProgram}
use Rattle.vert_tree.specs.declared.typed.Typed.{Typed}
use Rattle.demo_program.specs.DemoText.{demo_text}
use Rattle.demo_program.proofs.Computed.{demo_is_accepted}
use Rattle.demo_program.proofs.demo_program.Goals as goal

pub unreachable-requires : goal.unreachable-requires
unfolding demo_text
unreachable-requires c =
    let same : c.as_bytes.result.now ≡ demo_text = c.as_bytes.ensures.value in
    let refusal = c.in-Err-Refused.field-0-0 in
    let refused : c.read_program.result ≡ Err (Refused refusal) =
    c.in-Err-Refused.is ∙ ap (λ (f : ProgramFault). Err f) c.in-Err-Refused.field-0-is in
    let read : ReadsProgram c.as_bytes.result.now (Err (Refused refusal)) =
    subst (λ (r : Result Typed ProgramFault). ReadsProgram c.as_bytes.result.now r) refused c.read_program.ensures in
    c.accepted_once.ensures.unrefused demo_text refusal demo_is_accepted
    (subst (λ (text : List ℕ). Refuses text refusal) same read)

pub returns-in-Ok : goal.returns-in-Ok
unfolding demo_text
returns-in-Ok c =
    let same : c.as_bytes.result.now ≡ demo_text = c.as_bytes.ensures.value in
    let read : ReadsProgram c.as_bytes.result.now (Ok c.in-Ok.typed) =
    subst (λ (r : Result Typed ProgramFault). ReadsProgram c.as_bytes.result.now r) c.in-Ok.is c.read_program.ensures in
    subst (λ (text : List ℕ). Says text c.in-Ok.typed.program) same read
