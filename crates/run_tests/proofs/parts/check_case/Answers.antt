use Rattle.std.proofs.Common.{List, ℕ, subst, sym}
use Rattle.std.specs.List.{All}
use Rattle.instrument.specs.declared.split.Split.{Split}
use Rattle.program_reader.specs.Accepted.{Says}
use Rattle.symple_face.specs.declared.part.Part.{Part}
use Rattle.vert_tree.specs.declared.typed.Typed.{Typed}
use Rattle.run_tests.proofs.parts.check_case.Goals as goal

pub check_part-requires : goal.check_part-requires
check_part-requires g c =
    subst (λ (text : List ℕ). Says text c.part-item.result.split.value.program.program) (sym c.as_bytes.ensures.value)
    (subst (λ (part : Part). Says c.args.case.now.program.now part.split.value.program.program) (sym c.part-item.is)
    (c.parts.invariant c.parts.part-index c.part-item.result c.parts-test.true))

pub parts-init : goal.parts-init
parts-init g c =
    let text = c.args.case.now.program.now in
    let said = subst (λ (typed : Typed). Says text typed.program) (sym c.split_of-split.ensures)
    c.in_ok-typed_of.ensures in
    subst (λ (parts : List Part). All (λ part. Says text part.split.value.program.program) parts)
    (sym c.deref-part-items.ensures.value)
    (λ k d lt. subst (λ (split : Split). Says text split.program.program)
    (sym (c.in_ok-parts.ensures.one_split k d lt)) said)
