use Rattle.std.proofs.Common.{◌∙◌, ap, w64}
use Rattle.std.proofs.lemmas.Int.{to_z-of_z}
use borrow.Author.Rules.{sfits_of}
use Rattle.slot_merge.specs.Partials.{with_emission}
use Rattle.vert_vm.proofs.EmitLaws.{emitted}
use Rattle.vert_vm.proofs.operations.emit.Goals as goal

pub returns-clause-emits : goal.returns-clause-emits
returns-clause-emits c =
    emitted c.args.key c.args.emits.now.slots.items c.deref_mut.result.now c.args.i c.from.result c.add.new.self _ _
    c.deref_mut.ensures.value c.from.ensures c.requires.inside c.add.ensures.word
    ∙ ap (λ w. with_emission c.args.key c.args.emits.now.slots.items (record { slot = c.args.i; word = w }))
    (to_z-of_z w64 c.pop-value.result (sfits_of c.pop-value.type_inv) ∙ c.pop-value.ensures.value)
