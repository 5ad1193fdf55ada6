-- The lists of a part have no more vertices than there are.
use Rattle.std.proofs.Common.{◌∙◌, ap, get_or, []}
use Rattle.symple_face.specs.Parts.{lists_of}
use Rattle.symple_face.proofs.PartLaws.{push_to_few, push_of_few}
use Rattle.symple_face.proofs.part.Part.pushed.Goals as goal

pub returns-then-name-number-clause-few : goal.returns-then-name-number-clause-few
returns-then-name-number-clause-few c = push_to_few _ c.args.name.now.to _ c.args.self.now.whole
    (c.list_at.ensures ∙ ap (λ ls. get_or ls c.args.name.now.to []) (ap lists_of c.deref.ensures.value))

pub returns-else-name-number-clause-few : goal.returns-else-name-number-clause-few
returns-else-name-number-clause-few c = push_of_few _ c.args.name.now.from _ c.args.self.now.whole
    (c.list_at-else-name-number.ensures ∙ ap (λ ls. get_or ls c.args.name.now.from [])
    (ap lists_of c.deref-else-name-number.ensures.value))
