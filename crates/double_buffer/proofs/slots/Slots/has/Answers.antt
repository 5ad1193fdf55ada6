use Rattle.std.proofs.Common.{◌≡◌, refl, ◌∙◌, ap, Bor}
use Rattle.std.specs.Prelude.{Option, Some, None, is_some, option_map, option_copied}
use Rattle.vert_base.specs.declared.message.Message.{Message}
use Rattle.vert_base.specs.Letters.{Letter, letter_of}
use Rattle.double_buffer.proofs.BufferLaws.{look_in}
use Rattle.double_buffer.proofs.slots.Slots.has.Goals as goal

same_kind : (r : Option (Bor Message)) → is_some r ≡ is_some (option_map letter_of (option_copied r))
same_kind None = refl
same_kind (Some m) = refl

pub returns-clause-has : goal.returns-clause-has
returns-clause-has g c =
    c.is_some.ensures ∙ same_kind c.held.result
    ∙ ap (λ (r : Option Letter). is_some r)
    (look_in g.row.CAP c.self.inside.machines c.self.inside.places.items c.self.invariant c.args.name.now
    c.place_of.result c.deref.result.now c.args.self.now (option_map letter_of (option_copied c.held.result))
    c.place_of.ensures c.deref.ensures.value c.self.view_is c.held.ensures)
