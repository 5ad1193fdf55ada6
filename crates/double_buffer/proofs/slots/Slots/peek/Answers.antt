use Rattle.std.proofs.Common.{◌∙◌, List, ℕ, ap}
use Rattle.std.specs.Prelude.{Some, None, option_map}
use Rattle.vert_base.specs.Letters.{Letter, letter_of}
use Rattle.double_buffer.proofs.BufferLaws.{look_in}
use Rattle.double_buffer.proofs.slots.Slots.peek.Goals as goal

pub returns-in-Some : goal.returns-in-Some
returns-in-Some g c =
    ap (λ (bytes : List ℕ). Some bytes) c.deref-in-Some.ensures.value
    ∙ ap (option_map (λ (y : Letter). y.body))
    (look_in g.row.CAP c.self.inside.machines c.self.inside.places.items c.self.invariant c.args.name.now
    c.place_of.result c.deref.result.now c.args.self.now (Some (letter_of c.in-Some.message.now))
    c.place_of.ensures c.deref.ensures.value c.self.view_is c.in-Some.ensures)

pub returns-in-None : goal.returns-in-None
returns-in-None g c =
    ap (option_map (λ (y : Letter). y.body))
    (look_in g.row.CAP c.self.inside.machines c.self.inside.places.items c.self.invariant c.args.name.now
    c.place_of.result c.deref.result.now c.args.self.now None c.place_of.ensures c.deref.ensures.value
    c.self.view_is c.in-None.ensures)
