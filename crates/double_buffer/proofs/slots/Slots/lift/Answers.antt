use Rattle.std.proofs.Common.{◌≡◌, ◌∙◌, refl, ap, ℕ, List, Vec, Global, rules}
use Rattle.std.specs.Prelude.{Option, Some, None, option_map}
use Rattle.vert_base.specs.declared.message.Message.{Message}
use Rattle.vert_base.specs.Letters.{Letter, letter_of}
use Rattle.double_buffer.proofs.BufferLaws.{lift_at, look_in}
use Rattle.double_buffer.proofs.slots.Slots.lift.Goals as goal

abbrev bytes_of : Option (Vec ℕ Global) → Option (List ℕ)
bytes_of body = option_map (λ (b : Vec ℕ Global). b.items) body

abbrev body_in : Option Letter → Option (List ℕ)
body_in letter = option_map (λ (y : Letter). y.body) letter

same_bytes : (r : Option Message) → bytes_of (option_map (λ (m : Message). m.body) r) ≡ body_in (option_map letter_of r)
same_bytes None = refl
same_bytes (Some m) = refl

pub invariant_of-self : goal.invariant_of-self
invariant_of-self g c =
    (lift_at g.row.CAP c.self.inside.machines c.self.inside.places.items c.clear.new.places.items c.self.invariant
    c.args.name.now c.clear.result c.place_of-at.result c.args.self.now c.place_of-at.ensures
    c.clear.ensures.message c.clear.ensures.rest c.self.view_is).sound

pub returns-clause-body : goal.returns-clause-body
returns-clause-body g c =
    let moved : c.map.result ≡ option_map (λ (m : Message). m.body) c.clear.result = search rules in
    let found_is = look_in g.row.CAP c.self.inside.machines c.self.inside.places.items c.self.invariant
    c.args.name.now c.place_of-at.result c.self.inside.places.items c.args.self.now
    (option_map letter_of c.clear.result) c.place_of-at.ensures refl c.self.view_is c.clear.ensures.message in
    ap bytes_of moved ∙ same_bytes c.clear.result ∙ ap body_in found_is

pub returns-clause-rest : goal.returns-clause-rest
returns-clause-rest g c =
    (lift_at g.row.CAP c.self.inside.machines c.self.inside.places.items c.clear.new.places.items c.self.invariant
    c.args.name.now c.clear.result c.place_of-at.result c.args.self.now c.place_of-at.ensures
    c.clear.ensures.message c.clear.ensures.rest c.self.view_is).now
