use Rattle.std.proofs.Common.{◌≡◌, ◌*◌, ◌∙◌, [], List, ap, sym, subst}
use Rattle.std.specs.Prelude.{None, Option, replicate}
use Rattle.vert_base.specs.declared.message.Message.{Message}
use Rattle.double_buffer.specs.Held.{Held}
use Rattle.double_buffer.specs.Places.{AreSound, letters_in}
use Rattle.double_buffer.proofs.BufferLaws.{held_of, none_held, sound_free}
use Rattle.double_buffer.proofs.slots.Slots.clear.Goals as goal

pub invariant_of-self : goal.invariant_of-self
invariant_of-self g c =
    let machines = c.self.inside.machines in
    let sound = c.self.invariant in
    let free : c.free_all.new.places.items ≡ replicate (12 * machines) None = c.free_all.ensures
    ∙ ap (λ n. replicate n None) sound.size in
    subst (AreSound g.row.CAP machines) (sym free) (sound_free g.row.CAP machines sound.some sound.within sound.few)

pub returns : goal.returns
returns g c =
    let machines = c.self.inside.machines in
    let free : c.free_all.new.places.items ≡ replicate (12 * machines) None = c.free_all.ensures
    ∙ ap (λ n. replicate n None) c.self.invariant.size in
    ap (λ (ps : List (Option Message)). held_of machines (letters_in ps)) free
    ∙ ap (held_of machines) (none_held (12 * machines))
    ∙ ap (λ (h : Held). held_of h.machines []) c.self.view_is
