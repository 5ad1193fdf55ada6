use Rattle.std.proofs.Common.{◌≡◌, ◌*◌, ◌∙◌, ℕ, List, ap, sym, subst, arith}
use Rattle.std.specs.Prelude.{Option, None, replicate}
use Rattle.vert_base.specs.declared.message.Message.{Message}
use Rattle.double_buffer.specs.Places.{letters_in, AreSound}
use Rattle.double_buffer.proofs.BufferLaws.{held_of, none_held, sound_free}
use Rattle.double_buffer.proofs.slots.Slots.make.Goals as goal

pub invariant_of-result : goal.invariant_of-result
invariant_of-result g c =
    let all : c.loop.counter ≡ 12 * c.args.p = omega arith in
    let free : c.loop.places.items ≡ replicate (12 * c.args.p) None =
    c.loop.invariant ∙ ap (λ (n : ℕ). replicate n None) all in
    subst (AreSound g.row.CAP c.args.p) (sym free)
    (sound_free g.row.CAP c.args.p c.requires.some c.requires.within
    (omega (arith, c.requires.within, c.requires.few)))

pub returns : goal.returns
returns g c =
    let all : c.loop.counter ≡ 12 * c.args.p = omega arith in
    let free : c.loop.places.items ≡ replicate (12 * c.args.p) None =
    c.loop.invariant ∙ ap (λ (n : ℕ). replicate n None) all in
    ap (λ (ps : List (Option Message)). held_of c.args.p (letters_in ps)) free
    ∙ ap (held_of c.args.p) (none_held (12 * c.args.p))
