use Rattle.std.proofs.Common.{◌≡◌, ◌∙◌, refl, ℕ, false, List, [], arith, sym, subst}
use Rattle.std.specs.Prelude.{Option, Some, None, is_some}
use Rattle.vert_base.specs.Letters.{Letter, found}
use Rattle.double_buffer.specs.Taking.{CanTake}
use Rattle.double_buffer.specs.Held.{Held, AreOfRound}
use Rattle.double_buffer.proofs.BufferLaws.{of_round_placed}
use Rattle.double_buffer.proofs.NeedLaws.{need_at}
use Rattle.graph_tests.proofs.buffers.put_need.Goals as goal

none_from : (r : Option Letter) → is_some r ≡ false → r ≡ None
none_from None e = refl
none_from (Some y) e = absurd (cc)

pub mark-requires : goal.mark-requires
mark-requires c =
    let x = c.in-Some.name in
    let held : List Letter = c.args.slots.now.letters in
    let its = need_at c.args.ring.now c.args.m c.args.spot.now c.args.k x c.requires.machine c.requires.spot
    (sym c.in-Some.ensures) in
    let one : CanTake c.args.slots.now.machines x = subst (λ (n : ℕ). CanTake n x) (sym c.requires.machines) its.one in
    let fresh : found x held ≡ None = none_from (found x held) (sym c.has.ensures.has ∙ c.if-has.false) in
    let together : AreOfRound x.round x.to held =
    subst (λ (r : ℕ). AreOfRound r x.to held) (sym (its.round ∙ c.requires.round))
    (subst (λ (t : ℕ). AreOfRound 5 t held) (sym its.to) c.requires.held) in
    (omega arith, (one, (fresh, together)))

pub returns-then-marked-clause-held : goal.returns-then-marked-clause-held
returns-then-marked-clause-held c =
    let x = c.in-Some.name in
    let its = need_at c.args.ring.now c.args.m c.args.spot.now c.args.k x c.requires.machine c.requires.spot
    (sym c.in-Some.ensures) in
    subst (λ (h : Held). AreOfRound 5 c.args.m h.letters) (sym c.mark.ensures)
    (of_round_placed 5 c.args.m (record { name = x; body = [] }) c.args.slots.now.letters
    (its.round ∙ c.requires.round) its.to c.requires.held)

pub put-requires : goal.put-requires
put-requires c =
    let x = c.in-Some.name in
    let held : List Letter = c.args.slots.now.letters in
    let its = need_at c.args.ring.now c.args.m c.args.spot.now c.args.k x c.requires.machine c.requires.spot
    (sym c.in-Some.ensures) in
    let one : CanTake c.args.slots.now.machines x = subst (λ (n : ℕ). CanTake n x) (sym c.requires.machines) its.one in
    let fresh : found x held ≡ None = none_from (found x held) (sym c.has.ensures.has ∙ c.if-has.false) in
    let together : AreOfRound x.round x.to held =
    subst (λ (r : ℕ). AreOfRound r x.to held) (sym (its.round ∙ c.requires.round))
    (subst (λ (t : ℕ). AreOfRound 5 t held) (sym its.to) c.requires.held) in
    (omega arith, (one, (fresh, together)))

pub returns-clause-held : goal.returns-clause-held
returns-clause-held c =
    let x = c.in-Some.name in
    let its = need_at c.args.ring.now c.args.m c.args.spot.now c.args.k x c.requires.machine c.requires.spot
    (sym c.in-Some.ensures) in
    subst (λ (h : Held). AreOfRound 5 c.args.m h.letters) (sym c.put.ensures)
    (of_round_placed 5 c.args.m (record { name = x; body = c.in_ok-body.body.items }) c.args.slots.now.letters
    (its.round ∙ c.requires.round) its.to c.requires.held)
