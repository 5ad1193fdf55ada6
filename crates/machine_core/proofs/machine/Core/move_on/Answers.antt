use Rattle.std.proofs.Common.{◌≡◌, ◌∙◌, ℕ, ap, sym, subst, length, arith}
use Rattle.circulant_plan.specs.declared.spot.Ring.{Ring}
use Rattle.circulant_plan.specs.declared.spot.Spot.{Spot}
use Rattle.circulant_plan.specs.Spots.{IsSpotOf}
use Rattle.circulant_plan.specs.Standing.{round_of, round_ruled}
use Rattle.circulant_plan.specs.Table.{next_spot}
use Rattle.double_buffer.specs.Held.{Held}
use Rattle.symple_face.specs.CoreSight.{total_count}
use Rattle.symple_face.specs.CoreWork.{held_at}
use Rattle.symple_face.specs.Plans.{ring_of}
use Rattle.symple_face.specs.State.{State, machine, p_of}
use Rattle.work_laws.specs.Sound.{core_sound}
use Rattle.machine_core.specs.CoreState.{core_state}
use Rattle.machine_steps.specs.Going.{onward}
use Rattle.machine_steps.specs.Kept.{IsBuffer}
use Rattle.machine_core.proofs.GoLaws.{moved_buffer, never_first, summed_onward}
use Rattle.machine_core.proofs.SoundLaws.{spot_of, steady}
use Rattle.machine_core.proofs.machine.Core.move_on.Goals as goal

pub next_spot-next-requires-clause-spot : goal.next_spot-next-requires-clause-spot
next_spot-next-requires-clause-spot c =
    let s = core_state c.args.self.now in
    subst (λ (r : Ring). IsSpotOf r s.at.spot) (sym c.ring-ring.ensures) (spot_of s c.args.self.now.sound)

pub round_ruled-last-requires : goal.round_ruled-last-requires
round_ruled-last-requires c =
    let s = core_state c.args.self.now in
    subst (λ (r : Ring). IsSpotOf r s.at.spot) (sym c.ring-ring.ensures) (spot_of s c.args.self.now.sound)

pub invariant_of-self-clause-sound : goal.invariant_of-self-clause-sound
invariant_of-self-clause-sound c =
    let self = c.args.self.now in
    let s = core_state self in
    let ring = ring_of s.split (p_of s) in
    let m = machine s in
    let next : c.next_spot-next.result ≡ next_spot ring m self.spot self.ruling =
    c.next_spot-next.ensures
    ∙ ap (λ r. next_spot r c.machine.result self.spot self.ruling) c.ring-ring.ensures
    ∙ ap (λ k. next_spot ring k self.spot self.ruling) c.machine.ensures.number in
    let round : c.round_of-self.result ≡ round_of (round_ruled self.round self.spot)
    (next_spot ring m self.spot self.ruling) =
    c.round_of-self.ensures
    ∙ ap (λ l. round_of l c.next_spot-next.result) c.round_ruled-last.ensures
    ∙ ap (round_of (round_ruled self.round self.spot)) next in
    let old : Held = self.held in
    let held = c.keep_at.ensures
    ∙ ap (λ spot. record old { letters = held_at spot old.letters }) next in
    let path : record s {
      at = record { spot = c.next_spot-next.result; round = c.round_of-self.result };
      held = c.keep_at.new.held.letters;
    } ≡ onward s = λ j. record s {
      at = record { spot = next j; round = round j };
      held = (held j).letters;
    } in
    subst (λ (t : State). ∥ core_sound t ∥₁) (sym path) c.requires.sound

pub invariant_of-self-clause-buffer : goal.invariant_of-self-clause-buffer
invariant_of-self-clause-buffer c =
    let self = c.args.self.now in
    let s = core_state self in
    let ring = ring_of s.split (p_of s) in
    let m = machine s in
    let next : c.next_spot-next.result ≡ next_spot ring m self.spot self.ruling =
    c.next_spot-next.ensures
    ∙ ap (λ r. next_spot r c.machine.result self.spot self.ruling) c.ring-ring.ensures
    ∙ ap (λ k. next_spot ring k self.spot self.ruling) c.machine.ensures.number in
    let round : c.round_of-self.result ≡ round_of (round_ruled self.round self.spot)
    (next_spot ring m self.spot self.ruling) =
    c.round_of-self.ensures
    ∙ ap (λ l. round_of l c.next_spot-next.result) c.round_ruled-last.ensures
    ∙ ap (round_of (round_ruled self.round self.spot)) next in
    let old : Held = self.held in
    let held = c.keep_at.ensures
    ∙ ap (λ spot. record old { letters = held_at spot old.letters }) next in
    subst (λ (r : ℕ). IsBuffer (p_of s) m r c.next_spot-next.result c.keep_at.new.held) (sym round)
    (subst (λ (spot : Spot). IsBuffer (p_of s) m
    (round_of (round_ruled self.round self.spot) (next_spot ring m self.spot self.ruling)) spot c.keep_at.new.held)
    (sym next)
    (moved_buffer ring (p_of s) m self.round self.spot self.ruling old c.keep_at.new.held (steady s self.sound).round
    self.buffer held))

pub invariant_of-self-clause-summed : goal.invariant_of-self-clause-summed
invariant_of-self-clause-summed c =
    let self = c.args.self.now in
    let s = core_state self in
    let ring = ring_of s.split (p_of s) in
    let m = machine s in
    let next : c.next_spot-next.result ≡ next_spot ring m self.spot self.ruling =
    c.next_spot-next.ensures
    ∙ ap (λ r. next_spot r c.machine.result self.spot self.ruling) c.ring-ring.ensures
    ∙ ap (λ k. next_spot ring k self.spot self.ruling) c.machine.ensures.number in
    let round : c.round_of-self.result ≡ round_of (round_ruled self.round self.spot)
    (next_spot ring m self.spot self.ruling) =
    c.round_of-self.ensures
    ∙ ap (λ l. round_of l c.next_spot-next.result) c.round_ruled-last.ensures
    ∙ ap (round_of (round_ruled self.round self.spot)) next in
    let old : Held = self.held in
    let held = c.keep_at.ensures
    ∙ ap (λ spot. record old { letters = held_at spot old.letters }) next in
    λ low here.
    summed_onward ring m self.ruling self.round self.spot (length self.judged.totals.items) (total_count s.split)
    (steady s self.sound).round (λ some. self.summed some here) c.requires.judged here (omega (arith, round, low))

pub invariant_of-self-clause-spare : goal.invariant_of-self-clause-spare
invariant_of-self-clause-spare c =
    let self = c.args.self.now in
    let s = core_state self in
    let ring = ring_of s.split (p_of s) in
    let m = machine s in
    let next : c.next_spot-next.result ≡ next_spot ring m self.spot self.ruling =
    c.next_spot-next.ensures
    ∙ ap (λ r. next_spot r c.machine.result self.spot self.ruling) c.ring-ring.ensures
    ∙ ap (λ k. next_spot ring k self.spot self.ruling) c.machine.ensures.number in
    let round : c.round_of-self.result ≡ round_of (round_ruled self.round self.spot)
    (next_spot ring m self.spot self.ruling) =
    c.round_of-self.ensures
    ∙ ap (λ l. round_of l c.next_spot-next.result) c.round_ruled-last.ensures
    ∙ ap (round_of (round_ruled self.round self.spot)) next in
    let old : Held = self.held in
    let held = c.keep_at.ensures
    ∙ ap (λ spot. record old { letters = held_at spot old.letters }) next in
    λ first. absurd (never_first ring m self.spot self.ruling (sym next ∙ first))

pub returns : goal.returns
returns c =
    let self = c.args.self.now in
    let s = core_state self in
    let ring = ring_of s.split (p_of s) in
    let m = machine s in
    let next : c.next_spot-next.result ≡ next_spot ring m self.spot self.ruling =
    c.next_spot-next.ensures
    ∙ ap (λ r. next_spot r c.machine.result self.spot self.ruling) c.ring-ring.ensures
    ∙ ap (λ k. next_spot ring k self.spot self.ruling) c.machine.ensures.number in
    let round : c.round_of-self.result ≡ round_of (round_ruled self.round self.spot)
    (next_spot ring m self.spot self.ruling) =
    c.round_of-self.ensures
    ∙ ap (λ l. round_of l c.next_spot-next.result) c.round_ruled-last.ensures
    ∙ ap (round_of (round_ruled self.round self.spot)) next in
    let old : Held = self.held in
    let held = c.keep_at.ensures
    ∙ ap (λ spot. record old { letters = held_at spot old.letters }) next in
    let path : record s {
      at = record { spot = c.next_spot-next.result; round = c.round_of-self.result };
      held = c.keep_at.new.held.letters;
    } ≡ onward s = λ j. record s {
      at = record { spot = next j; round = round j };
      held = (held j).letters;
    } in
    path
