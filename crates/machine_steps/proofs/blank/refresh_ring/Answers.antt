-- One state after another.
use Rattle.std.proofs.Common.{◌≤◌, ◌<◌, ◌∙◌, ap, length, pos, replicate, sym, arith}
use Rattle.std.proofs.lemmas.List.{take-replicate}
use Rattle.machine_parts.specs.Flat.{fresh_state}
use Rattle.machine_steps.proofs.BlankLaws.{same_for_each}
use Rattle.vertex_work.proofs.PassLaws.{pass_done, pass_length, pass_more}
use Rattle.machine_steps.proofs.blank.refresh_ring.Goals as goal

pub refresh_state-requires-clause-place : goal.refresh_state-requires-clause-place
refresh_state-requires-clause-place c =
    let l = c.places in
    let before : c.places.place < length c.args.ring.now.states =
    omega (arith, c.places-test.true, c.len-place-end.ensures) in
    let many = pass_length (λ v. fresh_state c.args.width) 0 l.place c.args.ring.now.states l.ring.states
    l.invariant.states (omega arith) in
    omega (arith, many, before)

pub refresh_state-requires-clause-zeros : goal.refresh_state-requires-clause-zeros
refresh_state-requires-clause-zeros c =
    take-replicate c.args.width 8 (pos 0) c.requires.few ∙ ap (λ n. replicate n (pos 0)) (sym c.places.invariant.width)

pub places-preserved : goal.places-preserved
places-preserved c =
    let l = c.places in
    let before : c.places.place < length c.args.ring.now.states =
    omega (arith, c.places-test.true, c.len-place-end.ensures) in
    record {
      states = ap (λ r. r.states) c.refresh_state.ensures
          ∙ pass_more (λ v. fresh_state c.args.width) 0 l.place c.args.ring.now.states l.ring.states
          l.invariant.states (omega arith) (fresh_state 0) before (fresh_state l.ring.width)
          (ap fresh_state l.invariant.width);
      width = ap (λ r. r.width) c.refresh_state.ensures ∙ l.invariant.width;
    }

pub returns : goal.returns
returns c =
    let l = c.places in
    let states = c.args.ring.now.states in
    let end : length c.args.ring.now.states ≤ c.places.place =
    omega (arith, c.places-test.false, c.len-place-end.ensures) in
    let before : c.places.place ≤ length c.args.ring.now.states =
    omega (arith, c.places.auto.place-end, c.len-place-end.ensures) in
    let done = pass_done (λ v. fresh_state c.args.width) 0 l.place states l.ring.states l.invariant.states before end
    ∙ same_for_each (fresh_state c.args.width) 0 (length states) in
    let width = l.invariant.width ∙ sym c.requires.width in
    λ j. record { width = width j; states = done j }
