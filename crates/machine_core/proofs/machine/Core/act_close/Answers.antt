use Rattle.std.proofs.Common.{◌≡◌, ◌∙◌, ◌++◌, ℕ, List, [], ap, length, map, sym, arith}
use Rattle.std.specs.Prelude.{sum}
use Rattle.std.proofs.lemmas.Bool.{eqb-true}
use Rattle.body_shape.specs.Tally.{Counted, tally_body}
use Rattle.circulant_plan.specs.declared.spot.Spot.TheVariants.{Judge, Close}
use Rattle.circulant_plan.specs.Table.{tally_gives}
use Rattle.vert_base.specs.declared.message.Message.{Message}
use Rattle.vert_base.specs.Letters.{Letter, letter_of}
use Rattle.symple_face.specs.CoreClose.{close_go}
use Rattle.symple_face.specs.CoreJudge.{counted}
use Rattle.symple_face.specs.PartViews.{plain_of}
use Rattle.symple_face.specs.State.{State, machine}
use Rattle.machine_core.specs.CoreState.{core_state}
use Rattle.machine_steps.specs.Counts.{lists_read}
use Rattle.machine_core.proofs.GoLaws.{close_low, go_from, gone_sound, sent_by}
use Rattle.machine_core.proofs.SoundLaws.{steady}
use Rattle.machine_core.proofs.machine.Core.act_close.Goals as goal

pub close_round-requires-clause-totals : goal.close_round-requires-clause-totals
close_round-requires-clause-totals c =
    let self = c.args.self.now in
    let s = core_state self in
    let some = (close_low s self.round c.args.dense self.sound c.requires.at).0 in
    λ zeroth. self.summed some (eqb-true (machine s) 0 zeroth)

pub send_tally-requires-clause-count : goal.send_tally-requires-clause-count
send_tally-requires-clause-count c = (steady (core_state c.close_round.new.self) c.close_round.new.self.sound).rows

pub send_tally-requires-clause-round : goal.send_tally-requires-clause-round
send_tally-requires-clause-round c =
    let self = c.args.self.now in
    let s = core_state self in
    let mid = core_state c.close_round.new.self in
    let closed : mid ≡ close_go s self.round c.args.dense = c.close_round.ensures.state in
    let few = (close_low s self.round c.args.dense self.sound c.requires.at).1 in
    let same : c.close_round.new.self.round ≡ self.round = ap (λ (t : State). t.at.round) closed in
    omega arith

pub move_on-requires : goal.move_on-requires
move_on-requires c =
    let self = c.args.self.now in
    let s = core_state self in
    let mid = core_state c.close_round.new.self in
    let closed : mid ≡ close_go s self.round c.args.dense = c.close_round.ensures.state in
    record {
      sound = gone_sound s mid self.sound c.requires.ready
          (go_from s mid (Close self.round c.args.dense) c.requires.at closed);
      judged = λ k e.
          let bad : Close self.round c.args.dense ≡ Judge k =
          sym c.requires.at ∙ sym (ap (λ (t : State). t.at.spot) closed) ∙ e in absurd (cc);
    }

pub returns-clause-state : goal.returns-clause-state
returns-clause-state c =
    let self = c.args.self.now in
    let s = core_state self in
    let mid = core_state c.close_round.new.self in
    let closed : mid ≡ close_go s self.round c.args.dense = c.close_round.ensures.state in
    c.move_on.ensures ∙ go_from s mid (Close self.round c.args.dense) c.requires.at closed

tallied : State → Counted
tallied t = counted t.part t.split t.rows t.reads t.at.round

pub returns-clause-sent : goal.returns-clause-sent
returns-clause-sent c =
    let self = c.args.self.now in
    let s = core_state self in
    let mid = core_state c.close_round.new.self in
    let closed : mid ≡ close_go s self.round c.args.dense = c.close_round.ensures.state in
    let spot = Close self.round c.args.dense in
    let reads = c.reads_of-reads.ensures
    ∙ ap (λ ns. sum (map length (lists_read (plain_of c.close_round.new.self.ground.part) ns))) c.deref.ensures.value in
    let none : Counted = counted mid.part mid.split mid.rows [] mid.at.round in
    let letters : Counted → List Letter = λ (n : Counted).
    map (λ x. let l : Letter = record { name = x; body = tally_body n } in l) (tally_gives (machine mid) mid.at.round)
    in
    let told : State → List Letter = λ (t : State).
    map (λ x. let l : Letter = record {
      name = x;
      body = tally_body (counted t.part t.split t.rows t.reads t.at.round);
    } in l) (tally_gives (machine t) t.at.round) in
    c.send_tally.ensures
    ∙ ap (λ (ms : List Message). map letter_of ms ++ letters (record none { reads = c.reads_of-reads.result }))
    c.in_ok-reserve.ensures.items
    ∙ ap (λ (n : ℕ). map letter_of c.args.out.now.items ++ letters (record none { reads = n })) reads
    ∙ ap (λ (t : State). map letter_of c.args.out.now.items ++ told t) closed
    ∙ ap (λ (ls : List Letter). map letter_of c.args.out.now.items ++ ls) (sym (sent_by s spot c.requires.at))
