use Rattle.std.proofs.Common.{◌≡◌, ◌∙◌, ap, sym}
use Rattle.circulant_plan.specs.declared.spot.Spot.TheVariants.{Judge, Scan}
use Rattle.symple_face.specs.CoreDense.{scan_go}
use Rattle.symple_face.specs.State.{State}
use Rattle.machine_core.specs.CoreState.{core_state}
use Rattle.machine_core.proofs.GoLaws.{go_from, gone_sound, sent_by}
use Rattle.machine_core.proofs.HalfActs.{kept_goes, last_sends}
use Rattle.machine_core.proofs.machine.Core.scan_last.Goals as goal

pub move_on-requires : goal.move_on-requires
move_on-requires c =
    let self = c.args.self.now in
    let s = core_state self in
    let round = c.args.round in
    let step = c.args.step in
    let half = c.args.half in
    let mid = core_state c.keep_half.new.self in
    let acted : mid ≡ scan_go s round step half =
    c.in_ok-keep_half.ensures.state ∙ kept_goes s round step half c.requires.last in
    record {
      sound = gone_sound s mid self.sound c.requires.ready (go_from s mid (Scan round step half) c.requires.at acted);
      judged = λ k e.
          let bad : Scan round step half ≡ Judge k =
          sym c.requires.at ∙ sym (ap (λ (t : State). t.at.spot) c.in_ok-keep_half.ensures.state) ∙ e in absurd (cc);
    }

pub returns-clause-state : goal.returns-clause-state
returns-clause-state c =
    let self = c.args.self.now in
    let s = core_state self in
    let round = c.args.round in
    let step = c.args.step in
    let half = c.args.half in
    let mid = core_state c.keep_half.new.self in
    let acted : mid ≡ scan_go s round step half =
    c.in_ok-keep_half.ensures.state ∙ kept_goes s round step half c.requires.last in
    c.move_on.ensures ∙ go_from s mid (Scan round step half) c.requires.at acted

pub returns-clause-sent : goal.returns-clause-sent
returns-clause-sent c =
    let s = core_state c.args.self.now in
    sent_by s (Scan c.args.round c.args.step c.args.half) c.requires.at
    ∙ last_sends s c.args.round c.args.step c.args.half c.requires.last
