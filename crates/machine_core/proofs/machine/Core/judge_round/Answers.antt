use Rattle.std.proofs.Common.{◌≡◌, ◌∙◌, ap, sym, subst}
use Rattle.std.specs.Prelude.{if◌then◌else◌, nat_le}
use Rattle.body_shape.specs.Tally.{Counted}
use Rattle.symple_face.specs.CoreJudge.{judge_go}
use Rattle.symple_face.specs.State.{State}
use Rattle.work_laws.specs.Sound.{core_sound}
use Rattle.machine_core.specs.CoreState.{core_state}
use Rattle.machine_steps.specs.Plain.{plain_sums}
use Rattle.machine_core.proofs.SumLaws.{judged_sound}
use Rattle.machine_core.proofs.machine.Core.judge_round.Goals as goal

pub invariant_of-self-clause-sound : goal.invariant_of-self-clause-sound
invariant_of-self-clause-sound c =
    let self = c.args.self.now in
    let s = core_state self in
    let r = c.args.round in
    let e = c.requires.sums in
    let report = c.report_after-self.ensures
    ∙ ap (λ (n : Counted). if nat_le 1 r then record {
      round = r;
      ruling = s.ruling;
      active = s.judged.active;
      edges = s.judged.edges;
      reads = n.reads;
    } else s.report) e in
    let path : record s {
      ruling = c.args.ruling;
      judged = plain_sums c.args.sums;
      report = c.report_after-self.result;
    } ≡ judge_go s r = λ j. record s {
      ruling = c.requires.ruling j;
      judged = record { active = (e j).active; edges = (e j).edges; totals = (e j).totals };
      report = report j;
    } in
    subst (λ (t : State). ∥ core_sound t ∥₁) (sym path) (judged_sound s r c.requires.at self.sound)

pub invariant_of-self-clause-summed : goal.invariant_of-self-clause-summed
invariant_of-self-clause-summed c = λ low here. c.requires.each

pub returns-clause-state : goal.returns-clause-state
returns-clause-state c =
    let self = c.args.self.now in
    let s = core_state self in
    let r = c.args.round in
    let e = c.requires.sums in
    let report = c.report_after-self.ensures
    ∙ ap (λ (n : Counted). if nat_le 1 r then record {
      round = r;
      ruling = s.ruling;
      active = s.judged.active;
      edges = s.judged.edges;
      reads = n.reads;
    } else s.report) e in
    let path : record s {
      ruling = c.args.ruling;
      judged = plain_sums c.args.sums;
      report = c.report_after-self.result;
    } ≡ judge_go s r = λ j. record s {
      ruling = c.requires.ruling j;
      judged = record { active = (e j).active; edges = (e j).edges; totals = (e j).totals };
      report = report j;
    } in
    path
