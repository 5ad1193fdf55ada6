use Rattle.std.proofs.Common.{◌∙◌, ◌++◌, List, ap, map}
use Rattle.circulant_plan.specs.declared.spot.Spot.TheVariants.{Judge}
use Rattle.vert_base.specs.Letters.{Letter, letter_of}
use Rattle.machine_core.specs.CoreState.{core_state}
use Rattle.machine_core.proofs.GoLaws.{go_from, gone_sound}
use Rattle.machine_core.proofs.machine.Core.act_judge.Goals as goal

pub move_on-requires : goal.move_on-requires
move_on-requires c =
    let self = c.args.self.now in
    let s = core_state self in
    let mid = core_state c.judge_round.new.self in
    record {
      sound = gone_sound s mid self.sound c.requires.ready
          (go_from s mid (Judge c.args.round) c.requires.at c.judge_round.ensures.state);
      judged = λ k e. c.judge_round.ensures.each;
    }

pub returns-clause-state : goal.returns-clause-state
returns-clause-state c =
    let self = c.args.self.now in
    let s = core_state self in
    let mid = core_state c.judge_round.new.self in
    c.move_on.ensures ∙ go_from s mid (Judge c.args.round) c.requires.at c.judge_round.ensures.state

pub returns-clause-sent : goal.returns-clause-sent
returns-clause-sent c =
    c.in_ok-hand.ensures.handed
    ∙ ap (λ (ls : List Letter). map letter_of c.args.out.now.items ++ ls) c.in_ok-sent.ensures
