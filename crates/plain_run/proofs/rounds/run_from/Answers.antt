use Rattle.std.proofs.Common.{◌≡◌, ◌+◌, ◌-◌, ◌++◌, ◌∷◌, [], List, suc, map, ap, sym, subst, ◌∙◌, arith}
use Rattle.std.proofs.lemmas.List.{map-append}
use Rattle.vert_eval.specs.SourceRun.{resumed_run, rounds_from}
use Rattle.plain_run.specs.Jobs.{job_of, standing_of}
use Rattle.plain_run.specs.Told.{Told, told_of}
use Rattle.plain_run.proofs.RoundsLaws.{IsLeft, left_more, left_stopped, rounds_ended, rows_ended}
use Rattle.plain_run.proofs.rounds.run_from.Goals as goal

pub returns-in-Stop-clause-rows : goal.returns-in-Stop-clause-rows
returns-in-Stop-clause-rows c =
    let job = job_of c.args.job.now in
    let kept = c.args.job.now.kept in
    let s = standing_of c.loop-number.standing in
    let told = map told_of c.loop-number.rounds.items in
    let whole = resumed_run job 1 (standing_of c.args.first) in
    rows_ended kept s told whole (left_stopped kept job (c.args.job.now.program.now.program.limit + 1
    - c.loop-number.number) c.loop-number.number s told whole c.in-Stop.is c.loop-number.invariant.left)

pub returns-in-Stop-clause-rounds : goal.returns-in-Stop-clause-rounds
returns-in-Stop-clause-rounds c =
    let job = job_of c.args.job.now in
    let kept = c.args.job.now.kept in
    let s = standing_of c.loop-number.standing in
    let told = map told_of c.loop-number.rounds.items in
    let whole = resumed_run job 1 (standing_of c.args.first) in
    rounds_ended kept s told whole (left_stopped kept job (c.args.job.now.program.now.program.limit + 1
    - c.loop-number.number) c.loop-number.number s told whole c.in-Stop.is c.loop-number.invariant.left)

pub loop-number-preserved : goal.loop-number-preserved
loop-number-preserved c =
    let job = job_of c.args.job.now in
    let kept = c.args.job.now.kept in
    let n = c.loop-number.number in
    let limit = c.args.job.now.program.now.program.limit in
    let s = standing_of c.loop-number.standing in
    let step = c.in_ok-step.step in
    let told = map told_of c.loop-number.rounds.items in
    let whole = resumed_run job 1 (standing_of c.args.first) in
    let less : limit + 1 - n ≡ suc (limit + 1 - (n + 1)) = omega arith in
    let grown : map told_of c.push.new.self.items ≡ told ++ told_of step.played ∷ [] =
    ap (map told_of) c.in_ok-push.ensures.items ∙ map-append told_of c.loop-number.rounds.items (step.played ∷ []) in
    let left = left_more kept job (limit + 1 - n) (limit + 1 - (n + 1)) n s (standing_of step.next) told
    (told_of step.played) whole less c.in_default.not-Stop c.in_ok-step.ensures.told c.in_ok-step.ensures.next
    c.loop-number.invariant.left in
    record {
      left = subst (λ (ts : List Told). IsLeft kept ts
          (rounds_from (limit + 1 - (n + 1)) job (n + 1) (standing_of step.next)) whole) (sym grown) left;
      stands = c.in_ok-step.ensures.stands;
    }
