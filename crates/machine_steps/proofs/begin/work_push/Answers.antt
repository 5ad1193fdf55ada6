-- The receivers begin with the numbers of the round.
use Rattle.std.proofs.Common.{arith, length}
use Rattle.vert_tree.proofs.TypedLaws.{few_totals}
use Rattle.vert_tree.specs.Places.{sends_in}
use Rattle.symple_face.specs.CoreSight.{program_of}
use Rattle.symple_face.specs.CoreSparse.{told_sends}
use Rattle.machine_steps.proofs.WorkingLaws.{begins, own_partials, self_worked}
use Rattle.machine_steps.proofs.begin.work_push.Goals as goal

pub numbered_env-env-requires : goal.numbered_env-env-requires
numbered_env-env-requires c =
    let program = c.args.ground.now.part.split.value.program in
    omega (arith, few_totals program.program program.typed, c.requires.rows.sums)

pub work_chunk-requires : goal.work_chunk-requires
work_chunk-requires c =
    let g = c.args.ground.now in
    let rs = c.of-receivers.result in
    let is = c.of-receivers.ensures in
    record {
      from = c.requires.from;
      other = c.requires.other;
      can = begins g c.args.rows.now rs is c.args.totals.now c.args.round c.numbered_env-env.result
          c.numbered_env-env.ensures c.args.partials.now c.requires.rows c.requires.partials c.requires.round;
    }

pub returns : goal.returns
returns c =
    let g = c.args.ground.now in
    let rs = c.of-receivers.result in
    let is = c.of-receivers.ensures in
    let sends = length (sends_in (program_of c.args.ground.now.part.split.value).sparse) in
    record {
      worked = self_worked g c.args.rows.now rs is c.args.totals.now c.args.round c.numbered_env-env.result
          c.numbered_env-env.ensures c.args.partials.now.rows c.work_chunk.new.partials.rows
          (λ s. told_sends s c.args.from c.args.body.now) c.work_chunk.ensures.worked;
      width = c.work_chunk.ensures.width;
      partials = own_partials g c.args.rows.now rs is c.args.totals.now c.args.round c.numbered_env-env.result
          c.numbered_env-env.ensures c.args.partials.now c.work_chunk.new.partials c.work_chunk.new.env sends
          c.requires.partials c.work_chunk.ensures.width c.requires.rows.count c.work_chunk.ensures.can.can;
    }
