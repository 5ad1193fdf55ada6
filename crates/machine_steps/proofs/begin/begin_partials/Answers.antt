-- What own vertices send comes first, then the pushes that were kept.
use Rattle.std.proofs.Common.{◌∙◌, ap, arith, length}
use Rattle.vert_tree.proofs.TypedLaws.{few_totals}
use Rattle.vert_tree.specs.Places.{sends_in}
use Rattle.symple_face.specs.CoreSight.{program_of}
use Rattle.symple_face.specs.CoreSparse.{begin_go}
use Rattle.machine_steps.proofs.WorkingLaws.{begins, own_partials, self_shows}
use Rattle.machine_steps.proofs.KeptLaws.{begun}
use Rattle.machine_steps.proofs.begin.begin_partials.Goals as goal

pub numbered_env-env-requires : goal.numbered_env-env-requires
numbered_env-env-requires c =
    let program = c.args.ground.now.part.split.value.program in
    omega (arith, few_totals program.program program.typed, c.requires.rows.sums)

pub work_own_by-requires : goal.work_own_by-requires
work_own_by-requires c =
    begins c.args.ground.now c.args.rows.now c.of-receivers.result c.of-receivers.ensures c.args.totals.now
    c.args.round c.numbered_env-env.result c.numbered_env-env.ensures c.args.partials.now c.requires.rows
    c.requires.partials c.requires.round

pub returns : goal.returns
returns c =
    let g = c.args.ground.now in
    let rs = c.of-receivers.result in
    let env = c.numbered_env-env.result in
    let of = c.numbered_env-env.ensures in
    let sends = length (sends_in (program_of c.args.ground.now.part.split.value).sparse) in
    record {
      worked = λ s shows held rules partials.
          begun g rs c.args.held.now.letters c.args.ruling c.machine-machine.result c.machines-machines.result env
          c.work_own_by.new.env c.work_all_kept.new.env c.args.partials.now.rows c.work_own_by.new.partials.rows
          c.work_all_kept.new.partials.rows c.work_all_kept-2.new.partials.rows c.machine-machine.ensures.number
          c.machines-machines.ensures.count c.work_own_by.ensures.worked c.work_own_by.ensures.settled
          c.work_all_kept.ensures.worked c.work_all_kept.ensures.settled c.work_all_kept-2.ensures.worked s
          (self_shows g c.args.rows.now rs c.of-receivers.ensures c.args.totals.now c.args.round env of s shows) held
          rules partials
          ∙ ap (λ r. (begin_go s r).partials) of.at;
      width = c.work_all_kept-2.ensures.width ∙ c.work_all_kept.ensures.width ∙ c.work_own_by.ensures.width;
      partials = own_partials g c.args.rows.now rs c.of-receivers.ensures c.args.totals.now c.args.round env of
          c.args.partials.now c.work_all_kept-2.new.partials c.work_all_kept-2.new.env sends c.requires.partials
          (c.work_all_kept-2.ensures.width ∙ c.work_all_kept.ensures.width ∙ c.work_own_by.ensures.width)
          c.requires.rows.count c.work_all_kept-2.ensures.can.can;
    }
