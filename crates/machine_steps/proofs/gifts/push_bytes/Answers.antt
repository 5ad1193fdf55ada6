-- The vertices are own ones.
use Rattle.std.proofs.Common.{ap, arith, length, sym, ◌∙◌}
use Rattle.std.specs.Prelude.{slice_index_or, []}
use Rattle.std.proofs.lemmas.Result.{IfOk-weaker}
use Rattle.vert_tree.proofs.TypedLaws.{few_sends, few_totals}
use Rattle.symple_face.specs.CoreSight.{program_of}
use Rattle.symple_face.specs.CoreWork.{push_sent}
use Rattle.symple_face.specs.PartViews.{plain_of}
use Rattle.symple_face.specs.Parts.{lists_of}
use Rattle.symple_face.proofs.PartLaws.{push_to_few}
use Rattle.work_laws.proofs.Lists.{push_to_own}
use Rattle.machine_steps.proofs.WorkingLaws.{ground_works, own_names, self_numbers, self_receiving, self_rows, self_shows}
use Rattle.machine_steps.proofs.GiftLaws.{all_placed, push_silent, push_told}
use Rattle.machine_steps.proofs.gifts.push_bytes.Goals as goal

pub numbered_env-env-requires : goal.numbered_env-env-requires
numbered_env-env-requires c =
    let program = c.args.ground.now.part.split.value.program in
    omega (arith, few_totals program.program program.typed, c.requires.rows.sums)

pub no_sends-requires : goal.no_sends-requires
no_sends-requires c =
    let part = plain_of c.args.ground.now.part in
    let listed = c.list_at-list.ensures
    ∙ ap (λ lists. slice_index_or (lists_of lists) c.args.to []) c.deref.ensures.value in
    let few = push_to_few part c.args.to c.list_at-list.result.now c.args.ground.now.can.whole listed in
    omega (arith, few)

pub push_body-requires : goal.push_body-requires
push_body-requires c =
    let ground = c.args.ground.now in
    let part = plain_of c.args.ground.now.part in
    let rs = c.of-own.result in
    let is = c.of-own.ensures in
    let env = c.numbered_env-env.result in
    let of = c.numbered_env-env.ensures in
    let listed = c.list_at-list.ensures
    ∙ ap (λ lists. slice_index_or (lists_of lists) c.args.to []) c.deref.ensures.value in
    let few = push_to_few part c.args.to c.list_at-list.result.now ground.can.whole listed in
    let has = ap (λ p. p.sparse) (sym c.program.ensures) ∙ c.in-Some.is in
    let program = c.args.ground.now.part.split.value.program in
    record {
      own = all_placed part.ends part.at.machine c.of-own.result.start (length c.of-own.result.rows.now.rows)
          c.list_at-list.result.now (slice_index_or part.push_to c.args.to []) listed
          (push_to_own part ground.part.split.value ground.can c.args.to c.requires.to c.requires.other) is.start
          (rs.whole ∙ is.end);
      each = rs.each;
      ids = rs.own;
      round = omega (arith, of.at, c.requires.round);
      few = few_sends program.program program.typed c.in-Some.sparse has;
      list = omega (arith, few);
      names = own_names ground rs env
          (self_numbers ground c.args.rows.now rs is c.args.totals.now c.args.round env of)
          (self_rows ground c.args.rows.now rs is c.args.totals.now c.args.round env of c.requires.rows)
          c.in-Some.sparse has;
    }

pub returns-in-None : goal.returns-in-None
returns-in-None c =
    let part = plain_of c.args.ground.now.part in
    let listed = c.list_at-list.ensures
    ∙ ap (λ lists. slice_index_or (lists_of lists) c.args.to []) c.deref.ensures.value in
    let lacks = ap (λ p. p.sparse) (sym c.program.ensures) ∙ c.in-None.is in
    IfOk-weaker c.no_sends.result _ _
    (λ body is s shows.
    push_silent s c.args.round c.args.to c.list_at-list.result.now body.items
    (ap (λ sp. (program_of sp).sparse) shows.split ∙ lacks)
    (listed ∙ ap (λ p. slice_index_or p.push_to c.args.to []) (sym shows.part)) is)
    c.no_sends.ensures

pub returns-in-Some : goal.returns-in-Some
returns-in-Some c =
    let ground = c.args.ground.now in
    let part = plain_of c.args.ground.now.part in
    let rs = c.of-own.result in
    let is = c.of-own.ensures in
    let env = c.numbered_env-env.result in
    let of = c.numbered_env-env.ensures in
    let listed = c.list_at-list.ensures
    ∙ ap (λ lists. slice_index_or (lists_of lists) c.args.to []) c.deref.ensures.value in
    let has = ap (λ p. p.sparse) (sym c.program.ensures) ∙ c.in-Some.is in
    let placed = all_placed part.ends part.at.machine c.of-own.result.start (length c.of-own.result.rows.now.rows)
    c.list_at-list.result.now (slice_index_or part.push_to c.args.to []) listed
    (push_to_own part ground.part.split.value ground.can c.args.to c.requires.to c.requires.other) is.start
    (rs.whole ∙ is.end) in
    IfOk-weaker c.push_body.result _ _
    (λ body told s shows.
    push_told s env.round rs env
    (ground_works ground rs (self_receiving ground c.args.rows.now rs is) env
    (self_numbers ground c.args.rows.now rs is c.args.totals.now c.args.round env of) s
    (self_shows ground c.args.rows.now rs is c.args.totals.now c.args.round env of s shows)) c.in-Some.sparse
    (ap (λ sp. (program_of sp).sparse) shows.split ∙ has) c.args.to c.list_at-list.result.now body.items
    (listed ∙ ap (λ p. slice_index_or p.push_to c.args.to []) (sym shows.part)) placed told
    ∙ ap (λ r. push_sent s r c.args.to) of.at)
    c.push_body.ensures
