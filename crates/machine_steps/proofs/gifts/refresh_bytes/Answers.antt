-- The vertices are own ones.
use Rattle.std.proofs.Common.{◌+◌, ◌≡◌, ap, arith, length, ◌∙◌}
use Rattle.std.specs.Prelude.{slice_index, slice_index_or, []}
use Rattle.std.proofs.lemmas.Result.{IfOk-weaker}
use Rattle.symple_face.specs.PartViews.{plain_of}
use Rattle.symple_face.specs.Parts.{lists_of}
use Rattle.symple_face.proofs.PartLaws.{refresh_to_few}
use Rattle.work_laws.proofs.Lists.{refresh_to_own}
use Rattle.machine_steps.proofs.GiftLaws.{all_placed, refresh_told}
use Rattle.vertex_work.proofs.ReceiverLaws.{own_size}
use Rattle.machine_steps.proofs.gifts.refresh_bytes.Goals as goal

pub refresh_body-requires : goal.refresh_body-requires
refresh_body-requires c =
    let ground = c.args.ground.now in
    let part = plain_of c.args.ground.now.part in
    let listed = c.list_at-list.ensures
    ∙ ap (λ lists. slice_index_or (lists_of lists) c.args.to []) c.deref.ensures.value in
    let few = refresh_to_few part c.args.to c.list_at-list.result.now ground.can.whole listed in
    let size : c.start.result + length c.args.rows.now.rows
    ≡ slice_index c.args.ground.now.part.cuts c.args.ground.now.part.at.machine =
    omega (arith, own_size part ground.part.split.value ground.can, c.start.ensures.start, c.requires.rows.count) in
    record {
      own = all_placed part.ends part.at.machine c.start.result (length c.args.rows.now.rows)
          c.list_at-list.result.now (slice_index_or part.refresh_to c.args.to []) listed
          (refresh_to_own part ground.part.split.value ground.can c.args.to c.requires.to c.requires.other)
          c.start.ensures.start size;
      few = omega (arith, few);
    }

pub returns : goal.returns
returns c =
    let part = plain_of c.args.ground.now.part in
    let listed = c.list_at-list.ensures
    ∙ ap (λ lists. slice_index_or (lists_of lists) c.args.to []) c.deref.ensures.value in
    IfOk-weaker c.refresh_body.result _ _
    (λ body is s shows.
    refresh_told part c.args.ground.now.part.split.value c.args.totals.now c.args.rows.now c.start.result c.args.to
    c.list_at-list.result.now body.items listed c.start.ensures.start is s shows)
    c.refresh_body.ensures
