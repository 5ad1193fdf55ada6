-- A push without a byte tells of no sends.
use Rattle.std.proofs.Common.{◌∙◌, ap, sym}
use Rattle.symple_face.specs.CoreSparse.{told_sends, worked}
use Rattle.machine_steps.proofs.WorkingLaws.{kept_body, no_bytes, silent_worked}
use Rattle.machine_steps.proofs.begin.work_kept.Goals as goal

pub returns-then-is_empty-clause-worked : goal.returns-then-is_empty-clause-worked
returns-then-is_empty-clause-worked c = λ s shows held.
    let g = c.args.ground.now in
    silent_worked g c.args.receivers.now c.args.env.now c.args.partials.now c.requires.can c.args.from
    c.held_body-body.result.now c.args.partials.now.rows s
    (no_bytes c.held_body-body.result.now (sym c.is_empty.ensures ∙ c.if-is_empty.true))
    (kept_body g c.args.receivers.now c.args.env.now c.args.partials.now c.requires.can c.args.from c.push_name.result
    c.args.held.now.letters c.held_body-body.result.now s shows held c.push_name.ensures c.held_body-body.ensures)

pub returns : goal.returns
returns c = record {
  worked = λ s shows held.
      c.work_chunk.ensures.worked s shows
      ∙ ap (λ body. worked s c.args.env.now.round (told_sends s c.args.from body) s.part.push c.args.partials.now.rows)
      (kept_body c.args.ground.now c.args.receivers.now c.args.env.now c.args.partials.now c.requires.can c.args.from
      c.push_name.result c.args.held.now.letters c.held_body-body.result.now s shows held c.push_name.ensures
      c.held_body-body.ensures);
  width = c.work_chunk.ensures.width;
  settled = c.work_chunk.ensures.settled;
  can = c.work_chunk.ensures.can;
}
