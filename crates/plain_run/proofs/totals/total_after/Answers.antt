use Rattle.std.proofs.Common.{◌≡◌, [], map, fold, ap, ◌∙◌, arith, rules, w64}
use Rattle.std.specs.List.{range_with_len}
use Rattle.std.proofs.lemmas.Int.{to_z-of_z}
use Rattle.slot_merge.specs.Combine.{combined_of, neutral}
use Rattle.vert_eval.specs.Rounds.{env_at}
use Rattle.vert_eval.specs.SourceRun.{scene_of}
use Rattle.vert_eval.specs.Values.{value_of}
use Rattle.plain_run.specs.Jobs.{job_of}
use Rattle.plain_run.proofs.StartLaws.{total_step}
use Rattle.plain_run.proofs.totals.total_after.Goals as goal

pub loop-v-preserved : goal.loop-v-preserved
loop-v-preserved c =
    let s = scene_of (job_of c.args.job.now) c.args.round c.args.rows.now [] in
    let t = c.args.total.now in
    let here = to_z-of_z w64 c.with_value-word.result (search rules) ∙ c.with_value-word.ensures in
    total_step t.op t.value s c.loop-v.v c.enter_vertex.new.env _ _ c.loop-v.invariant c.enter_vertex.ensures.env here

pub returns : goal.returns
returns c =
    let s = scene_of (job_of c.args.job.now) c.args.round c.args.rows.now [] in
    let t = c.args.total.now in
    let whole : c.loop-v.v ≡ c.args.job.now.graph.now.vertices = omega arith in
    c.loop-v.invariant ∙ ap (λ n. fold (combined_of t.op) (neutral t.op)
    (map (λ v. value_of t.value (env_at s v [])) (range_with_len 0 n))) whole
