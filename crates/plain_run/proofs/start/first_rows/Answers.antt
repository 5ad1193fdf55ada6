use Rattle.std.proofs.Common.{◌≡◌, ◌∙◌, map, length, ap, arith}
use Rattle.std.specs.List.{range_with_len}
use Rattle.std.proofs.lemmas.List.FromFn.{length-map-range_with_len}
use Rattle.vert_eval.specs.SourceRun.{first_row}
use Rattle.plain_run.specs.Jobs.{job_of}
use Rattle.plain_run.proofs.EnvLaws.{one_more}
use Rattle.plain_run.proofs.StartLaws.{first_rows-wide}
use Rattle.plain_run.proofs.start.first_rows.Goals as goal

pub loop-v-preserved : goal.loop-v-preserved
loop-v-preserved c = one_more (first_row (job_of c.args.job.now)) c.loop-v.v c.loop-v.rows.items c.push.new.self.items
    c.first_row.result c.loop-v.invariant c.first_row.ensures c.in_ok-push.ensures.items

pub returns-clause-stands : goal.returns-clause-stands
returns-clause-stands c =
    let j = job_of c.args.job.now in
    let n = c.args.job.now.graph.now.vertices in
    let whole : c.loop-v.v ≡ n = omega arith in
    let rows : c.loop-v.rows.items ≡ map (first_row j) (range_with_len 0 n) =
    c.loop-v.invariant ∙ ap (λ m. map (first_row j) (range_with_len 0 m)) whole in
    record {
      each = ap length rows ∙ length-map-range_with_len (first_row j) 0 n;
      wide = first_rows-wide j n c.loop-v.rows.items rows;
    }
