-- What is done and what is left is the whole.
use Rattle.std.proofs.Common.{◌≡◌, ◌<◌, ◌≤◌, ◌++◌, ℕ, drop, get_or, length, map}
use Rattle.vert_base.specs.Neighbours.{bucket, target}
use Rattle.body_shape.specs.Update.{update_body}
use Rattle.symple_face.specs.CoreSight.{none}
use Rattle.symple_face.specs.Sight.{Sight}
use Rattle.machine_parts.specs.Seen.{ShowsOwn}
use Rattle.machine_parts.specs.Spans.{vertex_of}
use Rattle.machine_parts.proofs.SpanLaws.{no_span}
use Rattle.vertex_work.specs.Scanning.{ShowsMirrors, scanned_over, scans}
use Rattle.vertex_work.specs.Stepping.{SameRound}
use Rattle.machine_steps.proofs.WalkLaws.{Walking}
use Rattle.machine_steps.proofs.scan.tell_mirrors.Given as goal

abbrev pub invariant-mirrors : goal.invariant-mirrors
invariant-mirrors l =
    let ids = map vertex_of l.mirrors.spans.now in
    record {
      same : SameRound l.initial.visit.env l.visit.env;
      width : l.half.width ≡ l.initial.half.width;
      count : length l.half.states ≡ length l.initial.half.states;
      few : (i : ℕ) → i < l.at →
          get_or l.counts i 0 ≤ length (bucket target (vertex_of (get_or l.mirrors.spans.now i no_span))
          l.own.edges.now);
      walking : (g : Sight) →
          ShowsOwn g l.own.rows.now.rows l.own.degrees.now l.own.start (none l.body.split.now) l.initial.visit.env →
          ShowsMirrors g ids l.mirrors.degrees.now l.own.rows.now.width l.mirrors.first l.mirrors.refresh.now →
          Walking (scanned_over l.body.split.now l.body.dense.now g l.step.key l.own.edges.now) l.own.edges.now
          l.step.start ids l.at l.initial.half.states l.half.states l.counts;
      told : (g : Sight) →
          ShowsOwn g l.own.rows.now.rows l.own.degrees.now l.own.start (none l.body.split.now) l.initial.visit.env →
          ShowsMirrors g ids l.mirrors.degrees.now l.own.rows.now.width l.mirrors.first l.mirrors.refresh.now →
          l.update.items ++ update_body (map (λ x. x.sent) (scans (scanned_over l.body.split.now l.body.dense.now g
          l.step.key l.own.edges.now) l.step.start (drop l.at ids) l.half.states))
          ≡ l.initial.update.items ++ update_body (map (λ x. x.sent) (scans (scanned_over l.body.split.now
          l.body.dense.now g l.step.key l.own.edges.now) l.step.start ids l.initial.half.states));
    }
