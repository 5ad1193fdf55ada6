-- What is done and what is left is the whole.
use Rattle.std.proofs.Common.{◌≡◌, ◌<◌, ◌≤◌, ℕ, drop, get_or, length, map}
use Rattle.std.specs.List.{All}
use Rattle.vert_base.specs.Neighbours.{bucket, target}
use Rattle.symple_face.specs.CoreSight.{none}
use Rattle.symple_face.specs.Sight.{Sight}
use Rattle.machine_parts.specs.Seen.{ShowsOwn}
use Rattle.machine_parts.specs.Spans.{vertex_of}
use Rattle.machine_parts.proofs.SpanLaws.{no_span}
use Rattle.machine_parts.proofs.UpdateLaws.{merged}
use Rattle.vertex_work.specs.Scanning.{scanned_over, scans}
use Rattle.vertex_work.specs.Stepping.{SameRound}
use Rattle.machine_steps.proofs.WalkLaws.{Walking}
use Rattle.machine_steps.proofs.scan.keep_own.Given as goal

abbrev pub invariant-spans : goal.invariant-spans
invariant-spans l =
    let ids = map vertex_of l.spans in
    record {
      same : SameRound l.initial.visit.env l.visit.env;
      words : l.half.width ≡ l.initial.half.width;
      states : length l.half.states ≡ length l.initial.half.states;
      few : (i : ℕ) → i < l.at →
          get_or l.counts i 0 ≤ length (bucket target (vertex_of (get_or l.spans i no_span)) l.own.edges.now);
      width : l.partials.width ≡ l.initial.partials.width;
      rows : length l.partials.rows ≡ length l.initial.partials.rows;
      each : All (λ ps. length ps ≡ l.initial.partials.width) l.partials.rows;
      walking : (g : Sight) →
          ShowsOwn g l.own.rows.now.rows l.own.degrees.now l.own.start (none l.body.split.now) l.initial.visit.env →
          Walking (scanned_over l.body.split.now l.body.dense.now g l.step.key l.own.edges.now) l.own.edges.now
          l.step.start ids l.at l.initial.half.states l.half.states l.counts;
      kept : (g : Sight) →
          ShowsOwn g l.own.rows.now.rows l.own.degrees.now l.own.start (none l.body.split.now) l.initial.visit.env →
          merged l.own.start l.step.key (drop l.at ids) (map (λ x. x.sent) (scans (scanned_over l.body.split.now
          l.body.dense.now g l.step.key l.own.edges.now) l.step.start (drop l.at ids) l.half.states)) l.partials.rows
          ≡ merged l.own.start l.step.key ids (map (λ x. x.sent) (scans (scanned_over l.body.split.now
          l.body.dense.now g l.step.key l.own.edges.now) l.step.start ids l.initial.half.states))
          l.initial.partials.rows;
    }
