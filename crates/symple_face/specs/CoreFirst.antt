-- How a core begins: before the first round, or at the begin of a later one.
use Rattle.std.specs.Prelude.{◌==◌, false, List, [], ◌∷◌, ℕ, ℤ, Option, None, Some, if◌then◌else◌, map}
use Rattle.vert_base.specs.declared.value.Row.{Row}
use Rattle.vert_base.specs.declared.value.Ruling.TheVariants.{Stop}
use Rattle.vert_base.specs.Letters.{Letter}
use Rattle.vert_eval.specs.declared.environment.Env.{Env}
use Rattle.vert_eval.specs.Rounds.{empty_row, row_at}
use Rattle.vert_eval.specs.SourceRun.{with_row}
use Rattle.vert_eval.specs.Values.{value_of}
use Rattle.vert_eval.specs.Words.{is_set}
use Rattle.circulant_plan.specs.declared.spot.Spot.{Spot}
use Rattle.circulant_plan.specs.declared.spot.Spot.TheVariants.{Tell, Judge, Begin, Scan, Close, Over}
use Rattle.circulant_plan.specs.Names.{verdict_name}
use Rattle.circulant_plan.specs.Standing.{first_standing, standing_at}
use Rattle.instrument.specs.declared.split.Split.{Split}
use Rattle.body_shape.specs.Verdict.{verdict_body}
use Rattle.symple_face.specs.CoreScan.{fresh}
use Rattle.symple_face.specs.CoreSight.{part_sight, program_of, targets_of}
use Rattle.symple_face.specs.CoreTakes.{empty_partials}
use Rattle.symple_face.specs.Parts.{PlainPart, chunk_vertices}
use Rattle.symple_face.specs.Sight.{seen_env}
use Rattle.symple_face.specs.State.{State, Sums, machine}
use Rattle.symple_face.specs.Work.{PlainAhead, PlainStart}

abbrev pub no_sums : Sums
no_sums = record { active = 0; edges = 0; totals = [] }

-- the row of a vertex before the first round: each field is its expression, and `active` is the value of start
abbrev pub first_row_of : PlainPart → Split → ℕ → Row
first_row_of part split v =
    let env : Env = seen_env (part_sight part 0 [] (λ v. empty_row)) v 0 [] in
    let fields : List ℤ = map (λ d. value_of d.value env) (program_of split).fields.items in
    let row : Row = record { words = record { items = fields }; active = false } in
    record row { active = is_set (value_of (program_of split).start (with_row row env)) }

abbrev pub core_first : PlainPart → Split → State
core_first part split =
    let own : List ℕ = chunk_vertices part.ends part.at.machine in
    record {
      part = part;
      split = split;
      at = first_standing;
      ruling = Stop;
      held = [];
      rows = map (first_row_of part split) own;
      partials = map (λ v. empty_partials split) own;
      ring = map (λ v. fresh split) own;
      reading = map (λ v. []) (targets_of part);
      reads = map (λ v. []) (targets_of part);
      judged = no_sums;
      report = record { round = 0; ruling = Stop; active = 0; edges = 0; reads = 0 };
      more = [];
    }

-- ---- from a start
abbrev pub body_at_start : PlainStart → List ℕ
body_at_start start = verdict_body (record { ruling = start.ruling; totals = start.totals })

-- a machine other than 0 has taken the verdict of the round that begins
abbrev pub held_at_start : PlainPart → PlainStart → List Letter
held_at_start part start =
    if part.at.machine == 0
    then []
    else record { name = verdict_name start.round part.at.machine; body = body_at_start start } ∷ []

-- and machine 0 has judged it
abbrev pub judged_at_start : PlainPart → PlainStart → Sums
judged_at_start part start =
    if part.at.machine == 0
    then record { active = start.active; edges = start.edges; totals = start.totals }
    else no_sums

-- the given rows of the own vertices
abbrev pub rows_at_start : PlainPart → PlainStart → List Row
rows_at_start part start = map (row_at start.rows) (chunk_vertices part.ends part.at.machine)

abbrev pub core_restarted : PlainPart → Split → PlainStart → State
core_restarted part split start = record (core_first part split) {
  at = standing_at start.round (Begin start.round);
  ruling = start.ruling;
  held = held_at_start part start;
  rows = rows_at_start part start;
  judged = judged_at_start part start;
}

-- ---- ahead
abbrev pub ahead_at : State → Spot → Option PlainAhead
ahead_at s Tell = None
ahead_at s (Judge r) = None
ahead_at s (Begin r) =
    Some (record {
      round = r;
      ruling = s.ruling;
      active = s.judged.active;
      edges = s.judged.edges;
      totals = s.judged.totals;
    })
ahead_at s (Scan r step h) = None
ahead_at s (Close r dense) = None
ahead_at s Over = None

abbrev pub core_ahead : State → Option PlainAhead
core_ahead s = if machine s == 0 then ahead_at s s.at.spot else None
