-- What a core counts, and what it judges.
use Rattle.std.specs.Prelude.{◌+◌, nat_le, ℕ, ℤ, List, [], ◌∷◌, if◌then◌else◌, length, map, sum}
use Rattle.vert_base.specs.declared.value.Row.{Row}
use Rattle.vert_base.specs.declared.value.Ruling.{Ruling}
use Rattle.vert_base.specs.declared.value.Ruling.TheVariants.{Stop}
use Rattle.mode_switch.specs.Ruling.{ruling_of}
use Rattle.slot_merge.specs.Combine.{combined_of, total_of}
use Rattle.vert_tree.specs.declared.program.TotalDecl.{TotalDecl}
use Rattle.vert_eval.specs.Rounds.{empty_row}
use Rattle.vert_eval.specs.SourceRun.{active_vertices, stops}
use Rattle.vert_eval.specs.Values.{value_of}
use Rattle.circulant_plan.specs.declared.spot.Spot.{Spot}
use Rattle.circulant_plan.specs.declared.spot.Spot.TheVariants.{Tell, Judge, Begin, Scan, Close, Over}
use Rattle.circulant_plan.specs.Names.{tally_name}
use Rattle.circulant_plan.specs.Table.{others_of}
use Rattle.instrument.specs.declared.split.Split.{Split}
use Rattle.body_shape.specs.Tally.{Counted, counted_read}
use Rattle.symple_face.specs.declared.report.Report.{Report}
use Rattle.symple_face.specs.CoreSight.{degree_of, held_body, part_sight, program_of, row_in, total_count}
use Rattle.symple_face.specs.Parts.{PlainPart, chunk_vertices}
use Rattle.symple_face.specs.Sight.{Sight, seen_env}
use Rattle.symple_face.specs.State.{State, p_of}

-- ---- counts
-- the edges that leave active vertices of a chunk
abbrev pub edges_ahead : PlainPart → List Row → ℕ
edges_ahead part rows =
    sum
    (map (λ v. if (row_in part rows v).active then (degree_of part v).outs else 0)
    (chunk_vertices part.ends part.at.machine))

-- a total of the rows of a chunk after round r
abbrev pub chunk_total : PlainPart → List Row → ℕ → TotalDecl → ℤ
chunk_total part rows r t =
    let g : Sight = part_sight part r [] (row_in part rows) in
    total_of t.op (map (λ v. value_of t.value (seen_env g v 0 [])) (chunk_vertices part.ends part.at.machine))

-- the counts and totals of a chunk after round r, and a machine's reads in it
abbrev pub counted : PlainPart → Split → List Row → List (List ℕ) → ℕ → Counted
counted part split rows reads r = record {
  active = active_vertices rows;
  edges = edges_ahead part rows;
  reads = sum (map length reads);
  totals = map (chunk_total part rows r) (program_of split).totals.items;
}

-- ---- sums
abbrev pub totals_joined : List TotalDecl → List ℤ → List ℤ → List ℤ
totals_joined [] xs ys = []
totals_joined (t ∷ ts) [] ys = []
totals_joined (t ∷ ts) (x ∷ xs) [] = x ∷ totals_joined ts xs []
totals_joined (t ∷ ts) (x ∷ xs) (y ∷ ys) = combined_of t.op x y ∷ totals_joined ts xs ys

abbrev pub joined : List TotalDecl → Counted → Counted → Counted
joined ts a b = record {
  active = a.active + b.active;
  edges = a.edges + b.edges;
  reads = a.reads + b.reads;
  totals = totals_joined ts a.totals b.totals;
}

abbrev pub all_joined : List TotalDecl → Counted → List Counted → Counted
all_joined ts a [] = a
all_joined ts a (b ∷ bs) = all_joined ts (joined ts a b) bs

-- what a tally of round r from machine k tells
abbrev pub tally_of : State → ℕ → ℕ → Counted
tally_of s r k = counted_read (total_count s.split) (held_body s (tally_name r k))

-- the sums over all machines after round r, of the own counts and the tallies taken
abbrev pub sums_at : State → ℕ → Counted
sums_at s r =
    all_joined (program_of s.split).totals.items (counted s.part s.split s.rows s.reads r)
    (map (tally_of s r) (others_of (p_of s) 0))

-- ---- the judge
-- the ruling for round r + 1: stop where the stop test is true for the totals after round r, else by the rule of modes
abbrev pub ruling_by : State → ℕ → Counted → Ruling
ruling_by s r sums =
    if stops (program_of s.split).stop (seen_env (part_sight s.part r sums.totals (λ v. empty_row)) 0 0 [])
    then Stop
    else ruling_of sums.active sums.edges s.part.edges (r + 1) (program_of s.split).limit (program_of s.split).mode

abbrev pub judge_at : State → Spot → Ruling
judge_at s Tell = Stop
judge_at s (Judge r) = ruling_by s r (sums_at s r)
judge_at s (Begin r) = Stop
judge_at s (Scan r step h) = Stop
judge_at s (Close r dense) = Stop
judge_at s Over = Stop

abbrev pub core_judge : State → Ruling
core_judge s = judge_at s s.at.spot

-- the report of round r, with its ruling and the numbers that the judge before had summed; of round 0 there is none
abbrev pub report_after : State → ℕ → Report
report_after s r =
    if nat_le 1 r
    then record {
      round = r;
      ruling = s.ruling;
      active = s.judged.active;
      edges = s.judged.edges;
      reads = (sums_at s r).reads;
    }
    else s.report

abbrev pub judge_go : State → ℕ → State
judge_go s r = record s {
  ruling = ruling_by s r (sums_at s r);
  judged = record { active = (sums_at s r).active; edges = (sums_at s r).edges; totals = (sums_at s r).totals };
  report = report_after s r;
}
