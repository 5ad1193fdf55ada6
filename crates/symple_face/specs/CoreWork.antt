-- The work of a core: what each event does with its part and the bodies that it took, whoever sent them.
use Rattle.std.specs.Prelude.{ℕ, List, [], map, slice_index_or}
use Rattle.vert_base.specs.declared.message.Name.{Name}
use Rattle.vert_base.specs.declared.message.NameKind.{NameKind}
use Rattle.vert_base.specs.declared.message.NameKind.TheVariants as kind
use Rattle.vert_base.specs.declared.value.Ruling.{Ruling}
use Rattle.vert_base.specs.Letters.{Letter, placed}
use Rattle.circulant_plan.specs.declared.spot.Spot.{Spot}
use Rattle.circulant_plan.specs.declared.spot.Spot.TheVariants.{Tell, Judge, Begin, Scan, Close, Over}
use Rattle.circulant_plan.specs.Skeleton.{acting_ruling}
use Rattle.circulant_plan.specs.Standing.{Standing, next_standing, ruled_standing}
use Rattle.circulant_plan.specs.Table.{gives_of}
use Rattle.body_shape.specs.Push.{push_body}
use Rattle.body_shape.specs.Refresh.{plain_row, refresh_body}
use Rattle.body_shape.specs.Tally.{tally_body}
use Rattle.body_shape.specs.Verdict.{verdict_body}
use Rattle.symple_face.specs.declared.report.Report.{Report}
use Rattle.symple_face.specs.CoreClose.{close_go, closed_rows}
use Rattle.symple_face.specs.CoreDense.{scan_dep, scan_go, scan_update}
use Rattle.symple_face.specs.CoreFirst.{core_ahead, core_first, core_restarted}
use Rattle.symple_face.specs.CoreJudge.{core_judge, counted, judge_go, ruling_by, sums_at}
use Rattle.symple_face.specs.CoreSight.{beside, own_row, targets}
use Rattle.symple_face.specs.CoreSparse.{begin_go, own_sends, take_push}
use Rattle.symple_face.specs.CoreTakes.{noted, with_update}
use Rattle.symple_face.specs.Plans.{ring_of}
use Rattle.symple_face.specs.State.{State, machine, p_of, ruling_read}
use Rattle.symple_face.specs.Work.{Work}

-- ---- what is sent
-- the rows of the vertices that a machine mirrors
abbrev pub refresh_sent : State → ℕ → List ℕ
refresh_sent s k = refresh_body (map (λ v. plain_row (own_row s v)) (slice_index_or s.part.refresh_to k []))

-- what the vertices with an edge into its chunk send
abbrev pub push_sent : State → ℕ → ℕ → List ℕ
push_sent s r k = push_body (map (own_sends s r) (slice_index_or s.part.push_to k []))

abbrev pub sent_at_begin : State → ℕ → NameKind → ℕ → List ℕ
sent_at_begin s r kind.Refresh k = refresh_sent s k
sent_at_begin s r _ k = push_sent s r k

abbrev pub sent_at_scan : State → ℕ → ℕ → ℕ → NameKind → List ℕ
sent_at_scan s r step h kind.Dep = scan_dep s r step h
sent_at_scan s r step h _ = scan_update s r step h

-- the body of a message that is sent at a spot
abbrev pub sent_at : State → Spot → Name → List ℕ
sent_at s Tell x = tally_body (counted s.part s.split s.rows [] 0)
sent_at s (Judge r) x = verdict_body (record { ruling = ruling_by s r (sums_at s r); totals = (sums_at s r).totals })
sent_at s (Begin r) x = sent_at_begin s r x.kind x.to
sent_at s (Scan r step h) x = sent_at_scan s r step h x.kind
sent_at s (Close r dense) x = tally_body (counted s.part s.split (closed_rows s r dense) s.reading r)
sent_at s Over x = []

-- the ruling by which it acts: at a judge its own, else that of the round
abbrev pub core_acting : State → Ruling
core_acting s = acting_ruling (core_judge s) s.ruling s.at.spot

abbrev pub core_sent : State → List Letter
core_sent s =
    map (λ x. record { name = x; body = sent_at s s.at.spot x })
    (gives_of (ring_of s.split (p_of s)) (machine s) s.at.spot (core_acting s))

-- ---- what an action leaves
-- where the machine stands
abbrev pub acted : State → Spot → State
acted s Tell = s
acted s (Judge r) = judge_go s r
acted s (Begin r) = begin_go s r
acted s (Scan r step h) = scan_go s r step h
acted s (Close r dense) = close_go s r dense
acted s Over = s

-- at the begin of a round nothing is held of the one before
abbrev pub held_at : Spot → List Letter → List Letter
held_at Tell held = held
held_at (Judge r) held = held
held_at (Begin r) held = []
held_at (Scan r step h) held = held
held_at (Close r dense) held = held
held_at Over held = held

abbrev pub moved : Standing → State → State
moved at s = record s { at = at; held = held_at at.spot s.held }

abbrev pub core_go : State → State
core_go s = moved (next_standing (ring_of s.split (p_of s)) (machine s) (core_acting s) s.at) (acted s s.at.spot)

-- ---- what a take leaves
abbrev pub kept : State → Letter → State
kept s l = record s { held = placed l s.held }

abbrev pub take_update : State → Letter → State
take_update s l = record s { held = noted l s.held; partials = with_update s l.name l.body }

abbrev pub take_verdict : State → Letter → State
take_verdict s l = record (kept s l) { ruling = ruling_read l.body; at = ruled_standing (ruling_read l.body) s.at }

abbrev pub taken : NameKind → State → Letter → State
taken kind.Refresh s l = kept s l
taken kind.Dep s l = kept s l
taken kind.Update s l = take_update s l
taken kind.Push s l = take_push s l
taken kind.Tally s l = kept s l
taken kind.Verdict s l = take_verdict s l

abbrev pub core_take : State → Letter → State
core_take s l = taken l.name.kind s l

-- ---- what is told
-- the sources read for a vertex in the last closed round
abbrev pub core_reads : State → ℕ → List ℕ
core_reads s v = beside [] v (targets s) s.reads

abbrev pub core_report : State → Report
core_report s = s.report

abbrev pub core_work : Work
core_work = record {
  first = core_first;
  judge = core_judge;
  go = core_go;
  sent = core_sent;
  take = core_take;
  row = own_row;
  reads = core_reads;
  report = core_report;
  restarted = core_restarted;
  ahead = core_ahead;
}
