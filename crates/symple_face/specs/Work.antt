-- What a kind of machine does, as functions of plain data.
use Rattle.std.specs.Prelude.{ℕ, ℤ, List, Option}
use Rattle.vert_base.specs.declared.value.Row.{Row}
use Rattle.vert_base.specs.declared.value.Ruling.{Ruling}
use Rattle.vert_base.specs.Letters.{Letter}
use Rattle.instrument.specs.declared.split.Split.{Split}
use Rattle.symple_face.specs.declared.report.Report.{Report}
use Rattle.symple_face.specs.Parts.{PlainPart}
use Rattle.symple_face.specs.State.{State}
use Rattle.symple_face.specs.declared.start.Start.{Start}
use Rattle.symple_face.specs.declared.ahead.Ahead.{Ahead}

-- what a run begins with at a round
pub record PlainStart : Type 0 where
  pub round : ℕ
  pub ruling : Ruling
  pub active : ℕ
  pub edges : ℕ
  pub rows : List Row
  pub totals : List ℤ

-- the same without the rows
pub record PlainAhead : Type 0 where
  pub round : ℕ
  pub ruling : Ruling
  pub active : ℕ
  pub edges : ℕ
  pub totals : List ℤ

abbrev pub plain_start : Start → PlainStart
plain_start s = record {
  round = s.round;
  ruling = s.ruling;
  active = s.active;
  edges = s.edges;
  rows = s.rows.items;
  totals = s.totals.items;
}

abbrev pub plain_ahead : Ahead → PlainAhead
plain_ahead a = record {
  round = a.round;
  ruling = a.ruling;
  active = a.active;
  edges = a.edges;
  totals = a.totals.items;
}

pub record Work : Type 0 where
  pub first : PlainPart → Split → State
  -- the ruling of the spot's action, which counts at a judge alone
  pub judge : State → Ruling
  -- what the spot's action leaves, and what it sends
  pub go : State → State
  pub sent : State → List Letter
  pub take : State → Letter → State
  pub row : State → ℕ → Row
  pub reads : State → ℕ → List ℕ
  pub report : State → Report
  -- a machine as `first` leaves it, from a start
  pub restarted : PlainPart → Split → PlainStart → State
  pub ahead : State → Option PlainAhead
