-- What every kind of machine keeps that can begin at a later round.
use Rattle.std.specs.Prelude.{◌≡◌, ◌≤◌, ◌^◌, ◌==◌, ◌&&◌, not, true, Some, is_some, length}
use Rattle.std.specs.Int.{w64}
use Rattle.std.specs.Int.RustNames.{FitsSigned}
use Rattle.std.specs.List.{All}
use Rattle.vert_base.specs.declared.message.Name.{Name}
use Rattle.vert_base.specs.Names.{same_name}
use Rattle.vert_tree.specs.Kinds.{kinds_of}
use Rattle.word_kinds.specs.Fits.{IsRow}
use Rattle.chunk_split.specs.Chunks.{vertices_of}
use Rattle.circulant_plan.specs.declared.spot.Spot.TheVariants.{Begin}
use Rattle.circulant_plan.specs.Names.{verdict_name}
use Rattle.circulant_plan.specs.Standing.{standing_at}
use Rattle.instrument.specs.declared.split.Split.{Split}
use Rattle.symple_face.specs.CoreFirst.{judged_at_start, rows_at_start}
use Rattle.symple_face.specs.Lawful.{CanRun, is_begin}
use Rattle.symple_face.specs.Parts.{PlainPart}
use Rattle.symple_face.specs.Planned.{has_block}
use Rattle.symple_face.specs.Plans.{blocks_of}
use Rattle.symple_face.specs.State.{State, has_taken, machine}
use Rattle.symple_face.specs.Work.{PlainAhead, PlainStart, Work}

-- a start with which a machine of this part can begin
pub record IsStart (whole : PlainPart) (program : Split) (start : PlainStart) : Type 0 where
  pub rows : length start.rows ≡ vertices_of whole.ends
  pub typed : All (IsRow (kinds_of program.program.program.fields.items)) start.rows
  pub totals : length start.totals ≡ length program.program.program.totals.items
  pub words : All (FitsSigned w64) start.totals
  pub late : 2 ≤ start.round
  pub within : start.round ≤ program.program.program.limit
  pub block : has_block (blocks_of program) start.ruling ≡ true
  pub some : 1 ≤ start.active
  pub active : start.active ≤ 2 ^ 32
  pub edges : start.edges ≤ 2 ^ 32

-- a machine stands at the begin of the start's round: with its ruling, of messages the round's verdict alone, and that
-- at a machine other than 0, the given rows, and at machine 0 the numbers that the start holds
pub record BeginsAt (whole : PlainPart) (program : Split) (start : PlainStart) (s : State) : Type 0 where
  pub part : s.part ≡ whole
  pub split : s.split ≡ program
  pub at : s.at ≡ standing_at start.round (Begin start.round)
  pub ruling : s.ruling ≡ start.ruling
  pub held : (x : Name) →
      has_taken s x ≡ (not (whole.at.machine == 0) && same_name (verdict_name start.round whole.at.machine) x)
  pub rows : s.rows ≡ rows_at_start whole start
  pub judged : s.judged ≡ judged_at_start whole start

pub record IsRestartLawful (work : Work) (sound : State → Type 0) : Type 0 where
  pub begins : (whole : PlainPart) (program : Split) (start : PlainStart) →
      BeginsAt whole program start (work.restarted whole program start)
  pub begins_sound : (whole : PlainPart) (program : Split) (start : PlainStart) →
      CanRun whole program → IsStart whole program start → sound (work.restarted whole program start)
  -- it tells of the round ahead at machine 0 where a round begins, and nowhere else
  pub ahead_there : (s : State) → is_some (work.ahead s) ≡ (machine s == 0 && is_begin s.at.spot)
  pub ahead_round : (s : State) (a : PlainAhead) → work.ahead s ≡ Some a → s.at.spot ≡ Begin a.round
  pub ahead_ruling : (s : State) (a : PlainAhead) → work.ahead s ≡ Some a → a.ruling ≡ s.ruling
