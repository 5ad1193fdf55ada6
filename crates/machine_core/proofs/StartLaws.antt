-- A machine at the begin of a later round.
use Rattle.std.proofs.Common.{◌≡◌, ◌<◌, ◌+◌, ◌==◌, ℕ, Bool, true, false, List, [], ◌∷◌, length, get_or, refl, ap, ◌∙◌, arith}
use Rattle.std.specs.Prelude.{if◌then◌else◌}
use Rattle.std.proofs.lemmas.Bool.{eq-eqb}
use Rattle.std.proofs.lemmas.List.{get_or_default}
use Rattle.std.proofs.lemmas.List.Elements.{All-cons, All-nil}
use Rattle.vert_base.specs.declared.value.Row.{Row}
use Rattle.vert_base.specs.Ends.{start_of}
use Rattle.vert_base.specs.Letters.{Letter}
use Rattle.vert_eval.specs.Rounds.{empty_row, row_at}
use Rattle.chunk_split.specs.Chunks.{vertices_of}
use Rattle.circulant_plan.specs.Names.{verdict_name}
use Rattle.double_buffer.specs.Held.{AreOfRound}
use Rattle.instrument.specs.declared.split.Split.{Split}
use Rattle.symple_face.specs.CoreFirst.{body_at_start, held_at_start, judged_at_start, no_sums}
use Rattle.symple_face.specs.Lawful.{CanRun}
use Rattle.symple_face.specs.Parts.{PlainPart, chunk_vertices}
use Rattle.symple_face.specs.Work.{PlainStart}
use Rattle.symple_face.proofs.ChunkLaws.{lies_within}
use Rattle.work_laws.proofs.Sees.{among_lies}

-- the row of the own vertex at a place is among those of all
module _ (part : PlainPart) (split : Split) where
  pub own_within : CanRun part split → (before place : ℕ) (all : List Row) →
      before ≡ start_of part.ends part.at.machine → length all ≡ vertices_of part.ends →
      place < length (chunk_vertices part.ends part.at.machine) → before + place < length all
  own_within can before place all starts whole low =
      let at = can.place in
      let ends = can.whole.machine in
      let v : ℕ = start_of part.ends part.at.machine + place in
      let within = lies_within 64 part.ends can.ends part.at.machine v (omega (arith, at, ends))
      (among_lies part v (omega arith, omega (arith, low))) in
      omega (arith, within, starts, whole)

-- a row that was read is that at its place
pub row_read : (rows : List Row) (v : ℕ) (row : Row) → v < length rows → row ≡ get_or rows v row → row ≡ row_at rows v
row_read rows v row lt is = is ∙ get_or_default rows v row empty_row lt

-- what is held from a start is of its round
pub start_of_round : (part : PlainPart) (start : PlainStart) →
    AreOfRound start.round part.at.machine (held_at_start part start)
start_of_round part start =
    let P : Letter → Type 0 = λ y. (y.name.round ≡ start.round) × (y.name.to ≡ part.at.machine) in
    let verdict : Letter = record {
      name = verdict_name start.round part.at.machine;
      body = body_at_start start;
    } in
    elim (part.at.machine == 0) as (λ b. AreOfRound start.round part.at.machine (if b then [] else verdict ∷ []))
    [ true ↦ All-nil P | false ↦ All-cons P verdict [] (refl, refl) (All-nil P) ]

-- machine 0 has the totals of a start
pub start_totals : (part : PlainPart) (start : PlainStart) → part.at.machine ≡ 0 →
    (judged_at_start part start).totals ≡ start.totals
start_totals part start here =
    ap (λ (b : Bool). (if b then record {
      active = start.active;
      edges = start.edges;
      totals = start.totals;
    } else no_sums).totals) (eq-eqb part.at.machine 0 here)
