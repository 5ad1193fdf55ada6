-- What is told of the rounds of a run.
use Rattle.std.specs.Prelude.{ℕ, Bool, List, [], if◌then◌else◌, length, map, sum}
use Rattle.vert_base.specs.declared.value.Ruling.{Ruling}
use Rattle.vert_eval.specs.SourceRun.{Played, Run}
use Rattle.plain_run.specs.declared.rounds.PlayedRound.{PlayedRound}
use Rattle.plain_run.specs.Lists.{id_lists_of}

-- a round that took place: its number and ruling, the active vertices, the edges from them, how many
-- sources were read, and where they are kept, those that each vertex read
pub record Told : Type 0 where
  pub round : ℕ
  pub ruling : Ruling
  pub active : ℕ
  pub edges : ℕ
  pub read : ℕ
  pub reads : List (List ℕ)

abbrev pub told_of : PlayedRound → Told
told_of r = record {
  round = r.round;
  ruling = r.ruling;
  active = r.active;
  edges = r.edges;
  read = r.read;
  reads = id_lists_of r.reads;
}

-- how many sources all vertices read
abbrev pub read_in : List (List ℕ) → ℕ
read_in reads = sum (map length reads)

-- the reads, where they are kept
abbrev pub kept_reads : Bool → List (List ℕ) → List (List ℕ)
kept_reads kept reads = if kept then reads else []

abbrev pub told_played : Bool → Played → Told
told_played kept p = record {
  round = p.round;
  ruling = p.before.ruling;
  active = p.before.active;
  edges = p.before.edges;
  read = read_in p.reads;
  reads = kept_reads kept p.reads;
}

-- the rounds of a run, as they are told
abbrev pub rounds_told : Bool → Run → List Told
rounds_told kept run = map (told_played kept) run.rounds
