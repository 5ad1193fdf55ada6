-- The text of a run: the lines of its rounds that are asked for, and then its table.
use Rattle.std.specs.Prelude.{ℕ, ◌+◌, List, [], ◌∷◌, ◌++◌, codes, false, flat_map, if◌then◌else◌}
use Rattle.array_text.specs.Reads.{read_head_text, sources_text}
use Rattle.array_text.specs.Rounds.{round_text}
use Rattle.array_text.specs.Tables.{table_text}
use Rattle.plain_run.specs.Told.{Told, rounds_told}
use Rattle.symple_words.specs.declared.line.Lines.{Lines}
use Rattle.vert_base.specs.declared.value.Row.{Row}
use Rattle.vert_eval.specs.SourceRun.{Run}
use Rattle.vert_tree.specs.declared.program.Program.{Program}

-- the line of a round that took place, with the number of sources that were read in it
abbrev pub told_text : Told → List ℕ
told_text told = round_text told.round told.ruling told.active told.edges told.read

-- the line of a vertex and the sources that it read, where there are any
abbrev pub read_line : ℕ → ℕ → List ℕ → List ℕ
read_line round v [] = []
read_line round v (u ∷ us) = read_head_text round v ++ (sources_text (u ∷ us) ++ codes "\n")

-- the lines of the vertices from v on
abbrev pub read_lines : ℕ → ℕ → List (List ℕ) → List ℕ
read_lines round v [] = []
read_lines round v (us ∷ others) = read_line round v us ++ read_lines round (v + 1) others

-- no line is asked for
abbrev pub no_lines : Lines
no_lines = record { rounds = false; reads = false; log = false }

-- what is asked for of the lines of a round: `--rounds`, and then `--reads`
abbrev pub told_lines : Lines → Told → List ℕ
told_lines lines told = (if lines.rounds then told_text told else [])
    ++ (if lines.reads then read_lines told.round 0 told.reads else [])

-- the lines of the rounds, and then the table of the last rows
abbrev pub told_run : Lines → Program → List Told → List Row → List ℕ
told_run lines program tolds rows = flat_map (told_lines lines) tolds ++ table_text program rows

abbrev pub text_of_run : Lines → Program → Run → List ℕ
text_of_run lines program run = told_run lines program (rounds_told lines.reads run) run.last.rows
