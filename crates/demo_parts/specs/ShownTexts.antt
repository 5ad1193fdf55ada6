-- The three lines of the demonstration.
use Rattle.std.specs.Prelude.{ℕ, List, ◌++◌, codes, decimal}
use Rattle.hex.specs.Hex.{encode_lower}

-- how large the graph is, and how many machines there are
abbrev pub graph_line : ℕ → List ℕ
graph_line machines = codes "vertices 20000 edges 200000 machines " ++ decimal machines ++ codes "\n"

-- how many rounds took place, and how many sources were read in them
abbrev pub rounds_line : ℕ → ℕ → List ℕ
rounds_line rounds reads = codes "rounds " ++ decimal rounds ++ codes " reads " ++ decimal reads ++ codes "\n"

-- the digest of the table
abbrev pub table_line : List ℕ → List ℕ
table_line digest = codes "table " ++ encode_lower digest ++ codes "\n"

abbrev pub shown_text : ℕ → ℕ → ℕ → List ℕ → List ℕ
shown_text machines rounds reads digest = graph_line machines ++ rounds_line rounds reads ++ table_line digest
