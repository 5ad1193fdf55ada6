-- The text of what a vertex read in a round.
use Rattle.std.specs.Prelude.{ℕ, List, ◌++◌, codes, decimal, flat_map}

-- `read`, the round and the vertex
abbrev pub read_head_text : ℕ → ℕ → List ℕ
read_head_text round v = codes "read " ++ decimal round ++ codes " " ++ decimal v

-- the id of a source, after a space
abbrev pub source_text : ℕ → List ℕ
source_text u = codes " " ++ decimal u

abbrev pub sources_text : List ℕ → List ℕ
sources_text us = flat_map source_text us
