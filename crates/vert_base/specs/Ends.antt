-- Chunks of vertices side by side, told by their ends.
use Rattle.std.specs.Prelude.{ℕ, zero, suc, List, slice_index}

-- where chunk m starts, given the ends of the chunks: where the chunk before it ends
abbrev pub start_of : List ℕ → ℕ → ℕ
start_of ends zero = 0
start_of ends (suc m) = slice_index ends m
