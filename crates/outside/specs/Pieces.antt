-- The state of the source in memory.
use Rattle.std.specs.Prelude.{ℕ, List, [], ◌∷◌, ◌++◌, drop, take, map, Vec}
use Rattle.outside.specs.Calls.{Calls}

-- the pieces left, the first maybe in part, with the calls and the count of faults
pub record Pieces : Type 0 where
  pub pieces : List (List ℕ)
  pub calls : Calls
  pub faults : ℕ

-- the bytes of all pieces
abbrev pub joined : List (List ℕ) → List ℕ
joined [] = []
joined (piece ∷ pieces) = piece ++ joined pieces

-- so many bytes at most of the first piece that isn't empty
abbrev pub first_bytes : ℕ → List (List ℕ) → List ℕ
first_bytes size [] = []
first_bytes size ([] ∷ pieces) = first_bytes size pieces
first_bytes size ((byte ∷ piece) ∷ pieces) = take size (byte ∷ piece)

-- the pieces without those bytes
abbrev pub without_first : ℕ → List (List ℕ) → List (List ℕ)
without_first size [] = []
without_first size ([] ∷ pieces) = without_first size pieces
without_first size ((byte ∷ piece) ∷ pieces) = drop size (byte ∷ piece) ∷ pieces

-- what each vector holds
abbrev pub contents : {Z : Type 0} → List (Vec ℕ Z) → List (List ℕ)
contents pieces = map (λ piece. piece.items) pieces

-- the pieces without so many bytes of the first
abbrev pub begun : ℕ → List (List ℕ) → List (List ℕ)
begun given [] = []
begun given (piece ∷ pieces) = drop given piece ∷ pieces

-- the pieces from a place on, the first of them without so many bytes
abbrev pub unread : ℕ → ℕ → List (List ℕ) → List (List ℕ)
unread at given pieces = begun given (drop at pieces)
