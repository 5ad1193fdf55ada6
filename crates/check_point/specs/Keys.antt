-- The key of what is run.
use Rattle.std.specs.Prelude.{◌≡◌, ◌<◌, ◌^◌, ℕ, List, [], ◌∷◌, ◌++◌, IfSome, Option, length, unwrap_or}
use Rattle.sha2.specs.Sha256.{sha256}
use Rattle.vert_base.specs.HeaderBytes.{four_bytes}
use Rattle.body_shape.specs.Tally.{number_bytes}

-- a text behind its length
abbrev pub counted_bytes : List ℕ → List ℕ
counted_bytes text = number_bytes (length text) ++ text

-- the texts of the program and of the graph, how the graph is read, the machines and the draws
abbrev pub key_bytes : List ℕ → List ℕ → Option ℕ → ℕ → ℕ → ℕ → List ℕ
key_bytes program graph vertices flags machines draws =
    counted_bytes program ++ counted_bytes graph ++ four_bytes (unwrap_or vertices 4294967295)
    ++ (flags ∷ machines ∷ []) ++ number_bytes draws

abbrev pub key_of : List ℕ → List ℕ → Option ℕ → ℕ → ℕ → ℕ → List ℕ
key_of program graph vertices flags machines draws = sha256 (key_bytes program graph vertices flags machines draws)

-- what a key is made of
pub record Keyed : Type 0 where
  pub program : List ℕ
  pub graph : List ℕ
  pub vertices : Option ℕ
  pub flags : ℕ
  pub machines : ℕ
  pub draws : ℕ

-- its lengths and numbers fit their bytes, and the number of vertices isn't the one that stands for none
pub record FitsKey (k : Keyed) : Type 0 where
  pub program_fits : length k.program < 2 ^ 64
  pub graph_fits : length k.graph < 2 ^ 64
  pub vertices_fit : IfSome k.vertices (λ n. n < 4294967295)
  pub draws_fit : k.draws < 2 ^ 64

abbrev pub bytes_of_key : Keyed → List ℕ
bytes_of_key k = key_bytes k.program k.graph k.vertices k.flags k.machines k.draws

-- no two runs have the same bytes to be hashed
abbrev pub KeysTell : Type 0
KeysTell = (a b : Keyed) → FitsKey a → FitsKey b → bytes_of_key a ≡ bytes_of_key b → a ≡ b
