-- The sections of a part file, cut by its counts.
use Rattle.std.specs.Prelude.{ℕ, ◌*◌, ◌==◌, nat_lt, if◌then◌else◌, Option, Some, None, List, [], ◌∷◌, length, slice_index, take, drop}
use Rattle.std.specs.Option.{option_and_then}
use Rattle.byteorder.specs.Endian.{little_number}

-- `SGP1`, with which a part file begins
abbrev pub magic : List ℕ
magic = 83 ∷ 71 ∷ 80 ∷ 49 ∷ []

-- the numbers that stand once, and then the bytes of each list
pub record Sections : Type 0 where
  pub head : List ℕ
  pub ends : List ℕ
  pub program : List ℕ
  pub scan : List ℕ
  pub push : List ℕ
  pub degrees : List ℕ

-- so many bytes and those behind them, where there are so many
abbrev pub cut_at : ℕ → List ℕ → Option (List ℕ × List ℕ)
cut_at len bytes = if nat_lt (length bytes) len then None else Some (take len bytes, drop len bytes)

-- the items behind their count, each of so many bytes, and what stands behind them
abbrev pub counted : ℕ → List ℕ → Option (List ℕ × List ℕ)
counted size bytes = option_and_then (λ c. cut_at (size * little_number 4 c.0) c.1) (cut_at 4 bytes)

-- how many chunk ends there are: as many as machines
abbrev pub end_count : List ℕ → ℕ
end_count head = slice_index head 5

-- nothing is left behind the degrees
abbrev pub with_degrees : List ℕ → List ℕ → List ℕ → List ℕ → List ℕ → List ℕ → Option Sections
with_degrees head ends program scan push rest =
    option_and_then (λ d. if length d.1 == 0
    then Some (record { head = head; ends = ends; program = program; scan = scan; push = push; degrees = d.0 })
    else None) (counted 12 rest)

abbrev pub with_push : List ℕ → List ℕ → List ℕ → List ℕ → List ℕ → Option Sections
with_push head ends program scan rest =
    option_and_then (λ p. with_degrees head ends program scan p.0 p.1) (counted 12 rest)

abbrev pub with_scan : List ℕ → List ℕ → List ℕ → List ℕ → Option Sections
with_scan head ends program rest = option_and_then (λ s. with_push head ends program s.0 s.1) (counted 12 rest)

abbrev pub with_program : List ℕ → List ℕ → List ℕ → Option Sections
with_program head ends rest = option_and_then (λ t. with_scan head ends t.0 t.1) (counted 1 rest)

abbrev pub with_ends : List ℕ → List ℕ → Option Sections
with_ends head rest = option_and_then (λ e. with_program head e.0 e.1) (cut_at (4 * end_count head) rest)

-- the sections of bytes, where their length is the one that the counts give and no count is missing
abbrev pub sections_of : List ℕ → Option Sections
sections_of bytes = option_and_then (λ h. with_ends h.0 h.1) (cut_at 22 bytes)
