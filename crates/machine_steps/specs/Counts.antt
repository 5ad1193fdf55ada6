-- The sources that a machine reads, told by how many of each target's members were read.
use Rattle.std.specs.Prelude.{◌≡◌, ◌≤◌, ◌<◌, ℕ, List, length, map, slice_index, take}
use Rattle.vert_base.specs.Neighbours.{source}
use Rattle.machine_parts.specs.Flat.{zip_with}
use Rattle.symple_face.specs.CoreSight.{targets_of}
use Rattle.symple_face.specs.Parts.{PlainPart}
use Rattle.work_laws.specs.Sound.{members_in}

-- the sources of the first of them
abbrev pub first_read : PlainPart → ℕ → ℕ → List ℕ
first_read part v count = map source (take count (members_in part v))

-- a list for each target, by its count
abbrev pub lists_read : PlainPart → List ℕ → List (List ℕ)
lists_read part counts = zip_with (first_read part) (targets_of part) counts

-- a count for each target, at most that of its members
pub record AreCounts (part : PlainPart) (counts : List ℕ) : Type 0 where
  pub each : length counts ≡ length (targets_of part)
  pub within : (i : ℕ) → i < length counts →
      slice_index counts i ≤ length (members_in part (slice_index (targets_of part) i))
