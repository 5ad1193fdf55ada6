-- What the bytes of a binary edge file say: a graph, or the first fault and its place.
use Rattle.std.specs.Prelude.{ℕ, zero, suc, ◌-◌, ◌*◌, ◌/◌, ◌%◌, nat_lt, Bool, if◌then◌else◌, List, [], ◌∷◌, length, take, drop, map, None, Result, Err, pos}
use Rattle.std.specs.Int.{w32, cast_signed}
use Rattle.byteorder.specs.Endian.{little_number}
use Rattle.vert_base.specs.declared.limits.TheConstants.{GRAPH_BYTES}
use Rattle.edge_reader.specs.declared.entry.Entry.{Entry}
use Rattle.edge_reader.specs.declared.entry.Entry.TheVariants.{Read}
use Rattle.edge_reader.specs.declared.fault.EdgeFault.{EdgeFault}
use Rattle.edge_reader.specs.declared.fault.EdgeFault.TheVariants.{Byte}
use Rattle.edge_reader.specs.EdgeList.{Graph}
use Rattle.edge_reader.specs.EdgeText.{edges_from, graph_of}

-- how many bytes a unit has: source, target and, with `weighted`, a weight, of 4 bytes each
abbrev pub unit_of : Bool → ℕ
unit_of weighted = if weighted then 12 else 8

-- the first n units of so many bytes each
abbrev pub first_units : ℕ → ℕ → List ℕ → List (List ℕ)
first_units size zero bytes = []
first_units size (suc n) bytes = take size bytes ∷ first_units size n (drop size bytes)

-- the whole units of the bytes
abbrev pub units_of : ℕ → List ℕ → List (List ℕ)
units_of size bytes = first_units size (length bytes / size) bytes

-- the edge of a unit: source and target as they stand, the weight in two's complement, or 1
abbrev pub entry_of_unit : Bool → List ℕ → Entry
entry_of_unit weighted unit = Read (record {
  from = record { 0 = little_number 4 unit };
  to = record { 0 = little_number 4 (drop 4 unit) };
  weight = if weighted then cast_signed w32 (little_number 4 (drop 8 unit)) else pos 1;
})

-- a fault at the first byte of a unit, the units counted from 0
abbrev pub at_unit : ℕ → ℕ → ℕ → EdgeFault
at_unit size code number = Byte code (number * size)

-- the reading of binary units
abbrev pub reading_of_pairs : Bool → Bool → List ℕ → Result Graph EdgeFault
reading_of_pairs weighted both bytes =
    if nat_lt GRAPH_BYTES (length bytes) then Err (Byte 7 GRAPH_BYTES)
    else if nat_lt 0 (length bytes % unit_of weighted)
    then Err (Byte 6 (length bytes - length bytes % unit_of weighted))
    else graph_of None (edges_from None both (at_unit (unit_of weighted)) 0 []
    (map (entry_of_unit weighted) (units_of (unit_of weighted) bytes)))
