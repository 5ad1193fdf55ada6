-- Which bytes are an image of a run, and what a reader gives.
use Rattle.std.specs.Prelude.{◌≡◌, ℕ, zero, suc, ◌+◌, ◌==◌, ◌^◌, ◌&&◌, nat_le, Bool, true, false, List, [], ◌∷◌, ◌++◌, codes, drop, length, take, Result, Ok, Err}
use Rattle.std.specs.List.{list_all}
use Rattle.sha2.specs.Sha256.{sha256}
use Rattle.vert_base.specs.declared.value.ValueType.TheVariants as kind
use Rattle.dep_layout.specs.Judgement.{rows_in}
use Rattle.dep_layout.specs.Spelling.{are_typed}
use Rattle.body_shape.specs.Shapes.{bool_bits}
use Rattle.circulant_plan.specs.Skeleton.{Blocks}
use Rattle.instrument.specs.declared.split.Split.{Split}
use Rattle.symple_face.specs.declared.start.Start.{Start}
use Rattle.symple_face.specs.Plans.{blocks_of}
use Rattle.symple_face.specs.Shapes.{types_of}
use Rattle.symple_face.specs.Work.{plain_start}
use Rattle.check_point.specs.declared.fault.ImageFault.{ImageFault}
use Rattle.check_point.specs.declared.fault.ImageFault.TheVariants.{Torn, Other, Want}
use Rattle.check_point.specs.declared.head.Head.{Head}
use Rattle.check_point.specs.Images.{front_len, head_in, key_in, start_in}

-- the bytes are as many as an image of so many fields, vertices and totals has, and begin and end as one does
pub record IsWhole (fields vertices totals : ℕ) (bytes : List ℕ) : Type 0 where
  pub long : length bytes ≡ front_len fields vertices totals + 32
  pub mark : take 4 bytes ≡ codes "SGI1"
  pub digest : drop (front_len fields vertices totals) bytes ≡ sha256 (take (front_len fields vertices totals) bytes)

-- a mode of which the program has the block
abbrev pub is_mode : Blocks → ℕ → Bool
is_mode blocks zero = false
is_mode blocks (suc zero) = blocks.dense
is_mode blocks (suc (suc zero)) = blocks.sparse
is_mode blocks (suc (suc (suc n))) = false

-- a round within the limit comes next, in a mode of the program, with a vertex that is active
abbrev pub goes_on : Blocks → ℕ → Head → Bool
goes_on blocks vertices head =
    head.count == vertices
    && (nat_le 1 head.ended && (nat_le (head.ended + 1) blocks.limit && (is_mode blocks head.ruling
    && (nat_le 1 head.active && (nat_le head.active (2 ^ 32) && nat_le head.edges (2 ^ 32))))))

-- bit i is set where field i is a Bool, and the last one for the flag
abbrev pub row_bits : Split → ℕ
row_bits split = bool_bits (types_of split.program.program.fields.items ++ kind.Bool ∷ [])

-- the image has this key, and its numbers are those with which a run of the program goes on
pub record IsOwn (split : Split) (vertices : ℕ) (key bytes : List ℕ) : Type 0 where
  pub key_is : key_in bytes ≡ key
  pub head : goes_on (blocks_of split) vertices (head_in bytes) ≡ true
  pub rows : list_all (are_typed (row_bits split))
      (rows_in (suc (length split.program.program.fields.items)) vertices (drop 61 bytes)) ≡ true

abbrev pub IsWholeOf : Split → ℕ → List ℕ → Type 0
IsWholeOf split vertices bytes =
    IsWhole (length split.program.program.fields.items) vertices (length split.program.program.totals.items) bytes

-- torn where the bytes aren't whole, else another one where the image isn't the run's own, else the start that it tells
abbrev pub Reads : Split → ℕ → List ℕ → List ℕ → Result Start ImageFault → Type 0
Reads split vertices key bytes (Err Torn) = ¬ IsWholeOf split vertices bytes
Reads split vertices key bytes (Err Other) = IsWholeOf split vertices bytes × (¬ IsOwn split vertices key bytes)
Reads split vertices key bytes (Err Want) = IsWholeOf split vertices bytes × IsOwn split vertices key bytes
Reads split vertices key bytes (Ok start) =
    IsWholeOf split vertices bytes × IsOwn split vertices key bytes × (plain_start start
    ≡ start_in (length split.program.program.fields.items) vertices (length split.program.program.totals.items) bytes)
