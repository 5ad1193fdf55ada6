-- Which bodies fit a shape.
use Rattle.std.specs.Prelude.{ℕ, zero, suc, ◌+◌, ◌*◌, ◌/◌, ◌%◌, ◌^◌, ◌==◌, ◌&&◌, not, nat_le, nat_lt, count_ones, is_none, Bool, true, false, Option, Some, None, if◌then◌else◌, List, [], ◌∷◌, length, take, drop, count_by}
use Rattle.std.specs.Int.{w64, div_ceil, from_le_bytes}
use Rattle.std.specs.List.{flat_map, list_all, list_any}
use Rattle.std.specs.Option.{option_map_or}
use Rattle.dep_layout.specs.Spelling.{are_typed}
use Rattle.dep_layout.specs.Judgement.{refusal_of, rows_in, is_set}
use Rattle.body_shape.specs.declared.shape.BodyShape.{BodyShape}
use Rattle.body_shape.specs.declared.shape.BodyShape.TheVariants.{Refresh, Dep, Update, Push, Tally, Verdict}

-- so many rows of so many words and nothing behind them. Word i of a row is a Bool where bit i of `bools` is 1
abbrev pub are_rows : ℕ → ℕ → ℕ → List ℕ → Bool
are_rows count words bools bytes = length bytes == 8 * words * count
    && list_all (are_typed bools) (rows_in words count bytes)

-- the bits of a byte, the low ones first
abbrev pub bits_of : ℕ → List ℕ
bits_of byte = byte % 2 ∷ byte / 2 % 2 ∷ byte / 4 % 2 ∷ byte / 8 % 2 ∷ byte / 16 % 2 ∷ byte / 32 % 2 ∷ byte / 64 % 2
    ∷ byte / 128 % 2 ∷ []

unfoldable pub bits_in : List ℕ → List ℕ
bits_in bytes = flat_map bits_of bytes

-- how many bytes the bits of so many vertices take
abbrev pub bit_len : ℕ → ℕ
bit_len vertices = div_ceil vertices 8

-- no bit behind those of the vertices is set, and then there is a row for each bit that is
abbrev pub are_sends : ℕ → ℕ → ℕ → List ℕ → List ℕ → Bool
are_sends vertices words bools marks rows =
    not (list_any is_set (drop vertices (bits_in marks)))
    && are_rows (count_by is_set (take vertices (bits_in marks))) words bools rows

-- a bit for each vertex, then the sends of each whose bit is set
abbrev pub is_push : ℕ → ℕ → ℕ → List ℕ → Bool
is_push vertices words bools body =
    nat_le (bit_len vertices) (length body)
    && are_sends vertices words bools (take (bit_len vertices) body) (drop (bit_len vertices) body)

-- no bit from a place on is set
abbrev pub is_mask : ℕ → ℕ → Bool
is_mask place bits = nat_lt bits (2 ^ place)

-- how many bytes the words of a mask take: a word for each set bit
abbrev pub words_len : ℕ → ℕ → ℕ
words_len low high = 8 * (count_ones low + count_ones high)

-- the bytes behind the update of a vertex: a mask with the bits of the slots in the low byte and those of the reduced
-- lets in the high one, and its words
abbrev pub behind_update : ℕ → ℕ → List ℕ → Option (List ℕ)
behind_update slots reduced [] = None
behind_update slots reduced (low ∷ []) = None
behind_update slots reduced (low ∷ high ∷ bytes) =
    if is_mask slots low && (is_mask reduced high && nat_le (words_len low high) (length bytes))
    then Some (drop (words_len low high) bytes) else None

-- an update for each of so many vertices, and nothing behind them
abbrev pub are_updates : ℕ → ℕ → ℕ → List ℕ → Bool
are_updates slots reduced zero bytes = length bytes == 0
are_updates slots reduced (suc vertices) bytes = option_map_or (are_updates slots reduced vertices)
    (behind_update slots reduced bytes) false

-- the number that eight bytes spell
unfoldable pub number_of : List ℕ → ℕ
number_of bytes = from_le_bytes w64 bytes

-- the number at the front of bytes is at most 2 ^ 32
abbrev pub is_count : List ℕ → Bool
is_count bytes = nat_le (number_of (take 8 bytes)) (2 ^ 32)

-- three counts, and then the words of the totals
abbrev pub is_tally : ℕ → List ℕ → Bool
is_tally totals body = length body == 24 + 8 * totals
    && (is_count body && (is_count (drop 8 body) && is_count (drop 16 body)))

-- 0 for stop, 1 for dense and 2 for sparse, where the program may rule so
abbrev pub is_ruling : Bool → Bool → ℕ → Bool
is_ruling dense sparse zero = true
is_ruling dense sparse (suc zero) = dense
is_ruling dense sparse (suc (suc zero)) = sparse
is_ruling dense sparse (suc (suc (suc n))) = false

-- the ruling, and then the words of the totals
abbrev pub is_verdict : Bool → Bool → ℕ → List ℕ → Bool
is_verdict dense sparse totals [] = false
is_verdict dense sparse totals (ruling ∷ words) = is_ruling dense sparse ruling && length words == 8 * totals

-- the body fits the shape
abbrev pub is_fit : BodyShape → List ℕ → Bool
is_fit (Refresh vertices words bools) body = are_rows vertices words bools body
is_fit (Dep vertices words bools) body = is_none (refusal_of words vertices bools body)
is_fit (Update vertices slots reduced) body = are_updates slots reduced vertices body
is_fit (Push vertices words bools) body = is_push vertices words bools body
is_fit (Tally totals) body = is_tally totals body
is_fit (Verdict dense sparse totals) body = is_verdict dense sparse totals body
