-- Pushes, as bytes and back.
use Rattle.std.specs.Prelude.{◌≡◌, ℕ, zero, suc, ◌*◌, ◌<◌, ℤ, Bool, true, false, Option, Some, None, if◌then◌else◌, List, [], ◌∷◌, ◌++◌, length, get_or, slice_set, take, drop}
use Rattle.std.specs.List.{AllByRecursion, flat_map, list_all}
use Rattle.std.specs.Simd.Lanes.{mask_l}
use Rattle.dep_layout.specs.Spelling.{are_typed}
use Rattle.dep_layout.specs.Judgement.{rows_in, words_in}
use Rattle.dep_layout.specs.Laws.{AreBytes}
use Rattle.body_shape.specs.declared.shape.BodyShape.TheVariants.{Push}
use Rattle.body_shape.specs.Fit.{bit_len, is_fit}
use Rattle.body_shape.specs.Places.{there, places, set_count, placed, flags_of}
use Rattle.body_shape.specs.Refresh.{IsWords, rows_bytes}

-- so many bytes with the flags, eight each, the first in the low bit. The bits behind the last flag are 0
abbrev pub bytes_with : ℕ → List Bool → List ℕ
bytes_with zero flags = []
bytes_with (suc n) flags = mask_l (take 8 flags) ∷ bytes_with n (drop 8 flags)

-- as few bytes as have room for the flags
abbrev pub bit_bytes : List Bool → List ℕ
bit_bytes flags = bytes_with (bit_len (length flags)) flags

-- whether each vertex sends, then the words of each that does
abbrev pub push_body : List (Option (List ℤ)) → List ℕ
push_body sends = bit_bytes (places sends) ++ rows_bytes (there sends)

abbrev pub flags_in : List ℕ → List Bool
flags_in bytes = flat_map (flags_of 8) bytes

-- the first so many flags, false where there are no more
abbrev pub padded : ℕ → List Bool → List Bool
padded zero flags = []
padded (suc n) [] = false ∷ padded n []
padded (suc n) (flag ∷ flags) = flag ∷ padded n flags

-- whether each of so many vertices sends
abbrev pub senders : ℕ → List ℕ → List Bool
senders count body = padded count (flags_in (take (bit_len count) body))

-- the words that each of so many vertices sends
abbrev pub sends_read : ℕ → ℕ → List ℕ → List (Option (List ℤ))
sends_read words count body = placed (senders count body)
    (rows_in words (set_count (senders count body)) (drop (bit_len count) body))

-- the words of the sender behind so many senders
abbrev pub send_at : ℕ → ℕ → ℕ → List ℕ → List ℤ
send_at words count earlier body = words_in words (drop (8 * words * earlier) (drop (bit_len count) body))

-- a place for each vertex, and so many words where it sends, of which these are Bools
pub record SuitsPush (vertices width bools : ℕ) (sends : List (Option (List ℤ))) : Type 0 where
  pub count : length sends ≡ vertices
  pub each : AllByRecursion (IsWords width) (there sends)
  pub typed : list_all (are_typed bools) (there sends) ≡ true

-- sends are read from what is spelled of them
abbrev pub PushReadsBack : Type 0
PushReadsBack = (count words : ℕ) (sends : List (Option (List ℤ))) → length sends ≡ count →
    AllByRecursion (IsWords words) (there sends) → sends_read words count (push_body sends) ≡ sends

-- by these bytes neither a vertex nor a later one sends, and by those the vertex sends these words
abbrev pub AddsSend : List ℕ → ℕ → List ℤ → List ℕ → Type 0
AddsSend old vertex words new = (sends : List (Option (List ℤ))) → old ≡ push_body sends → vertex < length sends →
    there (drop vertex sends) ≡ [] →
    new ≡ push_body (slice_set sends vertex (Some words))

-- a vertex in its place: what it sends stands behind what the earlier senders send
abbrev pub PushInPlace : Type 0
PushInPlace = (count words i : ℕ) (body : List ℕ) → i < count →
    get_or (sends_read words count body) i None
    ≡ (if get_or (senders count body) i false
    then Some (send_at words count (set_count (take i (senders count body))) body) else None)

-- what is spelled of sends that suit a shape fits it
abbrev pub PushFits : Type 0
PushFits = (count words bools : ℕ) (sends : List (Option (List ℤ))) → SuitsPush count words bools sends →
    is_fit (Push count words bools) (push_body sends) ≡ true

-- the sends of a body that fits suit its shape
abbrev pub PushSuits : Type 0
PushSuits = (count words bools : ℕ) (body : List ℕ) → is_fit (Push count words bools) body ≡ true →
    SuitsPush count words bools (sends_read words count body)

-- a body that fits is the spelling of its sends
abbrev pub PushIsSpelled : Type 0
PushIsSpelled = (count words bools : ℕ) (body : List ℕ) → AreBytes body → is_fit (Push count words bools) body ≡ true
    → push_body (sends_read words count body) ≡ body
