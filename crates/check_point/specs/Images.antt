-- Images: a start as bytes, and the start that bytes tell.
use Rattle.std.specs.Prelude.{ℕ, suc, ◌+◌, ◌-◌, ◌*◌, List, [], ◌∷◌, ◌++◌, codes, drop, length, map, slice_index, take}
use Rattle.sha2.specs.Sha256.{sha256}
use Rattle.vert_base.specs.HeaderBytes.{four_bytes, number_of_four}
use Rattle.dep_layout.specs.Judgement.{words_in}
use Rattle.body_shape.specs.Fit.{number_of}
use Rattle.body_shape.specs.Refresh.{plain_row, refresh_body, rows_read, words_bytes}
use Rattle.body_shape.specs.Tally.{number_bytes}
use Rattle.body_shape.specs.Verdict.{ruling_byte, ruling_with}
use Rattle.symple_face.specs.CoreSight.{told_row}
use Rattle.symple_face.specs.Work.{PlainStart}
use Rattle.check_point.specs.declared.head.Head.{Head}

-- the mark, the key, the round that ended, the ruling, both counts, and how many vertices there are
abbrev pub head_bytes : List ℕ → PlainStart → List ℕ
head_bytes key start =
    codes "SGI1" ++ key ++ four_bytes (start.round - 1) ++ (ruling_byte start.ruling ∷ []) ++ number_bytes start.active
    ++ number_bytes start.edges
    ++ four_bytes (length start.rows)

-- the head, the rows and the totals
abbrev pub front_bytes : List ℕ → PlainStart → List ℕ
front_bytes key start = head_bytes key start ++ refresh_body (map plain_row start.rows) ++ words_bytes start.totals

-- and the digest of all that
abbrev pub image_bytes : List ℕ → PlainStart → List ℕ
image_bytes key start = front_bytes key start ++ sha256 (front_bytes key start)

-- ---- what bytes tell
abbrev pub key_in : List ℕ → List ℕ
key_in bytes = take 32 (drop 4 bytes)

-- the numbers of the head
abbrev pub head_in : List ℕ → Head
head_in bytes = record {
  ended = number_of_four (take 4 (drop 36 bytes));
  ruling = slice_index bytes 40;
  active = number_of (take 8 (drop 41 bytes));
  edges = number_of (take 8 (drop 49 bytes));
  count = number_of_four (take 4 (drop 57 bytes));
}

-- how many bytes there are before the digest, where rows have so many fields
abbrev pub front_len : ℕ → ℕ → ℕ → ℕ
front_len fields vertices totals = 61 + 8 * suc fields * vertices + 8 * totals

-- the start of so many rows and totals
abbrev pub start_in : ℕ → ℕ → ℕ → List ℕ → PlainStart
start_in fields vertices totals bytes = record {
  round = (head_in bytes).ended + 1;
  ruling = ruling_with (head_in bytes).ruling;
  active = (head_in bytes).active;
  edges = (head_in bytes).edges;
  rows = map told_row (rows_read fields vertices (drop 61 bytes));
  totals = words_in totals (drop (61 + 8 * suc fields * vertices) bytes);
}
