-- How the names of messages are spelled as bytes, in front of a body.
use Rattle.std.specs.Prelude.{◌<◌, ℕ, ◌^◌, ◌==◌, ◌&&◌, ◌||◌, Bool, true, false, Option, Some, None, if◌then◌else◌, List, ◌∷◌, ◌++◌, length, slice_index, take, drop}
use Rattle.std.specs.Int.{w32, from_le_bytes, to_le_bytes}
use Rattle.std.specs.Option.{option_map}
use Rattle.vert_base.specs.declared.message.Name.{Name}
use Rattle.vert_base.specs.declared.message.NameKind.{NameKind}
use Rattle.vert_base.specs.declared.message.NameKind.TheVariants.{Refresh, Dep, Update, Push, Tally, Verdict}

-- four bytes, the low one first, and the number that they spell
unfoldable pub four_bytes : ℕ → List ℕ
four_bytes n = to_le_bytes w32 n

unfoldable pub number_of_four : List ℕ → ℕ
number_of_four bytes = from_le_bytes w32 bytes

abbrev pub code_of : NameKind → ℕ
code_of Refresh = 1
code_of Dep = 2
code_of Update = 3
code_of Push = 4
code_of Tally = 5
code_of Verdict = 6

-- the kind with a code, where there is one
abbrev pub kind_of : ℕ → Option NameKind
kind_of code =
    if code == 1 then Some Refresh
    else if code == 2 then Some Dep
    else if code == 3 then Some Update
    else if code == 4 then Some Push
    else if code == 5 then Some Tally
    else if code == 6 then Some Verdict
    else None

-- the header of a message with a body of this length
abbrev pub spelled_header : Name → ℕ → List ℕ
spelled_header x size = code_of x.kind ∷ four_bytes x.round ++ x.step ∷ x.half ∷ x.from ∷ x.to ∷ four_bytes size

-- the header, and then the body
abbrev pub spelled_message : Name → List ℕ → List ℕ
spelled_message x body = spelled_header x (length body) ++ body

-- the round and the length of the body have four bytes
pub record HasSpelling (x : Name) (body : List ℕ) : Type 0 where
  pub round : x.round < 2 ^ 32
  pub size : length body < 2 ^ 32

-- the name in a header, with a kind
abbrev pub name_with : List ℕ → NameKind → Name
name_with bytes kind = record {
  kind = kind;
  round = number_of_four (take 4 (drop 1 bytes));
  step = slice_index bytes 5;
  half = slice_index bytes 6;
  from = slice_index bytes 7;
  to = slice_index bytes 8;
}

-- the name at the front of bytes, where their kind is one, and the length that they say of the body
abbrev pub name_in : List ℕ → Option Name
name_in bytes = option_map (name_with bytes) (kind_of (slice_index bytes 0))

abbrev pub size_in : List ℕ → ℕ
size_in bytes = number_of_four (take 4 (drop 9 bytes))

abbrev pub has_steps : NameKind → Bool
has_steps Refresh = false
has_steps Dep = true
has_steps Update = true
has_steps Push = false
has_steps Tally = false
has_steps Verdict = false

-- a kind without step and half has 0 there
abbrev pub is_proper : Name → Bool
is_proper x = has_steps x.kind || (x.step == 0 && x.half == 0)
