-- Faults of typing, and which of several is the first.
use Rattle.std.specs.Prelude.{◌==◌, ℕ, Bool, true, false, ◌&&◌, ◌||◌, List, [], ◌∷◌, Option, None, Some, nat_lt, if◌then◌else◌}
use Rattle.vert_base.specs.declared.text.Span.{Span}
use Rattle.vert_types.specs.declared.fault.Finding.{Finding}

-- Y1: a name that no declaration gives
abbrev pub undeclared : ℕ
undeclared = 1

-- Y2: a name that was declared before
abbrev pub declared_before : ℕ
declared_before = 2

-- Y3: an expression or a target of the wrong type
abbrev pub mistyped : ℕ
mistyped = 3

-- Y4: a declared name, or a word, where it isn't readable, assignable or of that use
abbrev pub misused : ℕ
misused = 4

-- Y5: neither a dense nor a sparse block
abbrev pub blockless : ℕ
blockless = 5

-- Y6: a mode whose block is missing
abbrev pub half_blocked : ℕ
half_blocked = 6

-- Y7: a limit that is too great
abbrev pub overlong : ℕ
overlong = 7

-- Y8: a draw's number that is no byte
abbrev pub overdrawn : ℕ
overdrawn = 8

abbrev pub fault : ℕ → Span → List Finding
fault code s = record { code = code; span = s } ∷ []

-- none where a test holds, else this fault
abbrev pub unless : Bool → ℕ → Span → List Finding
unless true code s = []
unless false code s = fault code s

-- at an earlier place, or at the same place with a lesser code
abbrev pub is_before : Finding → Finding → Bool
is_before a b = nat_lt a.span.at b.span.at || (a.span.at == b.span.at && nat_lt a.code b.code)

-- the fault found so far, or one more where that one is before it
abbrev pub sooner : Option Finding → Finding → Finding
sooner None b = b
sooner (Some a) b = if is_before b a then b else a

-- the first of the faults found so far and some more
abbrev pub first_from : Option Finding → List Finding → Option Finding
first_from found [] = found
first_from found (b ∷ bs) = first_from (Some (sooner found b)) bs

-- the fault at the least place, and at one place the one of the least code
abbrev pub first_of : List Finding → Option Finding
first_of = first_from None
