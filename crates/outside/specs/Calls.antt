-- Which calls fail, by their numbers.
use Rattle.std.specs.Prelude.{ℕ, ◌+◌, ◌-◌, ◌^◌, List, Bool, min, max, ◌==◌}
use Rattle.std.specs.List.{list_any}

-- the numbers of the calls that fail, and how many calls there were
pub record Calls : Type 0 where
  pub fails : List ℕ
  pub count : ℕ

-- a count after one more; at 2^64-1 it stays
abbrev pub one_more : ℕ → ℕ
one_more count = max count (min (count + 1) (2 ^ 64 - 1))

-- the next call fails
abbrev pub next_fails : Calls → Bool
next_fails calls = list_any (λ number. number == one_more calls.count) calls.fails

-- after the next call
abbrev pub called : Calls → Calls
called calls = record calls { count = one_more calls.count }
