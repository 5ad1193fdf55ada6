-- The states of the shelves in memory, and what their loads answer.
use Rattle.std.specs.Prelude.{◌≡◌, ℕ, List, length, Option, Some, None, Result, Err, Vec, nat_le, MatchResult, MatchBool}
use Rattle.outside.specs.declared.shelf.LoadFault.{LoadFault}
use Rattle.outside.specs.declared.shelf.LoadFault.TheVariants.{Missing, TooLong, Want}
use Rattle.outside.specs.Calls.{Calls}
use Rattle.outside.specs.Files.{File}

-- the files, and how many bytes the last load took
pub record Firm : Type 0 where
  pub files : List File
  pub came : ℕ

-- the same, with the calls and the counts of faults
pub record Counting : Type 0 where
  pub files : List File
  pub came : ℕ
  pub calls : Calls
  pub loads : ℕ
  pub stores : ℕ

-- the answer at these contents: the bytes, within the limit; only want of memory may come in their place
abbrev pub LoadAnswer : {Z : Type 0} → ℕ → Option (List ℕ) → Result (Vec ℕ Z) LoadFault → Type 0
LoadAnswer limit None result = result ≡ Err Missing
LoadAnswer limit (Some bytes) result =
    MatchBool (nat_le (length bytes) limit)
    (MatchResult result (λ given. given.items ≡ bytes) (λ fault. fault ≡ Want)) (result ≡ Err TooLong)

-- how many bytes these contents are
abbrev pub size_of : Option (List ℕ) → ℕ
size_of None = 0
size_of (Some bytes) = length bytes
