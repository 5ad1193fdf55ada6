-- Bytes that an object holds or has left, where it tells them.
use Rattle.std.specs.Prelude.{◌≡◌, ◌≤◌, ℕ, List, ◌++◌, length, take, Option, Some, None}

-- what is held after more bytes came
abbrev pub gained : Option (List ℕ) → List ℕ → Option (List ℕ)
gained None more = None
gained (Some held) more = Some (held ++ more)

-- what was left before these first bytes went
abbrev pub led_by : List ℕ → Option (List ℕ) → Option (List ℕ)
led_by first None = None
led_by first (Some left) = Some (first ++ left)

-- some first part of the text was gained, and no more
pub record GainedPart (old new : Option (List ℕ)) (text : List ℕ) : Type 0 where
  pub size : ℕ
  pub within : size ≤ length text
  pub new_is : new ≡ gained old (take size text)
