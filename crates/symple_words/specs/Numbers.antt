-- Numbers: 1 to 20 decimal digits within a range.
use Rattle.std.specs.Prelude.{ℕ, ◌&&◌, Bool, Option, Some, None, length, if◌then◌else◌, nat_le, option_map}
use Rattle.std.specs.List.{list_all}
use Rattle.std.specs.Str.Parse.{digits_value}
use Rattle.symple_words.specs.Texts.{Text}
use Rattle.vert_base.specs.Digits.{is_digit}

abbrev pub is_number : Text → Bool
is_number text = nat_le 1 (length text) && (nat_le (length text) 20 && list_all is_digit text)

abbrev pub number_in : ℕ → ℕ → Text → Option ℕ
number_in low high text = if is_number text
    && (nat_le low (digits_value 10 text) && nat_le (digits_value 10 text) high)
    then Some (digits_value 10 text) else None

-- a number that may be left out
abbrev pub number_if : ℕ → ℕ → Option Text → Option (Option ℕ)
number_if low high None = Some None
number_if low high (Some text) = option_map Some (number_in low high text)

-- a number with a default
abbrev pub number_or : ℕ → ℕ → ℕ → Option Text → Option ℕ
number_or other low high None = Some other
number_or other low high (Some text) = number_in low high text
