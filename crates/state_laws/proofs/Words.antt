-- A number and the four bytes that spell it.
use Rattle.std.proofs.Common.{◌≡◌, ℕ, ◌<◌, ◌^◌, List, length, refl}
use Rattle.std.proofs.lemmas.Nat.{from_le_bytes-to_le_bytes_4, le_bytes_4}
use Rattle.vert_base.specs.HeaderBytes.{four_bytes, number_of_four}
use Rattle.dep_layout.proofs.WordLaws.{AreBelow}

-- the number that four bytes spell has these bytes
pub four_again : (bytes : List ℕ) → length bytes ≡ 4 → AreBelow bytes → four_bytes (number_of_four bytes) ≡ bytes
unfolding four_bytes number_of_four
four_again bytes count fits = le_bytes_4 bytes _ count fits refl

pub four_back : (n : ℕ) → n < 2 ^ 32 → number_of_four (four_bytes n) ≡ n
unfolding four_bytes number_of_four
four_back n below = from_le_bytes-to_le_bytes_4 n below
