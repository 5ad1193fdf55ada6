-- What is spelled is bytes.
use Rattle.std.proofs.Common.{◌≡◌, ℕ, zero, suc, ◌^◌, ◌<◌, ◌≤◌, ℤ, Bool, List, [], ◌∷◌, ◌++◌, length, map, take, drop, refl, arith}
use Rattle.std.specs.Int.{w64, to_le_bytes, cast_unsigned}
use Rattle.std.specs.List.{All, AllByRecursion}
use Rattle.std.specs.Simd.Lanes.{mask_l}
use Rattle.std.proofs.Math.Nat.{pow-le-pow_right}
use Rattle.std.proofs.lemmas.Simd.{mask_l-lt}
use Rattle.std.proofs.lemmas.List.{length-map, length-take}
use Rattle.std.proofs.lemmas.List.Elements.{All-nil, All-cons, All-append}
use Rattle.dep_layout.specs.Spelling.{word_bytes}
use Rattle.vert_base.specs.declared.value.Ruling.{Ruling}
use Rattle.vert_base.specs.declared.value.Ruling.TheVariants.{Stop, Dense, Sparse}
use Rattle.body_shape.specs.Fit.{bit_len}
use Rattle.body_shape.specs.Places.{there, places, mask_of}
use Rattle.body_shape.specs.Refresh.{words_bytes, rows_bytes, row_words}
use Rattle.body_shape.specs.Update.{sent_bytes, update_body}
use Rattle.body_shape.specs.Push.{bytes_with}
use Rattle.body_shape.specs.Tally.{number_bytes}
use Rattle.body_shape.specs.Verdict.{ruling_byte}
use Rattle.body_shape.specs.Bytes.{RefreshIsBytes, UpdateIsBytes, PushIsBytes, TallyIsBytes, VerdictIsBytes, FewPlaces, UpdateExample, PushExample}

abbrev IsByte : ℕ → Type 0
IsByte b = b < 256

all_from : (bytes : List ℕ) → AllByRecursion IsByte bytes → All IsByte bytes
all_from [] each = All-nil IsByte
all_from (b ∷ bytes) each = All-cons IsByte b bytes each.0 (all_from bytes each.1)

eight : (n : ℕ) → All IsByte (to_le_bytes w64 n)
eight n = all_from (to_le_bytes w64 n) (
  omega arith,
  (omega arith, (omega arith, (omega arith, (omega arith, (omega arith, (omega arith, (omega arith, tt))))))),
)

bytes-word : (word : ℤ) → All IsByte (word_bytes word)
unfolding word_bytes
bytes-word word = eight (cast_unsigned w64 word)

bytes-number : (n : ℕ) → All IsByte (number_bytes n)
unfolding number_bytes
bytes-number n = eight n

bytes-words : (words : List ℤ) → All IsByte (words_bytes words)
bytes-words [] = All-nil IsByte
bytes-words (word ∷ words) = All-append IsByte (word_bytes word) (words_bytes words) (bytes-word word)
    (bytes-words words)

bytes-rows : (rows : List (List ℤ)) → All IsByte (rows_bytes rows)
bytes-rows [] = All-nil IsByte
bytes-rows (row ∷ rows) = All-append IsByte (words_bytes row) (rows_bytes rows) (bytes-words row) (bytes-rows rows)

byte_mask : (flags : List Bool) → length flags ≤ 8 → mask_l flags < 256
byte_mask flags few =
    let two : zero < 2 = omega arith in
    let most : 2 ^ length flags ≤ 2 ^ 8 = pow-le-pow_right two few in
    omega (arith, mask_l-lt flags, most)

bytes-flags : (n : ℕ) (flags : List Bool) → All IsByte (bytes_with n flags)
bytes-flags zero flags = All-nil IsByte
bytes-flags (suc n) flags =
    All-cons IsByte (mask_l (take 8 flags)) (bytes_with n (drop 8 flags))
    (byte_mask (take 8 flags) (omega (arith, length-take 8 flags))) (bytes-flags n (drop 8 flags))

pub refresh_bytes : RefreshIsBytes
refresh_bytes rows = bytes-rows (map row_words rows)

pub update_bytes : UpdateIsBytes
update_bytes slots reduced [] each = All-nil IsByte
update_bytes slots reduced (s ∷ sents) each =
    let words = All-append IsByte (words_bytes (there s.values)) (words_bytes (there s.operands))
    (bytes-words (there s.values)) (bytes-words (there s.operands)) in
    All-append IsByte (sent_bytes s) (update_body sents)
    (All-cons IsByte (mask_of s.values) (mask_of s.operands ∷ words_bytes (there s.values)
    ++ words_bytes (there s.operands)) each.0.0.mask
    (All-cons IsByte (mask_of s.operands) (words_bytes (there s.values) ++ words_bytes (there s.operands))
    each.0.1.mask words))
    (update_bytes slots reduced sents each.1)

pub push_bytes : PushIsBytes
push_bytes sends = All-append IsByte _ _ (bytes-flags (bit_len (length (places sends))) (places sends))
    (bytes-rows (there sends))

pub tally_bytes : TallyIsBytes
tally_bytes c =
    All-append IsByte _ _ (bytes-number c.active)
    (All-append IsByte _ _ (bytes-number c.edges) (All-append IsByte _ _ (bytes-number c.reads) (bytes-words c.totals)))

byte-ruling : (r : Ruling) → ruling_byte r < 256
byte-ruling Stop = omega arith
byte-ruling Dense = omega arith
byte-ruling Sparse = omega arith

pub verdict_bytes : VerdictIsBytes
verdict_bytes j = All-cons IsByte _ _ (byte-ruling j.ruling) (bytes-words j.totals)

pub few_places : FewPlaces
few_places values few fits =
    let count : length (places values) ≡ length values = length-map values _ in
    record { count = refl; mask = byte_mask (places values) (omega (arith, count, few)); fits = fits }

pub update_example : UpdateExample
unfolding word_bytes
update_example = refl

pub push_example : PushExample
unfolding word_bytes
push_example = refl
