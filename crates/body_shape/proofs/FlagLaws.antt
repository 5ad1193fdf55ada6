-- Flags as the bits of bytes, and back.
use Rattle.std.proofs.Common.{◌≡◌, ℕ, zero, suc, ◌+◌, ◌*◌, ◌/◌, ◌%◌, ◌<◌, ◌≤◌, eqb, Bool, true, false, not, ◌||◌, cond, count_by, List, [], ◌∷◌, ◌++◌, length, map, take, drop, replicate, refl, inl, inr, sym, ap, ◌∙◌, arith}
use Rattle.std.specs.List.{All, list_any}
use Rattle.std.specs.Simd.Lanes.{mask_l}
use Rattle.std.proofs.lemmas.Bool.{cases_lt}
use Rattle.std.proofs.lemmas.List.{append_assoc, length-take-le, length-drop, take-append-drop, take_all, drop_all, replicate-append-replicate}
use Rattle.std.proofs.lemmas.List.Elements.{All-head, All-tail}
use Rattle.std.proofs.lemmas.List.Sums.{sum_by-cons}
use Rattle.dep_layout.specs.Judgement.{is_set}
use Rattle.body_shape.specs.Fit.{bits_of, bits_in}
use Rattle.body_shape.specs.Places.{set_count, flags_of}
use Rattle.body_shape.specs.Push.{bytes_with, flags_in, padded}
use Rattle.body_shape.proofs.PlaceLaws.{flags_of-mask_l, mask_l-flags_of, high_bits, low_bit}

-- ---- bits that are judged, as flags

byte_flags : (b : ℕ) → map is_set (bits_of b) ≡ flags_of 8 b
byte_flags b =
    let e2 : b / 4 ≡ b / 2 / 2 = omega arith in
    let e3 : b / 8 ≡ b / 2 / 2 / 2 = omega arith in
    let e4 : b / 16 ≡ b / 2 / 2 / 2 / 2 = omega arith in
    let e5 : b / 32 ≡ b / 2 / 2 / 2 / 2 / 2 = omega arith in
    let e6 : b / 64 ≡ b / 2 / 2 / 2 / 2 / 2 / 2 = omega arith in
    let e7 : b / 128 ≡ b / 2 / 2 / 2 / 2 / 2 / 2 / 2 = omega arith in
    cc

pub flags_are : (bytes : List ℕ) → map is_set (bits_in bytes) ≡ flags_in bytes
unfolding bits_in
flags_are [] = refl
flags_are (b ∷ bytes) =
    ap (λ fs. fs ++ map is_set (bits_in bytes)) (byte_flags b) ∙ ap (λ fs. flags_of 8 b ++ fs) (flags_are bytes)

abbrev pub has_set : List Bool → Bool
has_set flags = list_any (λ b. b) flags

set_are : (bits : List ℕ) → list_any is_set bits ≡ has_set (map is_set bits)
set_are [] = refl
set_are (bit ∷ bits) = ap (λ r. is_set bit || r) (set_are bits)

behind_are : (n : ℕ) (bits : List ℕ) → list_any is_set (drop n bits) ≡ has_set (drop n (map is_set bits))
behind_are zero bits = set_are bits
behind_are (suc n) [] = refl
behind_are (suc n) (bit ∷ bits) = behind_are n bits

pub behind_flags : (n : ℕ) (bytes : List ℕ) → list_any is_set (drop n (bits_in bytes))
    ≡ has_set (drop n (flags_in bytes))
behind_flags n bytes = behind_are n (bits_in bytes) ∙ ap (λ fs. has_set (drop n fs)) (flags_are bytes)

set_cons : (flag : Bool) (flags : List Bool) → set_count (flag ∷ flags) ≡ cond flag 1 0 + set_count flags
set_cons false flags = omega arith
set_cons true flags = omega arith

none_padded : (n : ℕ) → set_count (padded n []) ≡ 0
none_padded zero = refl
none_padded (suc n) = none_padded n

count_are : (n : ℕ) (bits : List ℕ) → count_by is_set (take n bits) ≡ set_count (padded n (map is_set bits))
count_are zero bits = refl
count_are (suc n) [] = sym (none_padded (suc n))
count_are (suc n) (bit ∷ bits) =
    sum_by-cons (λ b. cond (is_set b) 1 0) bit (take n bits)
    ∙ ap (λ k. cond (is_set bit) 1 0 + k) (count_are n bits)
    ∙ sym (set_cons (is_set bit) (padded n (map is_set bits)))

pub count_flags : (n : ℕ) (bytes : List ℕ) → count_by is_set (take n (bits_in bytes))
    ≡ set_count (padded n (flags_in bytes))
count_flags n bytes = count_are n (bits_in bytes) ∙ ap (λ fs. set_count (padded n fs)) (flags_are bytes)

-- ---- flags and falses

pub length-padded : (n : ℕ) (flags : List Bool) → length (padded n flags) ≡ n
length-padded zero flags = refl
length-padded (suc n) [] = ap suc (length-padded n [])
length-padded (suc n) (flag ∷ flags) = ap suc (length-padded n flags)

pub padded_front : (flags rest : List Bool) → padded (length flags) (flags ++ rest) ≡ flags
padded_front [] rest = refl
padded_front (flag ∷ flags) rest = ap (λ fs. flag ∷ fs) (padded_front flags rest)

pub none_set : (k : ℕ) → has_set (replicate k false) ≡ false
none_set zero = refl
none_set (suc k) = none_set k

-- flags of which none is set are falses
falses : (flags : List Bool) → has_set flags ≡ false → (k : ℕ) × (flags ≡ replicate k false)
falses [] e = (0, refl)
falses (true ∷ flags) e = absurd (cc)
falses (false ∷ flags) e = let rest = falses flags e in (suc rest.0, ap (λ fs. false ∷ fs) rest.1)

-- flags of which none is set behind the first so many are these and falses
split_flags : (n : ℕ) (flags : List Bool) → n ≤ length flags → has_set (drop n flags) ≡ false → (k : ℕ) ×
    (flags ≡ padded n flags ++ replicate k false)
split_flags zero flags room e = falses flags e
split_flags (suc n) [] room e = absurd (omega arith)
split_flags (suc n) (flag ∷ flags) room e = let rest = split_flags n flags (omega arith) e in
    (rest.0, ap (λ fs. flag ∷ fs) rest.1)

no_bits : (k : ℕ) → flags_of k 0 ≡ replicate k false
no_bits zero = refl
no_bits (suc k) = ap (λ fs. false ∷ fs) (no_bits k)

-- the bits of the number of flags are the flags and falses
wide_flags : (k : ℕ) (flags : List Bool) → length flags ≤ k → (j : ℕ) ×
    (flags_of k (mask_l flags) ≡ flags ++ replicate j false)
wide_flags k [] room = (k, no_bits k)
wide_flags zero (flag ∷ flags) room = absurd (omega arith)
wide_flags (suc k) (flag ∷ flags) room =
    let rest = wide_flags k flags (omega arith) in (
      rest.0,
      ap (λ b. b ∷ flags_of k ((cond flag 1 0 + 2 * mask_l flags) / 2)) (low_bit flag (mask_l flags))
          ∙ ap (λ n. flag ∷ flags_of k n) (high_bits flag (mask_l flags))
          ∙ ap (λ fs. flag ∷ fs) rest.1,
    )

pub length-bytes_with : (n : ℕ) (flags : List Bool) → length (bytes_with n flags) ≡ n
length-bytes_with zero flags = refl
length-bytes_with (suc n) flags = ap suc (length-bytes_with n (drop 8 flags))

empty : (flags : List Bool) → length flags ≤ 0 → flags ≡ []
empty [] e = refl
empty (flag ∷ flags) e = absurd (omega arith)

-- the flags in the bytes of flags are these and falses
pub flags_again : (n : ℕ) (flags : List Bool) → length flags ≤ 8 * n → (k : ℕ) ×
    (flags_in (bytes_with n flags) ≡ flags ++ replicate k false)
flags_again zero flags room = (0, ap (λ fs. fs ++ []) (sym (empty flags (omega arith))))
flags_again (suc n) flags room =
    let behind = flags_in (bytes_with n (drop 8 flags)) in
    let rest = flags_again n (drop 8 flags) (omega (arith, length-drop 8 flags)) in
    elim (cases_lt (length flags) 8) [
      | inl few ↦
          let front = wide_flags 8 flags (omega arith) in (
            front.0 + rest.0,
            ap (λ fs. flags_of 8 (mask_l fs) ++ behind) (take_all 8 flags (omega arith))
                ∙ ap (λ fs. fs ++ behind) front.1
                ∙ ap (λ fs. (flags ++ replicate front.0 false) ++ fs)
                (rest.1 ∙ ap (λ fs. fs ++ replicate rest.0 false) (drop_all 8 flags (omega arith)))
                ∙ append_assoc flags (replicate front.0 false) (replicate rest.0 false)
                ∙ ap (λ fs. flags ++ fs) (replicate-append-replicate front.0 rest.0 false),
          )
      | inr many ↦
          let count : length (take 8 flags) ≡ 8 = length-take-le 8 flags many in
          let front : flags_of 8 (mask_l (take 8 flags)) ≡ take 8 flags =
          ap (λ k. flags_of k (mask_l (take 8 flags))) (sym count) ∙ flags_of-mask_l (take 8 flags) in (
            rest.0,
            ap (λ fs. fs ++ behind) front
                ∙ ap (λ fs. take 8 flags ++ fs) rest.1
                ∙ sym (append_assoc (take 8 flags) (drop 8 flags) (replicate rest.0 false))
                ∙ ap (λ fs. fs ++ replicate rest.0 false) (take-append-drop 8 flags),
          )
    ]

-- ---- falses behind flags change no byte

pub zero_mask : (m k : ℕ) → mask_l (take m (replicate k false)) ≡ 0
zero_mask zero k = refl
zero_mask (suc m) zero = refl
zero_mask (suc m) (suc k) = omega (arith, zero_mask m k)

same_mask : (m k : ℕ) (flags : List Bool) → mask_l (take m (flags ++ replicate k false)) ≡ mask_l (take m flags)
same_mask zero k flags = refl
same_mask (suc m) k [] = zero_mask (suc m) k
same_mask (suc m) k (flag ∷ flags) = ap (λ n. cond flag 1 0 + 2 * n) (same_mask m k flags)

pub drop_falses : (m k : ℕ) → (j : ℕ) × (drop m (replicate k false) ≡ replicate j false)
drop_falses zero k = (k, refl)
drop_falses (suc m) zero = (0, refl)
drop_falses (suc m) (suc k) = drop_falses m k

same_rest : (m k : ℕ) (flags : List Bool) → (j : ℕ) ×
    (drop m (flags ++ replicate k false) ≡ drop m flags ++ replicate j false)
same_rest zero k flags = (k, refl)
same_rest (suc m) k [] = drop_falses (suc m) k
same_rest (suc m) k (flag ∷ flags) = same_rest m k flags

same_bytes : (n k : ℕ) (flags : List Bool) → bytes_with n (flags ++ replicate k false) ≡ bytes_with n flags
same_bytes zero k flags = refl
same_bytes (suc n) k flags =
    let rest = same_rest 8 k flags in
    ap (λ b. b ∷ bytes_with n (drop 8 (flags ++ replicate k false))) (same_mask 8 k flags)
    ∙ ap (λ fs. mask_l (take 8 flags) ∷ bytes_with n fs) rest.1
    ∙ ap (λ bs. mask_l (take 8 flags) ∷ bs) (same_bytes n rest.0 (drop 8 flags))

all_bytes : (bytes : List ℕ) → All (λ b. b < 256) bytes → bytes_with (length bytes) (flags_in bytes) ≡ bytes
all_bytes [] fits = refl
all_bytes (b ∷ bytes) fits =
    let P : ℕ → Type 0 = λ x. x < 256 in
    ap (λ x. x ∷ bytes_with (length bytes) (flags_in bytes)) (mask_l-flags_of 8 b (All-head P b bytes fits))
    ∙ ap (λ bs. b ∷ bs) (all_bytes bytes (All-tail P b bytes fits))

pub length-flags_in : (bytes : List ℕ) → length (flags_in bytes) ≡ 8 * length bytes
length-flags_in [] = refl
length-flags_in (b ∷ bytes) = omega (arith, length-flags_in bytes)

-- bytes with no flag set behind the first so many are the bytes of these
pub bytes_again : (n : ℕ) (bytes : List ℕ) → All (λ b. b < 256) bytes → n ≤ 8 * length bytes →
    has_set (drop n (flags_in bytes)) ≡ false →
    bytes_with (length bytes) (padded n (flags_in bytes)) ≡ bytes
bytes_again n bytes fits room none =
    let split = split_flags n (flags_in bytes) (omega (arith, length-flags_in bytes)) none in
    sym (same_bytes (length bytes) split.0 (padded n (flags_in bytes)))
    ∙ ap (bytes_with (length bytes)) (sym split.1)
    ∙ all_bytes bytes fits
