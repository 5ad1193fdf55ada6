-- A push to which the words of one vertex more are written.
use Rattle.std.proofs.Common.{◌≡◌, ℕ, zero, suc, ◌+◌, ◌-◌, ◌*◌, ◌/◌, ◌%◌, ◌^◌, ◌<◌, ◌≤◌, eqb, Bool, true, false, not, ℤ, Option, Some, None, List, [], ◌∷◌, ◌++◌, length, get_or, set, take, drop, replicate, inl, inr, refl, sym, ap, ◌∙◌, arith}
use Rattle.std.specs.Prelude.{is_some}
use Rattle.std.specs.Simd.Lanes.{mask_l}
use Rattle.std.proofs.Math.Seq.{take-set-lt}
use Rattle.std.proofs.lemmas.Bool.{cases_lt, eqb-true, not-false}
use Rattle.std.proofs.lemmas.List.{append_assoc, append-nil, drop-set-add, drop-set-lt, get_or_append_left, get_or-drop, get_or-take, length-drop, length-map, length-set, length-take, map-set, set-append_left, take-set-le}
use Rattle.std.proofs.lemmas.List.Concat.{flat_map-append}
use Rattle.body_shape.specs.Fit.{bit_len}
use Rattle.body_shape.specs.Places.{places, there}
use Rattle.body_shape.specs.Push.{AddsSend, bit_bytes, bytes_with, flags_in, push_body}
use Rattle.body_shape.specs.Refresh.{rows_bytes, words_bytes}
use Rattle.body_shape.proofs.FlagLaws.{drop_falses, flags_again, length-bytes_with, zero_mask}
use Rattle.body_shape.proofs.MissingLaws.{none_there}
use Rattle.body_shape.proofs.ReadLaws.{flag_in_place}

-- ---- nobody sends

no_places : (n : ℕ) → places {X = List ℤ} (replicate n None) ≡ replicate n false
no_places zero = refl
no_places (suc n) = ap (λ fs. false ∷ fs) (no_places n)

no_bytes : (k n : ℕ) → bytes_with k (replicate n false) ≡ replicate k 0
no_bytes zero n = refl
no_bytes (suc k) n =
    let rest = drop_falses 8 n in
    ap (λ b. b ∷ bytes_with k (drop 8 (replicate n false))) (zero_mask 8 n)
    ∙ ap (λ fs. 0 ∷ bytes_with k fs) rest.1
    ∙ ap (λ bs. 0 ∷ bs) (no_bytes k rest.0)

pub length-places : {X : Type 0} (xs : List (Option X)) → length (places xs) ≡ length xs
length-places xs = length-map xs is_some

pub no_sends : (n : ℕ) (none : List (Option (List ℤ))) → none ≡ replicate n None → length none ≡ n →
    push_body none ≡ replicate (bit_len n) 0
no_sends n none same count =
    let flags : places none ≡ replicate n false = ap places same ∙ no_places n in
    ap (λ k. bytes_with (bit_len k) (places none) ++ rows_bytes (there none)) (length-places none ∙ count)
    ∙ ap (λ fs. bytes_with (bit_len n) fs ++ rows_bytes (there none)) flags
    ∙ ap (λ bs. bs ++ rows_bytes (there none)) (no_bytes (bit_len n) n)
    ∙ ap (λ rows. replicate (bit_len n) 0 ++ rows_bytes rows) (ap there same ∙ none_there n)
    ∙ append-nil (replicate (bit_len n) 0)

-- ---- one vertex more

there_more : (sends : List (Option (List ℤ))) (v : ℕ) (words : List ℤ) → v < length sends → there (drop v sends) ≡ [] →
    there (set sends v (Some words)) ≡ there sends ++ words ∷ []
there_more [] v words within none = absurd (omega arith)
there_more (None ∷ sends) zero words within none = ap (λ ws. words ∷ ws) none ∙ sym (ap (λ ws. ws ++ words ∷ []) none)
there_more (Some x ∷ sends) zero words within none = absurd (cc)
there_more (None ∷ sends) (suc v) words within none = there_more sends v words (omega arith) none
there_more (Some x ∷ sends) (suc v) words within none = ap (λ ws. x ∷ ws) (there_more sends v words (omega arith) none)

unset : (sends : List (Option (List ℤ))) (v : ℕ) → there (drop v sends) ≡ [] → get_or (places sends) v false ≡ false
unset [] v none = refl
unset (None ∷ sends) zero none = refl
unset (Some x ∷ sends) zero none = absurd (cc)
unset (s ∷ sends) (suc v) none = unset sends v none

mask_more : (flags : List Bool) (v : ℕ) → v < length flags → get_or flags v false ≡ false →
    mask_l (set flags v true) ≡ mask_l flags + 2 ^ v
mask_more [] v within clear = absurd (omega arith)
mask_more (true ∷ flags) zero within clear = absurd (cc)
mask_more (false ∷ flags) zero within clear = omega arith
mask_more (flag ∷ flags) (suc v) within clear = omega (arith, mask_more flags v (omega arith) clear)

bytes_more : (n : ℕ) (flags : List Bool) (v : ℕ) → v < length flags → v < 8 * n → get_or flags v false ≡ false →
    bytes_with n (set flags v true) ≡ set (bytes_with n flags) (v / 8)
    (get_or (bytes_with n flags) (v / 8) 0 + 2 ^ (v % 8))
bytes_more zero flags v within room clear = absurd (omega arith)
bytes_more (suc n) flags v within room clear =
    let bytes = bytes_with (suc n) flags in
    elim (cases_lt v 8) [
      | inl few ↦
          let at : v / 8 ≡ 0 = omega arith in
          let place : v % 8 ≡ v = omega arith in
          let inside : v < length (take 8 flags) = omega (arith, length-take 8 flags) in
          let front = ap mask_l (take-set-lt 8 flags v true few)
          ∙ mask_more (take 8 flags) v inside (get_or-take 8 flags v false few ∙ clear) in
          ap (λ b. b ∷ bytes_with n (drop 8 (set flags v true))) front
          ∙ ap (λ fs. (mask_l (take 8 flags) + 2 ^ v) ∷ bytes_with n fs) (drop-set-lt 8 flags v true few)
          ∙ ap (λ k. (mask_l (take 8 flags) + 2 ^ k) ∷ bytes_with n (drop 8 flags)) (sym place)
          ∙ ap (λ k. set bytes k (get_or bytes k 0 + 2 ^ (v % 8))) (sym at)
      | inr many ↦
          let w = v - 8 in
          let again : v ≡ 8 + (v - 8) = omega arith in
          let at : v / 8 ≡ suc ((v - 8) / 8) = omega arith in
          let place : v % 8 ≡ (v - 8) % 8 = omega arith in
          let inside : v - 8 < length (drop 8 flags) = omega (arith, length-drop 8 flags) in
          let unset : get_or (drop 8 flags) (v - 8) false ≡ false = get_or-drop 8 flags (v - 8) false
          ∙ ap (λ k. get_or flags k false) (sym again) ∙ clear in
          let rest = bytes_more n (drop 8 flags) w inside (omega arith) unset in
          let others = bytes_with n (drop 8 flags) in
          ap (λ fs. mask_l fs ∷ bytes_with n (drop 8 (set flags v true))) (take-set-le 8 flags v true many)
          ∙ ap (λ k. mask_l (take 8 flags) ∷ bytes_with n (drop 8 (set flags k true))) again
          ∙ ap (λ fs. mask_l (take 8 flags) ∷ bytes_with n fs) (drop-set-add 8 flags w true)
          ∙ ap (λ bs. mask_l (take 8 flags) ∷ bs) rest
          ∙ ap (λ k. mask_l (take 8 flags) ∷ set others (w / 8) (get_or others (w / 8) 0 + 2 ^ k)) (sym place)
          ∙ ap (λ k. set bytes k (get_or bytes k 0 + 2 ^ (v % 8))) (sym at)
    ]

-- the bit of a byte that isn't set
pub bit_room : (byte k : ℕ) → byte < 256 → k < 8 → byte / 2 ^ k % 2 ≡ 0 → byte + 2 ^ k < 256
bit_room byte zero below few clear = omega arith
bit_room byte (suc zero) below few clear = omega arith
bit_room byte (suc (suc zero)) below few clear = omega arith
bit_room byte (suc (suc (suc zero))) below few clear = omega arith
bit_room byte (suc (suc (suc (suc zero)))) below few clear = omega arith
bit_room byte (suc (suc (suc (suc (suc zero))))) below few clear = omega arith
bit_room byte (suc (suc (suc (suc (suc (suc zero)))))) below few clear = omega arith
bit_room byte (suc (suc (suc (suc (suc (suc (suc zero))))))) below few clear = omega arith
bit_room byte (suc (suc (suc (suc (suc (suc (suc (suc k)))))))) below few clear = absurd (omega arith)

clear_bit : (n : ℕ) (b : Bool) → not (eqb n 0) ≡ b → b ≡ false → n ≡ 0
clear_bit n b is clear = eqb-true n 0 (not-false (eqb n 0) (is ∙ clear))

-- what is put where the bit of the vertex is set and its words are written behind
pub send_more : (old set_one new : List ℕ) (v : ℕ) (words : List ℤ) →
    (get_or old (v / 8) 0 / 2 ^ (v % 8) % 2 ≡ 0 → set_one ≡ set old (v / 8) (get_or old (v / 8) 0 + 2 ^ (v % 8))) →
    new ≡ set_one ++ words_bytes words → AddsSend old v words new
send_more old set_one new v words bit written sends spelled within none =
    let flags = places sends in
    let n = bit_len (length (places sends)) in
    let marks = bytes_with (bit_len (length (places sends))) (places sends) in
    let rows = rows_bytes (there sends) in
    let size : length (bytes_with (bit_len (length (places sends))) (places sends))
    ≡ bit_len (length (places sends)) = length-bytes_with n flags in
    let many : length (places sends) ≡ length sends = length-places sends in
    let inside : v < length (places sends) = omega (arith, many) in
    let room : v < 8 * bit_len (length (places sends)) = omega (arith, inside) in
    let place : v / 8 < length (bytes_with (bit_len (length (places sends))) (places sends)) =
    omega (arith, size, room) in
    let byte : get_or old (v / 8) 0 ≡ get_or marks (v / 8) 0 = ap (λ bs. get_or bs (v / 8) 0) spelled
    ∙ get_or_append_left marks rows 0 (v / 8) place in
    let clear = unset sends v none in
    let wide : length (places sends) ≤ 8 * bit_len (length (places sends)) = omega arith in
    let again = flags_again n flags wide in
    let flag : get_or (flags_in marks) v false ≡ false =
    ap (λ fs. get_or fs v false) again.1 ∙ get_or_append_left flags (replicate again.0 false) false v inside ∙ clear in
    let zero_bit : get_or old (v / 8) 0 / 2 ^ (v % 8) % 2 ≡ 0 =
    ap (λ b. b / 2 ^ (v % 8) % 2) byte ∙ clear_bit (get_or marks (v / 8) 0 / 2 ^ (v % 8) % 2)
    (get_or (flags_in marks) v false) (flag_in_place marks v) flag in
    let b = get_or marks (v / 8) 0 + 2 ^ (v % 8) in
    let more : bytes_with n (set flags v true) ≡ set marks (v / 8) (get_or marks (v / 8) 0 + 2 ^ (v % 8)) =
    bytes_more n flags v inside room clear in
    let set_flags : places (set sends v (Some words)) ≡ set (places sends) v true =
    map-set is_some sends v (Some words) in
    let count : bit_len (length (places (set sends v (Some words)))) ≡ bit_len (length (places sends)) =
    ap bit_len (ap length set_flags ∙ length-set flags v true) in
    let all : rows_bytes (there (set sends v (Some words))) ≡ rows ++ words_bytes words =
    ap rows_bytes (there_more sends v words within none) ∙ flat_map-append words_bytes (there sends) (words ∷ [])
    ∙ ap (λ ws. rows ++ ws) (append-nil (words_bytes words)) in
    written
    ∙ ap (λ bs. bs ++ words_bytes words) (bit zero_bit)
    ∙ ap (λ x. set old (v / 8) (x + 2 ^ (v % 8)) ++ words_bytes words) byte
    ∙ ap (λ bs. set bs (v / 8) b ++ words_bytes words) spelled
    ∙ ap (λ bs. bs ++ words_bytes words) (set-append_left marks rows (v / 8) b place)
    ∙ append_assoc (set marks (v / 8) b) rows (words_bytes words)
    ∙ ap (λ bs. bs ++ (rows ++ words_bytes words)) (sym more)
    ∙ ap (λ fs. bytes_with n fs ++ (rows ++ words_bytes words)) (sym set_flags)
    ∙ ap (λ k. bytes_with k (places (set sends v (Some words))) ++ (rows ++ words_bytes words)) (sym count)
    ∙ ap (λ rs. bit_bytes (places (set sends v (Some words))) ++ rs) (sym all)
