-- One more step of a loop that writes values.
use Rattle.std.proofs.Common.{◌≡◌, ℕ, zero, ◌+◌, ◌*◌, ◌^◌, ◌<◌, ◌≤◌, cond, ℤ, Option, Some, None, List, [], ◌∷◌, ◌++◌, length, get_or, drop, sym, ap, ◌∙◌, arith}
use Rattle.std.specs.Prelude.{is_some}
use Rattle.std.proofs.Math.Nat.{pow-le-pow_right}
use Rattle.std.proofs.lemmas.List.{append_assoc, append-nil, drop_more, length-drop, length-map}
use Rattle.std.proofs.lemmas.Simd.{mask_l-lt}
use Rattle.dep_layout.specs.Spelling.{word_bytes}
use Rattle.body_shape.specs.Places.{mask_of, places, there}
use Rattle.body_shape.specs.Refresh.{words_bytes}

-- the bit of a value before those behind it
module _ (values : List (Option ℤ)) (place : ℕ) (value d : Option ℤ) (bit mask : ℕ) where
  pub mask_step : place < length values → value ≡ get_or values place d → bit ≡ cond (is_some value) 1 0 →
      mask ≡ mask_of (drop (place + 1) values) → bit + 2 * mask ≡ mask_of (drop place values)
  mask_step within read one behind =
      ap (λ b. b + 2 * mask) one
      ∙ ap (λ v. cond (is_some v) 1 0 + 2 * mask) read
      ∙ ap (λ m. cond (is_some (get_or values place d)) 1 0 + 2 * m) behind
      ∙ sym (ap mask_of (drop_more values place d within))

-- what is behind one of eight places has seven bits
pub mask_room : (values : List (Option ℤ)) (place : ℕ) → length values ≤ 8 → 0 < place →
    mask_of (drop place values) < 128
mask_room values place few some =
    let two : zero < 2 = omega arith in
    let left : length (places (drop place values)) ≤ 7 =
    omega (arith, length-map (drop place values) is_some, length-drop place values) in
    let most : 2 ^ length (places (drop place values)) ≤ 2 ^ 7 = pow-le-pow_right two left in
    omega (arith, mask_l-lt (places (drop place values)), most)

-- a value that is there is written
module _ (bytes new : List ℕ) (values : List (Option ℤ)) (i : ℕ) (word : ℤ) (d : Option ℤ) (whole : List ℕ) where
  pub there_step : i < length values → Some word ≡ get_or values i d → new ≡ bytes ++ words_bytes (word ∷ []) →
      bytes ++ words_bytes (there (drop i values)) ≡ whole →
      new ++ words_bytes (there (drop (i + 1) values)) ≡ whole
  there_step within read written all =
      ap (λ front. front ++ words_bytes (there (drop (i + 1) values))) written
      ∙ append_assoc bytes (words_bytes (word ∷ [])) (words_bytes (there (drop (i + 1) values)))
      ∙ ap (λ w. bytes ++ (w ++ words_bytes (there (drop (i + 1) values)))) (append-nil (word_bytes word))
      ∙ sym (ap (λ v. bytes ++ words_bytes (there (v ∷ drop (i + 1) values))) (sym read))
      ∙ sym (ap (λ vs. bytes ++ words_bytes (there vs)) (drop_more values i d within))
      ∙ all

pub missing_step : (bytes : List ℕ) (values : List (Option ℤ)) (i : ℕ) (d : Option ℤ) (whole : List ℕ) →
    i < length values → None ≡ get_or values i d →
    bytes ++ words_bytes (there (drop i values)) ≡ whole → bytes ++ words_bytes (there (drop (i + 1) values)) ≡ whole
missing_step bytes values i d whole within read all =
    sym (ap (λ v. bytes ++ words_bytes (there (v ∷ drop (i + 1) values))) (sym read))
    ∙ sym (ap (λ vs. bytes ++ words_bytes (there vs)) (drop_more values i d within))
    ∙ all
