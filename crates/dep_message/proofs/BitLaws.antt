-- The bits of bytes.
use Rattle.std.proofs.Common.{◌≡◌, ℕ, zero, suc, ◌*◌, ◌/◌, ◌%◌, ◌^◌, ◌<◌, ◌≤◌, min, ltb, bit_and, List, [], ◌∷◌, length, get_or, take, refl, sym, ap, ◌∙◌, arith}
use Rattle.std.proofs.Math.Nat.{div-one, pow-le-pow_right}
use Rattle.std.proofs.lemmas.Bool.{lt-ltb}
use Rattle.std.proofs.lemmas.Nat.{and_mask}
use Rattle.std.proofs.lemmas.List.{length-take-le}
use Rattle.body_shape.specs.Fit.{bits_in}

pub length-bits : (bytes : List ℕ) → length (bits_in bytes) ≡ 8 * length bytes
unfolding bits_in
length-bits [] = refl
length-bits (b ∷ bs) = let rest = length-bits bs in omega (arith, rest)

-- the bit of a vertex in its byte
pub bit_is : (bytes : List ℕ) (v : ℕ) → v < 8 * length bytes → bit_and (get_or bytes (v / 8) 0 / 2 ^ (v % 8)) 1
    ≡ get_or (bits_in bytes) v 0
unfolding bits_in
bit_is [] v within = absurd (omega arith)
bit_is (b ∷ bs) zero within = and_mask (b / 1) 1 ∙ ap (λ n. n % 2) (div-one b)
bit_is (b ∷ bs) (suc zero) within = and_mask (b / 2) 1
bit_is (b ∷ bs) (suc (suc zero)) within = and_mask (b / 4) 1
bit_is (b ∷ bs) (suc (suc (suc zero))) within = and_mask (b / 8) 1
bit_is (b ∷ bs) (suc (suc (suc (suc zero)))) within = and_mask (b / 16) 1
bit_is (b ∷ bs) (suc (suc (suc (suc (suc zero))))) within = and_mask (b / 32) 1
bit_is (b ∷ bs) (suc (suc (suc (suc (suc (suc zero)))))) within = and_mask (b / 64) 1
bit_is (b ∷ bs) (suc (suc (suc (suc (suc (suc (suc zero))))))) within = and_mask (b / 128) 1
bit_is (b ∷ bs) (suc (suc (suc (suc (suc (suc (suc (suc v)))))))) within =
    let at : suc (suc (suc (suc (suc (suc (suc (suc v))))))) / 8 ≡ suc (v / 8) = omega arith in
    let place : suc (suc (suc (suc (suc (suc (suc (suc v))))))) % 8 ≡ v % 8 = omega arith in
    ap (λ k. bit_and (get_or (b ∷ bs) k 0 / 2 ^ (suc (suc (suc (suc (suc (suc (suc (suc v))))))) % 8)) 1) at
    ∙ ap (λ k. bit_and (get_or bs (v / 8) 0 / 2 ^ k) 1) place
    ∙ bit_is bs v (omega arith)

-- the bits of the first n vertices
pub length-front : (n : ℕ) (marks : List ℕ) → n ≤ 8 * length marks → length (take n (bits_in marks)) ≡ n
length-front n marks h = length-take-le n (bits_in marks) (omega (arith, length-bits marks))

wide_mask : (place bits : ℕ) → 8 ≤ place → bits < 2 ^ 8 → bits < 2 ^ place
wide_mask place bits wide byte =
    let two : zero < 2 = omega arith in
    let most : 2 ^ 8 ≤ 2 ^ place = pow-le-pow_right two wide in
    omega (arith, most)

-- a byte has no bit from a place on, where it has none from the place or the end of the byte on
pub mask_is : (place bits : ℕ) → bits < 256 → ltb bits ((1 * 2 ^ min place 8) % 65536) ≡ ltb bits (2 ^ place)
mask_is zero bits byte = refl
mask_is (suc zero) bits byte = refl
mask_is (suc (suc zero)) bits byte = refl
mask_is (suc (suc (suc zero))) bits byte = refl
mask_is (suc (suc (suc (suc zero)))) bits byte = refl
mask_is (suc (suc (suc (suc (suc zero))))) bits byte = refl
mask_is (suc (suc (suc (suc (suc (suc zero)))))) bits byte = refl
mask_is (suc (suc (suc (suc (suc (suc (suc zero))))))) bits byte = refl
mask_is (suc (suc (suc (suc (suc (suc (suc (suc place)))))))) bits byte =
    let wide = suc (suc (suc (suc (suc (suc (suc (suc place))))))) in
    let least : min (suc (suc (suc (suc (suc (suc (suc (suc place)))))))) 8 ≡ 8 = omega arith in
    ap (λ k. ltb bits ((1 * 2 ^ k) % 65536)) least
    ∙ lt-ltb bits 256 byte
    ∙ sym (lt-ltb bits (2 ^ wide) (wide_mask wide bits (omega arith) byte))
