-- Words as bytes, and bytes as words.
use Rattle.std.proofs.Common.{◌≡◌, ℕ, zero, suc, ◌+◌, ◌*◌, ◌^◌, ◌<◌, ◌≤◌, ℤ, List, [], ◌∷◌, ◌++◌, length, get_or, take, drop, refl, sym, ap, subst, inl, inr, ◌∙◌, arith}
use Rattle.std.specs.Int.{w64, cast_signed, cast_unsigned, from_le_bytes}
use Rattle.std.specs.Int.RustNames.{FitsSigned}
use Rattle.std.specs.List.{AllByRecursion, flat_map}
use Rattle.std.proofs.lemmas.Int.{ints, to_z-of_z, of_z-to_z}
use Rattle.std.proofs.lemmas.Nat.{le_bytes_8, from_le_bytes-to_le_bytes_8}
use Rattle.std.proofs.lemmas.List.{append_assoc, length-append, length-drop, length-take-le, get_or-take, take-append-drop, drop-drop, length-take, get_or_past, take_at, drop_at, get_or-drop}
use Rattle.std.proofs.lemmas.Bool.{cases_lt}
use borrow.Author.Gap.{read_sfits}
use Rattle.dep_layout.specs.Spelling.{word_bytes}
use Rattle.dep_layout.specs.Judgement.{word_of, words_in}

abbrev pub AreBelow : List ℕ → Type 0
AreBelow bytes = (i : ℕ) → get_or bytes i 0 < 256

pub drop_below : (n : ℕ) (bytes : List ℕ) → AreBelow bytes → AreBelow (drop n bytes)
drop_below n bytes fits i = let P : ℕ → Type 0 = λ x. x < 256 in subst P (sym (get_or-drop n bytes i 0)) (fits (n + i))

-- the words of bytes spell these bytes
pub eight_bytes : (bytes : List ℕ) → length bytes ≡ 8 → AreBelow bytes → word_bytes (word_of bytes) ≡ bytes
unfolding word_bytes word_of
eight_bytes bytes count fits =
    let below : from_le_bytes w64 bytes < 2 ^ 64 =
    omega (arith, fits 0, fits 1, fits 2, fits 3, fits 4, fits 5, fits 6, fits 7) in
    le_bytes_8 bytes _ count fits (of_z-to_z w64 (from_le_bytes w64 bytes) below)

pub length-word_bytes : (word : ℤ) → length (word_bytes word) ≡ 8
unfolding word_bytes
length-word_bytes word = refl

-- a word is what its bytes spell
pub word_again : (word : ℤ) → FitsSigned w64 word → word_of (word_bytes word) ≡ word
unfolding word_bytes word_of
word_again word fits =
    let below : cast_unsigned w64 word < 2 ^ 64 = omega (arith, ints) in
    ap (cast_signed w64) (from_le_bytes-to_le_bytes_8 (cast_unsigned w64 word) below) ∙ to_z-of_z w64 word fits

pub fits-word_of : (bytes : List ℕ) → FitsSigned w64 (word_of bytes)
unfolding word_of
fits-word_of bytes = read_sfits w64 (from_le_bytes w64 bytes)

pub take_below : (n : ℕ) (bytes : List ℕ) → AreBelow bytes → AreBelow (take n bytes)
take_below n bytes fits i =
    let P : ℕ → Type 0 = λ x. x < 256 in
    elim (cases_lt i n) [
      | inl inside ↦ subst P (sym (get_or-take n bytes i 0 inside)) (fits i)
      | inr past ↦ subst P (sym (get_or_past (take n bytes) i 0 (omega (arith, length-take n bytes)))) (omega arith)
    ]

-- so many bytes further on, at one more word
pub further : (n : ℕ) (bytes : List ℕ) → drop (8 * suc n) bytes ≡ drop (8 * n) (drop 8 bytes)
further n bytes =
    let e : 8 * suc n ≡ 8 + 8 * n = omega arith in
    ap (λ k. drop k bytes) e ∙ sym (drop-drop (8 * n) 8 bytes)

-- the words that are read spell the bytes that were read
pub bytes-words_in : (n : ℕ) (bytes : List ℕ) → 8 * n ≤ length bytes → AreBelow bytes →
    flat_map word_bytes (words_in n bytes) ++ drop (8 * n) bytes ≡ bytes
bytes-words_in zero bytes room fits = refl
bytes-words_in (suc n) bytes room fits =
    let front = word_bytes (word_of (take 8 bytes)) in
    let behind = flat_map word_bytes (words_in n (drop 8 bytes)) in
    let eight = eight_bytes (take 8 bytes) (length-take-le 8 bytes (omega arith)) (take_below 8 bytes fits) in
    let rest = bytes-words_in n (drop 8 bytes) (omega (arith, length-drop 8 bytes)) (drop_below 8 bytes fits) in
    ap (λ left. (front ++ behind) ++ left) (further n bytes)
    ∙ append_assoc front behind (drop (8 * n) (drop 8 bytes))
    ∙ ap (λ left. front ++ left) rest
    ∙ ap (λ first. first ++ drop 8 bytes) eight
    ∙ take-append-drop 8 bytes

-- words are read from the bytes that they spell
pub words_again : (words : List ℤ) (rest : List ℕ) → AllByRecursion (FitsSigned w64) words →
    words_in (length words) (flat_map word_bytes words ++ rest) ≡ words
words_again [] rest fits = refl
words_again (word ∷ words) rest fits =
    let front = word_bytes word in
    let behind = flat_map word_bytes words ++ rest in
    let n = length words in
    ap (λ bytes. word_of (take 8 bytes) ∷ words_in n (drop 8 bytes))
    (append_assoc front (flat_map word_bytes words) rest)
    ∙ ap (λ bytes. word_of bytes ∷ words_in n (drop 8 (front ++ behind)))
    (take_at front behind 8 (length-word_bytes word))
    ∙ ap (λ bytes. word_of front ∷ words_in n bytes) (drop_at front behind 8 (length-word_bytes word))
    ∙ ap (λ first. first ∷ words_in n behind) (word_again word fits.0)
    ∙ ap (λ others. word ∷ others) (words_again words rest fits.1)

pub length-words_bytes : (words : List ℤ) → length (flat_map word_bytes words) ≡ 8 * length words
length-words_bytes [] = refl
length-words_bytes (word ∷ words) =
    length-append (word_bytes word) (flat_map word_bytes words)
    ∙ omega (arith, length-word_bytes word, length-words_bytes words)

pub length-words_in : (n : ℕ) (bytes : List ℕ) → length (words_in n bytes) ≡ n
length-words_in zero bytes = refl
length-words_in (suc n) bytes = ap suc (length-words_in n (drop 8 bytes))

pub fits-words_in : (n : ℕ) (bytes : List ℕ) → AllByRecursion (FitsSigned w64) (words_in n bytes)
fits-words_in zero bytes = tt
fits-words_in (suc n) bytes = (fits-word_of (take 8 bytes), fits-words_in n (drop 8 bytes))
