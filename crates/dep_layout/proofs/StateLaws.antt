-- States as pairs and words, and back.
use Rattle.std.proofs.Common.{◌≡◌, ℕ, zero, suc, ◌+◌, ◌*◌, ◌/◌, ◌%◌, ◌≤◌, ℤ, pos, true, false, not, cond, eqb, List, [], ◌∷◌, ◌++◌, length, map, drop, replicate, refl, sym, ap, subst, ◌∙◌, lit<, arith}
use Rattle.std.specs.Int.{w64}
use Rattle.std.specs.Int.RustNames.{FitsSigned}
use Rattle.std.specs.List.{AllByRecursion, flat_map, list_all, list_any}
use Rattle.std.proofs.lemmas.Bool.{ne_eqb, and_parts, and_from, or_from, or_right}
use Rattle.std.proofs.lemmas.List.{append_assoc, length-append, length-drop, length-replicate, drop-drop, drop_at}
use Rattle.std.proofs.lemmas.List.Sums.{sum_by-cons}
use borrow.Author.Rules.{sfits_of}
use Rattle.dep_layout.specs.declared.state.Mark.{Mark}
use Rattle.dep_layout.specs.declared.state.Mark.TheVariants.{Fresh, Running, Broken}
use Rattle.dep_layout.specs.Spelling.{State, mark_of, bits_of, word_bytes, sent_of, sent_bytes, are_typed, IsState}
use Rattle.dep_layout.specs.Judgement.{is_both, is_set, started, words_in, rows_in}
use Rattle.dep_layout.specs.Reading.{mark_with, states_in}
use Rattle.dep_layout.proofs.WordLaws.{AreBelow, drop_below, bytes-words_in, words_again, length-words_bytes, length-words_in, fits-words_in}

pub started-zero : (pairs : List ℕ) → started (zero ∷ pairs) ≡ started pairs
started-zero pairs = omega arith

pub started-suc : (pair : ℕ) (pairs : List ℕ) → started (suc pair ∷ pairs) ≡ suc (started pairs)
started-suc pair pairs =
    let ne : suc pair ≡ 0 → ⊥ = λ e. omega arith in
    let one : ◌≡◌ {A = ℕ} (cond (not (eqb (suc pair) 0)) 1 0) 1 = ap (λ b. cond (not b) 1 0) (ne_eqb (suc pair) 0 ne) in
    sum_by-cons (λ p. cond (is_set p) 1 0) (suc pair) pairs ∙ omega (arith, one)

sent_started : (pair : ℕ) (words : List ℤ) → sent_of (mark_with (suc pair)) words ≡ words
sent_started zero words = refl
sent_started (suc pair) words = refl

-- a started vertex has its words at the front
started_state : (width pair : ℕ) (pairs words : List ℕ) →
    states_in width (suc pair ∷ pairs) words ≡ record { mark = mark_with (suc pair); words = words_in width words }
    ∷ states_in width pairs (drop (8 * width) words)
started_state width zero pairs words = refl
started_state width (suc pair) pairs words = refl

-- past the words of one vertex, then of others
pub past_row : (width n : ℕ) (bytes : List ℕ) →
    drop (8 * width * suc n) bytes ≡ drop (8 * width * n) (drop (8 * width) bytes)
past_row width n bytes =
    let e : 8 * width * suc n ≡ 8 * width + 8 * width * n = omega arith in
    ap (λ k. drop k bytes) e ∙ sym (drop-drop (8 * width * n) (8 * width) bytes)

-- the states that are read send the bytes that were read
pub bytes-states_in : (width : ℕ) (pairs words : List ℕ) → 8 * width * started pairs ≤ length words → AreBelow words →
    flat_map sent_bytes (states_in width pairs words) ++ drop (8 * width * started pairs) words ≡ words
bytes-states_in width [] words room fits =
    let e : 8 * width * 0 ≡ 0 = omega arith in
    ap (λ k. drop k words) e
bytes-states_in width (zero ∷ pairs) words room fits =
    let same = started-zero pairs in
    let enough : 8 * width * started pairs ≤ length words =
    let P : ℕ → Type 0 = λ n. 8 * width * n ≤ length words in subst P same room in
    ap (λ n. flat_map sent_bytes (states_in width pairs words) ++ drop (8 * width * n) words) same
    ∙ bytes-states_in width pairs words enough fits
bytes-states_in width (suc pair ∷ pairs) words room fits =
    let same = started-suc pair pairs in
    let n = started pairs in
    let enough : 8 * width * suc (started pairs) ≤ length words =
    let P : ℕ → Type 0 = λ k. 8 * width * k ≤ length words in subst P same room in
    let row = flat_map word_bytes (words_in width words) in
    let rest = flat_map sent_bytes (states_in width pairs (drop (8 * width) words)) in
    let left = drop (8 * width * n) (drop (8 * width) words) in
    let first : 8 * width ≤ length words = omega arith in
    let others : 8 * width * started pairs ≤ length (drop (8 * width) words) =
    omega (arith, length-drop (8 * width) words) in
    ap (λ ss. flat_map sent_bytes ss ++ drop (8 * width * started (suc pair ∷ pairs)) words)
    (started_state width pair pairs words)
    ∙ ap (λ sent. (flat_map word_bytes sent ++ rest) ++ drop (8 * width * started (suc pair ∷ pairs)) words)
    (sent_started pair (words_in width words))
    ∙ ap (λ k. (row ++ rest) ++ drop (8 * width * k) words) same
    ∙ ap (λ end. (row ++ rest) ++ end) (past_row width n words)
    ∙ append_assoc row rest left
    ∙ ap (λ end. row ++ end) (bytes-states_in width pairs (drop (8 * width) words) others
    (drop_below (8 * width) words fits))
    ∙ bytes-words_in width words first fits

-- the words of one vertex at the front of bytes, and what is behind them
pub row_again : (width : ℕ) (words : List ℤ) (bytes : List ℕ) → length words ≡ width →
    AllByRecursion (FitsSigned w64) words →
    words_in width (flat_map word_bytes words ++ bytes) ≡ words
row_again width words bytes count fits = ap (λ n. words_in n (flat_map word_bytes words ++ bytes)) (sym count)
    ∙ words_again words bytes fits

pub row_past : (width : ℕ) (words : List ℤ) (bytes : List ℕ) → length words ≡ width →
    drop (8 * width) (flat_map word_bytes words ++ bytes) ≡ bytes
row_past width words bytes count = drop_at (flat_map word_bytes words) bytes (8 * width) (length-words_bytes words
    ∙ ap (λ n. 8 * n) count)

-- one state more, read from what it sends
module _ (width : ℕ) (words : List ℤ) (pairs bytes : List ℕ) (tail : List State) where
  again_at : (mark : Mark) → length words ≡ width → AllByRecursion (FitsSigned w64) words →
      (mark ≡ Fresh → words ≡ replicate width (pos 0)) → states_in width pairs bytes ≡ tail →
      states_in width (bits_of mark ∷ pairs) (flat_map word_bytes (sent_of mark words) ++ bytes) ≡ record {
        mark
            = mark;
        words = words;
      } ∷ tail
  again_at Fresh count fits still rest =
      ap (λ ss. record { mark = Fresh; words = replicate width (pos 0) } ∷ ss) rest
      ∙ ap (λ ws. record { mark = Fresh; words = ws } ∷ tail) (sym (still refl))
  again_at Running count fits still rest =
      ap (λ ws. record { mark = Running; words = ws }
      ∷ states_in width pairs (drop (8 * width) (flat_map word_bytes words ++ bytes)))
      (row_again width words bytes count fits)
      ∙ ap (λ left. record { mark = Running; words = words } ∷ states_in width pairs left)
      (row_past width words bytes count)
      ∙ ap (λ ss. record { mark = Running; words = words } ∷ ss) rest
  again_at Broken count fits still rest =
      ap (λ ws. record { mark = Broken; words = ws }
      ∷ states_in width pairs (drop (8 * width) (flat_map word_bytes words ++ bytes)))
      (row_again width words bytes count fits)
      ∙ ap (λ left. record { mark = Broken; words = words } ∷ states_in width pairs left)
      (row_past width words bytes count)
      ∙ ap (λ ss. record { mark = Broken; words = words } ∷ ss) rest

-- the pairs of states
abbrev pub pairs_from : List State → List ℕ
pairs_from states = map bits_of (map mark_of states)

-- states are read from the pairs and the bytes that they send
pub states_again : (width bools : ℕ) (states : List State) → AllByRecursion (IsState width bools) states →
    states_in width (pairs_from states) (flat_map sent_bytes states) ≡ states
states_again width bools [] each = refl
states_again width bools (s ∷ states) each =
    again_at width s.words (pairs_from states) (flat_map sent_bytes states) states s.mark each.0.count each.0.fits
    each.0.still (states_again width bools states each.1)

length_at : (width : ℕ) (mark : Mark) (words : List ℤ) (states : List State) → length words ≡ width →
    length (flat_map sent_bytes states) ≡ 8 * width * started (pairs_from states) →
    length (flat_map word_bytes (sent_of mark words) ++ flat_map sent_bytes states) ≡ 8 * width
    * started (bits_of mark ∷ pairs_from states)
length_at width Fresh words states count rest = rest ∙ ap (λ n. 8 * width * n) (sym (started-zero (pairs_from states)))
length_at width Running words states count rest =
    length-append (flat_map word_bytes words) (flat_map sent_bytes states)
    ∙ omega (
      arith,
      rest,
      ap (λ n. 8 * n) count,
      length-words_bytes words,
      ap (λ n. 8 * width * n) (started-suc 0 (pairs_from states)),
    )
length_at width Broken words states count rest =
    length-append (flat_map word_bytes words) (flat_map sent_bytes states)
    ∙ omega (
      arith,
      rest,
      ap (λ n. 8 * n) count,
      length-words_bytes words,
      ap (λ n. 8 * width * n) (started-suc 1 (pairs_from states)),
    )

-- what states send is as long as their pairs say
pub length-sent : (width bools : ℕ) (states : List State) → AllByRecursion (IsState width bools) states →
    length (flat_map sent_bytes states) ≡ 8 * width * started (pairs_from states)
length-sent width bools [] each = let e : 0 ≡ 8 * width * 0 = omega arith in e
length-sent width bools (s ∷ states) each = length_at width s.mark s.words states each.0.count
    (length-sent width bools states each.1)

-- the words that states send are Bools where they must be
abbrev AreTyped : ℕ → ℕ → List ℕ → List ℕ → Type 0
AreTyped width bools pairs words = list_all (are_typed bools) (rows_in width (started pairs) words) ≡ true

module _ (width bools pair : ℕ) (words : List ℤ) (pairs bytes : List ℕ) where
  typed_started : length words ≡ width → AllByRecursion (FitsSigned w64) words → are_typed bools words ≡ true →
      AreTyped width bools pairs bytes →
      AreTyped width bools (suc pair ∷ pairs) (flat_map word_bytes words ++ bytes)
  typed_started count fits typed rest =
      let all = flat_map word_bytes words ++ bytes in
      ap (λ n. list_all (are_typed bools) (rows_in width n all)) (started-suc pair pairs)
      ∙ and_from _ _
      (ap (are_typed bools) (row_again width words bytes count fits) ∙ typed)
      (ap (λ left. list_all (are_typed bools) (rows_in width (started pairs) left)) (row_past width words bytes count)
      ∙ rest)

module _ (width bools : ℕ) where
  typed_at : (mark : Mark) (words : List ℤ) (pairs bytes : List ℕ) → length words ≡ width →
      AllByRecursion (FitsSigned w64) words → are_typed bools words ≡ true → AreTyped width bools pairs bytes →
      AreTyped width bools (bits_of mark ∷ pairs) (flat_map word_bytes (sent_of mark words) ++ bytes)
  typed_at Fresh words pairs bytes count fits typed rest =
      ap (λ n. list_all (are_typed bools) (rows_in width n bytes)) (started-zero pairs) ∙ rest
  typed_at Running words pairs bytes count fits typed rest = typed_started width bools 0 words pairs bytes
      count fits typed rest
  typed_at Broken words pairs bytes count fits typed rest = typed_started width bools 1 words pairs bytes
      count fits typed rest

pub typed-sent : (width bools : ℕ) (states : List State) → AllByRecursion (IsState width bools) states →
    AreTyped width bools (pairs_from states) (flat_map sent_bytes states)
typed-sent width bools [] each = refl
typed-sent width bools (s ∷ states) each =
    typed_at width bools s.mark s.words (pairs_from states) (flat_map sent_bytes states) each.0.count each.0.fits
    each.0.typed (typed-sent width bools states each.1)

not_both : (mark : Mark) → is_both (bits_of mark) ≡ false
not_both Fresh = refl
not_both Running = refl
not_both Broken = refl

-- no mark has both bits
pub none_both : (marks : List Mark) → list_any is_both (map bits_of marks) ≡ false
none_both [] = refl
none_both (mark ∷ marks) = or_from _ _ (not_both mark) (none_both marks)

-- zeros are words of any kind
typed_zeros : (n bools : ℕ) → are_typed bools (replicate n (pos 0)) ≡ true
typed_zeros zero bools = refl
typed_zeros (suc n) bools = and_from _ _ (or_right (eqb (bools % 2) 0) true refl) (typed_zeros n (bools / 2))

pub fits_zeros : (n : ℕ) → AllByRecursion (FitsSigned w64) (replicate n (pos 0))
fits_zeros zero = tt
fits_zeros (suc n) = (sfits_of (lit< tt), fits_zeros n)

not_fresh : (pair : ℕ) → mark_with (suc pair) ≡ Fresh → ⊥
not_fresh zero e = cc
not_fresh (suc pair) e = cc

-- what is read is states
pub states-states_in : (width bools : ℕ) (pairs words : List ℕ) → AreTyped width bools pairs words →
    AllByRecursion (IsState width bools) (states_in width pairs words)
states-states_in width bools [] words typed = tt
states-states_in width bools (zero ∷ pairs) words typed = (
  record {
    count = length-replicate width (pos 0);
    fits = fits_zeros width;
    typed = typed_zeros width bools;
    still = λ _. refl;
  },
  states-states_in width bools pairs words
      (ap (λ n. list_all (are_typed bools) (rows_in width n words)) (sym (started-zero pairs)) ∙ typed),
)
states-states_in width bools (suc pair ∷ pairs) words typed =
    let both = and_parts (are_typed bools (words_in width words))
    (list_all (are_typed bools) (rows_in width (started pairs) (drop (8 * width) words)))
    (ap (λ n. list_all (are_typed bools) (rows_in width n words)) (sym (started-suc pair pairs)) ∙ typed) in
    let P : List State → Type 0 = λ ss. AllByRecursion (IsState width bools) ss in
    subst P (sym (started_state width pair pairs words)) (
      record {
        count = length-words_in width words;
        fits = fits-words_in width words;
        typed = both.0;
        still = λ e.
            absurd (not_fresh pair e);
      },
      states-states_in width bools pairs (drop (8 * width) words) both.1,
    )

pub length-states_in : (width : ℕ) (pairs words : List ℕ) → length (states_in width pairs words) ≡ length pairs
length-states_in width [] words = refl
length-states_in width (zero ∷ pairs) words = ap suc (length-states_in width pairs words)
length-states_in width (suc pair ∷ pairs) words = ap length (started_state width pair pairs words)
    ∙ ap suc (length-states_in width pairs (drop (8 * width) words))

pub marks-states_in : (width : ℕ) (pairs words : List ℕ) → map mark_of (states_in width pairs words)
    ≡ map mark_with pairs
marks-states_in width [] words = refl
marks-states_in width (zero ∷ pairs) words = ap (λ ms. Fresh ∷ ms) (marks-states_in width pairs words)
marks-states_in width (suc pair ∷ pairs) words = ap (map mark_of) (started_state width pair pairs words)
    ∙ ap (λ ms. mark_with (suc pair) ∷ ms) (marks-states_in width pairs (drop (8 * width) words))
