-- Words that fit the types of declared names, as bodies and loop states tell them.
use Rattle.std.proofs.Common.{◌≡◌, ◌+◌, ◌*◌, ◌/◌, ◌%◌, ◌==◌, inl, inr, ℕ, zero, suc, ℤ, pos, negsuc, Bool, true, false, ◌||◌, List, [], ◌∷◌, ◌++◌, length, refl, sym, ap, subst, ◌∙◌, Option, None, Some, FitsSigned, w64, arith, append-nil}
use Rattle.std.specs.Prelude.{slice_index_or}
use Rattle.std.specs.List.{AllByRecursion}
use Rattle.std.proofs.lemmas.Bool.{and_from, and_parts, eq-eqb, eqb-true, ltb-true, or_left, or_right}
use Rattle.std.proofs.lemmas.Option.{same_Some}
use Rattle.vert_base.specs.declared.value.Combine.{Combine}
use Rattle.vert_base.specs.declared.value.ValueType.{ValueType}
use Rattle.vert_base.specs.declared.value.ValueType.TheVariants as kind
use Rattle.carry_analysis.specs.declared.classes.Class.{Class}
use Rattle.carry_analysis.specs.declared.classes.Class.TheVariants.{Constant, Reduced, Carried}
use Rattle.carry_analysis.specs.Classes.{is_carried}
use Rattle.slot_merge.specs.Combine.{neutral}
use Rattle.dep_layout.specs.Spelling.{are_typed, is_bool, suits}
use Rattle.instrument.specs.Loops.{places_where}
use Rattle.instrument.specs.Segments.{carried_words, left_after, received_over, with_neutral, with_received}
use Rattle.body_shape.specs.Shapes.{bool_bits}
use Rattle.word_kinds.specs.Fits.{AreWords, IsTruth, IsWord}
use Rattle.value_laws.proofs.Rounds.{no_words}
use Rattle.value_laws.proofs.Rows.{neutral_fits}
use Rattle.value_laws.proofs.Words.{combined_fits, int_word}
use Rattle.symple_face.specs.Ring.{closing, with_operand}
use Rattle.symple_face.specs.Shapes.{types_at}
use Rattle.work_laws.proofs.Reduced.{AreInts}

pub any_words : (words : List ℤ) → AreWords [] words
any_words words i t e = cc

pub cons_words : (t : ValueType) (kinds : List ValueType) (x : ℤ) (words : List ℤ) → IsWord t x → AreWords kinds words →
    AreWords (t ∷ kinds) (x ∷ words)
cons_words t kinds x words is are zero u e = subst (λ k. IsWord k x) (same_Some t u e) is
cons_words t kinds x words is are (suc i) u e = are i u e

-- each fits 64 bits
pub words_fit : (kinds : List ValueType) (words : List ℤ) → length words ≡ length kinds → AreWords kinds words →
    AllByRecursion (FitsSigned w64) words
words_fit kinds [] n are = tt
words_fit [] (x ∷ xs) n are = absurd (omega (arith, n))
words_fit (k ∷ ks) (x ∷ xs) n are = ((are zero k refl).fits, words_fit ks xs (omega (arith, n)) (λ i. are (suc i)))

-- ---- the Bools among words
half_even : (b : ℕ) → 2 * b / 2 ≡ b
half_even b = omega arith

half_odd : (b : ℕ) → (1 + 2 * b) / 2 ≡ b
half_odd b = omega arith

even : (b : ℕ) → (2 * b % 2 == 0) ≡ true
even b = eq-eqb (2 * b % 2) 0 (omega arith)

bool_suits : (x : ℤ) → IsTruth kind.Bool x → is_bool x ≡ true
bool_suits x (inl e) = ap is_bool e
bool_suits x (inr e) = ap is_bool e

-- words of these types are Bools where their types are
pub typed_words : (kinds : List ValueType) (words : List ℤ) → AreWords kinds words → length words ≡ length kinds →
    are_typed (bool_bits kinds) words ≡ true
typed_words kinds [] are n = refl
typed_words [] (x ∷ xs) are n = absurd (omega (arith, n))
typed_words (kind.Int ∷ ks) (x ∷ xs) are n =
    and_from (suits (2 * bool_bits ks) x) (are_typed (2 * bool_bits ks / 2) xs)
    (or_left (2 * bool_bits ks % 2 == 0) (is_bool x) (even (bool_bits ks)))
    (ap (λ b. are_typed b xs) (half_even (bool_bits ks)) ∙ typed_words ks xs (λ i. are (suc i)) (omega (arith, n)))
typed_words (kind.Bool ∷ ks) (x ∷ xs) are n =
    and_from (suits (1 + 2 * bool_bits ks) x) (are_typed ((1 + 2 * bool_bits ks) / 2) xs)
    (or_right ((1 + 2 * bool_bits ks) % 2 == 0) (is_bool x) (bool_suits x (are zero kind.Bool refl).truth))
    (ap (λ b. are_typed b xs) (half_odd (bool_bits ks)) ∙ typed_words ks xs (λ i. are (suc i)) (omega (arith, n)))

truth_of : (x : ℤ) → is_bool x ≡ true → IsTruth kind.Bool x
truth_of (pos zero) h = inl refl
truth_of (pos (suc zero)) h = inr refl
truth_of (pos (suc (suc n))) h = absurd (omega (arith, ltb-true (suc (suc n)) 2 h))
truth_of (negsuc n) h = cc

or_left_out : (n : ℕ) (b : Bool) → ((1 + 2 * n) % 2 == 0 || b) ≡ true → b ≡ true
or_left_out n b h = by ((1 + 2 * n) % 2 == 0) refl h
  where
    by : (c : Bool) → ((1 + 2 * n) % 2 == 0) ≡ c → (c || b) ≡ true → b ≡ true
    by true e h = absurd (omega (arith, eqb-true ((1 + 2 * n) % 2) 0 e))
    by false e h = h

-- and words whose Bools are such, with others behind them, are of these types
pub words_typed : (kinds more : List ValueType) (words others : List ℤ) → length words ≡ length kinds →
    AllByRecursion (FitsSigned w64) words → are_typed (bool_bits (kinds ++ more)) (words ++ others) ≡ true →
    AreWords kinds words
words_typed [] more words others n fits typed = any_words words
words_typed (k ∷ ks) more [] others n fits typed = no_words (k ∷ ks)
words_typed (kind.Int ∷ ks) more (x ∷ xs) others n fits typed =
    let b : ℕ = bool_bits (ks ++ more) in
    let parts = and_parts (suits (2 * b) x) (are_typed (2 * b / 2) (xs ++ others)) typed in
    cons_words kind.Int ks x xs (int_word x fits.0)
    (words_typed ks more xs others (omega (arith, n)) fits.1
    (ap (λ q. are_typed q (xs ++ others)) (sym (half_even b)) ∙ parts.1))
words_typed (kind.Bool ∷ ks) more (x ∷ xs) others n fits typed =
    let b : ℕ = bool_bits (ks ++ more) in
    let parts = and_parts (suits (1 + 2 * b) x) (are_typed ((1 + 2 * b) / 2) (xs ++ others)) typed in
    cons_words kind.Bool ks x xs (record { fits = fits.0; truth = truth_of x (or_left_out b (is_bool x) parts.0) })
    (words_typed ks more xs others (omega (arith, n)) fits.1
    (ap (λ q. are_typed q (xs ++ others)) (sym (half_odd b)) ∙ parts.1))

pub words_alone : (kinds : List ValueType) (words : List ℤ) → length words ≡ length kinds →
    AllByRecursion (FitsSigned w64) words → are_typed (bool_bits kinds) words ≡ true → AreWords kinds words
words_alone kinds words n fits typed =
    words_typed kinds [] words [] n fits
    (ap (λ ks. are_typed (bool_bits ks) (words ++ [])) (append-nil kinds)
    ∙ ap (λ ws. are_typed (bool_bits kinds) ws) (append-nil words) ∙ typed)

-- ---- the words of a loop, by the classes of its lets
-- the types of the carried lets
abbrev pub carried_kinds : List Class → List ValueType → List ValueType
carried_kinds [] kinds = []
carried_kinds (c ∷ cs) [] = []
carried_kinds (Constant ∷ cs) (k ∷ ks) = carried_kinds cs ks
carried_kinds (Reduced op ∷ cs) (k ∷ ks) = carried_kinds cs ks
carried_kinds (Carried ∷ cs) (k ∷ ks) = k ∷ carried_kinds cs ks

-- they stand at the places of the carried ones
pub carried_types : (all kinds : List ValueType) (i : ℕ) (cs : List Class) → length cs ≡ length kinds →
    ((j : ℕ) → slice_index_or all (i + j) kind.Int ≡ slice_index_or kinds j kind.Int) →
    types_at all (places_where is_carried i cs) ≡ carried_kinds cs kinds
carried_types all kinds i [] n same = refl
carried_types all [] i (c ∷ cs) n same = absurd (omega (arith, n))
carried_types all (k ∷ ks) i (Constant ∷ cs) n same =
    carried_types all ks (i + 1) cs (omega (arith, n))
    (λ j. ap (λ m. slice_index_or all m kind.Int) (omega arith) ∙ same (suc j))
carried_types all (k ∷ ks) i (Reduced op ∷ cs) n same =
    carried_types all ks (i + 1) cs (omega (arith, n))
    (λ j. ap (λ m. slice_index_or all m kind.Int) (omega arith) ∙ same (suc j))
carried_types all (k ∷ ks) i (Carried ∷ cs) n same =
    ap (λ t. t ∷ types_at all (places_where is_carried (i + 1) cs))
    (ap (λ m. slice_index_or all m kind.Int) (omega arith) ∙ same zero)
    ∙ ap (λ ts. k ∷ ts)
    (carried_types all ks (i + 1) cs (omega (arith, n))
    (λ j. ap (λ m. slice_index_or all m kind.Int) (omega arith) ∙ same (suc j)))

-- the words handed on are of the types of the carried lets
pub carried_are : (cs : List Class) (kinds : List ValueType) (words : List ℤ) → AreWords kinds words →
    AreWords (carried_kinds cs kinds) (carried_words cs words)
carried_are [] kinds words are = no_words []
carried_are (c ∷ cs) kinds [] are = no_words (carried_kinds (c ∷ cs) kinds)
carried_are (c ∷ cs) [] (x ∷ xs) are = any_words (carried_words (c ∷ cs) (x ∷ xs))
carried_are (Constant ∷ cs) (k ∷ ks) (x ∷ xs) are = carried_are cs ks xs (λ i. are (suc i))
carried_are (Reduced op ∷ cs) (k ∷ ks) (x ∷ xs) are = carried_are cs ks xs (λ i. are (suc i))
carried_are (Carried ∷ cs) (k ∷ ks) (x ∷ xs) are =
    cons_words k (carried_kinds cs ks) x (carried_words cs xs) (are zero k refl)
    (carried_are cs ks xs (λ i. are (suc i)))

-- words received over own ones
pub received_are : (cs : List Class) (kinds : List ValueType) (ws own : List ℤ) → AreWords kinds own →
    AreWords (carried_kinds cs kinds) ws → AreWords kinds (received_over cs ws own)
received_are [] kinds ws own are came = are
received_are (c ∷ cs) kinds ws [] are came = no_words kinds
received_are (c ∷ cs) [] ws (x ∷ xs) are came = any_words (received_over (c ∷ cs) ws (x ∷ xs))
received_are (Constant ∷ cs) (k ∷ ks) ws (x ∷ xs) are came =
    cons_words k ks x (received_over cs ws xs) (are zero k refl) (received_are cs ks ws xs (λ i. are (suc i)) came)
received_are (Reduced op ∷ cs) (k ∷ ks) ws (x ∷ xs) are came =
    cons_words k ks x (received_over cs ws xs) (are zero k refl) (received_are cs ks ws xs (λ i. are (suc i)) came)
received_are (Carried ∷ cs) (k ∷ ks) [] (x ∷ xs) are came =
    cons_words k ks x (received_over cs [] xs) (are zero k refl)
    (received_are cs ks [] xs (λ i. are (suc i)) (no_words (carried_kinds cs ks)))
received_are (Carried ∷ cs) (k ∷ ks) (w ∷ ws) (x ∷ xs) are came =
    cons_words k ks w (received_over cs ws xs) (came zero k refl)
    (received_are cs ks ws xs (λ i. are (suc i)) (λ i. came (suc i)))

first_int : (op : Combine) (cs : List Class) (k : ValueType) (ks : List ValueType) →
    AreInts (Reduced op ∷ cs) (k ∷ ks) → k ≡ kind.Int
first_int op cs k ks ints = same_Some k kind.Int (ints zero op refl)

-- neutral values in the places of the reduced ones
pub neutral_are : (cs : List Class) (kinds : List ValueType) (own : List ℤ) → AreInts cs kinds → AreWords kinds own →
    AreWords kinds (with_neutral cs own)
neutral_are [] kinds own ints are = are
neutral_are (c ∷ cs) kinds [] ints are = no_words kinds
neutral_are (c ∷ cs) [] (x ∷ xs) ints are = any_words (with_neutral (c ∷ cs) (x ∷ xs))
neutral_are (Constant ∷ cs) (k ∷ ks) (x ∷ xs) ints are =
    cons_words k ks x (with_neutral cs xs) (are zero k refl)
    (neutral_are cs ks xs (λ i. ints (suc i)) (λ i. are (suc i)))
neutral_are (Carried ∷ cs) (k ∷ ks) (x ∷ xs) ints are =
    cons_words k ks x (with_neutral cs xs) (are zero k refl)
    (neutral_are cs ks xs (λ i. ints (suc i)) (λ i. are (suc i)))
neutral_are (Reduced op ∷ cs) (k ∷ ks) (x ∷ xs) ints are =
    cons_words k ks (neutral op) (with_neutral cs xs)
    (subst (λ t. IsWord t (neutral op)) (sym (first_int op cs k ks ints)) (int_word (neutral op) (neutral_fits op)))
    (neutral_are cs ks xs (λ i. ints (suc i)) (λ i. are (suc i)))

-- a value that may be missing fits
abbrev pub MayFit : Option ℤ → Type 0
MayFit o = (z : ℤ) → o ≡ Some z → FitsSigned w64 z

operand_fits : (op : Combine) (x : ℤ) (t : Option ℤ) → FitsSigned w64 x → MayFit t →
    FitsSigned w64 (with_operand op x t)
operand_fits op x None f h = f
operand_fits op x (Some z) f h = combined_fits op x z f (h z refl)

-- the words of the lets for the tail
pub closing_are : (cs : List Class) (kinds : List ValueType) (own carried : List ℤ) (came : List (Option ℤ)) →
    AreInts cs kinds × AreWords kinds own → AreWords (carried_kinds cs kinds) carried → AllByRecursion MayFit came →
    AreWords kinds (closing cs own carried came)
closing_are [] kinds own carried came given over all = no_words kinds
closing_are (c ∷ cs) kinds [] carried came given over all = no_words kinds
closing_are (c ∷ cs) [] (x ∷ xs) carried came given over all = any_words (closing (c ∷ cs) (x ∷ xs) carried came)
closing_are (Constant ∷ cs) (k ∷ ks) (x ∷ xs) carried came given over all =
    cons_words k ks x (closing cs xs carried came) (given.1 zero k refl)
    (closing_are cs ks xs carried came (λ i. given.0 (suc i), λ i. given.1 (suc i)) over all)
closing_are (Carried ∷ cs) (k ∷ ks) (x ∷ xs) [] came given over all =
    cons_words k ks x (closing cs xs [] came) (given.1 zero k refl)
    (closing_are cs ks xs [] came (λ i. given.0 (suc i), λ i. given.1 (suc i)) (no_words (carried_kinds cs ks)) all)
closing_are (Carried ∷ cs) (k ∷ ks) (x ∷ xs) (w ∷ ws) came given over all =
    cons_words k ks w (closing cs xs ws came) (over zero k refl)
    (closing_are cs ks xs ws came (λ i. given.0 (suc i), λ i. given.1 (suc i)) (λ i. over (suc i)) all)
closing_are (Reduced op ∷ cs) (k ∷ ks) (x ∷ xs) carried [] given over all =
    cons_words k ks x (closing cs xs carried []) (given.1 zero k refl)
    (closing_are cs ks xs carried [] (λ i. given.0 (suc i), λ i. given.1 (suc i)) over tt)
closing_are (Reduced op ∷ cs) (k ∷ ks) (x ∷ xs) carried (t ∷ came) given over all =
    cons_words k ks (with_operand op x t) (closing cs xs carried came)
    (subst (λ u. IsWord u (with_operand op x t)) (sym (first_int op cs k ks given.0))
    (int_word (with_operand op x t) (operand_fits op x t (given.1 zero k refl).fits all.0)))
    (closing_are cs ks xs carried came (λ i. given.0 (suc i), λ i. given.1 (suc i)) over all.1)

-- ---- how many words a segment begins with
neutral_length : (cs : List Class) (xs : List ℤ) → length (with_neutral cs xs) ≡ length xs
neutral_length [] xs = refl
neutral_length (c ∷ cs) [] = refl
neutral_length (c ∷ cs) (x ∷ xs) = ap suc (neutral_length cs xs)

over_length : (cs : List Class) (ws xs : List ℤ) → length (with_neutral cs (received_over cs ws xs)) ≡ length xs
over_length [] ws xs = refl
over_length (c ∷ cs) ws [] = refl
over_length (c ∷ cs) ws (x ∷ xs) = ap suc (over_length cs (left_after c ws) xs)

pub begun_length : (cs : List Class) (received : Option (List ℤ)) (xs : List ℤ) →
    length (with_neutral cs (with_received cs received xs)) ≡ length xs
begun_length cs None xs = neutral_length cs xs
begun_length cs (Some ws) xs = over_length cs ws xs
