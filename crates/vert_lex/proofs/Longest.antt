-- The longest token at the front of a text.
use Rattle.std.proofs.Common.{◌≡◌, ℕ, zero, suc, ◌+◌, ◌-◌, ◌≤◌, ◌<◌, Bool, true, false, cond, List, [], ◌∷◌, length, take, drop, get_or, Option, Some, None, refl, sym, ap, subst, ◌∙◌, arith, add-zero, add-suc}
use Rattle.std.proofs.lemmas.List.{length-take-le}
use Rattle.std.specs.List.{list_all, position_or_len}
use Rattle.std.specs.Prelude.{◌&&◌, nat_le, is_some, eqb}
use Rattle.std.specs.Str.{bytes_eq}
use Rattle.std.specs.Str.Parse.{digits_value}
use Rattle.vert_lex.specs.Places.{marks, reserved_words, place_of}
use Rattle.vert_lex.specs.Tokens.{Kind, Number, is_letter, is_digit, is_word, word_at, mark_at, kind_of, longest}

abbrev pub is_token : List ℕ → Bool
is_token bytes = is_some (kind_of bytes)

pub longest_suc : (n : ℕ) (text : List ℕ) →
    longest (suc n) text ≡ cond (is_token (take (suc n) text)) (suc n) (longest n text)
unfolding longest
longest_suc n text = refl

pub longest_zero : (text : List ℕ) → longest zero text ≡ 0
unfolding longest
longest_zero text = refl

pub kind_nothing : kind_of [] ≡ None
unfolding kind_of
kind_nothing = refl

-- a token where no longer front is one
pub longest_is : (d n : ℕ) (text : List ℕ) → is_token (take (suc n) text) ≡ true →
    ((j : ℕ) → suc n < j → j ≤ suc n + d → is_token (take j text) ≡ false) → longest (suc n + d) text ≡ suc n
longest_is zero n text e h = rw add-zero (longest_suc n text ∙ rw e refl)
longest_is (suc d) n text e h =
    let g : is_token (take (suc (suc n + d)) text) ≡ false = h (suc (suc n + d)) (omega arith) (omega arith) in
    let ih : longest (suc n + d) text ≡ suc n = longest_is d n text e (λ j a b. h j a (omega arith)) in
    rw add-suc (longest_suc (suc n + d) text ∙ rw (g, ih) refl)

pub none_longest : (n : ℕ) (text : List ℕ) → ((j : ℕ) → j < n → is_token (take (suc j) text) ≡ false) →
    longest n text ≡ 0
none_longest zero text h = longest_zero text
none_longest (suc n) text h =
    let g : is_token (take (suc n) text) ≡ false = h n (omega arith) in
    let ih : longest n text ≡ 0 = none_longest n text (λ j lt. h j (omega arith)) in
    longest_suc n text ∙ rw (g, ih) refl

pub longest_le : (n : ℕ) (text : List ℕ) → longest n text ≤ n
longest_le zero text = rw (longest_zero text) (omega arith)
longest_le (suc n) text = rw (longest_suc n text) (go (is_token (take (suc n) text)) (longest_le n text))
  where
    go : (v : Bool) → longest n text ≤ n → cond v (suc n) (longest n text) ≤ suc n
    go true h = omega arith
    go false h = omega arith

-- the longest token is one
pub longest_token : (n : ℕ) (text : List ℕ) → 0 < longest n text → is_token (take (longest n text) text) ≡ true
longest_token zero text pos = absurd (let z = longest_zero text in omega (arith, z))
longest_token (suc n) text pos = subst (λ m. is_token (take m text) ≡ true) (sym (longest_suc n text))
    (go (is_token (take (suc n) text)) refl (λ e.
    longest_token n text (let p : 0 < cond (is_token (take (suc n) text)) (suc n) (longest n text) = rw
    (← longest_suc n text) pos in rw e at p)))
  where
    go : (v : Bool) → is_token (take (suc n) text) ≡ v → (v ≡ false → is_token (take (longest n text) text) ≡ true) →
        is_token (take (cond v (suc n) (longest n text)) text) ≡ true
    go true e h = e
    go false e h = h refl

pub all_true : (p : ℕ → Bool) (xs : List ℕ) (n : ℕ) → n ≤ length xs → ((i : ℕ) → i < n → p (get_or xs i 0) ≡ true) →
    list_all p (take n xs) ≡ true
all_true p xs zero le h = refl
all_true p [] (suc n) le h = absurd (omega arith)
all_true p (x ∷ xs) (suc n) le h =
    let a : p x ≡ true = h 0 (omega arith) in
    let b : list_all p (take n xs) ≡ true = all_true p xs n (omega arith) (λ i lt. h (suc i) (omega arith)) in
    rw (a, b) refl

pub all_false : (p : ℕ → Bool) (xs : List ℕ) (n i : ℕ) → n < i → i ≤ length xs → p (get_or xs n 0) ≡ false →
    list_all p (take i xs) ≡ false
all_false p xs n zero lt le h = absurd (omega arith)
all_false p [] n (suc i) lt le h = absurd (omega arith)
all_false p (x ∷ xs) zero (suc i) lt le h = rw h refl
all_false p (x ∷ xs) (suc n) (suc i) lt le h =
    let b : list_all p (take i xs) ≡ false = all_false p xs n i (omega arith) (omega arith) h in
    go (p x) b
  where
    go : (v : Bool) → list_all p (take i xs) ≡ false → (v && list_all p (take i xs)) ≡ false
    go true b = b
    go false b = refl

chosen_some : (v : Bool) (k : Kind) → is_some (cond v (Some k) None) ≡ v
chosen_some true k = refl
chosen_some false k = refl

-- a run of bytes behind a first one
module _ (b : ℕ) (rest : List ℕ) (n : ℕ) (in_range : n ≤ length rest) where
  word_kind : (i : ℕ) → is_letter b ≡ true → is_token (take (suc i) (b ∷ rest)) ≡ list_all is_word (take i rest)
  unfolding kind_of
  word_kind i l = rw l (chosen_some (list_all is_word (take i rest))
      (word_at (place_of reserved_words (b ∷ take i rest)) (b ∷ take i rest)))

  number_kind : (i : ℕ) → is_letter b ≡ false → is_digit b ≡ true →
      is_token (take (suc i) (b ∷ rest)) ≡ list_all is_digit (take i rest)
  unfolding kind_of
  number_kind i l d = rw (l, d) (chosen_some (list_all is_digit (take i rest))
      (Number (digits_value 10 (b ∷ take i rest))))

  run : (p : ℕ → Bool) → ((i : ℕ) → is_token (take (suc i) (b ∷ rest)) ≡ list_all p (take i rest))
      → ((i : ℕ) → i < n → p (get_or rest i 0) ≡ true) → (n < length rest → p (get_or rest n 0) ≡ false) →
      longest (length (b ∷ rest)) (b ∷ rest) ≡ 1 + n
  run p kind all stops =
      let e : is_token (take (suc n) (b ∷ rest)) ≡ true = kind n ∙ all_true p rest n in_range all in
      let len : suc n + (length rest - n) ≡ length (b ∷ rest) = omega arith in
      let g : longest (suc n + (length rest - n)) (b ∷ rest) ≡ suc n =
      longest_is (length rest - n) n (b ∷ rest) e longer in
      let one_more : 1 + n ≡ suc n = omega arith in
      rw one_more (subst (λ m. longest m (b ∷ rest) ≡ suc n) len g)
    where
      longer : (j : ℕ) → suc n < j → j ≤ suc n + (length rest - n) → is_token (take j (b ∷ rest)) ≡ false
      longer zero lt le = absurd (omega arith)
      longer (suc i) lt le = kind i ∙ all_false p rest n i (omega arith) (omega arith) (stops (omega arith))

  pub word_longest : is_letter b ≡ true → ((i : ℕ) → i < n → is_word (get_or rest i 0) ≡ true) →
      (n < length rest → is_word (get_or rest n 0) ≡ false) → longest (length (b ∷ rest)) (b ∷ rest) ≡ 1 + n
  word_longest l all stops = run is_word (λ i. word_kind i l) all stops

  pub number_longest : is_letter b ≡ false → is_digit b ≡ true → ((i : ℕ) → i < n → is_digit (get_or rest i 0) ≡ true)
      → (n < length rest → is_digit (get_or rest n 0) ≡ false) → longest (length (b ∷ rest)) (b ∷ rest) ≡ 1 + n
  number_longest l d all stops = run is_digit (λ i. number_kind i l d) all stops

-- ---- marks
longer_differs : (xs ys : List ℕ) → length xs < length ys → bytes_eq xs ys ≡ false
longer_differs xs [] lt = absurd (omega arith)
longer_differs [] (y ∷ ys) lt = refl
longer_differs (x ∷ xs) (y ∷ ys) lt = go (eqb x y) (longer_differs xs ys (omega arith))
  where
    go : (v : Bool) → bytes_eq xs ys ≡ false → (v && bytes_eq xs ys) ≡ false
    go true h = h
    go false h = refl

no_place : (m : ℕ) (texts : List (List ℕ)) (text : List ℕ) → list_all (λ t. nat_le (length t) m) texts ≡ true →
    m < length text → position_or_len (λ t. bytes_eq t text) texts ≡ length texts
no_place m [] text short lt = refl
no_place m (t ∷ texts) text short lt =
    let le : length t ≤ m = grind (arith, short) in
    let others : list_all (λ t. nat_le (length t) m) texts ≡ true = grind (arith, short) in
    let e : bytes_eq t text ≡ false = longer_differs t text (omega arith) in
    rw e (let h = no_place m texts text others lt in omega (arith, h))

marks_short : list_all (λ t. nat_le (length t) 2) marks ≡ true
unfolding marks
marks_short = refl

-- no mark has three bytes or more
pub no_long_mark : (text : List ℕ) → 2 < length text → place_of marks text ≡ None
no_long_mark text lt =
    let e = no_place 2 marks text marks_short lt in
    rw e (grind arith)

mark_token : (b : ℕ) (bs : List ℕ) → is_letter b ≡ false → is_digit b ≡ false →
    is_token (b ∷ bs) ≡ is_some (place_of marks (b ∷ bs))
unfolding kind_of
mark_token b bs l d = rw (l, d) (go (place_of marks (b ∷ bs)))
  where
    go : (o : Option ℕ) → is_some (mark_at o) ≡ is_some o
    go None = refl
    go (Some place) = refl

abbrev pub begins_with_mark : List ℕ → ℕ → Bool
begins_with_mark text n = nat_le n (length text) && is_some (place_of marks (take n text))

within : (n m : ℕ) → n ≤ m → nat_le n m ≡ true
within n m le = grind arith

one_byte : (b : ℕ) (rest : List ℕ) → is_letter b ≡ false → is_digit b ≡ false →
    is_token (take 1 (b ∷ rest)) ≡ begins_with_mark (b ∷ rest) 1
one_byte b rest l d =
    let fits : nat_le 1 (length (b ∷ rest)) ≡ true = within 1 (length (b ∷ rest)) (omega arith) in
    mark_token b [] l d ∙ sym (rw fits refl)

two_bytes : (b : ℕ) (rest : List ℕ) → is_letter b ≡ false → is_digit b ≡ false → 2 ≤ length (b ∷ rest) →
    is_token (take 2 (b ∷ rest)) ≡ begins_with_mark (b ∷ rest) 2
two_bytes b [] l d le = absurd (omega arith)
two_bytes b (c ∷ rest) l d le =
    let fits : nat_le 2 (length (b ∷ c ∷ rest)) ≡ true = within 2 (length (b ∷ c ∷ rest)) le in
    mark_token b (c ∷ []) l d ∙ sym (rw fits refl)

more_bytes : (b : ℕ) (rest : List ℕ) (j : ℕ) → is_letter b ≡ false → is_digit b ≡ false → 2 < j →
    j ≤ length (b ∷ rest) → is_token (take j (b ∷ rest)) ≡ false
more_bytes b rest zero l d lt le = absurd (omega arith)
more_bytes b rest (suc j) l d lt le =
    let n : 2 < length (b ∷ take j rest) = omega (arith, length-take-le j rest (omega arith)) in
    mark_token b (take j rest) l d ∙ ap is_some (no_long_mark (b ∷ take j rest) n)

beyond_one : (b : ℕ) (rest : List ℕ) (j : ℕ) → is_letter b ≡ false → is_digit b ≡ false →
    begins_with_mark (b ∷ rest) 2 ≡ false → 1 < j → j ≤ length (b ∷ rest) → is_token (take j (b ∷ rest)) ≡ false
beyond_one b rest zero l d unmarked lt le = absurd (omega arith)
beyond_one b rest (suc zero) l d unmarked lt le = absurd (omega arith)
beyond_one b rest (suc (suc zero)) l d unmarked lt le = two_bytes b rest l d le ∙ unmarked
beyond_one b rest (suc (suc (suc j))) l d unmarked lt le = more_bytes b rest (suc (suc (suc j))) l d (omega arith) le

two_longest : (b : ℕ) (rest : List ℕ) → is_letter b ≡ false → is_digit b ≡ false →
    begins_with_mark (b ∷ rest) 2 ≡ true → longest (length (b ∷ rest)) (b ∷ rest) ≡ 2
two_longest b [] l d marked = absurd (let h : false ≡ true = marked in cc)
two_longest b (c ∷ rest) l d marked =
    let len : suc 1 + length rest ≡ length (b ∷ c ∷ rest) = omega arith in
    subst (λ m. longest m (b ∷ c ∷ rest) ≡ 2) len
    (longest_is (length rest) 1 (b ∷ c ∷ rest) (two_bytes b (c ∷ rest) l d (omega arith) ∙ marked) (λ j lt le.
    more_bytes b (c ∷ rest) j l d lt (omega arith)))

one_longest : (b : ℕ) (rest : List ℕ) → is_letter b ≡ false → is_digit b ≡ false →
    begins_with_mark (b ∷ rest) 2 ≡ false → begins_with_mark (b ∷ rest) 1 ≡ true →
    longest (length (b ∷ rest)) (b ∷ rest) ≡ 1
one_longest b rest l d unmarked marked =
    let len : suc 0 + length rest ≡ length (b ∷ rest) = omega arith in
    subst (λ m. longest m (b ∷ rest) ≡ 1) len
    (longest_is (length rest) 0 (b ∷ rest) (one_byte b rest l d ∙ marked) (λ j lt le.
    beyond_one b rest j l d unmarked lt (omega arith)))

no_mark : (b : ℕ) (rest : List ℕ) → is_letter b ≡ false → is_digit b ≡ false → begins_with_mark (b ∷ rest) 2 ≡ false →
    begins_with_mark (b ∷ rest) 1 ≡ false → longest (length (b ∷ rest)) (b ∷ rest) ≡ 0
no_mark b rest l d unmarked neither = none_longest (length (b ∷ rest)) (b ∷ rest) go
  where
    go : (j : ℕ) → j < length (b ∷ rest) → is_token (take (suc j) (b ∷ rest)) ≡ false
    go zero lt = one_byte b rest l d ∙ neither
    go (suc j) lt = beyond_one b rest (suc (suc j)) l d unmarked (omega arith) (omega arith)

-- ---- the same of a text that is not taken apart
whole : (text : List ℕ) (b : ℕ) (rest : List ℕ) → 0 < length text → b ≡ get_or text 0 0 → rest ≡ drop 1 text →
    b ∷ rest ≡ text
whole [] b rest pos e f = absurd (omega arith)
whole (x ∷ xs) b rest pos e f = ap (λ y. y ∷ rest) e ∙ ap (λ ys. x ∷ ys) f

module _ (text : List ℕ) (b : ℕ) (rest : List ℕ) (pos : 0 < length text) (e : b ≡ get_or text 0 0)
    (f : rest ≡ drop 1 text) where
  pub word_at_front : (n : ℕ) → n ≤ length rest → is_letter b ≡ true →
      ((i : ℕ) → i < n → is_word (get_or rest i 0) ≡ true) → (n < length rest → is_word (get_or rest n 0) ≡ false) →
      1 + n ≡ longest (length text) text
  word_at_front n le l all stops = subst (λ t. 1 + n ≡ longest (length t) t) (whole text b rest pos e f)
      (sym (word_longest b rest n le l all stops))

  pub number_at_front : (n : ℕ) → n ≤ length rest → is_letter b ≡ false → is_digit b ≡ true →
      ((i : ℕ) → i < n → is_digit (get_or rest i 0) ≡ true) → (n < length rest → is_digit (get_or rest n 0) ≡ false) →
      1 + n ≡ longest (length text) text
  number_at_front n le l d all stops = subst (λ t. 1 + n ≡ longest (length t) t) (whole text b rest pos e f)
      (sym (number_longest b rest n le l d all stops))

  pub two_at_front : is_letter b ≡ false → is_digit b ≡ false → begins_with_mark text 2 ≡ true →
      2 ≡ longest (length text) text
  two_at_front l d marked = subst (λ t. begins_with_mark t 2 ≡ true → 2 ≡ longest (length t) t)
      (whole text b rest pos e f) (λ y. sym (two_longest b rest l d y)) marked

  pub one_at_front : is_letter b ≡ false → is_digit b ≡ false → begins_with_mark text 2 ≡ false →
      begins_with_mark text 1 ≡ true → 1 ≡ longest (length text) text
  one_at_front l d unmarked marked = subst (λ t. begins_with_mark t 2 ≡ false → begins_with_mark t 1 ≡ true →
      1 ≡ longest (length t) t) (whole text b rest pos e f) (λ m y. sym (one_longest b rest l d m y)) unmarked marked

  pub none_at_front : is_letter b ≡ false → is_digit b ≡ false → begins_with_mark text 2 ≡ false →
      begins_with_mark text 1 ≡ false → 0 ≡ longest (length text) text
  none_at_front l d unmarked neither = subst (λ t. begins_with_mark t 2 ≡ false → begins_with_mark t 1 ≡ false →
      0 ≡ longest (length t) t) (whole text b rest pos e f) (λ m y. sym (no_mark b rest l d m y)) unmarked neither
