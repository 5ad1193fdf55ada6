-- The laws of updates.
use Rattle.std.proofs.Common.{◌≡◌, ℕ, zero, suc, ◌+◌, ◌*◌, ◌^◌, ◌<◌, ◌≤◌, leb, ℤ, Bool, true, false, ◌&&◌, cond, Option, Some, None, List, [], ◌∷◌, ◌++◌, length, drop, refl, sym, ap, subst, ◌∙◌, arith}
use Rattle.std.specs.Int.{w64}
use Rattle.std.specs.Int.RustNames.{FitsSigned, count_ones}
use Rattle.std.specs.List.{AllByRecursion}
use Rattle.std.specs.Option.{option_map_or}
use Rattle.std.specs.Simd.Lanes.{mask_l}
use Rattle.std.proofs.lemmas.Bool.{and_parts, and_from, eqb-true, ltb-true, lt-ltb, leb-true, le-leb}
use Rattle.std.proofs.lemmas.List.{append_assoc, length-append, length-drop, length-map, drop-drop, drop_at}
use Rattle.std.proofs.lemmas.Simd.{mask_l-lt}
use Rattle.std.proofs.lemmas.Option.{cond_some}
use Rattle.dep_layout.specs.Judgement.{words_in}
use Rattle.dep_layout.proofs.WordLaws.{AreBelow, drop_below, bytes-words_in, words_again, length-words_bytes, length-words_in, fits-words_in}
use Rattle.dep_layout.proofs.SpellingLaws.{below_from_All}
use Rattle.body_shape.specs.Fit.{is_mask, words_len, behind_update, are_updates}
use Rattle.body_shape.specs.Places.{there, places, mask_of, set_count, placed, flags_of}
use Rattle.body_shape.specs.Refresh.{words_bytes}
use Rattle.body_shape.specs.Update.{Sent, sent_bytes, update_body, values_in, behind_values, sent_at, behind_sent, sents_read, AreValues, IsSent, UpdateReadsBack, UpdateFits, UpdateSuits, UpdateIsSpelled}
use Rattle.body_shape.proofs.PlaceLaws.{placed-there, length-there, there-placed, places-placed, length-placed, length-flags_of, flags_of-mask_l, mask_l-flags_of, ones-set_count, ones-flags_of}

-- ---- the values of a mask

flags_again : (n : ℕ) (xs : List (Option ℤ)) → length xs ≡ n → flags_of n (mask_of xs) ≡ places xs
flags_again n xs e =
    let count : length (places xs) ≡ n = length-map xs _ ∙ e in
    ap (λ k. flags_of k (mask_of xs)) (sym count) ∙ flags_of-mask_l (places xs)

values_again : (n : ℕ) (xs : List (Option ℤ)) (rest : List ℕ) → AreValues n xs →
    values_in n (mask_of xs) (words_bytes (there xs) ++ rest) ≡ xs
values_again n xs rest are =
    let bytes = words_bytes (there xs) ++ rest in
    ap (λ flags. placed flags (words_in (set_count flags) bytes)) (flags_again n xs are.count)
    ∙ ap (λ k. placed (places xs) (words_in k bytes)) (sym (length-there xs))
    ∙ ap (placed (places xs)) (words_again (there xs) rest are.fits)
    ∙ placed-there xs

behind_again : (n : ℕ) (xs : List (Option ℤ)) (rest : List ℕ) → AreValues n xs →
    behind_values n (mask_of xs) (words_bytes (there xs) ++ rest) ≡ rest
behind_again n xs rest are =
    let count : length (words_bytes (there xs)) ≡ 8 * set_count (flags_of n (mask_of xs)) =
    length-words_bytes (there xs) ∙ ap (λ k. 8 * k) (length-there xs)
    ∙ ap (λ flags. 8 * set_count flags) (sym (flags_again n xs are.count)) in
    drop_at (words_bytes (there xs)) rest _ count

mask_fits : (n : ℕ) (xs : List (Option ℤ)) → length xs ≡ n → is_mask n (mask_of xs) ≡ true
mask_fits n xs e =
    let count : length (places xs) ≡ n = length-map xs _ ∙ e in
    let P : ℕ → Type 0 = λ k. mask_of xs < 2 ^ k in
    lt-ltb _ _ (subst P count (mask_l-lt (places xs)))

ones_are : (xs : List (Option ℤ)) → count_ones (mask_of xs) ≡ length (there xs)
ones_are xs = ones-set_count (places xs) ∙ sym (length-there xs)

-- what a mask and the words behind it are the spelling of
record AreRead (n m : ℕ) (bytes : List ℕ) : Type 0 where
  mask : mask_of (values_in n m bytes) ≡ m
  words : words_bytes (there (values_in n m bytes)) ++ behind_values n m bytes ≡ bytes
  values : AreValues n (values_in n m bytes)

read_values : (n m : ℕ) (bytes : List ℕ) → m < 256 → m < 2 ^ n → 8 * count_ones m ≤ length bytes → AreBelow bytes →
    AreRead n m bytes
read_values n m bytes byte below room fits =
    let flags = flags_of n m in
    let k = set_count flags in
    let words = words_in (set_count (flags_of n m)) bytes in
    let many : length (words_in (set_count (flags_of n m)) bytes) ≡ set_count (flags_of n m) =
    length-words_in (set_count (flags_of n m)) bytes in
    let all : there (values_in n m bytes) ≡ words_in (set_count (flags_of n m)) bytes =
    there-placed (flags_of n m) words many in
    let same : mask_of (values_in n m bytes) ≡ m = ap mask_l (places-placed (flags_of n m) words many)
    ∙ mask_l-flags_of n m below in
    let P : ℕ → Type 0 = λ x. x < 256 in
    let Q : List ℤ → Type 0 = λ ws. AllByRecursion (FitsSigned w64) ws in
    let room_here : 8 * set_count (flags_of n m) ≤ length bytes = omega (arith, ones-flags_of n m below) in
    record {
      mask = same;
      words = ap (λ ws. words_bytes ws ++ behind_values n m bytes) all ∙ bytes-words_in k bytes room_here fits;
      values = record {
        count = length-placed (flags_of n m) words ∙ length-flags_of n m;
        mask = subst P (sym same) byte;
        fits = subst Q (sym all) (fits-words_in k bytes);
      };
    }

-- ---- one update

joined_bytes : (s : Sent) (rest : List ℕ) →
    sent_bytes s ++ rest ≡ mask_of s.values ∷ mask_of s.operands ∷ words_bytes (there s.values)
    ++ (words_bytes (there s.operands) ++ rest)
joined_bytes s rest =
    ap (λ bytes. mask_of s.values ∷ mask_of s.operands ∷ bytes)
    (append_assoc (words_bytes (there s.values)) (words_bytes (there s.operands)) rest)

sent_again : (slots reduced : ℕ) (s : Sent) (rest : List ℕ) → IsSent slots reduced s →
    sent_at slots reduced (sent_bytes s ++ rest) ≡ s
sent_again slots reduced s rest is =
    let low = mask_of s.values in
    let high = mask_of s.operands in
    let behind = words_bytes (there s.operands) ++ rest in
    let bytes = words_bytes (there s.values) ++ behind in
    ap (sent_at slots reduced) (joined_bytes s rest)
    ∙ ap (λ vs. record { values = vs; operands = values_in reduced high (behind_values slots low bytes) })
    (values_again slots s.values behind is.0)
    ∙ ap (λ left. record { values = s.values; operands = values_in reduced high left })
    (behind_again slots s.values behind is.0)
    ∙ ap (λ vs. record { values = s.values; operands = vs }) (values_again reduced s.operands rest is.1)

sent_past : (slots reduced : ℕ) (s : Sent) (rest : List ℕ) → IsSent slots reduced s →
    behind_sent slots reduced (sent_bytes s ++ rest) ≡ rest
sent_past slots reduced s rest is =
    let behind = words_bytes (there s.operands) ++ rest in
    ap (behind_sent slots reduced) (joined_bytes s rest)
    ∙ ap (behind_values reduced (mask_of s.operands)) (behind_again slots s.values behind is.0)
    ∙ behind_again reduced s.operands rest is.1

-- its bytes are the update that is judged first
sent_fits : (slots reduced : ℕ) (s : Sent) (rest : List ℕ) → IsSent slots reduced s →
    behind_update slots reduced (sent_bytes s ++ rest) ≡ Some rest
sent_fits slots reduced s rest is =
    let low = mask_of s.values in
    let high = mask_of s.operands in
    let front = words_bytes (there s.values) ++ words_bytes (there s.operands) in
    let count : length (words_bytes (there s.values) ++ words_bytes (there s.operands))
    ≡ words_len (mask_of s.values) (mask_of s.operands) =
    length-append (words_bytes (there s.values)) (words_bytes (there s.operands))
    ∙ omega (
      arith,
      length-words_bytes (there s.values),
      length-words_bytes (there s.operands),
      ones_are s.values,
      ones_are s.operands,
    ) in
    let enough : words_len (mask_of s.values) (mask_of s.operands)
    ≤ length ((words_bytes (there s.values) ++ words_bytes (there s.operands)) ++ rest) =
    omega (arith, count, length-append (words_bytes (there s.values) ++ words_bytes (there s.operands)) rest) in
    let passes = and_from _ _ (mask_fits slots s.values is.0.count)
    (and_from _ _ (mask_fits reduced s.operands is.1.count) (le-leb _ _ enough)) in
    ap (λ b. cond b (Some (drop (words_len low high) (front ++ rest))) None) passes
    ∙ ap (λ left. Some left) (drop_at front rest (words_len low high) count)

-- ---- an update that is judged first

record IsFirst (slots reduced : ℕ) (bytes others : List ℕ) : Type 0 where
  behind : behind_sent slots reduced bytes ≡ others
  spelled : sent_bytes (sent_at slots reduced bytes) ++ others ≡ bytes
  is : IsSent slots reduced (sent_at slots reduced bytes)
  fits : AreBelow others

first_sent : (slots reduced : ℕ) (bytes others : List ℕ) → AreBelow bytes →
    behind_update slots reduced bytes ≡ Some others → IsFirst slots reduced bytes others
first_sent slots reduced [] others fits found = absurd (cc)
first_sent slots reduced (low ∷ []) others fits found = absurd (cc)
first_sent slots reduced (low ∷ high ∷ bytes) others fits found =
    let test = cond_some (is_mask slots low && (is_mask reduced high && leb (words_len low high) (length bytes)))
    (drop (words_len low high) bytes) others found in
    let one = and_parts (is_mask slots low) (is_mask reduced high && leb (words_len low high) (length bytes)) test.0 in
    let two = and_parts (is_mask reduced high) (leb (words_len low high) (length bytes)) one.1 in
    let low_below : low < 2 ^ slots = ltb-true _ _ one.0 in
    let high_below : high < 2 ^ reduced = ltb-true _ _ two.0 in
    let room : words_len low high ≤ length bytes = leb-true _ _ two.1 in
    let inner : AreBelow bytes = λ i. fits (suc (suc i)) in
    let values = read_values slots low bytes (fits 0) low_below (omega (arith, room)) inner in
    let n = set_count (flags_of slots low) in
    let m = set_count (flags_of reduced high) in
    let ones_low = ones-flags_of slots low low_below in
    let ones_high = ones-flags_of reduced high high_below in
    let later : 8 * count_ones high ≤ length (behind_values slots low bytes) =
    omega (arith, length-drop (8 * set_count (flags_of slots low)) bytes, ones_low, room) in
    let operands = read_values reduced high (behind_values slots low bytes) (fits 1) high_below later
    (drop_below (8 * n) bytes inner) in
    let end : 8 * set_count (flags_of slots low) + 8 * set_count (flags_of reduced high) ≡ words_len low high =
    omega (arith, ones_low, ones_high) in
    let behind : behind_sent slots reduced (low ∷ high ∷ bytes) ≡ others = drop-drop (8 * m) (8 * n) bytes
    ∙ ap (λ k. drop k bytes) end ∙ test.1 in
    let Q : List ℕ → Type 0 = λ bs. AreBelow bs in
    let s = sent_at slots reduced (low ∷ high ∷ bytes) in
    record {
      behind = behind;
      spelled = joined_bytes (sent_at slots reduced (low ∷ high ∷ bytes)) others
          ∙ ap (λ x. x ∷ mask_of s.operands ∷ words_bytes (there s.values)
          ++ (words_bytes (there s.operands) ++ others)) values.mask
          ∙ ap (λ x. low ∷ x ∷ words_bytes (there s.values) ++ (words_bytes (there s.operands) ++ others)) operands.mask
          ∙ ap (λ left. low ∷ high ∷ words_bytes (there s.values) ++ (words_bytes (there s.operands) ++ left))
          (sym behind)
          ∙ ap (λ left. low ∷ high ∷ words_bytes (there s.values) ++ left) operands.words
          ∙ ap (λ left. low ∷ high ∷ left) values.words;
      is = (values.values, operands.values);
      fits = subst Q test.1 (drop_below (words_len low high) bytes inner);
    }

pub some_from_test : (f : List ℕ → Bool) (o : Option (List ℕ)) → option_map_or f o false ≡ true → (rest : List ℕ) ×
    (o ≡ Some rest) × (f rest ≡ true)
some_from_test f None e = absurd (cc)
some_from_test f (Some rest) e = (rest, refl, e)

-- ---- the laws

all_back : (slots reduced : ℕ) (sents : List Sent) → AllByRecursion (IsSent slots reduced) sents →
    sents_read slots reduced (length sents) (update_body sents) ≡ sents
all_back slots reduced [] each = refl
all_back slots reduced (s ∷ sents) each =
    let rest = update_body sents in
    ap (λ first. first ∷ sents_read slots reduced (length sents) (behind_sent slots reduced (sent_bytes s ++ rest)))
    (sent_again slots reduced s rest each.0)
    ∙ ap (λ left. s ∷ sents_read slots reduced (length sents) left) (sent_past slots reduced s rest each.0)
    ∙ ap (λ others. s ∷ others) (all_back slots reduced sents each.1)

pub update_back : UpdateReadsBack
update_back count slots reduced sents suit =
    ap (λ n. sents_read slots reduced n (update_body sents)) (sym suit.0) ∙ all_back slots reduced sents suit.1

all_fit : (slots reduced : ℕ) (sents : List Sent) → AllByRecursion (IsSent slots reduced) sents →
    are_updates slots reduced (length sents) (update_body sents) ≡ true
all_fit slots reduced [] each = refl
all_fit slots reduced (s ∷ sents) each =
    ap (λ o. option_map_or (are_updates slots reduced (length sents)) o false)
    (sent_fits slots reduced s (update_body sents) each.0)
    ∙ all_fit slots reduced sents each.1

pub update_fits : UpdateFits
update_fits count slots reduced sents suit =
    ap (λ n. are_updates slots reduced n (update_body sents)) (sym suit.0) ∙ all_fit slots reduced sents suit.1

pub record AreAllRead (slots reduced count : ℕ) (body : List ℕ) : Type 0 where
  pub many : length (sents_read slots reduced count body) ≡ count
  pub each : AllByRecursion (IsSent slots reduced) (sents_read slots reduced count body)
  pub bytes : update_body (sents_read slots reduced count body) ≡ body

empty : (bytes : List ℕ) → length bytes ≡ 0 → [] ≡ bytes
empty [] e = refl
empty (b ∷ bs) e = absurd (omega arith)

all_read : (slots reduced count : ℕ) (body : List ℕ) → AreBelow body → are_updates slots reduced count body ≡ true →
    AreAllRead slots reduced count body
all_read slots reduced zero body fits fit = record { many = refl; each = tt; bytes = empty body (eqb-true _ _ fit) }
all_read slots reduced (suc count) body fits fit =
    let found = some_from_test (are_updates slots reduced count) _ fit in
    let first = first_sent slots reduced body found.0 fits found.1 in
    let P : List ℕ → Type 0 = λ left. AreAllRead slots reduced count left in
    let rest : AreAllRead slots reduced count (behind_sent slots reduced body) =
    subst P (sym first.behind) (all_read slots reduced count found.0 first.fits found.2) in
    record {
      many = ap suc rest.many;
      each = (first.is, rest.each);
      bytes = ap (λ left. sent_bytes (sent_at slots reduced body) ++ left) (rest.bytes ∙ first.behind) ∙ first.spelled;
    }

pub update_suits : UpdateSuits
update_suits count slots reduced body bytes fit =
    let all = all_read slots reduced count body (below_from_All body bytes) fit in
    (all.many, all.each)

pub update_spelled : UpdateIsSpelled
update_spelled count slots reduced body bytes
    fit = (all_read slots reduced count body (below_from_All body bytes) fit).bytes
