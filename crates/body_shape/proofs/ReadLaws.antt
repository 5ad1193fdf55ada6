-- What stands at a place of bytes.
use Rattle.std.proofs.Common.{◌≡◌, ℕ, zero, suc, ◌+◌, ◌-◌, ◌*◌, ◌/◌, ◌%◌, ◌^◌, ◌<◌, ◌≤◌, eqb, Bool, true, false, not, cond, ℤ, Some, None, List, [], ◌∷◌, ◌++◌, length, get_or, take, drop, inl, inr, refl, sym, ap, ◌∙◌, arith}
use Rattle.std.specs.Int.{w64, cast_signed, from_le_bytes}
use Rattle.std.specs.Int.RustNames.{count_ones}
use Rattle.std.proofs.Math.Nat.{add-mul-mod_self_left, div-add-mod, mod-eq_of_lt, mod-lt, pow-le-pow_right, pow-succ', zero-div}
use Rattle.std.proofs.Math.Seq.{drop-nil}
use Rattle.std.proofs.lemmas.Bool.{cases_lt}
use Rattle.std.proofs.lemmas.List.{append_assoc, append-nil, get_or-replicate, get_or-take, get_or_append_left, get_or-append_right}
use Rattle.dep_layout.specs.Judgement.{rows_in, word_of, words_in}
use Rattle.dep_layout.proofs.LoopLaws.{turns_left}
use Rattle.dep_layout.proofs.StateLaws.{past_row}
use Rattle.dep_layout.proofs.WordLaws.{further, length-words_in}
use Rattle.body_shape.specs.Fit.{bit_len, number_of}
use Rattle.body_shape.specs.Places.{flags_of, placed, set_count}
use Rattle.body_shape.specs.Push.{PushInPlace, flags_in, padded, senders}
use Rattle.body_shape.specs.Refresh.{flag_at, row_of}
use Rattle.vert_base.specs.Truth.{is_set}
use Rattle.body_shape.specs.Update.{behind_values, sent_at, values_in}
use Rattle.body_shape.proofs.FlagLaws.{length-padded}
use Rattle.body_shape.proofs.MissingLaws.{no_values}
use Rattle.body_shape.proofs.PlaceLaws.{length-flags_of, ones-flags_of}
use Rattle.body_shape.proofs.RowLaws.{length-rows_in}

-- ---- words

-- eight bytes are read
front : (bytes : List ℕ) → from_le_bytes w64 (take 8 bytes) ≡ from_le_bytes w64 bytes
front bytes =
    omega (
      arith,
      get_or-take 8 bytes 0 0 (omega arith),
      get_or-take 8 bytes 1 0 (omega arith),
      get_or-take 8 bytes 2 0 (omega arith),
      get_or-take 8 bytes 3 0 (omega arith),
      get_or-take 8 bytes 4 0 (omega arith),
      get_or-take 8 bytes 5 0 (omega arith),
      get_or-take 8 bytes 6 0 (omega arith),
      get_or-take 8 bytes 7 0 (omega arith),
    )

pub front_word : (bytes : List ℕ) → word_of (take 8 bytes) ≡ word_of bytes
unfolding word_of
front_word bytes = ap (cast_signed w64) (front bytes)

pub front_number : (bytes : List ℕ) → number_of (take 8 bytes) ≡ number_of bytes
unfolding number_of
front_number bytes = front bytes

-- one more word is read
module _ (n i : ℕ) (words : List ℤ) (word : ℤ) (rest others : List ℕ) (whole : List ℤ) where
  pub read_step : i < n → word ≡ word_of (take 8 rest) → others ≡ drop 8 rest →
      words ++ words_in (n - i) rest ≡ whole → (words ++ word ∷ []) ++ words_in (n - (i + 1)) others ≡ whole
  read_step within one behind all =
      append_assoc words (word ∷ []) (words_in (n - (i + 1)) others)
      ∙ ap (λ w. words ++ (w ∷ words_in (n - (i + 1)) others)) one
      ∙ ap (λ left. words ++ (word_of (take 8 rest) ∷ words_in (n - (i + 1)) left)) behind
      ∙ sym (ap (λ k. words ++ words_in k rest) (turns_left n i within))
      ∙ all

pub read_end : (n i : ℕ) (words : List ℤ) (rest : List ℕ) (whole : List ℤ) → n ≤ i →
    words ++ words_in (n - i) rest ≡ whole → words ≡ whole
read_end n i words rest whole past all =
    let none : n - i ≡ 0 = omega arith in
    sym (append-nil words) ∙ sym (ap (λ k. words ++ words_in k rest) none) ∙ all

-- a word in its place
pub word_in_place : (n k : ℕ) (bytes : List ℕ) (d : ℤ) → k < n →
    get_or (words_in n bytes) k d ≡ word_of (take 8 (drop (8 * k) bytes))
word_in_place zero k bytes d within = absurd (omega arith)
word_in_place (suc n) zero bytes d within = refl
word_in_place (suc n) (suc k) bytes d within =
    word_in_place n k (drop 8 bytes) d (omega arith) ∙ ap (λ bs. word_of (take 8 bs)) (sym (further k bytes))

-- ---- rows

fields_of : (width : ℕ) (bytes : List ℕ) → take width (words_in (suc width) bytes) ≡ words_in width bytes
fields_of zero bytes = refl
fields_of (suc width) bytes = ap (λ ws. word_of (take 8 bytes) ∷ ws) (fields_of width (drop 8 bytes))

flag_of : (width : ℕ) (bytes : List ℕ) → flag_at width (words_in (suc width) bytes)
    ≡ is_set (word_of (take 8 (drop (8 * width) bytes)))
flag_of zero bytes = refl
flag_of (suc width) bytes = flag_of width (drop 8 bytes)
    ∙ ap (λ bs. is_set (word_of (take 8 bs))) (sym (further width bytes))

-- the row that is spelled at the front of bytes
pub row_parts : (width : ℕ) (bytes : List ℕ) →
    row_of width (words_in (suc width) bytes)
    ≡ record { fields = words_in width bytes; active = is_set (word_of (take 8 (drop (8 * width) bytes))) }
row_parts width bytes =
    let fields = fields_of width bytes in
    let active = flag_of width bytes in
    λ i. record { fields = fields i; active = active i }

-- ---- bits

-- a bit of a number
pub bit_in_place : (n i : ℕ) → i < 8 → not (eqb (n / 2 ^ i % 2) 0) ≡ get_or (flags_of 8 n) i false
bit_in_place n zero within = let e : n / 1 ≡ n = omega arith in ap (λ m. not (eqb (m % 2) 0)) e
bit_in_place n (suc zero) within = refl
bit_in_place n (suc (suc zero)) within = let e : n / 4 ≡ n / 2 / 2 = omega arith in ap (λ m. not (eqb (m % 2) 0)) e
bit_in_place n (suc (suc (suc zero))) within = let e : n / 8 ≡ n / 2 / 2 / 2 = omega arith in
    ap (λ m. not (eqb (m % 2) 0)) e
bit_in_place n (suc (suc (suc (suc zero)))) within = let e : n / 16 ≡ n / 2 / 2 / 2 / 2 = omega arith in
    ap (λ m. not (eqb (m % 2) 0)) e
bit_in_place n (suc (suc (suc (suc (suc zero))))) within = let e : n / 32 ≡ n / 2 / 2 / 2 / 2 / 2 = omega arith in
    ap (λ m. not (eqb (m % 2) 0)) e
bit_in_place n (suc (suc (suc (suc (suc (suc zero)))))) within = let e : n / 64 ≡ n / 2 / 2 / 2 / 2 / 2
    / 2 = omega arith in ap (λ m. not (eqb (m % 2) 0)) e
bit_in_place n (suc (suc (suc (suc (suc (suc (suc zero))))))) within =
    let e : n / 128 ≡ n / 2 / 2 / 2 / 2 / 2 / 2 / 2 = omega arith in ap (λ m. not (eqb (m % 2) 0)) e
bit_in_place n (suc (suc (suc (suc (suc (suc (suc (suc i)))))))) within = absurd (omega arith)

same_bit : (i a b n : ℕ) → i < a → i < b → get_or (flags_of a n) i false ≡ get_or (flags_of b n) i false
same_bit zero zero b n ia ib = absurd (omega arith)
same_bit zero (suc a) zero n ia ib = absurd (omega arith)
same_bit zero (suc a) (suc b) n ia ib = refl
same_bit (suc i) zero b n ia ib = absurd (omega arith)
same_bit (suc i) (suc a) zero n ia ib = absurd (omega arith)
same_bit (suc i) (suc a) (suc b) n ia ib = same_bit i a b (n / 2) (omega arith) (omega arith)

take_bits : (i count n : ℕ) → i ≤ count → take i (flags_of count n) ≡ flags_of i n
take_bits zero count n within = refl
take_bits (suc i) zero n within = absurd (omega arith)
take_bits (suc i) (suc count) n within = ap (λ fs. not (eqb (n % 2) 0) ∷ fs) (take_bits i count (n / 2) (omega arith))

-- the halves of a remainder
record HasHalves (n m : ℕ) : Type 0 where
  low : n % (2 * m) % 2 ≡ n % 2
  high : n % (2 * m) / 2 ≡ n / 2 % m

halves : (n m : ℕ) → 0 < m → HasHalves n m
halves n m some =
    let x = n % (2 * m) in
    let q = n / (2 * m) in
    let some' : 0 < 2 * m = omega arith in
    let whole : 2 * m * (n / (2 * m)) + n % (2 * m) ≡ n = div-add-mod n (2 * m) in
    let below : n % (2 * m) < 2 * m = mod-lt n some' in
    let half : n / 2 ≡ n % (2 * m) / 2 + m * (n / (2 * m)) = omega (arith, whole) in
    let small : n % (2 * m) / 2 < m = omega (arith, below) in
    record {
      low = omega (arith, whole);
      high = sym (ap (λ k. k % m) half ∙ add-mul-mod_self_left (x / 2) m q ∙ mod-eq_of_lt small);
    }

-- the low bits of a number
low_bits : (k n : ℕ) → flags_of k (n % 2 ^ k) ≡ flags_of k n
low_bits zero n = refl
low_bits (suc k) n =
    let two : zero < 2 = omega arith in
    let low : 0 ≤ k = omega arith in
    let least : 2 ^ 0 ≤ 2 ^ k = pow-le-pow_right two low in
    let some : 0 < 2 ^ k = omega (arith, least) in
    let parts = halves n (2 ^ k) some in
    ap (λ m. flags_of (suc k) (n % m)) (pow-succ' 2 k)
    ∙ ap (λ r. not (eqb r 0) ∷ flags_of k (n % (2 * 2 ^ k) / 2)) parts.low
    ∙ ap (λ m. not (eqb (n % 2) 0) ∷ flags_of k m) parts.high
    ∙ ap (λ fs. not (eqb (n % 2) 0) ∷ fs) (low_bits k (n / 2))

pub set_bits : (k n : ℕ) → k ≤ 8 → count_ones (n % (1 * 2 ^ k % 4294967296)) ≡ set_count (flags_of k n)
set_bits k n few =
    let two : zero < 2 = omega arith in
    let most : 2 ^ k ≤ 2 ^ 8 = pow-le-pow_right two few in
    let low : 0 ≤ k = omega arith in
    let least : 2 ^ 0 ≤ 2 ^ k = pow-le-pow_right two low in
    let some : 0 < 2 ^ k = omega (arith, least) in
    let same : 1 * 2 ^ k % 4294967296 ≡ 2 ^ k = omega (arith, most) in
    ap (λ m. count_ones (n % m)) same ∙ ones-flags_of k (n % 2 ^ k) (mod-lt n some) ∙ ap set_count (low_bits k n)

-- ---- values at places

placed_here : {X : Type 0} (flags : List Bool) (xs : List X) (i : ℕ) (d : X) → length xs ≡ set_count flags →
    i < length flags →
    get_or (placed flags xs) i None ≡ cond (get_or flags i false) (Some (get_or xs (set_count (take i flags)) d)) None
placed_here [] xs i d many within = absurd (omega arith)
placed_here (false ∷ flags) xs zero d many within = refl
placed_here (false ∷ flags) xs (suc i) d many within = placed_here flags xs i d many (omega arith)
placed_here (true ∷ flags) [] i d many within = absurd (omega arith)
placed_here (true ∷ flags) (x ∷ xs) zero d many within = refl
placed_here (true ∷ flags) (x ∷ xs) (suc i) d many within = placed_here flags xs i d (omega arith) (omega arith)

set_before : (flags : List Bool) (i : ℕ) → get_or flags i false ≡ true → set_count (take i flags) < set_count flags
set_before [] i set = absurd (cc)
set_before (true ∷ flags) zero set = omega arith
set_before (false ∷ flags) zero set = absurd (cc)
set_before (true ∷ flags) (suc i) set = omega (arith, set_before flags i set)
set_before (false ∷ flags) (suc i) set = set_before flags i set

pub value_missing : (mask count place : ℕ) (bytes : List ℕ) → place < 8 → place < count → mask / 2 ^ place % 2 ≡ 0 →
    None ≡ get_or (values_in count mask bytes) place None
value_missing mask count place bytes few within clear =
    let flags = flags_of count mask in
    let words = words_in (set_count (flags_of count mask)) bytes in
    let unset : get_or (flags_of count mask) place false ≡ false =
    same_bit place count 8 mask within few ∙ sym (bit_in_place mask place few) ∙ ap (λ r. not (eqb r 0)) clear in
    sym (placed_here flags words place (word_of []) (length-words_in (set_count flags) bytes)
    (omega (arith, length-flags_of count mask))
    ∙ ap (λ b. cond b (Some (get_or words (set_count (take place flags)) (word_of []))) None) unset)

pub value_there : (mask count place : ℕ) (bytes : List ℕ) → place < 8 → place < count →
    not (eqb (mask / 2 ^ place % 2) 0) ≡ true →
    Some (word_of (take 8 (drop (8 * set_count (flags_of place mask)) bytes)))
    ≡ get_or (values_in count mask bytes) place None
value_there mask count place bytes few within here =
    let flags = flags_of count mask in
    let words = words_in (set_count (flags_of count mask)) bytes in
    let earlier = set_count (take place (flags_of count mask)) in
    let set : get_or (flags_of count mask) place false ≡ true = same_bit place count 8 mask within few
    ∙ sym (bit_in_place mask place few) ∙ here in
    let less = set_before flags place set in
    sym (placed_here flags words place (word_of []) (length-words_in (set_count flags) bytes)
    (omega (arith, length-flags_of count mask))
    ∙ ap (λ b. cond b (Some (get_or words earlier (word_of []))) None) set
    ∙ ap Some (word_in_place (set_count flags) earlier bytes (word_of []) less)
    ∙ ap (λ fs. Some (word_of (take 8 (drop (8 * set_count fs) bytes)))) (take_bits place count mask (omega arith)))

none_of : (n place : ℕ) (bytes : List ℕ) → place < n → bytes ≡ [] → None ≡ get_or (values_in n 0 bytes) place None
none_of n place bytes within none =
    sym (ap (λ bs. get_or (values_in n 0 bs) place None) none ∙ ap (λ xs. get_or xs place None) (no_values n)
    ∙ get_or-replicate n place None None within)

pub short_values : (slots reduced place : ℕ) (update : List ℕ) → length update < 2 → place < slots →
    None ≡ get_or (sent_at slots reduced update).values place None
short_values slots reduced place [] short within = none_of slots place [] within refl
short_values slots reduced place (b ∷ []) short within = none_of slots place [] within refl
short_values slots reduced place (b ∷ c ∷ bytes) short within = absurd (omega arith)

pub short_operands : (slots reduced place : ℕ) (update : List ℕ) → length update < 2 → place < reduced →
    None ≡ get_or (sent_at slots reduced update).operands place None
short_operands slots reduced place [] short within = none_of reduced place (behind_values slots 0 []) within
    (drop-nil (8 * set_count (flags_of slots 0)))
short_operands slots reduced place (b ∷ []) short within = none_of reduced place (behind_values slots 0 []) within
    (drop-nil (8 * set_count (flags_of slots 0)))
short_operands slots reduced place (b ∷ c ∷ bytes) short within = absurd (omega arith)

-- ---- senders

padded_here : (n v : ℕ) (flags : List Bool) → v < n → get_or (padded n flags) v false ≡ get_or flags v false
padded_here zero v flags within = absurd (omega arith)
padded_here (suc n) zero [] within = refl
padded_here (suc n) (suc v) [] within = padded_here n v [] (omega arith)
padded_here (suc n) zero (flag ∷ flags) within = refl
padded_here (suc n) (suc v) (flag ∷ flags) within = padded_here n v flags (omega arith)

-- a flag in its byte
pub flag_in_place : (bytes : List ℕ) (v : ℕ) → not (eqb (get_or bytes (v / 8) 0 / 2 ^ (v % 8) % 2) 0)
    ≡ get_or (flags_in bytes) v false
flag_in_place [] v = ap (λ n. not (eqb (n % 2) 0)) (zero-div (2 ^ (v % 8)))
flag_in_place (b ∷ bytes) v =
    let size : length (flags_of 8 b) ≡ 8 = length-flags_of 8 b in
    elim (cases_lt v 8) [
      | inl few ↦
          let at : v / 8 ≡ 0 = omega arith in
          let place : v % 8 ≡ v = omega arith in
          ap (λ k. not (eqb (get_or (b ∷ bytes) k 0 / 2 ^ (v % 8) % 2) 0)) at
          ∙ ap (λ k. not (eqb (b / 2 ^ k % 2) 0)) place
          ∙ bit_in_place b v few
          ∙ sym (get_or_append_left (flags_of 8 b) (flags_in bytes) false v (omega (arith, size)))
      | inr many ↦
          let at : v / 8 ≡ suc ((v - 8) / 8) = omega arith in
          let place : v % 8 ≡ (v - 8) % 8 = omega arith in
          ap (λ k. not (eqb (get_or (b ∷ bytes) k 0 / 2 ^ (v % 8) % 2) 0)) at
          ∙ ap (λ k. not (eqb (get_or bytes ((v - 8) / 8) 0 / 2 ^ k % 2) 0)) place
          ∙ flag_in_place bytes (v - 8)
          ∙ sym (get_or-append_right (flags_of 8 b) (flags_in bytes) 8 v false size many)
    ]

pub sender_in_place : (n v : ℕ) (body : List ℕ) → v < n → not (eqb (get_or body (v / 8) 0 / 2 ^ (v % 8) % 2) 0)
    ≡ get_or (senders n body) v false
sender_in_place n v body within =
    let marks = take (bit_len n) body in
    let inside : v / 8 < bit_len n = omega arith in
    ap (λ b. not (eqb (b / 2 ^ (v % 8) % 2) 0)) (sym (get_or-take (bit_len n) body (v / 8) 0 inside))
    ∙ flag_in_place marks v
    ∙ sym (padded_here n v (flags_in marks) within)

row_in_place : (width n k : ℕ) (bytes : List ℕ) (d : List ℤ) → k < n →
    get_or (rows_in width n bytes) k d ≡ words_in width (drop (8 * width * k) bytes)
row_in_place width zero k bytes d within = absurd (omega arith)
row_in_place width (suc n) zero bytes d within =
    let none : 8 * width * 0 ≡ 0 = omega arith in
    ap (λ j. words_in width (drop j bytes)) (sym none)
row_in_place width (suc n) (suc k) bytes d within =
    row_in_place width n k (drop (8 * width) bytes) d (omega arith) ∙ ap (words_in width) (sym (past_row width k bytes))

some_same : {X : Type 0} (b : Bool) (x y : X) → (b ≡ true → x ≡ y) → cond b (Some x) None ≡ cond b (Some y) None
some_same true x y same = ap Some (same refl)
some_same false x y same = refl

pub push_in_place : PushInPlace
push_in_place count words i body within =
    let flags = senders count body in
    let bytes = drop (bit_len count) body in
    let rows = rows_in words (set_count (senders count body)) (drop (bit_len count) body) in
    let earlier = set_count (take i (senders count body)) in
    let inside : i < length (senders count body) =
    omega (arith, length-padded count (flags_in (take (bit_len count) body))) in
    placed_here flags rows i [] (length-rows_in words (set_count flags) bytes) inside
    ∙ some_same (get_or flags i false) (get_or rows earlier []) (words_in words (drop (8 * words * earlier) bytes))
    (λ set. row_in_place words (set_count flags) earlier bytes [] (set_before flags i set))
