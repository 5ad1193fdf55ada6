-- One more step of a loop over vertices, and what the bytes at a place say.
use Rattle.std.proofs.Common.{◌≡◌, ℕ, zero, suc, ◌+◌, ◌-◌, ◌*◌, ◌/◌, ◌%◌, ◌^◌, ◌<◌, ◌≤◌, ℤ, Bool, true, false, ◌&&◌, ◌||◌, cond, bit_and, List, [], ◌∷◌, ◌++◌, length, get_or, set, map, take, drop, ◌⊎◌, inl, inr, refl, sym, ap, subst, ◌∙◌, arith}
use Rattle.std.specs.List.{flat_map, list_any, list_all}
use Rattle.std.proofs.Math.Nat.{div-one}
use Rattle.std.proofs.lemmas.Nat.{and_mask}
use Rattle.std.proofs.lemmas.List.{append_assoc, append-nil, take_all, get_or-map, length-map, drop_more, drop_all, drop-map, drop-drop, get_or-drop, length-take-le, length-drop, take_more_set}
use Rattle.std.proofs.lemmas.List.Sums.{sum_by-cons}
use Rattle.dep_layout.specs.declared.state.Mark.{Mark}
use Rattle.dep_layout.specs.declared.state.Mark.TheVariants.{Fresh, Running, Broken}
use Rattle.dep_layout.specs.Spelling.{State, mark_of, bits_of, mark_bytes, word_bytes, sent_bytes, suits, are_typed}
use Rattle.dep_layout.specs.Judgement.{pairs_in, is_set, started, word_of, words_in, rows_in}
use Rattle.dep_layout.specs.Reading.{mark_with, state_with, words_behind, states_in}
use Rattle.dep_layout.proofs.MarkLaws.{length-pairs}
use Rattle.dep_layout.proofs.StateLaws.{started-zero, started-suc}

-- the two bits of a vertex in its byte
pub pair_is : (bytes : List ℕ) (v : ℕ) → v < 4 * length bytes → bit_and (get_or bytes (v / 4) 0 / 2 ^ (2 * (v % 4))) 3
    ≡ get_or (pairs_in bytes) v 0
pair_is [] v within = absurd (omega arith)
pair_is (b ∷ bs) zero within = and_mask (b / 1) 2 ∙ ap (λ n. n % 4) (div-one b)
pair_is (b ∷ bs) (suc zero) within = and_mask (b / 4) 2
pair_is (b ∷ bs) (suc (suc zero)) within = and_mask (b / 16) 2
pair_is (b ∷ bs) (suc (suc (suc zero))) within = and_mask (b / 64) 2
pair_is (b ∷ bs) (suc (suc (suc (suc v)))) within =
    let at : suc (suc (suc (suc v))) / 4 ≡ suc (v / 4) = omega arith in
    let place : suc (suc (suc (suc v))) % 4 ≡ v % 4 = omega arith in
    ap (λ k. bit_and (get_or (b ∷ bs) k 0 / 2 ^ (2 * (suc (suc (suc (suc v))) % 4))) 3) at
    ∙ ap (λ k. bit_and (get_or bs (v / 4) 0 / 2 ^ (2 * k)) 3) place
    ∙ pair_is bs v (omega arith)

-- the pairs of the first n vertices
pub length-front : (n : ℕ) (marks : List ℕ) → n ≤ 4 * length marks → length (take n (pairs_in marks)) ≡ n
length-front n marks h = length-take-le n (pairs_in marks) (omega (arith, length-pairs marks))

-- an element that fails the test leaves the answer to those behind it
pub any_step : (p : ℕ → Bool) (xs : List ℕ) (i : ℕ) (r : Bool) → i < length xs → p (get_or xs i 0) ≡ false →
    list_any p (drop i xs) ≡ r → list_any p (drop (i + 1) xs) ≡ r
any_step p xs i r within fails rest =
    sym (ap (λ b. b || list_any p (drop (i + 1) xs)) fails) ∙ sym (ap (list_any p) (drop_more xs i 0 within)) ∙ rest

pub any_end : (p : ℕ → Bool) (xs : List ℕ) (i : ℕ) (r : Bool) → length xs ≤ i → list_any p (drop i xs) ≡ r → false ≡ r
any_end p xs i r past rest = sym (ap (list_any p) (drop_all i xs past)) ∙ rest

-- an element that passes decides
pub any_here : (p : ℕ → Bool) (xs : List ℕ) (i : ℕ) (r : Bool) → i < length xs → p (get_or xs i 0) ≡ true →
    list_any p (drop i xs) ≡ r → true ≡ r
any_here p xs i r within passes rest =
    sym (ap (λ b. b || list_any p (drop (i + 1) xs)) passes) ∙ sym (ap (list_any p) (drop_more xs i 0 within)) ∙ rest

pub started_step : (xs : List ℕ) (i : ℕ) → i < length xs → started (drop i xs) ≡ cond (is_set (get_or xs i 0)) 1 0
    + started (drop (i + 1) xs)
started_step xs i within =
    ap started (drop_more xs i 0 within) ∙ sum_by-cons (λ p. cond (is_set p) 1 0) (get_or xs i 0) (drop (i + 1) xs)

pub started_end : (xs : List ℕ) (i : ℕ) → length xs ≤ i → started (drop i xs) ≡ 0
started_end xs i past = ap started (drop_all i xs past)

-- the byte of the first four marks
first_byte : (marks : List Mark) → 0 < length marks →
    mark_bytes marks ≡ (get_or (map bits_of marks) 0 0 + 4 * get_or (map bits_of marks) 1 0 + 16
    * get_or (map bits_of marks) 2 0 + 64 * get_or (map bits_of marks) 3 0) ∷ mark_bytes (drop 4 marks)
first_byte [] some = absurd (omega arith)
first_byte (a ∷ []) some = let e : bits_of a ≡ bits_of a + 4 * 0 + 16 * 0 + 64 * 0 = omega arith in
    ap (λ byte. byte ∷ []) e
first_byte (a ∷ b ∷ []) some = let e : bits_of a + 4 * bits_of b ≡ bits_of a + 4 * bits_of b + 16 * 0 + 64
    * 0 = omega arith in ap (λ byte. byte ∷ []) e
first_byte (a ∷ b ∷ c ∷ []) some = let e : bits_of a + 4 * bits_of b + 16 * bits_of c ≡ bits_of a + 4 * bits_of b + 16
    * bits_of c + 64 * 0 = omega arith in ap (λ byte. byte ∷ []) e
first_byte (a ∷ b ∷ c ∷ d ∷ marks) some = refl

bits_behind : (marks : List Mark) (v k : ℕ) → get_or (map bits_of (drop v marks)) k 0
    ≡ get_or (map bits_of marks) (v + k) 0
bits_behind marks v k = ap (λ bits. get_or bits k 0) (sym (drop-map bits_of v marks))
    ∙ get_or-drop v (map bits_of marks) k 0

-- the byte of four marks at a place
module _ (marks : List Mark) (v w x y z : ℕ) where
  pub byte_at : v < length marks → w ≡ get_or (map bits_of marks) v 0 →
      x ≡ get_or (map bits_of marks) (v + 1) 0 → y ≡ get_or (map bits_of marks) (v + 2) 0 →
      z ≡ get_or (map bits_of marks) (v + 3) 0 →
      mark_bytes (drop v marks) ≡ (w + 4 * x + 16 * y + 64 * z) ∷ mark_bytes (drop (v + 4) marks)
  byte_at within ew ex ey ez =
      let at : v + 0 ≡ v = omega arith in
      let ew' : get_or (map bits_of (drop v marks)) 0 0 ≡ w = bits_behind marks v 0
      ∙ ap (λ k. get_or (map bits_of marks) k 0) at ∙ sym ew in
      let ex' : get_or (map bits_of (drop v marks)) 1 0 ≡ x = bits_behind marks v 1 ∙ sym ex in
      let ey' : get_or (map bits_of (drop v marks)) 2 0 ≡ y = bits_behind marks v 2 ∙ sym ey in
      let ez' : get_or (map bits_of (drop v marks)) 3 0 ≡ z = bits_behind marks v 3 ∙ sym ez in
      let byte : get_or (map bits_of (drop v marks)) 0 0 + 4 * get_or (map bits_of (drop v marks)) 1 0 + 16
      * get_or (map bits_of (drop v marks)) 2 0 + 64 * get_or (map bits_of (drop v marks)) 3 0 ≡ w + 4 * x + 16 * y
      + 64 * z = omega (arith, ew', ex', ey', ez') in
      first_byte (drop v marks) (omega (arith, length-drop v marks))
      ∙ ap (λ b. b ∷ mark_bytes (drop 4 (drop v marks))) byte
      ∙ ap (λ rest. (w + 4 * x + 16 * y + 64 * z) ∷ mark_bytes rest) (drop-drop 4 v marks)

-- ---- loops over words

-- one turn less is left
pub turns_left : (n i : ℕ) → i < n → n - i ≡ suc (n - (i + 1))
turns_left n i within = omega arith

-- a word that suits its bit leaves the answer to those behind it
pub typed_step : (bools n i : ℕ) (rest : List ℕ) (r : Bool) → i < n → suits bools (word_of (take 8 rest)) ≡ true →
    are_typed bools (words_in (n - i) rest) ≡ r → are_typed (bools / 2) (words_in (n - (i + 1)) (drop 8 rest)) ≡ r
typed_step bools n i rest r within suited whole =
    sym (ap (λ b. b && are_typed (bools / 2) (words_in (n - (i + 1)) (drop 8 rest))) suited)
    ∙ sym (ap (λ k. are_typed bools (words_in k rest)) (turns_left n i within))
    ∙ whole

-- one that doesn't decides
pub typed_stop : (bools n i : ℕ) (rest : List ℕ) (r : Bool) → i < n → suits bools (word_of (take 8 rest)) ≡ false →
    are_typed bools (words_in (n - i) rest) ≡ r → false ≡ r
typed_stop bools n i rest r within bad whole =
    sym (ap (λ b. b && are_typed (bools / 2) (words_in (n - (i + 1)) (drop 8 rest))) bad)
    ∙ sym (ap (λ k. are_typed bools (words_in k rest)) (turns_left n i within))
    ∙ whole

-- the same of the words of one vertex
module _ (bools width n i : ℕ) (rest : List ℕ) (r : Bool) where
  pub rows_step : i < n → are_typed bools (words_in width rest) ≡ true →
      list_all (are_typed bools) (rows_in width (n - i) rest) ≡ r →
      list_all (are_typed bools) (rows_in width (n - (i + 1)) (drop (8 * width) rest)) ≡ r
  rows_step within typed whole =
      sym (ap (λ b. b && list_all (are_typed bools) (rows_in width (n - (i + 1)) (drop (8 * width) rest))) typed)
      ∙ sym (ap (λ k. list_all (are_typed bools) (rows_in width k rest)) (turns_left n i within))
      ∙ whole

  pub rows_stop : i < n → are_typed bools (words_in width rest) ≡ false →
      list_all (are_typed bools) (rows_in width (n - i) rest) ≡ r → false ≡ r
  rows_stop within bad whole =
      sym (ap (λ b. b && list_all (are_typed bools) (rows_in width (n - (i + 1)) (drop (8 * width) rest))) bad)
      ∙ sym (ap (λ k. list_all (are_typed bools) (rows_in width k rest)) (turns_left n i within))
      ∙ whole

-- room for what is left behind a row
pub room_step : (size n i room room' : ℕ) → i < n → size * (n - i) ≤ room → room' + size ≡ room →
    size * (n - (i + 1)) ≤ room'
room_step size n i room room' within enough left =
    let e : size * (n - i) ≡ size * suc (n - (i + 1)) = ap (λ k. size * k) (turns_left n i within) in
    omega (arith, e)

-- one more word is read
pub words_step : (n i : ℕ) (at : List ℤ) (rest : List ℕ) (whole : List ℤ) → i < n → length at ≡ n →
    take i at ++ words_in (n - i) rest ≡ whole → take (i + 1) (set at i (word_of (take 8 rest)))
    ++ words_in (n - (i + 1)) (drop 8 rest) ≡ whole
words_step n i at rest whole within count all =
    let word = word_of (take 8 rest) in
    ap (λ front. front ++ words_in (n - (i + 1)) (drop 8 rest)) (take_more_set at i word (omega arith))
    ∙ append_assoc (take i at) (word ∷ []) (words_in (n - (i + 1)) (drop 8 rest))
    ∙ sym (ap (λ k. take i at ++ words_in k rest) (turns_left n i within))
    ∙ all

pub words_end : (n i : ℕ) (at : List ℤ) (rest : List ℕ) (whole : List ℤ) → n ≤ i → length at ≡ n →
    take i at ++ words_in (n - i) rest ≡ whole → at ≡ whole
words_end n i at rest whole past count all =
    let none : n - i ≡ 0 = omega arith in
    sym (append-nil at)
    ∙ sym (ap (λ front. front ++ []) (take_all i at (omega arith)))
    ∙ sym (ap (λ k. take i at ++ words_in k rest) none)
    ∙ all

-- one more word is written
module _ (bytes new : List ℕ) (words : List ℤ) (i : ℕ) (word : ℤ) (whole : List ℕ) where
  pub push_step : i < length words → word ≡ get_or words i word → new ≡ bytes ++ word_bytes word →
      bytes ++ flat_map word_bytes (drop i words) ≡ whole →
      new ++ flat_map word_bytes (drop (i + 1) words) ≡ whole
  push_step within read pushed all =
      ap (λ front. front ++ flat_map word_bytes (drop (i + 1) words)) pushed
      ∙ append_assoc bytes (word_bytes word) (flat_map word_bytes (drop (i + 1) words))
      ∙ ap (λ w. bytes ++ (word_bytes w ++ flat_map word_bytes (drop (i + 1) words))) read
      ∙ sym (ap (λ ws. bytes ++ flat_map word_bytes ws) (drop_more words i word within))
      ∙ all

-- the bits of a vertex among those of all
pub bits_read : {X : Type 0} (f : X → State) (xs : List X) (v : ℕ) (x : X) → v < length xs → x ≡ get_or xs v x →
    bits_of (f x).mark ≡ get_or (map bits_of (map mark_of (map f xs))) v 0
bits_read f xs v x within read =
    ap (λ y. bits_of (f y).mark) read
    ∙ sym (ap (λ s. bits_of (mark_of s)) (get_or-map f xs v x (f x) within))
    ∙ sym (ap bits_of (get_or-map mark_of (map f xs) v (f x) (f x).mark (omega (arith, length-map xs f))))
    ∙ sym (get_or-map bits_of (map mark_of (map f xs)) v (f x).mark 0
    (omega (arith, length-map xs f, length-map (map f xs) mark_of)))

-- a state more is read
module _ (width : ℕ) (pairs : List ℕ) (i : ℕ) (states : List State) (state : State) (rest others : List ℕ)
    (whole : List State) where
  pub state_step : i < length pairs → state ≡ state_with width (mark_with (get_or pairs i 0)) rest →
      others ≡ words_behind width (mark_with (get_or pairs i 0)) rest →
      states ++ states_in width (drop i pairs) rest ≡ whole →
      (states ++ state ∷ []) ++ states_in width (drop (i + 1) pairs) others ≡ whole
  state_step within one behind all =
      append_assoc states (state ∷ []) (states_in width (drop (i + 1) pairs) others)
      ∙ ap (λ s. states ++ s ∷ states_in width (drop (i + 1) pairs) others) one
      ∙ ap (λ left. states ++ state_with width (mark_with (get_or pairs i 0)) rest
      ∷ states_in width (drop (i + 1) pairs) left) behind
      ∙ sym (ap (λ ps. states ++ states_in width ps rest) (drop_more pairs i 0 within))
      ∙ all

-- room for the words of one vertex, and of those behind it
room_at : (width pair : ℕ) (pairs : List ℕ) (rest : List ℕ) → 8 * width * started (pair ∷ pairs) ≤ length rest →
    (8 * width * started (bits_of (mark_with pair) ∷ []) ≤ length rest) ×
    (8 * width * started pairs ≤ length (words_behind width (mark_with pair) rest))
room_at width zero pairs rest room =
    let P : ℕ → Type 0 = λ n. 8 * width * n ≤ length rest in
    (let none : 8 * width * 0 ≤ length rest = omega arith in none, subst P (started-zero pairs) room)
room_at width (suc zero) pairs rest room =
    let P : ℕ → Type 0 = λ n. 8 * width * n ≤ length rest in
    let all : 8 * width * suc (started pairs) ≤ length rest = subst P (started-suc 0 pairs) room in
    let one : 8 * width * suc 0 ≤ length rest = omega arith in
    (subst P (sym (started-suc 0 [])) one, omega (arith, length-drop (8 * width) rest))
room_at width (suc (suc pair)) pairs rest room =
    let P : ℕ → Type 0 = λ n. 8 * width * n ≤ length rest in
    let all : 8 * width * suc (started pairs) ≤ length rest = subst P (started-suc (suc pair) pairs) room in
    let one : 8 * width * suc 0 ≤ length rest = omega arith in
    (subst P (sym (started-suc 1 [])) one, omega (arith, length-drop (8 * width) rest))

pub room_for : (width : ℕ) (pairs : List ℕ) (i : ℕ) (rest : List ℕ) → i < length pairs →
    8 * width * started (drop i pairs) ≤ length rest →
    (8 * width * started (bits_of (mark_with (get_or pairs i 0)) ∷ []) ≤ length rest) ×
    (8 * width * started (drop (i + 1) pairs) ≤ length (words_behind width (mark_with (get_or pairs i 0)) rest))
room_for width pairs i rest within room =
    let P : List ℕ → Type 0 = λ ps. 8 * width * started ps ≤ length rest in
    room_at width (get_or pairs i 0) (drop (i + 1) pairs) rest (subst P (drop_more pairs i 0 within) room)

abbrev pub state_made : Mark → List ℤ → State
state_made mark at = record { mark = mark; words = at }

-- the state of a started vertex
pub started_read : (width : ℕ) (mark : Mark) (at : List ℤ) (words others : List ℕ) → (mark ≡ Running) ⊎
    (mark ≡ Broken) → at ≡ words_in width words → others ≡ drop (8 * width) words →
    (state_made mark at ≡ state_with width mark words) × (others ≡ words_behind width mark words)
started_read width Fresh at words others (inl e) read behind = absurd (cc)
started_read width Fresh at words others (inr e) read behind = absurd (cc)
started_read width Running at words others which read behind = (
  ap (λ ws. record { mark = Running; words = ws }) read,
  behind,
)
started_read width Broken at words others which read behind = (
  ap (λ ws. record { mark = Broken; words = ws }) read,
  behind,
)

-- what is sent of one vertex more is written
module _ (bytes new : List ℕ) (states : List State) (i : ℕ) (state : State) (whole : List ℕ) where
  pub sent_step : i < length states → state ≡ get_or states i state → new ≡ bytes ++ sent_bytes state →
      bytes ++ flat_map sent_bytes (drop i states) ≡ whole →
      new ++ flat_map sent_bytes (drop (i + 1) states) ≡ whole
  sent_step within read pushed all =
      ap (λ front. front ++ flat_map sent_bytes (drop (i + 1) states)) pushed
      ∙ append_assoc bytes (sent_bytes state) (flat_map sent_bytes (drop (i + 1) states))
      ∙ ap (λ s. bytes ++ (sent_bytes s ++ flat_map sent_bytes (drop (i + 1) states))) read
      ∙ sym (ap (λ ss. bytes ++ flat_map sent_bytes ss) (drop_more states i state within))
      ∙ all
