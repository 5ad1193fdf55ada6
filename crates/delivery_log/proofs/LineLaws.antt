-- Lines and words at the front of a text.
use Rattle.std.proofs.Common.{◌≡◌, ◌≢◌, ℕ, suc, ◌<◌, true, false, List, [], ◌∷◌, ◌++◌, length, take, drop, refl, ap, sym, subst, ◌∙◌, arith, ⊎_elim}
use Rattle.std.specs.Prelude.{◌==◌, Bool, decimal, IfSome, Option, Some, None}
use Rattle.std.specs.List.{position_or_len}
use Rattle.std.proofs.Math.Numerals.{one-add}
use Rattle.std.proofs.lemmas.Bool.{cases_Bool, eq-eqb, eqb-true}
use Rattle.std.proofs.lemmas.List.{append-nil, take-append-drop}
use Rattle.delivery_log.specs.LineReading.{IsLine, is_line_end}

-- a line and its line feed at the front settle the line and what stands behind
pub same_line : (a b s t : List ℕ) → IsLine a → IsLine b → a ++ 10 ∷ s ≡ b ++ 10 ∷ t → (a ≡ b) × (s ≡ t)
same_line [] [] s t la lb e = (refl, ap (drop 1) e)
same_line [] (y ∷ b) s t la lb e = absurd (lb.0 (sym (first y (b ++ 10 ∷ t) e)))
  where
    first : (y : ℕ) (r : List ℕ) → 10 ∷ s ≡ y ∷ r → 10 ≡ y
    first y r h = cc
same_line (x ∷ a) [] s t la lb e = absurd (la.0 (first x (a ++ 10 ∷ s) e))
  where
    first : (x : ℕ) (r : List ℕ) → x ∷ r ≡ 10 ∷ t → x ≡ 10
    first x r h = cc
same_line (x ∷ a) (y ∷ b) s t la lb e =
    let more = same_line a b s t la.1 lb.1 (ap (drop 1) e) in
    (ap (λ z. z ∷ a) (first x y (a ++ 10 ∷ s) (b ++ 10 ∷ t) e) ∙ ap (λ z. y ∷ z) more.0, more.1)
  where
    first : (x y : ℕ) (p q : List ℕ) → x ∷ p ≡ y ∷ q → x ≡ y
    first x y p q h = cc

pub no_feed : (line rest : List ℕ) → IsLine (line ++ 10 ∷ rest) → ⊥
no_feed [] rest h = h.0 refl
no_feed (x ∷ line) rest h = no_feed line rest h.1

pub not_feed : (c : ℕ) → (c == 10) ≡ false → c ≢ 10
not_feed c goes e = both (eq-eqb c 10 e) goes
  where
    both : {b : Bool} → b ≡ true → b ≡ false → ⊥
    both s t = cc

-- ---- where the first line ends
pos_ends : (c : ℕ) (cs : List ℕ) → is_line_end c ≡ true → position_or_len is_line_end (c ∷ cs) ≡ 0
pos_ends c cs ends = rw ends refl

pos_goes : (c : ℕ) (cs : List ℕ) → is_line_end c ≡ false →
    position_or_len is_line_end (c ∷ cs) ≡ suc (position_or_len is_line_end cs)
pos_goes c cs goes = rw goes (one-add (position_or_len is_line_end cs))

front_is_line : (text : List ℕ) → IsLine (take (position_or_len is_line_end text) text)
front_is_line [] = tt
front_is_line (c ∷ cs) =
    ⊎_elim
    (λ (ends : is_line_end c ≡ true). subst (λ n. IsLine (take n (c ∷ cs))) (sym (pos_ends c cs ends)) tt)
    (λ (goes : is_line_end c ≡ false).
    subst (λ n. IsLine (take n (c ∷ cs))) (sym (pos_goes c cs goes)) (not_feed c goes, front_is_line cs))
    (cases_Bool (is_line_end c))

feed_next : (text : List ℕ) → 0 < length (drop (position_or_len is_line_end text) text) →
    drop (position_or_len is_line_end text) text ≡ 10 ∷ drop 1 (drop (position_or_len is_line_end text) text)
feed_next [] some = absurd (omega arith)
feed_next (c ∷ cs) some =
    ⊎_elim
    (λ (ends : is_line_end c ≡ true).
    subst (λ n. drop n (c ∷ cs) ≡ 10 ∷ drop 1 (drop n (c ∷ cs))) (sym (pos_ends c cs ends))
    (ap (λ b. b ∷ cs) (eqb-true c 10 ends)))
    (λ (goes : is_line_end c ≡ false).
    subst (λ n. drop n (c ∷ cs) ≡ 10 ∷ drop 1 (drop n (c ∷ cs))) (sym (pos_goes c cs goes))
    (feed_next cs (subst (λ n. 0 < length (drop n (c ∷ cs))) (pos_goes c cs goes) some)))
    (cases_Bool (is_line_end c))

-- ---- a text cut where its first line ends
pub cut_line : (text line : List ℕ) (n : ℕ) → n ≡ position_or_len is_line_end text → line ≡ take n text → IsLine line
cut_line text line n v f = subst IsLine (sym (f ∙ ap (λ k. take k text) v)) (front_is_line text)

module _ (text line rest behind : List ℕ) (n : ℕ) where
  pub cut_spelled : n ≡ position_or_len is_line_end text → line ≡ take n text → rest ≡ drop n text →
      0 < length rest → behind ≡ drop 1 rest → text ≡ line ++ 10 ∷ behind
  cut_spelled v f r some b =
      let left : 0 < length (drop (position_or_len is_line_end text) text) =
      subst (λ t. 0 < length t) (r ∙ ap (λ k. drop k text) v) some in
      let next : drop n text ≡ 10 ∷ drop 1 (drop n text) =
      subst (λ k. drop k text ≡ 10 ∷ drop 1 (drop k text)) (sym v) (feed_next text left) in
      sym (take-append-drop n text)
      ∙ (ap (λ l. l ++ drop n text) (sym f)
      ∙ ap (λ t. line ++ t) (next ∙ ap (λ t. 10 ∷ t) (sym (b ∙ ap (drop 1) r))))

empty_is_nil : (s : List ℕ) → length s ≡ 0 → s ≡ []
empty_is_nil [] h = refl
empty_is_nil (c ∷ s) h = absurd (omega arith)

module _ (text rest : List ℕ) (n : ℕ) where
  pub no_line : n ≡ position_or_len is_line_end text → rest ≡ drop n text → length rest ≡ 0 → (l r : List ℕ) →
      text ≡ l ++ 10 ∷ r → ⊥
  no_line v f none l r e =
      let gone : drop n text ≡ [] = sym f ∙ empty_is_nil rest none in
      let all : take n text ≡ text = sym (append-nil (take n text))
      ∙ (ap (λ t. take n text ++ t) (sym gone) ∙ take-append-drop n text) in
      no_feed l r (subst IsLine e (cut_line text text n v (sym all)))

-- ---- what stands behind a word
pub behind_word : (line word rest : List ℕ) (read : Option ℕ) → line ≡ word ++ rest →
    IfSome read (λ n. decimal n ≡ rest) → IfSome read (λ n. line ≡ word ++ decimal n)
behind_word line word rest None e h = tt
behind_word line word rest (Some n) e h = e ∙ ap (λ r. word ++ r) (sym h)
