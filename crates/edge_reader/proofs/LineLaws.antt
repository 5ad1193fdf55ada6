use Rattle.std.proofs.Common.{◌≡◌, ℕ, zero, suc, ◌+◌, ◌<◌, true, false, List, [], ◌∷◌, length, take, drop, refl, ap, sym, ◌∙◌, arith, ⊎_elim}
use Rattle.std.proofs.Math.Numerals.{one-add}
use Rattle.std.specs.List.{position_or_len}
use Rattle.std.proofs.lemmas.Bool.{cases_Bool}
use Rattle.std.proofs.lemmas.List.{drop-drop}
use Rattle.edge_reader.specs.Lines.{is_line_end, lines_of, join_line, without_return, entry_of_line, entry_of_numbers, weight_of, is_comment}
use Rattle.edge_reader.specs.Words.{words_of, number_of}

-- the first line and the others
pub lines_first : (c : ℕ) (cs : List ℕ) → lines_of (c ∷ cs) ≡ take (position_or_len is_line_end (c ∷ cs)) (c ∷ cs)
    ∷ lines_of (drop (suc (position_or_len is_line_end (c ∷ cs))) (c ∷ cs))
lines_first c [] =
    ⊎_elim
    (λ (ends : is_line_end c ≡ true). rw ends refl)
    (λ (goes : is_line_end c ≡ false). rw goes refl)
    (cases_Bool (is_line_end c))
lines_first c (d ∷ ds) =
    ⊎_elim
    (λ (ends : is_line_end c ≡ true). rw ends refl)
    (λ (goes : is_line_end c ≡ false).
    rw (goes, one-add) (ap (join_line c) (lines_first d ds)))
    (cases_Bool (is_line_end c))

drop-nil : (m : ℕ) → let none : List ℕ = [] in drop m none ≡ none
drop-nil zero = refl
drop-nil (suc m) = refl

empty_is_nil : (s : List ℕ) → length s ≡ 0 → s ≡ []
empty_is_nil [] h = refl
empty_is_nil (c ∷ s) h = absurd (omega arith)

-- behind the line's end, or at the end of the text, the other lines begin
pub lines_next : (s : List ℕ) (n : ℕ) → 0 < length s → n ≡ position_or_len is_line_end s →
    lines_of s ≡ take n s ∷ lines_of (drop 1 (drop n s))
lines_next [] n some e = absurd (omega arith)
lines_next (c ∷ cs) n some e =
    let whole : drop 1 (drop n (c ∷ cs)) ≡ drop (suc (position_or_len is_line_end (c ∷ cs))) (c ∷ cs) =
    drop-drop 1 n (c ∷ cs) ∙ ap (λ q. drop q (c ∷ cs))
    (let place : n + 1 ≡ suc (position_or_len is_line_end (c ∷ cs)) = omega arith in place) in
    rw (whole, e) (lines_first c cs)

-- the same where nothing is left behind the first line
pub lines_last : (s : List ℕ) (n : ℕ) → 0 < length s → n ≡ position_or_len is_line_end s → length (drop n s) ≡ 0 →
    lines_of s ≡ take n s ∷ lines_of (drop n s)
lines_last s n some e none =
    let empty : drop n s ≡ [] = empty_is_nil (drop n s) none in
    let same : drop 1 (drop n s) ≡ drop n s = ap (drop 1) empty ∙ (drop-nil 1 ∙ sym empty) in
    lines_next s n some e ∙ ap (λ q. take n s ∷ lines_of q) same

-- what a line of three words says
module _ (line text from to last a b c : List ℕ) where
  pub line_three : text ≡ without_return line → words_of text ≡ from ∷ words_of a → is_comment from ≡ false →
      words_of a ≡ to ∷ words_of b → words_of b ≡ last ∷ words_of c → words_of c ≡ [] →
      entry_of_line line ≡ entry_of_numbers (number_of from) (number_of to) (weight_of last)
  line_three e first plain second third none = rw (
    sym e,
    first,
    second,
    third,
    none,
    plain,
  ) refl
