-- Elements that are dealt out to lists, each to the one whose test it passes.
use Rattle.std.proofs.Common.{◌≡◌, ℕ, ◌+◌, ◌<◌, ◌≢◌, Bool, true, false, cond, List, [], ◌∷◌, ◌++◌, length, get_or, set, take, map, ap, sym, ◌∙◌, arith, ⊎_elim, get_or-set_same, get_or-set_other}
use Rattle.std.specs.List.{filter, range_with_len}
use Rattle.std.proofs.lemmas.Bool.{cases_eq}
use Rattle.std.proofs.lemmas.List.{append-nil, length-set, same_lists, get_or_default}
use Rattle.std.proofs.lemmas.List.Elements.{filter_more}
use Rattle.std.proofs.lemmas.List.FromFn.{get_or-map-range_with_len, length-map-range_with_len}

-- each list has the elements that pass its test
pub record AreDealt {X : Type 0} (test : ℕ → X → Bool) (p : ℕ) (xs : List X) (lists : List (List X)) : Type 0 where
  pub len : length lists ≡ p
  pub each : (m : ℕ) → m < p → get_or lists m [] ≡ filter (test m) xs

pub dealt_none : {X : Type 0} (test : ℕ → X → Bool) (p : ℕ) (lists : List (List X)) →
    lists ≡ map (λ _. []) (range_with_len 0 p) → AreDealt test p [] lists
dealt_none {X} test p lists is =
    let none : ℕ → List X = λ _. [] in
    record {
      len = ap length is ∙ length-map-range_with_len none 0 p;
      each = λ m lt. ap (λ ls. get_or ls m []) is ∙ get_or-map-range_with_len none 0 p m m [] lt (omega arith);
    }

passed : {X : Type 0} (p : X → Bool) (xs : List X) (i : ℕ) (x : X) → i < length xs → x ≡ get_or xs i x → p x ≡ true →
    filter p (take (i + 1) xs) ≡ filter p (take i xs) ++ x ∷ []
passed p xs i x lt is here =
    let at : p (get_or xs i x) ≡ true = ap p (sym is) ∙ here in
    filter_more p xs i x lt
    ∙ (ap (λ b. filter p (take i xs) ++ cond b (get_or xs i x ∷ []) []) at
    ∙ ap (λ y. filter p (take i xs) ++ y ∷ []) (sym is))

passed_over : {X : Type 0} (p : X → Bool) (xs : List X) (i : ℕ) (x : X) → i < length xs → x ≡ get_or xs i x →
    p x ≡ false → filter p (take (i + 1) xs) ≡ filter p (take i xs)
passed_over p xs i x lt is off =
    let at : p (get_or xs i x) ≡ false = ap p (sym is) ∙ off in
    filter_more p xs i x lt
    ∙ (ap (λ b. filter p (take i xs) ++ cond b (get_or xs i x ∷ []) []) at ∙ append-nil (filter p (take i xs)))

-- one more element goes to list o
module _ {X : Type 0} (test : ℕ → X → Bool) (p : ℕ) (xs : List X) (i : ℕ) (lists new : List (List X)) (o : ℕ)
    (x : X) where
  pub dealt_more : i < length xs → x ≡ get_or xs i x → o < p → test o x ≡ true →
      ((m : ℕ) → m < p → m ≢ o → test m x ≡ false) → new ≡ set lists o (get_or lists o [] ++ x ∷ []) →
      AreDealt test p (take i xs) lists → AreDealt test p (take (i + 1) xs) new
  dealt_more lt is here hit others made h =
      let grown = get_or lists o [] ++ x ∷ [] in
      let within : o < length lists = omega (arith, h.len) in
      record {
        len = ap length made ∙ (length-set lists o grown ∙ h.len);
        each = λ m low.
            ap (λ ls. get_or ls m []) made
            ∙ ⊎_elim
            (λ (same : m ≡ o).
            ap (λ q. get_or (set lists o grown) q []) same
            ∙ (get_or-set_same lists o grown [] within
            ∙ (ap (λ ys. ys ++ x ∷ []) (h.each o here)
            ∙ (sym (passed (test o) xs i x lt is hit) ∙ ap (λ q. filter (test q) (take (i + 1) xs)) (sym same)))))
            (λ (ne : m ≢ o). get_or-set_other lists o m grown [] ne
            ∙ (h.each m low ∙ sym (passed_over (test m) xs i x lt is (others m low ne))))
            (cases_eq m o);
      }

-- all of them are the filters
pub dealt_all : {X : Type 0} (test : ℕ → X → Bool) (p : ℕ) (xs : List X) (lists : List (List X)) →
    AreDealt test p xs lists → lists ≡ map (λ m. filter (test m) xs) (range_with_len 0 p)
dealt_all test p xs lists h =
    same_lists lists (map (λ m. filter (test m) xs) (range_with_len 0 p))
    (h.len ∙ sym (length-map-range_with_len (λ m. filter (test m) xs) 0 p))
    (λ m d lt.
    let low : m < p = omega (arith, h.len) in
    get_or_default lists m d [] lt ∙ (h.each m low
    ∙ sym (get_or-map-range_with_len (λ m. filter (test m) xs) 0 p m m d low (omega arith))))
