-- Texts are entered one after the other.
use Rattle.std.proofs.Common.{◌≡◌, ℕ, Bool, true, false, cond, ◌||◌, List, [], ◌∷◌, ◌++◌, refl, sym, ap, ◌∙◌}
use Rattle.std.specs.List.{list_all, list_any}
use Rattle.std.specs.Cmp.Lexicographic.{bytes_decides}
use Rattle.std.specs.String.{string_bytes}
use Rattle.std.specs.Str.{bytes_eq}
use Rattle.std.specs.declared.alloc.Global.{Global}
use Rattle.std.specs.declared.string.String.{String}
use Rattle.std.proofs.lemmas.List.{map-append}
use Rattle.indexmap.specs.IndexSet.{insert_key}
use Rattle.vert_parse.specs.Entered.{enter, enter_all, is_entered, texts_in}
use Rattle.vert_parse.specs.Names.{Texts}

pub enter_none : (texts : Texts) → enter_all texts [] ≡ texts
unfolding enter_all
enter_none texts = refl

pub enter_more : (texts : Texts) (text : List ℕ) (more : Texts) →
    enter_all texts (text ∷ more) ≡ enter_all (enter texts text) more
unfolding enter_all enter
enter_more texts text more = refl

pub enter_both : (texts xs ys : Texts) → enter_all texts (xs ++ ys) ≡ enter_all (enter_all texts xs) ys
enter_both texts [] ys = ap (λ t. enter_all t ys) (sym (enter_none texts))
enter_both texts (x ∷ xs) ys = enter_more texts x (xs ++ ys) ∙ enter_both (enter texts x) xs ys
    ∙ ap (λ t. enter_all t ys) (sym (enter_more texts x xs))

pub ruleset entering = (enter_none, enter_more, enter_both)

any_text : (text : List ℕ) (names : List (String Global)) → list_any (bytes_eq text) (texts_in names)
    ≡ is_entered names text
any_text text [] = refl
any_text text (x ∷ xs) = rw (any_text text xs) refl

-- a text that is there
pub enter_old : (names : List (String Global)) (text : List ℕ) → is_entered names text ≡ true →
    enter (texts_in names) text ≡ texts_in names
unfolding enter
enter_old names text h = let e : list_any (bytes_eq text) (texts_in names) ≡ true = any_text text names ∙ h in rw e refl

-- one that isn't
pub enter_new : (names : List (String Global)) (text : List ℕ) (copy : String Global) → is_entered names text ≡ false
    → string_bytes copy ≡ text → enter (texts_in names) text ≡ texts_in (names ++ copy ∷ [])
unfolding enter
enter_new names text copy h is =
    let e : list_any (bytes_eq text) (texts_in names) ≡ false = any_text text names ∙ h in
    rw e (ap (λ t. texts_in names ++ t ∷ []) (sym is) ∙ sym (map-append string_bytes names (copy ∷ [])))

-- the keys of a set behind an insertion
module _ (names : List (String Global)) (text : List ℕ) (copy : String Global)
    (eq : String Global → String Global → Bool) (after : List (String Global)) where
  pub inserted : ((k : String Global) → eq copy k ≡ bytes_eq (string_bytes copy) (string_bytes k)) →
      is_entered names text ≡ false → string_bytes copy ≡ text → after ≡ insert_key eq names copy →
      texts_in after ≡ enter (texts_in names) text
  inserted same h is e =
      let any : (xs : List (String Global)) → list_any (eq copy) xs ≡ is_entered xs text = go in
      let f : list_any (eq copy) names ≡ false = any names ∙ h in
      let g : insert_key eq names copy ≡ names ++ copy ∷ [] = rw f refl in
      ap texts_in (e ∙ g) ∙ sym (enter_new names text copy h is)
    where
      go : (xs : List (String Global)) → list_any (eq copy) xs ≡ is_entered xs text
      go [] = refl
      go (x ∷ xs) = rw (same x, is, go xs) refl

-- ---- what was entered is there
any_more : (f : List ℕ → Bool) (xs ys : Texts) → list_any f xs ≡ true → list_any f (xs ++ ys) ≡ true
any_more f [] ys h = absurd cc
any_more f (x ∷ xs) ys h = go (f x) h (any_more f xs ys)
  where
    go : (v : Bool) → (v || list_any f xs) ≡ true → (list_any f xs ≡ true → list_any f (xs ++ ys) ≡ true) →
        (v || list_any f (xs ++ ys)) ≡ true
    go true e k = refl
    go false e k = k e

any_last : (f : List ℕ → Bool) (xs : Texts) (x : List ℕ) → f x ≡ true → list_any f (xs ++ x ∷ []) ≡ true
any_last f [] x h = rw h refl
any_last f (y ∷ xs) x h = go (f y) (any_last f xs x h)
  where
    go : (v : Bool) → list_any f (xs ++ x ∷ []) ≡ true → (v || list_any f (xs ++ x ∷ [])) ≡ true
    go true k = refl
    go false k = k

enter_has : (texts : Texts) (text : List ℕ) → list_any (bytes_eq text) (enter texts text) ≡ true
unfolding enter
enter_has texts text = go (list_any (bytes_eq text) texts) refl
  where
    go : (v : Bool) → list_any (bytes_eq text) texts ≡ v →
        list_any (bytes_eq text) (cond v texts (texts ++ text ∷ [])) ≡ true
    go true e = e
    go false e = any_last (bytes_eq text) texts text ((bytes_decides text text).1 refl)

enter_keeps : (f : List ℕ → Bool) (texts : Texts) (text : List ℕ) → list_any f texts ≡ true →
    list_any f (enter texts text) ≡ true
unfolding enter
enter_keeps f texts text h = go (list_any (bytes_eq text) texts)
  where
    go : (v : Bool) → list_any f (cond v texts (texts ++ text ∷ [])) ≡ true
    go true = h
    go false = any_more f texts (text ∷ []) h

all_keep : (f : List ℕ → Bool) (texts more : Texts) → list_any f texts ≡ true → list_any f (enter_all texts more) ≡ true
all_keep f texts [] h = ap (list_any f) (enter_none texts) ∙ h
all_keep f texts (x ∷ xs) h = ap (list_any f) (enter_more texts x xs)
    ∙ all_keep f (enter texts x) xs (enter_keeps f texts x h)

all_there : (texts xs : Texts) → list_all (λ t. list_any (bytes_eq t) (enter_all texts xs)) xs ≡ true
all_there texts [] = refl
all_there texts (x ∷ xs) =
    let first : list_any (bytes_eq x) (enter_all texts (x ∷ xs)) ≡ true =
    ap (list_any (bytes_eq x)) (enter_more texts x xs)
    ∙ all_keep (bytes_eq x) (enter texts x) xs (enter_has texts x) in
    let others : list_all (λ t. list_any (bytes_eq t) (enter_all texts (x ∷ xs))) xs ≡ true =
    ap (λ l. list_all (λ t. list_any (bytes_eq t) l) xs) (enter_more texts x xs) ∙ all_there (enter texts x) xs in
    rw (first, others) refl

all_texts : (names : List (String Global)) (xs : Texts) → list_all (λ t. list_any (bytes_eq t) (texts_in names)) xs
    ≡ list_all (is_entered names) xs
all_texts names [] = refl
all_texts names (x ∷ xs) = rw (any_text x names, all_texts names xs) refl

pub all_entered : (names : List (String Global)) (texts xs : Texts) → texts_in names ≡ enter_all texts xs →
    list_all (is_entered names) xs ≡ true
all_entered names texts xs e = sym (all_texts names xs) ∙ ap (λ l. list_all (λ t. list_any (bytes_eq t) l) xs) e
    ∙ all_there texts xs
