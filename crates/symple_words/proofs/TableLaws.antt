-- What clap finds in the command of a form, once it is built.
use Rattle.std.proofs.Common.{◌≡◌, ◌∙◌, ◌<◌, ◌+◌, ◌&&◌, ◌||◌, ◌==◌, ℕ, Bool, cond, true, false, not, zero, suc, refl, sym, ap, ap₂, arith, List, [], ◌∷◌, ◌++◌, map, length, min, Some, None, is_some, true≢false, eq-eqb, ne_eqb}
use Rattle.std.specs.Prelude.{slice_get, find, option_map, option_and_then}
use Rattle.std.specs.List.{list_all, list_any}
use Rattle.std.specs.Option.{option_map_or}
use Rattle.std.specs.Str.{bytes_eq}
use Rattle.std.proofs.lemmas.Slice.Eq.{bytes_eq-Decides}
use Rattle.clap.specs.Lexer.{usize_max}
use Rattle.clap.specs.Walk.{Rule, arg_by_id, arg_by_index, arg_by_long, has_long}
use Rattle.clap.specs.Simple.{Shape, filled, filled_from, with_index, new_shape}
use Rattle.symple_words.specs.Texts.{Text, has}
use Rattle.symple_words.specs.Spelling.{Form}
use Rattle.symple_words.specs.Asked.{positional_rule, option_rule, flag_rule, rules_for}

abbrev pub place : ℕ → Text → Rule
place i name = with_index i (filled (positional_rule name))

abbrev pub choice : Text → Rule
choice name = filled (option_rule name)

abbrev pub flag : Text → Rule
flag name = filled (flag_rule name)

abbrev pub places : ℕ → List Text → List Rule
places i [] = []
places i (p ∷ ps) = place i p ∷ places (suc i) ps

abbrev pub named_rules : Form → List Rule
named_rules f = map choice f.options ++ map flag f.flags

abbrev pub rules : Form → List Rule
rules f = places 1 f.positionals ++ named_rules f

abbrev pub shape_for : Text → Form → Shape
shape_for name f = record (new_shape name) {
  rules = rules f;
  disable_help_flag = true;
  disable_help_subcommand = true;
  is_built = true;
}

-- ---- building

fill_flags : (i : ℕ) (xs : List Text) → filled_from i (map flag_rule xs) ≡ map flag xs
fill_flags i [] = refl
fill_flags i (x ∷ xs) = ap (λ rs. flag x ∷ rs) (fill_flags i xs)

fill_choices : (i : ℕ) (xs : List Text) (rest : List Rule) → filled_from i (map option_rule xs ++ rest)
    ≡ map choice xs ++ filled_from i rest
fill_choices i [] rest = refl
fill_choices i (x ∷ xs) rest = ap (λ rs. choice x ∷ rs) (fill_choices i xs rest)

next_index : (i : ℕ) → i < 1000 → min (i + 1) usize_max ≡ suc i
next_index i lt = omega arith

fill_places : (i : ℕ) (xs : List Text) (rest more : List Rule) → i + length xs < 1000 →
    ((j : ℕ) → filled_from j rest ≡ more) → filled_from i (map positional_rule xs ++ rest) ≡ places i xs ++ more
fill_places i [] rest more few e = e i
fill_places i (x ∷ xs) rest more few e =
    ap (λ rs. place i x ∷ rs) (ap (λ j. filled_from j (map positional_rule xs ++ rest)) (next_index i (omega arith))
    ∙ fill_places (suc i) xs rest more (omega arith) e)

pub filled_rules : (f : Form) → length f.positionals < 999 → filled_from 1 (rules_for f) ≡ rules f
filled_rules f few = fill_places 1 f.positionals _ _ (omega arith) (λ j.
    fill_choices j f.options (map flag_rule f.flags) ∙ ap (λ rs. map choice f.options ++ rs) (fill_flags j f.flags))

-- ---- finding

find_past : {X : Type 0} (p : X → Bool) (xs ys : List X) → find p xs ≡ None → find p (xs ++ ys) ≡ find p ys
find_past p [] ys e = refl
find_past p (x ∷ xs) ys e = go (p x) e (find_past p xs ys)
  where
    go : (b : Bool) → cond b (Some x) (find p xs) ≡ None → (find p xs ≡ None → find p (xs ++ ys) ≡ find p ys) →
        cond b (Some x) (find p (xs ++ ys)) ≡ find p ys
    go true e ih = absurd (true≢false (ap is_some e))
    go false e ih = ih e

find_first : {X : Type 0} (p : X → Bool) (xs ys : List X) (y : X) → find p xs ≡ Some y → find p (xs ++ ys) ≡ Some y
find_first p [] ys y e = absurd (true≢false (ap is_some (sym e)))
find_first p (x ∷ xs) ys y e = go (p x) e (find_first p xs ys y)
  where
    go : (b : Bool) → cond b (Some x) (find p xs) ≡ Some y → (find p xs ≡ Some y → find p (xs ++ ys) ≡ Some y) →
        cond b (Some x) (find p (xs ++ ys)) ≡ Some y
    go true e ih = e
    go false e ih = ih e

-- by its long name
long_in_places : (name : Text) (i : ℕ) (ps : List Text) →
    find (λ a. not (is_some a.index) && has_long a name) (places i ps) ≡ None
long_in_places name i [] = refl
long_in_places name i (p ∷ ps) = long_in_places name (suc i) ps

long_in_choices : (name : Text) (xs : List Text) →
    find (λ a. not (is_some a.index) && has_long a name) (map choice xs) ≡ cond (has name xs) (Some (choice name)) None
long_in_choices name [] = refl
long_in_choices name (x ∷ xs) = go (bytes_eq x name) (λ e. (bytes_eq-Decides x name).0 e) (long_in_choices name xs)
  where
    go : (b : Bool) → (b ≡ true → x ≡ name) → find (λ a. not (is_some a.index) && has_long a name) (map choice xs)
        ≡ cond (has name xs) (Some (choice name)) None
        → cond (true && (b || false)) (Some (choice x))
        (find (λ a. not (is_some a.index) && has_long a name) (map choice xs))
        ≡ cond (b || has name xs) (Some (choice name)) None
    go true is ih = ap (λ n. Some (choice n)) (is refl)
    go false is ih = ih

long_in_flags : (name : Text) (xs : List Text) → find (λ a. not (is_some a.index) && has_long a name) (map flag xs)
    ≡ cond (has name xs) (Some (flag name)) None
long_in_flags name [] = refl
long_in_flags name (x ∷ xs) = go (bytes_eq x name) (λ e. (bytes_eq-Decides x name).0 e) (long_in_flags name xs)
  where
    go : (b : Bool) → (b ≡ true → x ≡ name) → find (λ a. not (is_some a.index) && has_long a name) (map flag xs)
        ≡ cond (has name xs) (Some (flag name)) None
        → cond (true && (b || false)) (Some (flag x))
        (find (λ a. not (is_some a.index) && has_long a name) (map flag xs))
        ≡ cond (b || has name xs) (Some (flag name)) None
    go true is ih = ap (λ n. Some (flag n)) (is refl)
    go false is ih = ih

pub long_choice : (f : Form) (name : Text) → has name f.options ≡ true → arg_by_long (rules f) name ≡ Some (choice name)
long_choice f name is =
    find_past _ (places 1 f.positionals) (named_rules f) (long_in_places name 1 f.positionals)
    ∙ find_first _ (map choice f.options) (map flag f.flags) (choice name) (long_in_choices name f.options
    ∙ ap (λ b. cond b (Some (choice name)) None) is)

pub long_flag : (f : Form) (name : Text) → has name f.options ≡ false → has name f.flags ≡ true →
    arg_by_long (rules f) name ≡ Some (flag name)
long_flag f name not_option is =
    find_past _ (places 1 f.positionals) (named_rules f) (long_in_places name 1 f.positionals)
    ∙ (find_past _ (map choice f.options) (map flag f.flags) (long_in_choices name f.options
    ∙ ap (λ b. cond b (Some (choice name)) None) not_option)
    ∙ (long_in_flags name f.flags ∙ ap (λ b. cond b (Some (flag name)) None) is))

-- by its id
id_in_places : (id : Text) (i : ℕ) (ps : List Text) → has id ps ≡ false → find (λ a. bytes_eq a.id id) (places i ps)
    ≡ None
id_in_places id i [] e = refl
id_in_places id i (p ∷ ps) e = go (bytes_eq p id) e (id_in_places id (suc i) ps)
  where
    go : (b : Bool) → (b || has id ps) ≡ false →
        (has id ps ≡ false → find (λ a. bytes_eq a.id id) (places (suc i) ps) ≡ None) →
        cond b (Some (place i p)) (find (λ a. bytes_eq a.id id) (places (suc i) ps)) ≡ None
    go true e ih = absurd (true≢false e)
    go false e ih = ih e

id_of_place : (id : Text) (i : ℕ) (ps : List Text) → has id ps ≡ true → (j : ℕ) ×
    (find (λ a. bytes_eq a.id id) (places i ps) ≡ Some (place j id))
id_of_place id i [] e = absurd (true≢false (sym e))
id_of_place id i (p ∷ ps) e = go (bytes_eq p id) (λ h. (bytes_eq-Decides p id).0 h) e (id_of_place id (suc i) ps)
  where
    go : (b : Bool) → (b ≡ true → p ≡ id) → (b || has id ps) ≡ true →
        (has id ps ≡ true → (j : ℕ) × (find (λ a. bytes_eq a.id id) (places (suc i) ps) ≡ Some (place j id)))
        → (j : ℕ) × (cond b (Some (place i p)) (find (λ a. bytes_eq a.id id) (places (suc i) ps)) ≡ Some (place j id))
    go true is e ih = (i, ap (λ n. Some (place i n)) (is refl))
    go false is e ih = ih e

id_in_choices : (id : Text) (xs : List Text) → find (λ a. bytes_eq a.id id) (map choice xs)
    ≡ cond (has id xs) (Some (choice id)) None
id_in_choices id [] = refl
id_in_choices id (x ∷ xs) = go (bytes_eq x id) (λ e. (bytes_eq-Decides x id).0 e) (id_in_choices id xs)
  where
    go : (b : Bool) → (b ≡ true → x ≡ id) → find (λ a. bytes_eq a.id id) (map choice xs)
        ≡ cond (has id xs) (Some (choice id)) None
        → cond b (Some (choice x)) (find (λ a. bytes_eq a.id id) (map choice xs))
        ≡ cond (b || has id xs) (Some (choice id)) None
    go true is ih = ap (λ n. Some (choice n)) (is refl)
    go false is ih = ih

pub id_choice : (f : Form) (id : Text) → has id f.positionals ≡ false → has id f.options ≡ true →
    arg_by_id (rules f) id ≡ Some (choice id)
id_choice f id apart is =
    find_past _ (places 1 f.positionals) (named_rules f) (id_in_places id 1 f.positionals apart)
    ∙ find_first _ (map choice f.options) (map flag f.flags) (choice id) (id_in_choices id f.options
    ∙ ap (λ b. cond b (Some (choice id)) None) is)

pub id_place : (f : Form) (id : Text) → has id f.positionals ≡ true → (j : ℕ) ×
    (arg_by_id (rules f) id ≡ Some (place j id))
id_place f id is =
    let p = id_of_place id 1 f.positionals is in
    (p.0, find_first _ (places 1 f.positionals) (named_rules f) (place p.0 id) p.1)

-- by its index
index_of_place : (i j k : ℕ) (ps : List Text) (rest : List Rule) (name : Text) → j ≡ i + k → slice_get ps k ≡ Some name
    → find (λ a. option_map_or (λ x. x == j) a.index false) (places i ps ++ rest) ≡ Some (place j name)
index_of_place i j k [] rest name at e = absurd (true≢false (ap is_some (sym e)))
index_of_place i j zero (p ∷ ps) rest name at e =
    let same : (i == j) ≡ true = eq-eqb i j (omega arith) in
    rw same (ap₂ (λ x n. Some (place x n)) (omega arith) (some_same p name e))
  where
    some_same : (a b : Text) → Some a ≡ Some b → a ≡ b
    some_same a b h = ap (λ o. Rattle.std.specs.Prelude.unwrap_or o a) h
index_of_place i j (suc k) (p ∷ ps) rest name at e =
    let other : (i == j) ≡ false = ne_eqb i j (λ h. omega arith) in
    rw other (index_of_place (suc i) j k ps rest name (omega arith) e)

pub index_place : (f : Form) (k : ℕ) (name : Text) → slice_get f.positionals k ≡ Some name →
    arg_by_index (rules f) (suc k) ≡ Some (place (suc k) name)
index_place f k name e = index_of_place 1 (suc k) k f.positionals (named_rules f) name (omega arith) e
