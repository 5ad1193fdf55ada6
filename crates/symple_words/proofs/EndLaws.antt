-- What clap makes of words that are spelt right: it takes them, and each name has the value that was read.
use Rattle.std.proofs.Common.{◌≡◌, ◌∙◌, ◌<◌, ◌&&◌, ◌||◌, ◌==◌, ℕ, Bool, cond, true, false, not, suc, refl, sym, ap, ap₂, subst, List, [], ◌∷◌, ◌++◌, map, length, Option, Some, None, is_some, true≢false, codes}
use Rattle.std.specs.Prelude.{slice_get, find, option_map, option_and_then, unwrap_or, fold, count_by}
use Rattle.std.specs.List.{list_all, list_any}
use Rattle.std.specs.Str.{bytes_eq}
use Rattle.std.proofs.lemmas.Slice.Eq.{bytes_eq-Decides}
use Rattle.std.proofs.lemmas.List.Folds.{list_any-append, list_all-append, find-append}
use Rattle.std.proofs.lemmas.List.Sums.{fold-append}
use Rattle.clap.specs.Walk.{Held, Row, Rule, idle, walked, walk_from, walk, nothing_held, finished, with_default, has_row, first_of, one_of, row_text, at_row, more_values, is_early_multiple}
use Rattle.clap.specs.Simple.{is_simple, matches_of}
use Rattle.clap.specs.declared.parser.matches.ValueSource.TheVariants.{DefaultValue}
use Rattle.clap.specs.declared.builder.value_parser.Reading.TheVariants as reading
use Rattle.clap.specs.Takes.{takes, walk_passes, built_takes, level_passes, is_valid, default_passes, settle_passes}
use Rattle.symple_words.specs.Texts.{Text, has}
use Rattle.symple_words.specs.Spelling.{Form, Given, Stand, has_given, read_from, given_by, whole, nothing_read, value_at}
use Rattle.symple_words.specs.Answers.{flag_text}
use Rattle.symple_words.specs.Asked.{positional_rule, option_rule, flag_rule, rules_for, app_for}
use Rattle.symple_words.proofs.TableLaws.{place, places, choice, flag, rules, shape_for, filled_rules, named_rules}
use Rattle.symple_words.proofs.StepLaws.{Stands, Settles, IsForm, Fresh, row_at, rows, has_row_given, walk_at}
use Rattle.symple_words.proofs.WalkLaws.{Sound, Walks, all_words, flags_true}

-- ---- tests of every rule

all_places : (p : Rule → Bool) (i : ℕ) (xs : List Text) → ((j : ℕ) (n : Text) → p (place j n) ≡ true) →
    list_all p (places i xs) ≡ true
all_places p i [] e = refl
all_places p i (x ∷ xs) e = ap₂ (λ a b. a && b) (e i x) (all_places p (suc i) xs e)

all_map : (p : Rule → Bool) (f : Text → Rule) (xs : List Text) → ((n : Text) → p (f n) ≡ true) →
    list_all p (map f xs) ≡ true
all_map p f [] e = refl
all_map p f (x ∷ xs) e = ap₂ (λ a b. a && b) (e x) (all_map p f xs e)

pub all_rules : (p : Rule → Bool) (f : Form) → ((j : ℕ) (n : Text) → p (place j n) ≡ true) →
    ((n : Text) → p (choice n) ≡ true) → ((n : Text) → p (flag n) ≡ true)
    → list_all p (rules f) ≡ true
all_rules p f a b c =
    list_all-append p (places 1 f.positionals) (named_rules f)
    ∙ ap₂ (λ x y. x && y) (all_places p 1 f.positionals a)
    (list_all-append p (map choice f.options) (map flag f.flags)
    ∙ ap₂ (λ x y. x && y) (all_map p choice f.options b) (all_map p flag f.flags c))

all_asked : (p : Rule → Bool) (f : Form) → ((n : Text) → p (positional_rule n) ≡ true) →
    ((n : Text) → p (option_rule n) ≡ true) → ((n : Text) → p (flag_rule n) ≡ true)
    → list_all p (rules_for f) ≡ true
all_asked p f a b c =
    list_all-append p (map positional_rule f.positionals) (map option_rule f.options ++ map flag_rule f.flags)
    ∙ ap₂ (λ x y. x && y) (all_map p positional_rule f.positionals a)
    (list_all-append p (map option_rule f.options) (map flag_rule f.flags)
    ∙ ap₂ (λ x y. x && y) (all_map p option_rule f.options b) (all_map p flag_rule f.flags c))

none_of : {X : Type 0} (p : X → Bool) (xs : List X) → list_all (λ x. not (p x)) xs ≡ true → list_any p xs ≡ false
none_of p [] e = refl
none_of p (x ∷ xs) e = go (p x) e (none_of p xs)
  where
    go : (b : Bool) → (not b && list_all (λ y. not (p y)) xs) ≡ true →
        (list_all (λ y. not (p y)) xs ≡ true → list_any p xs ≡ false) → (b || list_any p xs) ≡ false
    go true h ih = absurd (true≢false (sym h))
    go false h ih = ih h

pub simple : (name : Text) (f : Form) → length f.positionals < 999 → is_simple (app_for name f) ≡ true
simple name f few =
    let asked : list_all (λ a. a.is_simple) (rules_for f) ≡ true =
    all_asked (λ a. a.is_simple) f (λ n. refl) (λ n. refl) (λ n. refl) in
    let made : list_all (λ a. a.is_simple) (rules f) ≡ true =
    all_rules (λ a. a.is_simple) f (λ j n. refl) (λ n. refl) (λ n. refl) in
    let order : list_any (is_early_multiple (count_by (λ a. is_some a.index) (rules f))) (rules f) ≡ false =
    none_of (is_early_multiple (count_by (λ a. is_some a.index) (rules f))) (rules f)
    (all_rules (λ a. not (is_early_multiple (count_by (λ a. is_some a.index) (rules f)) a)) f (λ j n. refl) (λ n.
    refl) (λ n. refl)) in
    rw (filled_rules f few, asked) (rw (made, order) refl)

-- ---- the walk to its end

-- what a spelling that is right leaves of clap's walk
pub record Ended (n : Text) (f : Form) (words : List Text) (given : Given) : Type 0 where
  pub passes : walk_passes (shape_for n f) [] (walk_from nothing_held) words ≡ true
  pub held : Held
  pub position : ℕ
  pub walk : walk (rules f) [] nothing_held words ≡ walk_at held idle position
  pub settles : Settles f given held
  pub flags : flags_true f given ≡ true
  pub outside : (id : Text) → has id f.positionals ≡ false → has id f.options ≡ false → has id f.flags ≡ false →
      has_given id given ≡ false

pub ended : (n : Text) (f : Form) (words : List Text) (given : Given) → IsForm f → given_by f words ≡ Some given →
    Ended n f words given
ended n f words given form e = go (read_from f nothing_read words) refl e
  where
    begin : Sound f [] 0
    begin = record { fresh = λ k m le at. refl; flags = refl; outside = λ id p o g. refl }

    last : (t : Stand) (o : Option Text) (b : Bool) → Walks n f (walk_from nothing_held) words t → t.waiting ≡ o
        → cond (not (is_some o) && b) (Some t.given) None ≡ Some given → Ended n f words given
    last t (Some x) b w is h = absurd (true≢false (ap is_some (sym h)))
    last t None false w is h = absurd (true≢false (ap is_some (sym h)))
    last t None true w is h =
        let same : t.given ≡ given = ap (λ o. unwrap_or o t.given) h in
        let st = subst (λ o. Rattle.symple_words.proofs.StepLaws.StandsBy f t.given t.count
        (fold (walked (rules f) []) (walk_from nothing_held) words) o) is w.stands in
        record {
          passes = w.passes;
          held = st.0;
          position = suc t.count;
          walk = st.1;
          settles = subst (λ g. Settles f g st.0) same st.2;
          flags = subst (λ g. flags_true f g ≡ true) same w.sound.flags;
          outside = subst (λ g. (id : Text) → has id f.positionals ≡ false → has id f.options ≡ false →
              has id f.flags ≡ false → has_given id g ≡ false) same w.sound.outside;
        }

    go : (o : Option Stand) → read_from f nothing_read words ≡ o → option_and_then (whole f) o ≡ Some given →
        Ended n f words given
    go None is h = absurd (true≢false (ap is_some (sym h)))
    go (Some t) is h =
        last t t.waiting (t.count == length f.positionals)
        (all_words n f words nothing_read (walk_from nothing_held) t form (
          nothing_held,
          refl,
          record { rows = refl; skip = refl; passes = refl },
        ) begin is) refl h

-- ---- clap takes the words

pub right_takes : (name : Text) (f : Form) (first : Text) (words : List Text) (given : Given) → IsForm f →
    given_by f words ≡ Some given
    → takes (app_for name f) (first ∷ words) ≡ true
right_takes name f first words given form e =
    let w = ended name f words given form e in
    let defaults : list_all default_passes (rules f) ≡ true =
    all_rules default_passes f (λ j n. refl) (λ n. refl) (λ n. refl) in
    let free : list_all (λ a. a.is_free) (rules f) ≡ true =
    all_rules (λ a. a.is_free) f (λ j n. refl) (λ n. refl) (λ n. refl) in
    let needed : (rs : List Row) → list_all (λ a. not a.required || Rattle.clap.specs.Takes.is_given a.id rs)
    (rules f) ≡ true =
    λ rs. all_rules (λ a. not a.required || Rattle.clap.specs.Takes.is_given a.id rs) f (λ j n. refl) (λ n. refl)
    (λ n. refl) in
    rw (simple name f form.few, filled_rules f form.few)
    (rw w.passes (rw w.walk (rw (w.settles.passes, defaults) (rw (free, needed (finished (rules f) w.held)) refl))))

-- ---- the values

find_id : Text → List Row → Option Row
find_id id rs = find (λ r. bytes_eq r.id id) rs

if_same : (b : Bool) (rs : List Row) → cond b rs rs ≡ rs
if_same true rs = refl
if_same false rs = refl

-- an argument with no default adds nothing
no_defaults : (rs : List Row) (a : Rule) → a.defaults ≡ [] → with_default rs a ≡ rs
no_defaults rs a e = rw e (if_same (has_row a.id rs) rs)

places_add_nothing : (i : ℕ) (ps : List Text) (rs : List Row) → fold with_default rs (places i ps) ≡ rs
places_add_nothing i [] rs = refl
places_add_nothing i (p ∷ ps) rs = ap (λ x. fold with_default x (places (suc i) ps)) (no_defaults rs (place i p) refl)
    ∙ places_add_nothing (suc i) ps rs

choices_add_nothing : (xs : List Text) (rs : List Row) → fold with_default rs (map choice xs) ≡ rs
choices_add_nothing [] rs = refl
choices_add_nothing (x ∷ xs) rs = ap (λ y. fold with_default y (map choice xs)) (no_defaults rs (choice x) refl)
    ∙ choices_add_nothing xs rs

only_flags : (f : Form) (rs : List Row) → fold with_default rs (rules f) ≡ fold with_default rs (map flag f.flags)
only_flags f rs =
    fold-append with_default rs (places 1 f.positionals) (named_rules f)
    ∙ (ap (λ x. fold with_default x (named_rules f)) (places_add_nothing 1 f.positionals rs)
    ∙ (fold-append with_default rs (map choice f.options) (map flag f.flags)
    ∙ ap (λ x. fold with_default x (map flag f.flags)) (choices_add_nothing f.options rs)))

abbrev default_row : Text → Row
default_row x = record {
  id = x;
  values = codes "false" ∷ [];
  count = None;
  source = Some DefaultValue;
  reading = reading.AsWritten;
}

at_end : (id : Text) (change : Row → List Row) (missing rs : List Row) → has_row id rs ≡ false →
    at_row id change missing rs ≡ rs ++ missing
at_end id change missing [] e = refl
at_end id change missing (r ∷ rs) e = go (bytes_eq r.id id) e (at_end id change missing rs)
  where
    go : (b : Bool) → (b || has_row id rs) ≡ false →
        (has_row id rs ≡ false → at_row id change missing rs ≡ rs ++ missing)
        → cond b (change r ++ rs) (r ∷ at_row id change missing rs) ≡ r ∷ (rs ++ missing)
    go true h ih = absurd (true≢false h)
    go false h ih = ap (λ x. r ∷ x) (ih h)

-- a flag adds a row, where it has none
flag_adds : (x : Text) (rs : List Row) → with_default rs (flag x) ≡ cond (has_row x rs) rs (rs ++ default_row x ∷ [])
flag_adds x rs = go (has_row x rs) refl
  where
    go : (b : Bool) → has_row x rs ≡ b → with_default rs (flag x) ≡ cond b rs (rs ++ default_row x ∷ [])
    go true e = rw e refl
    go false e = rw e (at_end x (more_values DefaultValue (codes "false" ∷ [])) (default_row x ∷ []) rs e)

find_before : {X : Type 0} (p : X → Bool) (xs ys : List X) → find p ys ≡ None → find p (xs ++ ys) ≡ find p xs
find_before p [] ys e = e
find_before p (x ∷ xs) ys e = ap (λ o. cond (p x) (Some x) o) (find_before p xs ys e)

one_missing : (id x : Text) → bytes_eq x id ≡ false → find_id id (default_row x ∷ []) ≡ None
unfolding find_id
one_missing id x e = rw e refl

-- a flag leaves the rows of every other name
flag_leaves : (id x : Text) (rs : List Row) → bytes_eq x id ≡ false →
    find_id id (with_default rs (flag x)) ≡ find_id id rs
unfolding find_id
flag_leaves id x rs other = ap (find_id id) (flag_adds x rs) ∙ go (has_row x rs)
  where
    go : (b : Bool) → find (λ r. bytes_eq r.id id) (cond b rs (rs ++ default_row x ∷ []))
        ≡ find (λ r. bytes_eq r.id id) rs
    go true = refl
    go false = find_before (λ r. bytes_eq r.id id) rs (default_row x ∷ []) (one_missing id x other)

flags_leave : (id : Text) (xs : List Text) (rs : List Row) → has id xs ≡ false →
    find_id id (fold with_default rs (map flag xs)) ≡ find_id id rs
flags_leave id [] rs e = refl
flags_leave id (x ∷ xs) rs e =
    let h = neither (bytes_eq x id) (has id xs) e in
    flags_leave id xs (with_default rs (flag x)) h.1 ∙ flag_leaves id x rs h.0
  where
    neither : (a b : Bool) → (a || b) ≡ false → (a ≡ false) × (b ≡ false)
    neither true b h = absurd (true≢false h)
    neither false b h = (refl, h)

row_value : (id : Text) (given : Given) → first_of id (rows given) ≡ value_at id given
row_value id [] = refl
row_value id (p ∷ given) = go (bytes_eq p.0 id) (row_value id given)
  where
    go : (b : Bool) → first_of id (rows given) ≡ value_at id given
        → option_and_then (λ (r : Row). slice_get r.values 0)
        (cond b (Some (row_at p)) (find (λ r. bytes_eq r.id id) (rows given)))
        ≡ option_map (λ (q : Text × Text). q.1) (cond b (Some p) (find (λ q. bytes_eq q.0 id) given))
    go true ih = refl
    go false ih = ih

-- what clap has at a name that is no flag is what was read there
module _ (name : Text) (f : Form) (first : Text) (words : List Text) (given : Given) (id : Text) where
  pub right_value : IsForm f → given_by f words ≡ Some given → has id f.flags ≡ false →
      first_of id (matches_of (app_for name f) (first ∷ words)) ≡ value_at id given
  unfolding find_id
  right_value form e other =
      let w = ended name f words given form e in
      let at_the_end : matches_of (app_for name f) (first ∷ words) ≡ fold with_default (rows given) (rules f) =
      rw (filled_rules f form.few) (rw w.walk (rw w.settles.rows refl)) in
      ap (first_of id) at_the_end
      ∙ (ap (first_of id) (only_flags f (rows given))
      ∙ (ap (option_and_then (λ (r : Row). slice_get r.values 0)) (flags_leave id f.flags (rows given) other)
      ∙ row_value id given))

-- ---- the flags

-- a row that is there stays the first of its name
row_stays : (id : Text) (xs : List Text) (rs : List Row) (r : Row) → find_id id rs ≡ Some r →
    find_id id (fold with_default rs (map flag xs)) ≡ Some r
unfolding find_id
row_stays id [] rs r e = e
row_stays id (x ∷ xs) rs r e = row_stays id xs (with_default rs (flag x)) r (ap (find_id id) (flag_adds x rs)
    ∙ go (has_row x rs))
  where
    found : (ys zs : List Row) → find (λ r. bytes_eq r.id id) ys ≡ Some r → find (λ r. bytes_eq r.id id) (ys ++ zs)
        ≡ Some r
    found ys zs h = find-append (λ r. bytes_eq r.id id) ys zs ∙ rw h refl

    go : (b : Bool) → find (λ r. bytes_eq r.id id) (cond b rs (rs ++ default_row x ∷ [])) ≡ Some r
    go true = e
    go false = found rs (default_row x ∷ []) e

no_row : (id : Text) (rs : List Row) → has_row id rs ≡ false → find_id id rs ≡ None
unfolding find_id
no_row id [] e = refl
no_row id (r ∷ rs) e = go (bytes_eq r.id id) e (no_row id rs)
  where
    go : (b : Bool) → (b || has_row id rs) ≡ false → (has_row id rs ≡ false → find (λ r. bytes_eq r.id id) rs ≡ None)
        → cond b (Some r) (find (λ r. bytes_eq r.id id) rs) ≡ None
    go true h ih = absurd (true≢false h)
    go false h ih = ih h

-- a flag that was not read has the value `false`
flag_absent : (id : Text) (xs : List Text) (rs : List Row) → has id xs ≡ true → has_row id rs ≡ false → (r : Row) ×
    (find_id id (fold with_default rs (map flag xs)) ≡ Some r) × (r.values ≡ codes "false" ∷ []) ×
    (r.reading ≡ reading.AsWritten)
unfolding find_id
flag_absent id [] rs e missing = absurd (true≢false (sym e))
flag_absent id (x ∷ xs) rs e missing = go (bytes_eq x id) refl e (λ b rs' h m. flag_absent id xs rs' h m)
  where
    go : (b : Bool) → bytes_eq x id ≡ b → (b || has id xs) ≡ true
        → ((u : Unit {0}) (rs' : List Row) → has id xs ≡ true → has_row id rs' ≡ false → (r : Row) ×
        (find_id id (fold with_default rs' (map flag xs)) ≡ Some r) × (r.values ≡ codes "false" ∷ []) ×
        (r.reading ≡ reading.AsWritten))
        → (r : Row) × (find_id id (fold with_default (with_default rs (flag x)) (map flag xs)) ≡ Some r) ×
        (r.values ≡ codes "false" ∷ []) × (r.reading ≡ reading.AsWritten)
    go true is h later =
        let same : x ≡ id = (bytes_eq-Decides x id).0 is in
        let there : has_row x rs ≡ false = ap (λ y. has_row y rs) same ∙ missing in
        let added : with_default rs (flag x) ≡ rs ++ default_row x ∷ [] = flag_adds x rs ∙ rw there refl in
        let found : find_id id (with_default rs (flag x)) ≡ Some (default_row x) = ap (find_id id) added
        ∙ (find-append (λ r. bytes_eq r.id id) rs (default_row x ∷ []) ∙ rw (no_row id rs missing, is) refl) in
        (default_row x, row_stays id xs (with_default rs (flag x)) (default_row x) found, refl, refl)
    go false is h later =
        let still : has_row id (with_default rs (flag x)) ≡ false = ap (has_row id) (flag_adds x rs)
        ∙ kept (has_row x rs) in
        later tt (with_default rs (flag x)) h still
      where
        kept : (b : Bool) → has_row id (cond b rs (rs ++ default_row x ∷ [])) ≡ false
        kept true = missing
        kept false = list_any-append (λ r. bytes_eq r.id id) rs (default_row x ∷ []) ∙ rw (missing, is) refl

-- a flag that was read has the value `true`
flag_there : (id : Text) (f : Form) (given : Given) → has id f.flags ≡ true → flags_true f given ≡ true →
    has_given id given ≡ true → (r : Row) × (find_id id (rows given) ≡ Some r) × (r.values ≡ codes "true" ∷ []) ×
    (r.reading ≡ reading.AsWritten)
unfolding find_id
flag_there id f [] known e is = absurd (true≢false (sym is))
flag_there id f (p ∷ given) known e is = go (bytes_eq p.0 id) (λ h. (bytes_eq-Decides p.0 id).0 h) is (λ h i.
    flag_there id f given known h i)
  where
    ands : (a b : Bool) → (a && b) ≡ true → (a ≡ true) × (b ≡ true)
    ands true b h = (refl, h)
    ands false b h = absurd (true≢false (sym h))

    go : (b : Bool) → (b ≡ true → p.0 ≡ id) → (b || has_given id given) ≡ true
        → (flags_true f given ≡ true → has_given id given ≡ true → (r : Row) × (find_id id (rows given) ≡ Some r) ×
        (r.values ≡ codes "true" ∷ []) × (r.reading ≡ reading.AsWritten))
        → (r : Row) × (cond b (Some (row_at p)) (find (λ r. bytes_eq r.id id) (rows given)) ≡ Some r) ×
        (r.values ≡ codes "true" ∷ []) × (r.reading ≡ reading.AsWritten)
    go true same h later =
        let known_here : has p.0 f.flags ≡ true = ap (λ y. has y f.flags) (same refl) ∙ known in
        let head : (not (has p.0 f.flags) || bytes_eq p.1 (codes "true")) ≡ true =
        (ands (not (has p.0 f.flags) || bytes_eq p.1 (codes "true")) (flags_true f given) e).0 in
        let value : bytes_eq p.1 (codes "true") ≡ true = rw known_here at head in
        (row_at p, refl, ap (λ v. v ∷ []) ((bytes_eq-Decides p.1 (codes "true")).0 value), refl)
    go false same h later = later (ands (not (has p.0 f.flags) || bytes_eq p.1 (codes "true")) (flags_true f given)
        e).1 h

-- what clap has at a flag says whether the flag was read
module _ (name : Text) (f : Form) (first : Text) (words : List Text) (given : Given) (id : Text) where
  pub right_flag : IsForm f → given_by f words ≡ Some given → has id f.flags ≡ true →
      one_of id (matches_of (app_for name f) (first ∷ words)) ≡ Some (flag_text (has_given id given))
  unfolding find_id
  right_flag form e known =
      let w = ended name f words given form e in
      let at_the_end : matches_of (app_for name f) (first ∷ words) ≡ fold with_default (rows given) (rules f) =
      rw (filled_rules f form.few) (rw w.walk (rw w.settles.rows refl)) in
      ap (one_of id) at_the_end
      ∙ (ap (one_of id) (only_flags f (rows given)) ∙ go (has_given id given) refl w.flags)
    where
      value : (r : Row) (v : Text) → r.values ≡ v ∷ [] → r.reading ≡ reading.AsWritten → row_text r ≡ Some v
      value r v h how = rw (h, how) refl

      go : (b : Bool) → has_given id given ≡ b → flags_true f given ≡ true →
          one_of id (fold with_default (rows given) (map flag f.flags)) ≡ Some (flag_text b)
      go true is all =
          let r = flag_there id f given known all is in
          ap (option_and_then row_text) (row_stays id f.flags (rows given) r.0 r.1) ∙ value r.0 (codes "true") r.2 r.3
      go false is all =
          let r = flag_absent id f.flags (rows given) known (has_row_given id given ∙ is) in
          ap (option_and_then row_text) r.1 ∙ value r.0 (codes "false") r.2 r.3

  -- at a name that the form does not have there is nothing
  pub nothing_there : IsForm f → given_by f words ≡ Some given → has id f.positionals ≡ false →
      has id f.options ≡ false → has id f.flags ≡ false →
      (one_of id (matches_of (app_for name f) (first ∷ words)) ≡ None) × (has_given id given ≡ false)
  unfolding find_id
  nothing_there form e place option flag =
      let w = ended name f words given form e in
      let absent = w.outside id place option flag in
      let at_the_end : matches_of (app_for name f) (first ∷ words) ≡ fold with_default (rows given) (rules f) =
      rw (filled_rules f form.few) (rw w.walk (rw w.settles.rows refl)) in (
        ap (one_of id) at_the_end
            ∙ (ap (one_of id) (only_flags f (rows given))
            ∙ ap (option_and_then row_text) (flags_leave id f.flags (rows given) flag
            ∙ no_row id (rows given) (has_row_given id given ∙ absent))),
        absent,
      )
