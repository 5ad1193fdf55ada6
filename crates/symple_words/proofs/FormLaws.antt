-- A form that passes its test, and the reader's promise.
use Rattle.std.proofs.Common.{◌≡◌, ◌∙◌, ◌<◌, ◌&&◌, ◌||◌, ℕ, Bool, true, false, not, zero, suc, refl, sym, ap, arith, List, [], ◌∷◌, length, take, drop, ◌-◌, take_all as take_whole, Option, Some, None, is_some, true≢false}
use Rattle.std.specs.Prelude.{slice_get, unwrap_or, String, codes, nat_lt}
use Rattle.std.specs.Global.{Global}
use Rattle.std.specs.List.{list_all}
use Rattle.std.specs.Str.{bytes_eq}
use Rattle.std.specs.String.{string_bytes}
use Rattle.std.proofs.lemmas.Slice.Eq.{bytes_eq-Decides}
use Rattle.std.proofs.lemmas.Grind.{common_steps}
use Rattle.std.proofs.lemmas.Bool.{or_right, and_parts}
use Rattle.clap.specs.Matches.{found_of}
use Rattle.clap.specs.Walk.{rows_of, first_of, one_of}
use Rattle.clap.specs.Simple.{is_simple, matches_of}
use Rattle.clap.specs.Takes.{takes}
use Rattle.clap.proofs.WalkLemmas.{first_value-rows, one_text-rows}
use Rattle.clap.specs.declared.parser.matches.ArgMatches.{ArgMatches}
use Rattle.symple_words.specs.Texts.{Text, has}
use Rattle.symple_words.specs.Spelling.{Form, Given, given_by, has_given, given_or_none}
use Rattle.symple_words.specs.Asked.{app_for}
use Rattle.symple_words.specs.Views.{words_of}
use Rattle.symple_words.specs.Answers.{ReadsAs, flag_names, flag_text, is_form, is_distinct}
use Rattle.symple_words.specs.Commands.{form_for}
use Rattle.symple_words.specs.declared.verb.Verb.{Verb}
use Rattle.symple_words.specs.declared.verb.Verb.TheVariants as verb
use Rattle.symple_words.proofs.StepLaws.{IsForm}
use Rattle.symple_words.proofs.EndLaws.{simple, right_takes, right_value, right_flag, nothing_there}

is_false : (b : Bool) → not b ≡ true → b ≡ false
is_false true e = absurd (true≢false (sym e))
is_false false e = refl

-- a name that is in the list passes what all pass
passes_in : (p : Text → Bool) (n : Text) (xs : List Text) → list_all p xs ≡ true → has n xs ≡ true → p n ≡ true
passes_in p n [] all e = absurd (true≢false (sym e))
passes_in p n (x ∷ xs) all e = go (bytes_eq x n) (λ h. (bytes_eq-Decides x n).0 h) e (λ h.
    passes_in p n xs (and_parts (p x) (list_all p xs) all).1 h)
  where
    go : (b : Bool) → (b ≡ true → x ≡ n) → (b || has n xs) ≡ true → (has n xs ≡ true → p n ≡ true) → p n ≡ true
    go true is h later = ap p (sym (is refl)) ∙ (and_parts (p x) (list_all p xs) all).0
    go false is h later = later h

same_some : (a b : Text) → Some a ≡ Some b → a ≡ b
same_some a b h = ap (λ o. unwrap_or o a) h

same_text : (t : Text) → bytes_eq t t ≡ true
same_text t = (bytes_eq-Decides t t).1 refl

has_at : (ps : List Text) (k : ℕ) (n : Text) → slice_get ps k ≡ Some n → has n ps ≡ true
has_at [] k n e = absurd (true≢false (ap is_some (sym e)))
has_at (p ∷ ps) zero n e = ap (λ x. bytes_eq x n || has n ps) (same_some p n e) ∙ rw (same_text n) refl
has_at (p ∷ ps) (suc k) n e = or_right (bytes_eq p n) _ (has_at ps k n e)

below_at : (ps : List Text) (k : ℕ) (n : Text) → slice_get ps k ≡ Some n → k < length ps
below_at [] k n e = absurd (true≢false (ap is_some (sym e)))
below_at (p ∷ ps) zero n e = omega arith
below_at (p ∷ ps) (suc k) n e = let h = below_at ps k n e in omega arith

not_among : (m n : Text) (ps : List Text) → has m ps ≡ false → has n ps ≡ true → bytes_eq m n ≡ false
not_among m n ps absent there = go (bytes_eq m n) refl
  where
    go : (b : Bool) → bytes_eq m n ≡ b → b ≡ false
    go false h = refl
    go true h = absurd (true≢false (sym there ∙ (ap (λ x. has x ps) (sym ((bytes_eq-Decides m n).0 h)) ∙ absent)))

module _ (m n : Text) where
  distinct_at : (ps : List Text) (j k : ℕ) → is_distinct ps ≡ true → j < k → slice_get ps j ≡ Some m →
      slice_get ps k ≡ Some n → bytes_eq m n ≡ false
  distinct_at [] j k d lt a b = absurd (true≢false (ap is_some (sym a)))
  distinct_at (p ∷ ps) zero zero d lt a b = absurd (omega arith)
  distinct_at (p ∷ ps) zero (suc k) d lt a b =
      let alone = is_false _ (and_parts (not (has p ps)) (is_distinct ps) d).0 in
      ap (λ x. bytes_eq x n) (sym (same_some p m a)) ∙ not_among p n ps alone (has_at ps k n b)
  distinct_at (p ∷ ps) (suc j) zero d lt a b = absurd (omega arith)
  distinct_at (p ∷ ps) (suc j) (suc k) d lt a b = distinct_at ps j k
      (and_parts (not (has p ps)) (is_distinct ps) d).1 (omega arith) a b

-- a list of which no name passes a test
refused_in : (p : Text → Bool) (n : Text) (xs : List Text) → list_all (λ x. not (p x)) xs ≡ true → p n ≡ true →
    has n xs ≡ false
refused_in p n xs all holds = go (has n xs) refl
  where
    go : (b : Bool) → has n xs ≡ b → b ≡ false
    go false h = refl
    go true h = absurd (true≢false (sym holds ∙ is_false (p n) (passes_in (λ x. not (p x)) n xs all h)))

no_such_flag : (n : Text) (xs : List Text) → list_all (λ x. has x flag_names) xs ≡ true → has n flag_names ≡ false →
    has n xs ≡ false
no_such_flag n xs all absent = go (has n xs) refl
  where
    go : (b : Bool) → has n xs ≡ b → b ≡ false
    go false h = refl
    go true h = absurd (true≢false (sym (passes_in (λ x. has x flag_names) n xs all h) ∙ absent))

first_parts : (p q : Text → Bool) (xs : List Text) → list_all (λ x. p x && q x) xs ≡ true → (list_all p xs ≡ true) ×
    (list_all q xs ≡ true)
first_parts p q [] e = (refl, refl)
first_parts p q (x ∷ xs) e =
    let h = and_parts (p x && q x) (list_all (λ y. p y && q y) xs) e in
    let here = and_parts (p x) (q x) h.0 in
    let later = first_parts p q xs h.1 in
    (rw (here.0, later.0) refl, rw (here.1, later.1) refl)

pub form_from : (f : Form) → is_form f ≡ true → IsForm f
form_from f e =
    let few = and_parts (nat_lt (length f.positionals) 999) _ e in
    let distinct = and_parts (is_distinct f.positionals) _ few.1 in
    let places = and_parts (list_all (λ n. not (has n flag_names)) f.positionals) _ distinct.1 in
    let rest = and_parts (list_all (λ n. not (has n f.positionals) && not (has n flag_names)) f.options) _ places.1 in
    let options = first_parts (λ n. not (has n f.positionals)) (λ n. not (has n flag_names)) f.options rest.0 in
    let named : (n : Text) → has n f.flags ≡ true → has n flag_names ≡ true = λ n h.
    passes_in (λ x. has x flag_names) n f.flags rest.1 h in
    record {
      few = grind (arith, common_steps);
      options = λ n h. (
        is_false _ (passes_in (λ x. not (has x f.positionals)) n f.options options.0 h),
        no_such_flag n f.flags rest.1 (is_false _ (passes_in (λ x. not (has x flag_names)) n f.options options.1 h)),
      );
      flags = λ n h. refused_in (λ x. has x flag_names) n f.positionals places.0 (named n h);
      no_flag = λ n h. no_such_flag n f.flags rest.1 h;
      flag_alone = λ n h. (
        refused_in (λ x. has x flag_names) n f.positionals places.0 h,
        refused_in (λ x. has x flag_names) n f.options options.1 h,
      );
      places = λ k n h. has_at f.positionals k n h;
      below = λ k n h. below_at f.positionals k n h;
      apart = λ j k m n lt a b. distinct_at m n f.positionals j k distinct.0 lt a b;
    }

pub forms_right : (v : Verb) → is_form (form_for v) ≡ true
forms_right verb.Run = refl
forms_right verb.Record = refl
forms_right verb.Replay = refl
forms_right verb.Resume = refl
forms_right verb.Show = refl
forms_right verb.Free = refl
forms_right verb.Plan = refl
forms_right verb.Demo = refl
forms_right verb.Renew = refl
forms_right verb.Split = refl
forms_right verb.Worker = refl

-- ---- what the calls of clap say, of words whose first is the command

first_and_rest : (words : List (String Global)) → 0 < length words → (w : Text) ×
    (words_of words ≡ w ∷ words_of (drop 1 words))
first_and_rest [] lt = absurd (omega arith)
first_and_rest (w ∷ words) lt = (string_bytes w, refl)

from_some : (o : Option Given) → true ≡ is_some o → o ≡ Some (unwrap_or o [])
from_some (Some g) e = refl
from_some None e = absurd (true≢false e)

pub taken : (name : Text) (f : Form) (words : List (String Global)) → is_form f ≡ true → 0 < length words →
    true ≡ is_some (given_by f (words_of (drop 1 words)))
    → takes (app_for name f) (words_of words) ≡ true
taken name f words form lt e =
    let w = first_and_rest words lt in
    ap (takes (app_for name f)) w.1 ∙ right_takes name f w.0 (words_of (drop 1 words)) _ (form_from f form)
    (from_some _ e)

-- what clap has at a flag that the form has, or may have
module _ (name : Text) (f : Form) (first : Text) (words : List Text) (given : Given) (id : Text) where
  says_flag : IsForm f → given_by f words ≡ Some given → has id flag_names ≡ true →
      unwrap_or (one_of id (matches_of (app_for name f) (first ∷ words))) (codes "false") ≡ flag_text (has_given
      id given)
  says_flag form e known = go (has id f.flags) refl
    where
      go : (b : Bool) → has id f.flags ≡ b →
          unwrap_or (one_of id (matches_of (app_for name f) (first ∷ words))) (codes "false")
          ≡ flag_text (has_given id given)
      go true h = ap (λ o. unwrap_or o (codes "false")) (right_flag name f first words given id form e h)
      go false h =
          let alone = form.flag_alone id known in
          let nothing = nothing_there name f first words given id form e alone.0 alone.1 h in
          ap (λ o. unwrap_or o (codes "false")) nothing.0 ∙ sym (ap flag_text nothing.1)

pub reads_as : (name : Text) (f : Form) (words : List (String Global)) (m : ArgMatches) → is_form f ≡ true →
    0 < length words
    → true ≡ is_some (given_by f (words_of (drop 1 words))) →
    rows_of (found_of m) ≡ matches_of (app_for name f) (words_of words)
    → ReadsAs f (words_of (drop 1 words)) m
reads_as name f words m form lt e is =
    let w = first_and_rest words lt in
    let rest = words_of (drop 1 words) in
    let spelt : given_by f rest ≡ Some (given_or_none f rest) = from_some _ e in
    let rows = is ∙ ap (matches_of (app_for name f)) w.1 in
    record {
      spelt = spelt;
      values = λ id h. first_value-rows (found_of m) id
          ∙ (ap (first_of id) rows ∙ right_value name f w.0 rest _ id (form_from f form) spelt
          ((form_from f form).no_flag id h));
      flags = λ id h. ap (λ o. unwrap_or o (codes "false")) (one_text-rows (found_of m) id ∙ ap (one_of id) rows)
          ∙ says_flag name f w.0 rest _ id (form_from f form) spelt h;
    }

-- the words behind the first, as the code takes them
pub behind_first : (words : List (String Global)) → take (length words - 1) (drop 1 words) ≡ drop 1 words
behind_first [] = refl
behind_first (w ∷ words) = take_all words
  where
    take_all : (xs : List (String Global)) → take (suc (length xs) - 1) xs ≡ xs
    take_all xs = take_whole (suc (length xs) - 1) xs (omega arith)

-- what the own check says of them
pub right_spelling : (f : Form) (words : List (String Global)) (b : Bool) →
    b ≡ is_some (given_by f (words_of (take (length words - 1) (drop 1 words)))) → b ≡ true
    → true ≡ is_some (given_by f (words_of (drop 1 words)))
right_spelling f words b e h = sym h ∙ (e ∙ ap (λ l. is_some (given_by f (words_of l))) (behind_first words))

pub simple_for : (name : Text) (f : Form) → is_form f ≡ true → is_simple (app_for name f) ≡ true
simple_for name f form = simple name f (form_from f form).few
