-- The loop over the words, by the names alone that were read.
use Rattle.std.proofs.Common.{◌≡◌, ◌∙◌, ◌<◌, ◌≤◌, ◌+◌, ℕ, Bool, cond, true, false, refl, sym, ap, arith, List, [], ◌∷◌, length, drop, Option, Some, None, is_some, option_map}
use Rattle.std.specs.Prelude.{option_and_then, String}
use Rattle.std.specs.Global.{Global}
use Rattle.std.specs.List.{slice_index_or}
use Rattle.std.specs.String.{string_bytes}
use Rattle.std.proofs.lemmas.List.{drop_more, map-append}
use Rattle.symple_words.specs.Texts.{Text}
use Rattle.symple_words.specs.Spelling.{Form, Stand, Move, Tally, gives, waits, places, names_of, next_move, advanced, moved, read_from, nothing_read, is_whole, whole, given_by}
use Rattle.symple_words.specs.Views.{words_of}

-- what a stand of the reading comes to
abbrev pub tally_of : Stand → Tally
tally_of s = record { names = names_of s.given; waiting = s.waiting; count = s.count }

goes_on : (f : Form) (s : Stand) (word : Text) (rest : List Text) (m : Move) → next_move f (tally_of s) word ≡ Some m
    → read_from f s (word ∷ rest) ≡ read_from f (moved s m) rest
unfolding read_from
goes_on f s word rest m e = ap (λ o. option_and_then (λ t. read_from f t rest) (option_map (moved s) o)) e

stops : (f : Form) (s : Stand) (word : Text) (rest : List Text) → next_move f (tally_of s) word ≡ None →
    read_from f s (word ∷ rest) ≡ None
unfolding read_from
stops f s word rest e = ap (λ o. option_and_then (λ t. read_from f t rest) (option_map (moved s) o)) e

pub refused : (f : Form) (words : List Text) → read_from f nothing_read words ≡ None →
    false ≡ is_some (given_by f words)
refused f words e = sym (ap (λ o. is_some (option_and_then (whole f) o)) e)

pub at_the_end : (f : Form) (s : Stand) (t : Tally) (words : List Text) → tally_of s ≡ t →
    read_from f s [] ≡ read_from f nothing_read words
    → is_whole f t.waiting t.count ≡ is_some (given_by f words)
unfolding read_from
at_the_end f s t words is e =
    ap (λ (x : Tally). is_whole f x.waiting x.count) (sym is)
    ∙ (go (is_whole f s.waiting s.count) ∙ ap (λ o. is_some (option_and_then (whole f) o)) e)
  where
    go : (b : Bool) → b ≡ is_some (cond b (Some s.given) None)
    go true = refl
    go false = refl

moved_tally : (s : Stand) (m : Move) → tally_of (moved s m) ≡ advanced (tally_of s) m
moved_tally s (gives name value) = ap (λ l. record { names = l; waiting = None; count = s.count })
    (map-append (λ p. p.0) s.given ((name, value) ∷ []))
moved_tally s (waits name) = refl
moved_tally s (places name value) = ap (λ l. record { names = l; waiting = None; count = s.count + 1 })
    (map-append (λ p. p.0) s.given ((name, value) ∷ []))

left_at : (words : List (String Global)) (i : ℕ) (d : String Global) (word : Text) → i < length words →
    d ≡ slice_index_or words i d → word ≡ string_bytes d
    → words_of (drop i words) ≡ word ∷ words_of (drop (i + 1) words)
left_at words i d word lt at is = ap words_of (drop_more words i d lt)
    ∙ ap (λ t. t ∷ words_of (drop (i + 1) words)) (ap (λ s. string_bytes s) (sym at) ∙ sym is)

-- a stand with this tally reads the words that are left as the whole is read
pub record Reads (f : Form) (t : Tally) (rest : List Text) (whole : Option Stand) : Type 0 where
  pub stand : Stand
  pub tally : tally_of stand ≡ t
  pub same : read_from f stand rest ≡ whole

module _ (f : Form) (t u : Tally) (words : List (String Global)) (i : ℕ) (d : String Global) (word : Text)
    (m : Move) (whole : Option Stand) where
  pub turn : Reads f t (words_of (drop i words)) whole → i < length words → d ≡ slice_index_or words i d →
      word ≡ string_bytes d → Some m ≡ next_move f t word → u ≡ advanced t m →
      Reads f u (words_of (drop (i + 1) words)) whole
  turn r lt at is move next = record {
    stand = moved r.stand m;
    tally = moved_tally r.stand m ∙ (ap (λ x. advanced x m) r.tally ∙ sym next);
    same = sym (goes_on f r.stand word (words_of (drop (i + 1) words)) m (ap (λ x. next_move f x word) r.tally
        ∙ sym move))
        ∙ (ap (read_from f r.stand) (sym (left_at words i d word lt at is)) ∙ r.same);
  }

module _ (f : Form) (t : Tally) (words : List (String Global)) (i : ℕ) (d : String Global) (word : Text)
    (whole : Option Stand) where
  pub turn_stops : Reads f t (words_of (drop i words)) whole → i < length words → d ≡ slice_index_or words i d →
      word ≡ string_bytes d → None ≡ next_move f t word → whole ≡ None
  turn_stops r lt at is move =
      sym r.same ∙ (ap (read_from f r.stand) (left_at words i d word lt at is)
      ∙ stops f r.stand word (words_of (drop (i + 1) words)) (ap (λ x. next_move f x word) r.tally ∙ sym move))

pub count_grows : (t u : Tally) (m : Move) (n : ℕ) → u ≡ advanced t m → t.count ≤ n → u.count ≤ n + 1
count_grows t u m n e le = by_move m (ap (λ (x : Tally). x.count) e)
  where
    by_move : (m' : Move) → u.count ≡ (advanced t m').count → u.count ≤ n + 1
    by_move (gives name value) h = omega arith
    by_move (waits name) h = omega arith
    by_move (places name value) h = omega arith
