-- Words that are spelt as the form says: clap takes them, and has what was read.
use Rattle.std.proofs.Common.{◌≡◌, ◌∙◌, ◌+◌, ◌&&◌, ◌||◌, ℕ, Bool, cond, true, false, not, suc, refl, sym, ap, ap₂, subst, arith, List, [], ◌∷◌, ◌++◌, Option, Some, None, is_some, true≢false, codes}
use Rattle.std.specs.Prelude.{slice_get, option_map, option_and_then, unwrap_or, fold}
use Rattle.std.specs.List.{list_all}
use Rattle.std.specs.Str.{bytes_eq}
use Rattle.std.proofs.lemmas.Slice.Eq.{bytes_eq-Decides}
use Rattle.std.proofs.lemmas.List.{map-append}
use Rattle.std.proofs.lemmas.List.Folds.{list_any-append, list_all-append}
use Rattle.std.proofs.lemmas.Bool.{or_right}
use Rattle.clap.specs.Walk.{Held, Walk, idle, option, walked}
use Rattle.clap.specs.Takes.{walk_passes}
use Rattle.symple_words.specs.Texts.{Text, is_plain, option_of, has}
use Rattle.symple_words.specs.Spelling.{Form, Given, Stand, Move, gives, places, names_of, has_given, moved, move_of, fresh_move, option_move, place_move, valued_move, flag_move, step, read_from}
use Rattle.symple_words.proofs.TableLaws.{rules, shape_for}
use Rattle.symple_words.proofs.StepLaws.{Stands, StandsBy, Settles, IsForm, Fresh, Keeps, walk_at, awaiting, attached, begun, flagged, filled_in, placed_in}

-- every flag that was read has the value `true`
abbrev pub flags_true : Form → Given → Bool
flags_true f given = list_all (λ p. not (has p.0 f.flags) || bytes_eq p.1 (codes "true")) given

-- what the reading keeps of its own
pub record Sound (f : Form) (given : Given) (count : ℕ) : Type 0 where
  pub fresh : Fresh f given count
  pub flags : flags_true f given ≡ true
  pub outside : (id : Text) → has id f.positionals ≡ false → has id f.options ≡ false → has id f.flags ≡ false →
      has_given id given ≡ false

not_given : (n name value : Text) (given : Given) → has_given n given ≡ false → bytes_eq name n ≡ false →
    has_given n (given ++ (name, value) ∷ []) ≡ false
not_given n name value given e other =
    ap (has n) (map-append (λ p. p.0) given ((name, value) ∷ []))
    ∙ (list_any-append (λ m. bytes_eq m n) (names_of given) (name ∷ []) ∙ rw (e, other) refl)

-- a name that is in a list differs from one that is not
differs : (names : List Text) (name id : Text) → has name names ≡ true → has id names ≡ false → bytes_eq name id ≡ false
differs names name id there absent = go (bytes_eq name id) refl
  where
    go : (b : Bool) → bytes_eq name id ≡ b → b ≡ false
    go false h = refl
    go true h =
        let same : name ≡ id = (bytes_eq-Decides name id).0 h in
        absurd (true≢false (sym there ∙ (ap (λ x. has x names) same ∙ absent)))

differs' : (names : List Text) (name id : Text) → has name names ≡ false → has id names ≡ true →
    bytes_eq name id ≡ false
differs' names name id absent there = go (bytes_eq name id) refl
  where
    go : (b : Bool) → bytes_eq name id ≡ b → b ≡ false
    go false h = refl
    go true h =
        let same : name ≡ id = (bytes_eq-Decides name id).0 h in
        absurd (true≢false (sym there ∙ (ap (λ x. has x names) (sym same) ∙ absent)))

fresh_more : (f : Form) (given : Given) (count : ℕ) (name value : Text) → IsForm f → Fresh f given count →
    has name f.positionals ≡ false → Fresh f (given ++ (name, value) ∷ []) count
fresh_more f given count name value form fresh absent k n le at = not_given n name value given (fresh k n le at)
    (differs' f.positionals name n absent (form.places k n at))

fresh_placed : (f : Form) (given : Given) (count : ℕ) (name value : Text) → IsForm f → Fresh f given count →
    slice_get f.positionals count ≡ Some name → Fresh f (given ++ (name, value) ∷ []) (count + 1)
fresh_placed f given count name value form fresh here k n le at = not_given n name value given
    (fresh k n (omega arith) at) (form.apart count k name n (omega arith) here at)

true_more : (f : Form) (given : Given) (name value : Text) → flags_true f given ≡ true →
    (not (has name f.flags) || bytes_eq value (codes "true")) ≡ true → flags_true f (given ++ (name, value) ∷ []) ≡ true
true_more f given name value e last = list_all-append (λ p. not (has p.0 f.flags) || bytes_eq p.1 (codes "true"))
    given ((name, value) ∷ []) ∙ rw (e, last) refl

not_in_flags : (f : Form) (name value : Text) → has name f.flags ≡ false →
    (not (has name f.flags) || bytes_eq value (codes "true")) ≡ true
not_in_flags f name value e = rw e refl

no_positional_flag : (f : Form) (name : Text) → IsForm f → has name f.positionals ≡ true → has name f.flags ≡ false
no_positional_flag f name form is = go (has name f.flags) refl
  where
    go : (b : Bool) → has name f.flags ≡ b → b ≡ false
    go false h = refl
    go true h = absurd (true≢false (sym is ∙ form.flags name h))

more_option : (f : Form) (given : Given) (count : ℕ) (name value : Text) → IsForm f → Sound f given count →
    has name f.options ≡ true → Sound f (given ++ (name, value) ∷ []) count
more_option f given count name value form s is =
    record {
      fresh = fresh_more f given count name value form s.fresh (form.options name is).0;
      flags = true_more f given name value s.flags (not_in_flags f name value (form.options name is).1);
      outside = λ id p o g. not_given id name value given (s.outside id p o g) (differs f.options name id is o);
    }

more_flag : (f : Form) (given : Given) (count : ℕ) (name : Text) → IsForm f → Sound f given count →
    has name f.flags ≡ true → Sound f (given ++ (name, codes "true") ∷ []) count
more_flag f given count name form s is =
    record {
      fresh = fresh_more f given count name (codes "true") form s.fresh (form.flags name is);
      flags = true_more f given name (codes "true") s.flags (or_right _ _ refl);
      outside = λ id p o g. not_given id name (codes "true") given (s.outside id p o g) (differs f.flags name id is g);
    }

more_place : (f : Form) (given : Given) (count : ℕ) (name value : Text) → IsForm f → Sound f given count →
    slice_get f.positionals count ≡ Some name → Sound f (given ++ (name, value) ∷ []) (count + 1)
more_place f given count name value form s at =
    record {
      fresh = fresh_placed f given count name value form s.fresh at;
      flags = true_more f given name value s.flags
          (not_in_flags f name value (no_positional_flag f name form (form.places count name at)));
      outside = λ id p o g. not_given id name value given (s.outside id p o g)
          (differs f.positionals name id (form.places count name at) p);
    }

-- ---- one word

-- a move that is made where a test holds
kept_if : (b : Bool) (s : Stand) (m : Move) (t : Stand) → option_map (moved s) (cond b (Some m) None) ≡ Some t →
    (b ≡ true) × (moved s m ≡ t)
kept_if true s m t e = (refl, ap (λ o. unwrap_or o t) e)
kept_if false s m t e = absurd (true≢false (ap is_some (sym e)))

same_some : (x t : Stand) → Some x ≡ Some t → x ≡ t
same_some x t e = ap (λ o. unwrap_or o x) e

abbrev Goes : Text → Form → Walk → Text → Stand → Type 0
Goes n f w word t = Keeps n f t w word × Sound f t.given t.count

abbrev stand : Given → ℕ → Option Text → Stand
stand given count waiting = record { given = given; waiting = waiting; count = count }

module _ (n : Text) (f : Form) (given : Given) (count : ℕ) (h : Held) (word name : Text) (value : Option Text)
    (t : Stand) where
  by_option : IsForm f → Settles f given h → Sound f given count → option_of word ≡ Some (name, value) →
      option_map (moved (stand given count None)) (option_move f (names_of given) name value) ≡ Some t →
      Goes n f (walk_at h idle (suc count)) word t
  by_option form held sound is e = go (has_given name given) (has name f.options)
      (has name f.flags) refl refl refl value is e
    where
      go : (a b c : Bool) → has_given name given ≡ a → has name f.options ≡ b → has name f.flags ≡ c →
          (v : Option Text) → option_of word ≡ Some (name, v)
          → option_map (moved (stand given count None))
          (cond a None (cond b (valued_move name v) (cond c (flag_move name v) None))) ≡ Some t
          → Goes n f (walk_at h idle (suc count)) word t
      go true b c x y z v is e = absurd (true≢false (ap is_some (sym e)))
      go false true c x y z None is e =
          subst (λ (u : Stand). Goes n f (walk_at h idle (suc count)) word u) (same_some _ t e)
          (begun n f given count h word name held is y x, sound)
      go false true c x y z (Some v) is e =
          let k = kept_if (is_plain v) (stand given count None) (gives name v) t e in
          subst (λ (u : Stand). Goes n f (walk_at h idle (suc count)) word u) k.1
          (attached n f given count h word name v held is y x, more_option f given count name v form sound y)
      go false false true x y z None is e =
          subst (λ (u : Stand). Goes n f (walk_at h idle (suc count)) word u) (same_some _ t e)
          (flagged n f given count h word name held is y z x, more_flag f given count name form sound z)
      go false false true x y z (Some v) is e = absurd (true≢false (ap is_some (sym e)))
      go false false false x y z v is e = absurd (true≢false (ap is_some (sym e)))

module _ (n : Text) (f : Form) (given : Given) (count : ℕ) (h : Held) (word : Text) (t : Stand) where
  by_place : IsForm f → Settles f given h → Sound f given count →
      option_map (moved (stand given count None)) (place_move f count word) ≡ Some t →
      Goes n f (walk_at h idle (suc count)) word t
  by_place form held sound e = go (is_plain word) (slice_get f.positionals count) refl refl e
    where
      go : (b : Bool) (o : Option Text) → is_plain word ≡ b → slice_get f.positionals count ≡ o
          → option_map (moved (stand given count None)) (cond b (option_map (λ name. places name word) o) None) ≡
          Some t
          → Goes n f (walk_at h idle (suc count)) word t
      go false o x y e = absurd (true≢false (ap is_some (sym e)))
      go true None x y e = absurd (true≢false (ap is_some (sym e)))
      go true (Some name) x y e =
          subst (λ (u : Stand). Goes n f (walk_at h idle (suc count)) word u) (same_some _ t e) (
            placed_in n f given count h word name form held x y (sound.fresh count name (omega arith) y),
            more_place f given count name word form sound y,
          )

module _ (n : Text) (f : Form) (given : Given) (count : ℕ) where
  one_word : (waiting : Option Text) (w : Walk) (word : Text) (t : Stand) → IsForm f →
      StandsBy f given count w waiting → Sound f given count →
      option_map (moved (stand given count waiting)) (move_of f (names_of given) waiting count word) ≡ Some t →
      Goes n f w word t
  one_word (Some name) w word t form stands sound e =
      let k = kept_if (is_plain word) (stand given count (Some name)) (gives name word) t e in
      subst (λ v. Goes n f v word t) (sym stands.0)
      (subst (λ (u : Stand). Goes n f (walk_at (awaiting given name []) (option name) (suc count)) word u) k.1 (
        filled_in n f given count word name form k.0 stands.1 stands.2,
        more_option f given count name word form sound stands.1,
      ))
  one_word None w word t form stands sound e =
      subst (λ v. Goes n f v word t) (sym stands.1) (go (option_of word) refl e)
    where
      go : (o : Option (Text × Option Text)) → option_of word ≡ o →
          option_map (moved (stand given count None)) (fresh_move f (names_of given) count word o) ≡ Some t →
          Goes n f (walk_at stands.0 idle (suc count)) word t
      go (Some p) is e = by_option n f given count stands.0 word p.0 p.1 t form stands.2 sound is e
      go None is e = by_place n f given count stands.0 word t form stands.2 sound e

-- ---- all the words

pub record Walks (n : Text) (f : Form) (w : Walk) (words : List Text) (t : Stand) : Type 0 where
  pub passes : walk_passes (shape_for n f) [] w words ≡ true
  pub stands : Stands f t (fold (walked (rules f) []) w words)
  pub sound : Sound f t.given t.count

module _ (n : Text) (f : Form) where
  pub all_words : (words : List Text) (s : Stand) (w : Walk) (t : Stand) → IsForm f → Stands f s w →
      Sound f s.given s.count → read_from f s words ≡ Some t → Walks n f w words t
  unfolding read_from walk_passes
  all_words [] s w t form stands sound e =
      let same = same_some s t e in
      record {
        passes = refl;
        stands = subst (λ (u : Stand). Stands f u w) same stands;
        sound = subst (λ (u : Stand). Sound f u.given u.count) same sound;
      }
  all_words (word ∷ rest) s w t form stands sound e = go (step f s word) refl e (λ u v st so h.
      all_words rest u v t form st so h)
    where
      go : (o : Option Stand) → step f s word ≡ o → option_and_then (λ u. read_from f u rest) o ≡ Some t
          → ((u : Stand) (v : Walk) → Stands f u v → Sound f u.given u.count → read_from f u rest ≡ Some t →
          Walks n f v rest t) → Walks n f w (word ∷ rest) t
      go None is e later = absurd (true≢false (ap is_some (sym e)))
      go (Some u) is e later =
          let one = one_word n f s.given s.count s.waiting w word u form stands sound is in
          let more = later u (walked (rules f) [] w word) one.0.stands one.1 e in
          record {
            passes = ap₂ (λ x y. x && y) one.0.passes more.passes;
            stands = more.stands;
            sound = more.sound;
          }
