-- A word that the spelling allows is a word that clap takes, and both hold the same afterwards.
use Rattle.std.proofs.Common.{◌≡◌, ◌∙◌, ◌<◌, ◌≤◌, ◌+◌, ◌&&◌, ◌||◌, ◌==◌, ℕ, Bool, cond, true, false, not, suc, refl, sym, ap, arith, List, [], ◌∷◌, ◌++◌, map, length, min, Option, Some, None, is_some, true≢false, append-nil, codes}
use Rattle.std.specs.Prelude.{slice_get}
use Rattle.std.specs.Str.{bytes_eq}
use Rattle.std.proofs.lemmas.Slice.Eq.{bytes_eq-Decides}
use Rattle.std.proofs.lemmas.List.{map-append}
use Rattle.std.proofs.lemmas.Bool.{or_right}
use Rattle.clap.specs.Lexer.{long_of, short_of, usize_max}
use Rattle.clap.specs.Walk.{Held, Row, Rule, Waiting, Walk, idle, option, after_step, arg_by_id, arg_by_index, arg_by_long, at_row, with_values, without, settled, walked, has_row, reading_by, long_or_other, more_values, settled_rows, used}
use Rattle.clap.specs.Simple.{Shape}
use Rattle.clap.specs.Takes.{flag_word_passes, settle_passes, step_passes, turn_passes}
use Rattle.clap.specs.declared.parser.matches.ValueSource.TheVariants.{CommandLine}
use Rattle.clap.specs.declared.builder.value_parser.Reading.TheVariants as reading
use Rattle.symple_words.specs.Texts.{Text, is_plain, option_of, has}
use Rattle.symple_words.specs.Spelling.{Form, Given, Stand, has_given}
use Rattle.symple_words.specs.Answers.{flag_names}
use Rattle.symple_words.proofs.TextLaws.{same_option}
use Rattle.symple_words.proofs.TableLaws.{place, rules, shape_for, long_choice, long_flag, id_choice, id_place, index_place}

-- ---- rows

abbrev pub row_at : Text × Text → Row
row_at p = record { id = p.0; values = p.1 ∷ []; count = None; source = Some CommandLine; reading = reading.AsWritten }

abbrev pub rows : Given → List Row
rows = map row_at

row_missing : (id : Text) (change : Row → List Row) (missing : List Row) (given : Given) → has_given id given ≡ false
    → at_row id change missing (rows given) ≡ rows given ++ missing
row_missing id change missing [] e = refl
row_missing id change missing (p ∷ given) e = go (bytes_eq p.0 id) e (row_missing id change missing given)
  where
    go : (b : Bool) → (b || has_given id given) ≡ false →
        (has_given id given ≡ false → at_row id change missing (rows given) ≡ rows given ++ missing)
        → cond b (change (row_at p) ++ rows given) (row_at p ∷ at_row id change missing (rows given)) ≡ row_at p
        ∷ (rows given ++ missing)
    go true h ih = absurd (true≢false h)
    go false h ih = ap (λ rs. row_at p ∷ rs) (ih h)

pub rows_with : (id value : Text) (given : Given) → has_given id given ≡ false
    → with_values id reading.AsWritten CommandLine (value ∷ []) (without id (rows given))
    ≡ rows (given ++ (id, value) ∷ [])
rows_with id value given e =
    ap (with_values id reading.AsWritten CommandLine (value ∷ [])) (row_missing id (λ _. []) [] given e
    ∙ append-nil (rows given))
    ∙ (row_missing id (more_values CommandLine (value ∷ [])) (row_at (id, value) ∷ []) given e
    ∙ sym (map-append row_at given ((id, value) ∷ [])))

pub has_row_given : (id : Text) (given : Given) → has_row id (rows given) ≡ has_given id given
has_row_given id [] = refl
has_row_given id (p ∷ given) = ap (λ b. bytes_eq p.0 id || b) (has_row_given id given)

-- ---- where both stand

abbrev pub awaiting : Given → Text → List Text → Held
awaiting given id values = record { rows = rows given; pending = Some (id, values); skip = 0 }

pub record Settles (f : Form) (given : Given) (h : Held) : Type 0 where
  pub rows : settled_rows (rules f) h.pending h.rows ≡ rows given
  pub skip : h.skip ≡ 0
  pub passes : settle_passes (rules f) false h ≡ true

abbrev pub walk_at : Held → Waiting → ℕ → Walk
walk_at h w position = record { held = h; waiting = w; position = position; is_trailing = false; stopped = None }

abbrev pub StandsBy : Form → Given → ℕ → Walk → Option Text → Type 0
StandsBy f given count w None = (h : Held) × (w ≡ walk_at h idle (suc count)) × Settles f given h
StandsBy f given count w (Some id) = (w ≡ walk_at (awaiting given id []) (option id) (suc count)) ×
    (has id f.options ≡ true) × (has_given id given ≡ false)

-- the walk of clap holds what was read
abbrev pub Stands : Form → Stand → Walk → Type 0
Stands f s w = StandsBy f s.given s.count w s.waiting

-- what the form has to be
pub record IsForm (f : Form) : Type 0 where
  pub few : length f.positionals < 999
  pub options : (n : Text) → has n f.options ≡ true → (has n f.positionals ≡ false) × (has n f.flags ≡ false)
  pub flags : (n : Text) → has n f.flags ≡ true → has n f.positionals ≡ false
  pub no_flag : (n : Text) → has n flag_names ≡ false → has n f.flags ≡ false
  pub flag_alone : (n : Text) → has n flag_names ≡ true → (has n f.positionals ≡ false) × (has n f.options ≡ false)
  pub apart : (j k : ℕ) (m n : Text) → j < k → slice_get f.positionals j ≡ Some m → slice_get f.positionals k ≡ Some n
      → bytes_eq m n ≡ false
  pub places : (k : ℕ) (n : Text) → slice_get f.positionals k ≡ Some n → has n f.positionals ≡ true
  pub below : (k : ℕ) (n : Text) → slice_get f.positionals k ≡ Some n → k < length f.positionals

-- the positionals that are left were not read
abbrev pub Fresh : Form → Given → ℕ → Type 0
Fresh f given count = (k : ℕ) (n : Text) → count ≤ k → slice_get f.positionals k ≡ Some n → has_given n given ≡ false

-- ---- the two dashes

dashes : Text
dashes = 45 ∷ 45 ∷ []

pub not_dashes_option : (word : Text) (p : Text × Option Text) → option_of word ≡ Some p →
    bytes_eq word (45 ∷ 45 ∷ []) ≡ false
not_dashes_option word p e = go (bytes_eq word (45 ∷ 45 ∷ [])) refl
  where
    go : (b : Bool) → bytes_eq word (45 ∷ 45 ∷ []) ≡ b → b ≡ false
    go false h = refl
    go true h =
        let is : word ≡ 45 ∷ 45 ∷ [] = (bytes_eq-Decides word (45 ∷ 45 ∷ [])).0 h in
        absurd (true≢false (sym (sym (ap (λ w. is_some (option_of w)) is) ∙ ap is_some e)))

-- a plain word is no flag and no option
pub record IsPlainWord (word : Text) : Type 0 where
  pub dashes : bytes_eq word (45 ∷ 45 ∷ []) ≡ false
  pub long : long_of word ≡ None
  pub short : short_of word ≡ None

pub plain_word : (word : Text) → is_plain word ≡ true → IsPlainWord word
plain_word [] e = absurd (true≢false (sym e))
plain_word (b ∷ rest) e = go (b == 45) refl e
  where
    go : (x : Bool) → (b == 45) ≡ x → not x ≡ true → IsPlainWord (b ∷ rest)
    go true is h = absurd (true≢false (sym h))
    go false is h = record {
      dashes = rw is refl;
      long = rw is refl;
      short = rw is refl;
    }

-- ---- what one word does, where it is not `--`

pub walked_word : (c : List Rule) (h : Held) (w : Waiting) (position : ℕ) (word : Text) →
    bytes_eq word (45 ∷ 45 ∷ []) ≡ false
    → Rattle.clap.specs.Walk.subcommand_met [] w word ≡ None
    → walked c [] (walk_at h w position) word
    ≡ after_step c word (walk_at h w position) (long_or_other c w word (long_of word) h).0
    (long_or_other c w word (long_of word) h).1
unfolding walked
walked_word c h w position word other none = rw (none, other) refl

pub turn_word : (s : Shape) (h : Held) (w : Waiting) (position : ℕ) (word : Text) → bytes_eq word (45 ∷ 45 ∷ []) ≡ false
    → Rattle.clap.specs.Walk.subcommand_met [] w word ≡ None
    → turn_passes s [] (walk_at h w position) word
    ≡ (flag_word_passes s.rules s.args_override_self (long_of word) word h
    && step_passes s position (long_or_other s.rules w word (long_of word) h).0
    (long_or_other s.rules w word (long_of word) h).1)
turn_word s h w position word other none = rw (none, other) refl

and_false : (a : Bool) → (a && false) ≡ false
and_false true = refl
and_false false = refl

-- ---- each kind of word

-- what one step keeps
pub record Keeps (name : Text) (f : Form) (s : Stand) (w : Walk) (word : Text) : Type 0 where
  pub passes : turn_passes (shape_for name f) [] w word ≡ true
  pub stands : Stands f s (walked (rules f) [] w word)

-- `--name=value`
module _ (n : Text) (f : Form) (given : Given) (count : ℕ) (h : Held) (word name value : Text) where
  pub attached : Settles f given h → option_of word ≡ Some (name, Some value) → has name f.options ≡ true →
      has_given name given ≡ false →
      Keeps n f (record { given = given ++ (name, value) ∷ []; waiting = None; count = count }) (walk_at h idle
      (suc count)) word
  attached held is known new =
      let other = not_dashes_option word _ is in
      let long : long_of word ≡ Some (name, Some value) = same_option word ∙ is in
      let found = long_choice f name known in
      let row : has_row name (rows given) ≡ false = has_row_given name given ∙ new in
      record {
        passes = turn_word (shape_for n f) h idle (suc count) word other refl
            ∙ rw (long, found) (rw (held.passes, held.rows, row) refl);
        stands = (
          record { rows = rows (given ++ (name, value) ∷ []); pending = None; skip = 0 },
          walked_word (rules f) h idle (suc count) word other refl
              ∙ rw (long, found) (rw (held.rows, held.skip)
              (ap (λ rs. walk_at (record { rows = rs; pending = None; skip = 0 }) idle (suc count))
              (rows_with name value given new))),
          record { rows = refl; skip = refl; passes = refl },
        );
      }

-- `--name`, whose value is the next word
module _ (n : Text) (f : Form) (given : Given) (count : ℕ) (h : Held) (word name : Text) where
  pub begun : Settles f given h → option_of word ≡ Some (name, None) → has name f.options ≡ true →
      has_given name given ≡ false →
      Keeps n f (record { given = given; waiting = Some name; count = count }) (walk_at h idle (suc count)) word
  begun held is known new =
      let other = not_dashes_option word _ is in
      let long : long_of word ≡ Some (name, None) = same_option word ∙ is in
      let found = long_choice f name known in
      record {
        passes = turn_word (shape_for n f) h idle (suc count) word other refl
            ∙ rw (long, found) (rw (held.passes) refl);
        stands = (
          walked_word (rules f) h idle (suc count) word other refl
              ∙ rw (long, found) (rw (held.rows, held.skip) refl),
          known,
          new,
        );
      }

  -- `--name`, a flag
  pub flagged : Settles f given h → option_of word ≡ Some (name, None) → has name f.options ≡ false →
      has name f.flags ≡ true → has_given name given ≡ false →
      Keeps n f (record { given = given ++ (name, codes "true") ∷ []; waiting = None; count = count }) (walk_at
      h idle (suc count)) word
  flagged held is unknown known new =
      let other = not_dashes_option word _ is in
      let long : long_of word ≡ Some (name, None) = same_option word ∙ is in
      let found = long_flag f name unknown known in
      let row : has_row name (rows given) ≡ false = has_row_given name given ∙ new in
      record {
        passes = turn_word (shape_for n f) h idle (suc count) word other refl
            ∙ rw (long, found) (rw (held.passes, held.rows, row) refl);
        stands = (
          record { rows = rows (given ++ (name, codes "true") ∷ []); pending = None; skip = 0 },
          walked_word (rules f) h idle (suc count) word other refl
              ∙ rw (long, found) (rw (held.rows, held.skip)
              (ap (λ rs. walk_at (record { rows = rs; pending = None; skip = 0 }) idle (suc count))
              (rows_with name (codes "true") given new))),
          record { rows = refl; skip = refl; passes = refl },
        );
      }

-- a value that waits to be settled
pub pending_place : (f : Form) (given : Given) (name word : Text) → has name f.positionals ≡ true →
    has_given name given ≡ false
    → Settles f (given ++ (name, word) ∷ []) (awaiting given name (word ∷ []))
pending_place f given name word known new =
    let found = id_place f name known in
    let row : has_row name (rows given) ≡ false = has_row_given name given ∙ new in
    record {
      rows = rw found.1 (rows_with name word given new);
      skip = refl;
      passes = rw (found.1, row) refl;
    }

pub pending_choice : (f : Form) (given : Given) (name word : Text) → has name f.positionals ≡ false →
    has name f.options ≡ true → has_given name given ≡ false
    → Settles f (given ++ (name, word) ∷ []) (awaiting given name (word ∷ []))
pending_choice f given name word apart known new =
    let found = id_choice f name apart known in
    let row : has_row name (rows given) ≡ false = has_row_given name given ∙ new in
    record {
      rows = rw found (rows_with name word given new);
      skip = refl;
      passes = rw (found, row) refl;
    }

same_text : (t : Text) → bytes_eq t t ≡ true
same_text t = (bytes_eq-Decides t t).1 refl

-- the word behind `--name`
module _ (n : Text) (f : Form) (given : Given) (count : ℕ) (word name : Text) where
  pub filled_in : IsForm f → is_plain word ≡ true → has name f.options ≡ true → has_given name given ≡ false →
      Keeps n f (record { given = given ++ (name, word) ∷ []; waiting = None; count = count }) (walk_at
      (awaiting given name []) (option name) (suc count)) word
  filled_in form plain known new =
      let p = plain_word word plain in
      let apart = (form.options name known).0 in
      let found = id_choice f name apart known in
      record {
        passes = turn_word (shape_for n f) (awaiting given name []) (option name) (suc count) word p.dashes refl
            ∙ rw (p.long, p.short) refl;
        stands = (
          awaiting given name (word ∷ []),
          walked_word (rules f) (awaiting given name []) (option name) (suc count) word p.dashes refl
              ∙ rw (p.long, p.short) (rw (found, same_text name) refl),
          pending_choice f given name word apart known new,
        );
      }

-- a positional
module _ (n : Text) (f : Form) (given : Given) (count : ℕ) (h : Held) (word name : Text) where
  pub placed_in : IsForm f → Settles f given h → is_plain word ≡ true →
      slice_get f.positionals count ≡ Some name → has_given name given ≡ false →
      Keeps n f (record { given = given ++ (name, word) ∷ []; waiting = None; count = count + 1 }) (walk_at h
      idle (suc count)) word
  placed_in form held plain at new =
      let p = plain_word word plain in
      let found = index_place f count name at in
      let small : count < length f.positionals = form.below count name at in
      let few : length f.positionals < 999 = form.few in
      let position : min (suc count + 1) usize_max ≡ suc (count + 1) = omega arith in
      record {
        passes = turn_word (shape_for n f) h idle (suc count) word p.dashes refl
            ∙ rw (p.long, p.short) (rw found (rw held.passes (or_right _ true refl)));
        stands = (
          awaiting given name (word ∷ []),
          walked_word (rules f) h idle (suc count) word p.dashes refl
              ∙ rw (p.long, p.short) (rw found
              (rw (and_false (Rattle.clap.specs.Walk.is_pending (place (suc count) name) h.pending), position)
              (rw (held.rows, held.skip) refl))),
          pending_place f given name word (form.places count name at) new,
        );
      }
