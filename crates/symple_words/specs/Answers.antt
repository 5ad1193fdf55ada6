-- What the readers answer.
use Rattle.std.specs.Prelude.{◌≡◌, ◌&&◌, Bool, true, false, not, List, [], ◌∷◌, length, Some, unwrap_or, nat_lt, codes, if◌then◌else◌, Result, Err}
use Rattle.std.specs.List.{list_all}
use Rattle.clap.specs.Matches.{first_value, found_of, one_text}
use Rattle.clap.specs.declared.parser.matches.ArgMatches.{ArgMatches}
use Rattle.symple_words.specs.Texts.{Text, has}
use Rattle.symple_words.specs.Spelling.{Form, given_by, given_or_none, has_given, value_at}
use Rattle.symple_words.specs.Lines.{PlainLine, LineFault, NoCommand, BadWords}
use Rattle.symple_words.specs.declared.fault.WordFault.{WordFault}
use Rattle.symple_words.specs.declared.fault.WordFault.TheVariants as fault

-- the words are wrong, or memory was wanting
abbrev pub Refuses : Type 0 → WordFault → Type 0
Refuses wrong fault.Command = ⊥
Refuses wrong fault.Words = wrong
Refuses wrong fault.Want = Unit {0}

-- the fault is that of the words, or memory was wanting
abbrev pub Faults : Result PlainLine LineFault → WordFault → Type 0
Faults line fault.Command = line ≡ Err NoCommand
Faults line fault.Words = line ≡ Err BadWords
Faults line fault.Want = Unit {0}

-- ---- what clap found

-- every flag of every command
abbrev pub flag_names : List Text
flag_names = codes "both" ∷ codes "binary" ∷ codes "weighted" ∷ codes "rounds" ∷ codes "reads"
    ∷ codes "log" ∷ codes "lossy" ∷ []

abbrev pub flag_text : Bool → Text
flag_text is_given = if is_given then codes "true" else codes "false"

-- the words are spelt right, and clap has at each name what was read there: at a flag `true` where it
-- was given, else `false`, or nothing at a flag that the command does not have
pub record ReadsAs (f : Form) (words : List Text) (m : ArgMatches) : Type 0 where
  pub spelt : given_by f words ≡ Some (given_or_none f words)
  pub values : (id : Text) → has id flag_names ≡ false
      → first_value (found_of m) id ≡ value_at id (given_or_none f words)
  pub flags : (id : Text) → has id flag_names ≡ true
      → unwrap_or (one_text (found_of m) id) (codes "false")
      ≡ flag_text (has_given id (given_or_none f words))

-- ---- forms

-- no name has two places
abbrev pub is_distinct : List Text → Bool
is_distinct [] = true
is_distinct (name ∷ names) = not (has name names) && is_distinct names

-- each name stands once, and is the name of a flag where it is one
abbrev pub is_form : Form → Bool
is_form f = nat_lt (length f.positionals) 999
    && (is_distinct f.positionals
    && (list_all (λ n. not (has n flag_names)) f.positionals
    && (list_all (λ n. not (has n f.positionals) && not (has n flag_names)) f.options
    && list_all (λ n. has n flag_names) f.flags)))
