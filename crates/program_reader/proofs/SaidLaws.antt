-- Each accepted text is said by a program: the one that is made of its tree.
use Rattle.std.proofs.Common.{◌≡◌, ◌≤◌, ℕ, true, List, [], length, map, None, sym, ap, subst, ◌∙◌, arith}
use Rattle.std.specs.List.{AllByRecursion}
use Rattle.std.specs.Prelude.{slice_get}
use Rattle.std.specs.Str.{bytes_eq}
use Rattle.std.specs.String.{string_bytes}
use Rattle.std.specs.declared.alloc.Global.{Global}
use Rattle.std.specs.declared.string.String.{String}
use Rattle.std.proofs.lemmas.List.{length-map}
use Rattle.indexmap.specs.IndexSet.{insert_all}
use Rattle.vert_base.proofs.Orders.{all_weaker}
use Rattle.vert_tree.specs.declared.name.What.{What}
use Rattle.vert_tree.specs.declared.program.Program.{Program}
use Rattle.vert_tree.specs.Trees.{ProgramTree}
use Rattle.vert_tree.specs.Views.{view_program}
use Rattle.vert_grammar.specs.Spelling.{kinds, spelled_program}
use Rattle.vert_parse.specs.Names.{Texts, program_names}
use Rattle.vert_types.specs.Filled.{is_filled, program_filled, what_in, what_of}
use Rattle.vert_types.specs.Parsed.{are_totals, is_counted, is_of_version, is_shallow_program}
use Rattle.vert_types.specs.Typing.{dictionary, faults, first_fault}
use Rattle.vert_types.proofs.ProgramLaws.{none_found, typed}
use Rattle.print_law.proofs.Spelled.{program_kinds}
use Rattle.program_reader.specs.Accepted.{IsText, Says}
use Rattle.program_reader.specs.Laws.{IsSaid}
use Rattle.program_reader.proofs.Made.{make_program, vec_items}
use Rattle.program_reader.proofs.MadeLaws.{IsFound}
use Rattle.program_reader.proofs.MadePrograms.{program_made}
use Rattle.program_reader.proofs.ParsedLaws.{counted_is, shallow_is, totals_are, version_is}
use Rattle.program_reader.proofs.PlainTokens.{ArePlain, tokens_plain}
use Rattle.program_reader.proofs.SmallTokens.{tokens_short}
use Rattle.program_reader.proofs.SpelledNames.{OfName, of_program}
use Rattle.program_reader.proofs.Strings.{IsIn, IsPlain, all_few, all_hold, all_there, make_strings, place_in, stands, strings_are, told}

module _ (text : List ℕ) (tree : ProgramTree) (is : IsText text tree) (accepted : first_fault tree ≡ None) where
  -- ---- the names
  plain : ArePlain 65536 is.placed
  plain = tokens_plain text is.placed (tokens_short text is.placed is.tokens) is.tokens

  spelled_is : kinds is.placed ≡ spelled_program tree
  spelled_is = program_kinds tree is.placed is.reading.reads

  spelled_few : length (spelled_program tree) ≤ 65536
  spelled_few = subst (λ ks. length ks ≤ 65536) spelled_is plain.few

  names_plain : AllByRecursion IsPlain (program_names tree)
  names_plain = (of_program IsPlain tree).hold (subst (AllByRecursion (OfName IsPlain)) spelled_is plain.plain)

  abbrev texts : Texts
  texts = insert_all bytes_eq [] (program_names tree)

  texts_plain : AllByRecursion IsPlain texts
  texts_plain = all_hold IsPlain (program_names tree) [] names_plain tt

  abbrev names : List (String Global)
  names = make_strings texts texts_plain

  names_are : map string_bytes names ≡ texts
  names_are = strings_are texts texts_plain

  names_few : length names ≤ 65536
  names_few =
      let a = (of_program IsPlain tree).few in
      let b = all_few (program_names tree) [] in
      let c = ap length names_are in
      let d = length-map names string_bytes in
      let e = spelled_few in
      omega (arith, a, b, c, d, e)

  -- ---- the program
  abbrev place : List ℕ → ℕ
  place = place_in (map string_bytes names)

  abbrev what : List ℕ → What
  what t = what_in (dictionary tree t)

  found : (t : List ℕ) → IsIn texts t → IsFound place what names (what_of (dictionary tree) names) t
  found t h =
      let both = told (dictionary tree) t (slice_get names (place t))
      (stands names t (subst (λ ts. IsIn ts t) (sym names_are) h)) in
      record { text_is = both.0; what_is = both.1 }

  abbrev program : Program
  program = make_program place what names tree

  same_names : program.names.items ≡ names
  same_names = vec_items names names_few

  made : (view_program program ≡ tree) × (program_filled (what_of (dictionary tree) names) program ≡ true)
  made =
      program_made place what names (what_of (dictionary tree) names) tree is.reading.small spelled_few
      (all_weaker (IsIn texts) (IsFound place what names (what_of (dictionary tree) names)) (program_names tree) found
      (all_there (program_names tree) []))
      same_names

  filled : is_filled program ≡ true
  filled =
      ap (λ t. program_filled (what_of (dictionary t) program.names.items) program) made.0
      ∙ ap (λ ns. program_filled (what_of (dictionary tree) ns) program) same_names ∙ made.1

  no_faults : faults (view_program program) ≡ []
  no_faults = none_found (faults (view_program program)) (ap first_fault made.0 ∙ accepted)

  says : Says text program
  says =
      let there = sym made.0 in
      let reading = is.reading in
      record {
        tree = subst (IsText text) there is;
        accepted = ap first_fault made.0 ∙ accepted;
        typed = typed program filled no_faults
            (ap is_shallow_program made.0 ∙ shallow_is tree reading.small.shallow)
            (ap is_counted made.0 ∙ counted_is tree reading.small)
            (ap is_of_version made.0 ∙ version_is tree is.placed reading.reads)
            (ap are_totals made.0 ∙ totals_are tree.version tree.totals _ reading.reads.second.first.second.second);
        filled = filled;
        names = ap (map string_bytes) same_names ∙ names_are ∙ ap (λ t. insert_all bytes_eq [] (program_names t)) there;
      }

pub is_said : (text : List ℕ) → IsSaid text
is_said text it = (program text it.0 it.1 it.2, says text it.0 it.1 it.2)
