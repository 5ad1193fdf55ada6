-- A program whose names are those used.
use Rattle.std.proofs.Common.{◌≡◌, true, List, [], ap, sym, ◌∙◌, length}
use Rattle.std.specs.declared.alloc.Global.{Global}
use Rattle.std.specs.declared.string.String.{String}
use Rattle.std.specs.Str.{bytes_eq}
use Rattle.indexmap.specs.IndexSet.{insert_all}
use Rattle.vert_tree.specs.declared.program.Program.{Program}
use Rattle.vert_tree.specs.Views.{view_program}
use Rattle.vert_parse.specs.Entered.{enter_all, has_place, is_entered, texts_in}
use Rattle.vert_parse.specs.Idents.{program_all}
use Rattle.vert_parse.specs.Names.{program_names}
use Rattle.vert_parse.specs.Parsing.{IsNamed, is_fresh}
use Rattle.tree_reader.specs.Programs.{view_named}
use Rattle.vert_parse.proofs.Adding.{all_entered}
use Rattle.vert_parse.proofs.Within.{program_within}

abbrev Names : Type 0
Names = List (String Global)

pub have_places : (names used start : Names) (p : Program) → start ≡ [] →
    texts_in used ≡ enter_all (texts_in start) (program_names (view_named names p)) →
    program_all (has_place names used) p ≡ true
have_places names used start p none e = sym (program_within (is_entered used) names p)
    ∙ all_entered used (texts_in start) (program_names (view_named names p)) e

pub same_program : (names used : Names) (before after : Program) → after.names.items ≡ used →
    view_named used after ≡ view_named names before → view_program after ≡ view_named names before
same_program names used before after at same = ap (λ l. view_named l after) at ∙ same

module _ (names used start : Names) (before after : Program) where
  pub is_named : start ≡ [] →
      texts_in used ≡ enter_all (texts_in start) (program_names (view_named names before)) →
      after.names.items ≡ used → view_named used after ≡ view_named names before →
      program_all (is_fresh (length used)) after ≡ true → IsNamed after
  unfolding enter_all
  is_named none e at same fresh = record {
    texts =
        ap texts_in at ∙ e ∙ ap (λ l. insert_all bytes_eq (texts_in l) (program_names (view_named names before))) none
        ∙ ap (λ t. insert_all bytes_eq [] (program_names t)) (sym (same_program names used before after at same));
    numbered = ap (λ l. program_all (is_fresh (length l)) after) at ∙ fresh;
  }
