-- A printed program reads again as the same program.
use Rattle.std.proofs.Common.{◌≡◌, ◌≤◌, List, Result, Ok, length, sym, ap, subst, ◌∙◌}
use Rattle.vert_lex.specs.declared.token.LexFault.{LexFault}
use Rattle.vert_lex.specs.Text.{Placed, tokens_of}
use Rattle.vert_tree.specs.Printed.{printed}
use Rattle.vert_grammar.specs.Grammar.{limits}
use Rattle.vert_grammar.specs.Spelling.{kinds, spelled_program}
use Rattle.print_law.specs.Law.{SaysSame, PrinterLaw}
use Rattle.print_law.specs.Layout.{laid}
use Rattle.print_law.proofs.Again.{program_again}
use Rattle.print_law.proofs.Lays.{lays_program}
use Rattle.print_law.proofs.Lexing.{AreTokens, lexed_tokens, LexedAgain, lexed_again}
use Rattle.print_law.proofs.Smallness.{same_small}
use Rattle.print_law.proofs.Spelled.{grouped, program_kinds}

ok_same : (a b : List Placed) → ◌≡◌ {A = Result (List Placed) LexFault} (Ok a) (Ok b) → a ≡ b
ok_same a b e = cc

pub prints_again : PrinterLaw
prints_again text p h = record {
  layout = λ all lexed. layout ∙ ap laid (sym (kinds_of all lexed));
  again = λ le.
      says (lexed_again (spelled_program p) tokens (subst (λ t. length t ≤ 65536) layout le));
}
  where
    spelled_so : kinds h.tokens ≡ spelled_program p
    spelled_so = program_kinds p h.tokens h.reads.reads

    kinds_of : (all : List Placed) → tokens_of text ≡ Ok all → kinds all ≡ spelled_program p
    kinds_of all lexed = ap kinds (ok_same all h.tokens (sym lexed ∙ h.lexed)) ∙ spelled_so

    layout : printed p ≡ laid (spelled_program p)
    layout = sym (lays_program p h.tokens h.reads.reads).is

    tokens : AreTokens (spelled_program p)
    tokens = subst AreTokens spelled_so (lexed_tokens text h.tokens h.lexed)

    says : LexedAgain (spelled_program p) (laid (spelled_program p)) → SaysSame (printed p) p
    says l =
        let f = (program_again p h.tokens h.reads.reads).find l.tokens (l.same ∙ grouped p) in
        record {
          tree = f.value;
          same = f.same;
          says = record {
            tokens = l.tokens;
            lexed = ap tokens_of layout ∙ l.lexed;
            reads = record { reads = f.form; small = same_small limits p f.value f.same h.reads.small };
          };
        }
