-- What is printed reads again as the same program.
use Rattle.std.specs.Prelude.{◌≡◌, ℕ, ◌≤◌, List, length, Ok}
use Rattle.vert_lex.specs.Text.{Placed, tokens_of}
use Rattle.vert_tree.specs.Plain.{plain_program}
use Rattle.vert_tree.specs.Printed.{printed}
use Rattle.vert_tree.specs.Trees.{ProgramTree}
use Rattle.vert_grammar.specs.Faults.{IsReading}
use Rattle.vert_grammar.specs.Spelling.{kinds}
use Rattle.print_law.specs.Layout.{laid}

-- the text says this program, within the limits
pub record Says (text : List ℕ) (p : ProgramTree) : Type 0 where
  pub tokens : List Placed
  pub lexed : tokens_of text ≡ Ok tokens
  pub reads : IsReading tokens p

-- the text says a program that is the same but for its places
pub record SaysSame (text : List ℕ) (p : ProgramTree) : Type 0 where
  pub tree : ProgramTree
  pub same : plain_program tree ≡ plain_program p
  pub says : Says text tree

-- A program that some text says is printed as the tokens of that text, laid out. What is printed says the
-- same program again, where it is no longer than a text may be.
pub record PrintsAgain (text : List ℕ) (p : ProgramTree) : Type 0 where
  pub layout : (tokens : List Placed) → tokens_of text ≡ Ok tokens → printed p ≡ laid (kinds tokens)
  pub again : length (printed p) ≤ 65536 → SaysSame (printed p) p

abbrev pub PrinterLaw : Type 0
PrinterLaw = (text : List ℕ) (p : ProgramTree) → Says text p → PrintsAgain text p
