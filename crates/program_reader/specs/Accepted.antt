-- Which program a text says, or why and where it is refused: by its tokens, else by the grammar, else by
-- the rules of typing.
use Rattle.std.specs.Prelude.{◌≡◌, ◌⊎◌, ℕ, true, IsTrue, List, [], map, Option, Some, None, Ok, Err}
use Rattle.std.specs.String.{string_bytes}
use Rattle.std.specs.Str.{bytes_eq}
use Rattle.indexmap.specs.IndexSet.{insert_all}
use Rattle.program_reader.specs.declared.refusal.Refusal.{Refusal}
use Rattle.program_reader.specs.declared.refusal.Stage.TheVariants.{Tokens, Grammar, Typing}
use Rattle.vert_grammar.specs.Faults.{IsFirstFault, IsReading, TooDeep, TooMany, Unexpected, Why}
use Rattle.vert_lex.specs.declared.token.LexFault.{LexFault}
use Rattle.vert_lex.specs.declared.token.LexFault.TheVariants as lex
use Rattle.vert_lex.specs.Text.{Placed, origin, through, tokens_of}
use Rattle.vert_parse.specs.Names.{program_names}
use Rattle.vert_tree.specs.declared.program.Program.{Program}
use Rattle.vert_tree.specs.Trees.{ProgramTree}
use Rattle.vert_tree.specs.Typed.{is_typed}
use Rattle.vert_tree.specs.Views.{view_program}
use Rattle.vert_types.specs.Filled.{is_filled}
use Rattle.vert_types.specs.Typing.{first_fault}

-- the text is this tree: its tokens are a reading of it by the grammar, within the limits
pub record IsText (text : List ℕ) (tree : ProgramTree) : Type 0 where
  pub placed : List Placed
  pub tokens : tokens_of text ≡ Ok placed
  pub reading : IsReading placed tree

-- The text says this program: the program is its tree, typed, with what every name stands for. The names
-- have each text once, in order of first appearance.
pub record Says (text : List ℕ) (program : Program) : Type 0 where
  pub tree : IsText text (view_program program)
  pub accepted : first_fault (view_program program) ≡ None
  pub typed : is_typed program ≡ true
  pub filled : IsTrue (is_filled program)
  pub names : map string_bytes program.names.items ≡ insert_all bytes_eq [] (program_names (view_program program))

-- L1 to L3
abbrev pub lex_refusal : LexFault → Option Refusal
lex_refusal (lex.BadByte span) = Some (record { stage = Tokens; number = 1; span = span })
lex_refusal (lex.BadNumber span) = Some (record { stage = Tokens; number = 2; span = span })
lex_refusal lex.TooLong = Some (record { stage = Tokens; number = 3; span = origin })
lex_refusal lex.Want = None

-- P1 to P3
abbrev pub number_of : Why → ℕ
number_of Unexpected = 1
number_of TooDeep = 2
number_of TooMany = 3

-- the text has no tokens
pub record HasNoTokens (text : List ℕ) (refusal : Refusal) : Type 0 where
  pub fault : LexFault
  pub tokens : tokens_of text ≡ Err fault
  pub refused : lex_refusal fault ≡ Some refusal

-- its tokens are no program within the limits
pub record IsNoProgram (text : List ℕ) (refusal : Refusal) : Type 0 where
  pub placed : List Placed
  pub tokens : tokens_of text ≡ Ok placed
  pub why : Why
  pub first : IsFirstFault why refusal.span placed (through origin text)
  pub refused : refusal ≡ record { stage = Grammar; number = number_of why; span = refusal.span }

-- the program that they are isn't typed
pub record IsUntyped (text : List ℕ) (refusal : Refusal) : Type 0 where
  pub tree : ProgramTree
  pub is : IsText text tree
  pub first : first_fault tree ≡ Some (record { code = refusal.number; span = refusal.span })
  pub refused : refusal ≡ record { stage = Typing; number = refusal.number; span = refusal.span }

abbrev pub Refuses : List ℕ → Refusal → Type 0
Refuses text refusal = HasNoTokens text refusal ⊎ (IsNoProgram text refusal ⊎ IsUntyped text refusal)
