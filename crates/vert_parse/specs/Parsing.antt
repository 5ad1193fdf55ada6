-- What a parser answers, and how the names of its program are numbered.
use Rattle.std.specs.Prelude.{◌≡◌, ◌≤◌, ℕ, Bool, true, false, ◌&&◌, List, [], ◌∷◌, length, map, nat_lt, Result, Ok, Err, IsTrue}
use Rattle.std.specs.String.{string_bytes}
use Rattle.std.specs.Str.{bytes_eq}
use Rattle.indexmap.specs.IndexSet.{insert_all}
use Rattle.vert_base.specs.declared.text.Span.{Span}
use Rattle.vert_lex.specs.Text.{Placed}
use Rattle.vert_lex.specs.Tokens.{Kind, Reserved, Mark, Number, Name}
use Rattle.vert_tree.specs.declared.name.Ident.{Ident}
use Rattle.vert_tree.specs.declared.name.What.{What}
use Rattle.vert_tree.specs.declared.name.What.TheVariants.{Unread, Field, Slot, Local, Send, Total}
use Rattle.vert_tree.specs.declared.program.Program.{Program}
use Rattle.vert_tree.specs.Trees.{ProgramTree}
use Rattle.vert_tree.specs.Views.{view_program}
use Rattle.vert_grammar.specs.Faults as faults
use Rattle.vert_grammar.specs.Faults.{Why, spot}
use Rattle.vert_grammar.specs.Reading.{Res, stop}
use Rattle.vert_parse.specs.declared.fault.ParseFault.{ParseFault}
use Rattle.vert_parse.specs.declared.fault.ParseFault.TheVariants.{Unexpected, TooDeep, TooMany, Want}
use Rattle.vert_parse.specs.Idents.{program_all}
use Rattle.vert_parse.specs.Names.{program_names}

abbrev pub IsSmallKind : Kind → Type 0
IsSmallKind (Reserved place) = Unit {0}
IsSmallKind (Mark place) = Unit {0}
IsSmallKind (Number value) = value ≤ 9223372036854775807
IsSmallKind (Name text) = Unit {0}

-- no number is above the greatest that a program may have
abbrev pub AreSmall : List Placed → Type 0
AreSmall [] = Unit {0}
AreSmall (t ∷ ts) = IsSmallKind t.kind × AreSmall ts

-- reading stopped for this reason, at this place
pub record IsStopped (read : Res ProgramTree) (end : Span) (why : Why) (at : Span) : Type 0 where
  pub rest : List Placed
  pub stopped : read ≡ stop why rest
  pub place : at ≡ spot end rest

-- The answer is what was read, to the end, or where and why reading stopped. Memory may run out.
abbrev pub ParsesAs : Res ProgramTree → Span → Result Program ParseFault → Type 0
ParsesAs read end (Ok p) = read ≡ Ok (view_program p, [])
ParsesAs read end (Err (Unexpected at)) = IsStopped read end faults.Unexpected at
ParsesAs read end (Err (TooDeep at)) = IsStopped read end faults.TooDeep at
ParsesAs read end (Err (TooMany at)) = IsStopped read end faults.TooMany at
ParsesAs read end (Err Want) = Unit {0}

-- a fault as callers see it
abbrev pub fault_of : Why → Span → ParseFault
fault_of faults.Unexpected at = Unexpected at
fault_of faults.TooDeep at = TooDeep at
fault_of faults.TooMany at = TooMany at

abbrev pub is_unread : What → Bool
is_unread Unread = true
is_unread (Field i) = false
is_unread (Slot i) = false
is_unread (Local i) = false
is_unread (Send i) = false
is_unread (Total i) = false

-- one of the first n, of which nothing is said yet
abbrev pub is_fresh : ℕ → Ident → Bool
is_fresh n name = nat_lt name.name n && is_unread name.what

-- The texts of the names, each once and in order of first appearance, are those of the tree. Each name
-- has a number among them, and nothing is said of it yet.
pub record IsNamed (p : Program) : Type 0 where
  pub texts : map string_bytes p.names.items ≡ insert_all bytes_eq [] (program_names (view_program p))
  pub numbered : IsTrue (program_all (is_fresh (length p.names.items)) p)
