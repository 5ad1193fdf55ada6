-- The laws of what texts say: a text is one program or has one refusal, and never both.
use Rattle.std.specs.Prelude.{◌≡◌, ◌⊎◌, ℕ, List, None, map}
use Rattle.std.specs.String.{string_bytes}
use Rattle.program_reader.specs.declared.refusal.Refusal.{Refusal}
use Rattle.program_reader.specs.Accepted.{IsText, Refuses, Says}
use Rattle.vert_tree.specs.declared.program.Program.{Program}
use Rattle.vert_tree.specs.Trees.{ProgramTree}
use Rattle.vert_tree.specs.Views.{view_program}
use Rattle.vert_types.specs.Typing.{first_fault}

-- the text is the tree of a program that the rules of typing accept
abbrev pub IsAccepted : List ℕ → Type 0
IsAccepted text = (tree : ProgramTree) × IsText text tree × (first_fault tree ≡ None)

-- The programs that a text says have the same tree and the same names.
abbrev pub SaysOneTree : List ℕ → Type 0
SaysOneTree text =
    (p q : Program) → Says text p → Says text q
    → (view_program p ≡ view_program q) × (map string_bytes p.names.items ≡ map string_bytes q.names.items)

-- A text has one refusal at most.
abbrev pub HasOneRefusal : List ℕ → Type 0
HasOneRefusal text = (a b : Refusal) → Refuses text a → Refuses text b → a ≡ b

-- A refused text says no program.
abbrev pub SaysNoneRefused : List ℕ → Type 0
SaysNoneRefused text = (a : Refusal) (p : Program) → Refuses text a → Says text p → ⊥

-- The text of a program is accepted.
abbrev pub SaidIsAccepted : List ℕ → Type 0
SaidIsAccepted text = (p : Program) → Says text p → IsAccepted text

-- Each accepted text is said by a program.
abbrev pub IsSaid : List ℕ → Type 0
IsSaid text = IsAccepted text → (p : Program) × Says text p

-- An accepted text is refused by nothing.
abbrev pub AcceptedIsUnrefused : List ℕ → Type 0
AcceptedIsUnrefused text = (a : Refusal) → IsAccepted text → Refuses text a → ⊥

-- A text is accepted, or it has a refusal.
abbrev pub IsDecided : List ℕ → Type 0
IsDecided text = IsAccepted text ⊎ ((a : Refusal) × Refuses text a)
