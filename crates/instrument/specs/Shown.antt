-- The text of a program with the split of its loop.
use Rattle.std.specs.Prelude.{ℕ, List, [], ◌∷◌, ◌++◌, Option, None, Some, flat_map, map, codes, decimal, slice_get}
use Rattle.std.specs.declared.alloc.Global.{Global}
use Rattle.std.specs.declared.string.String.{String}
use Rattle.vert_base.specs.declared.value.Combine.TheVariants as combine
use Rattle.vert_tree.specs.declared.program.Decl.{Decl}
use Rattle.vert_tree.specs.declared.program.Dense.{Dense}
use Rattle.vert_tree.specs.declared.program.Program.{Program}
use Rattle.vert_tree.specs.declared.program.SlotDecl.{SlotDecl}
use Rattle.vert_tree.specs.declared.statement.Stmt.{Stmt}
use Rattle.vert_tree.specs.Printed.{combine_text, printed, printed_block, printed_declaration}
use Rattle.vert_tree.specs.Views.{text_of, view_block, view_declaration, view_program}
use Rattle.carry_analysis.specs.declared.carry.Carry.{Carry}
use Rattle.carry_analysis.specs.declared.classes.Class.{Class}
use Rattle.carry_analysis.specs.declared.classes.Class.TheVariants.{Constant, Reduced, Carried}
use Rattle.instrument.specs.declared.print.lets.Line.{Line}
use Rattle.instrument.specs.declared.print.lets.Line.TheVariants.{Local, Receive, Reset, Forward, Update}
use Rattle.instrument.specs.declared.split.SplitLoop.{SplitLoop}
use Rattle.instrument.specs.Loops.{loop_split}

abbrev pub class_text : Class → List ℕ
class_text Constant = codes "constant\n"
class_text (Reduced combine.Sum) = codes "reduced sum\n"
class_text (Reduced combine.Min) = codes "reduced min\n"
class_text (Reduced combine.Max) = codes "reduced max\n"
class_text (Reduced combine.First) = codes "reduced first\n"
class_text Carried = codes "carried\n"

-- ---- the lines of lets, each by its name and class

-- there where the let is carried
abbrev pub carried_line : List ℕ → List ℕ → Class → List ℕ
carried_line keyword name Carried = keyword ++ (name ++ codes " ;\n")
carried_line keyword name _ = []

-- there where the let is reduced
abbrev pub reduced_line : List ℕ → List ℕ → Class → List ℕ
reduced_line keyword name (Reduced op) = keyword ++ (name ++ (codes " " ++ (combine_text op ++ codes ";\n")))
reduced_line keyword name _ = []

abbrev pub let_line : Line → List ℕ → Class → List ℕ
let_line Local name class = codes "local " ++ (name ++ (codes " " ++ class_text class))
let_line Receive name class = carried_line (codes "receive ") name class
let_line Reset name class = reduced_line (codes "reset ") name class
let_line Forward name class = carried_line (codes "forward ") name class
let_line Update name class = reduced_line (codes "update ") name class

-- the lines of all lets
abbrev pub let_lines : Line → List (String Global) → List Decl → List Class → List ℕ
let_lines line names [] cs = []
let_lines line names (d ∷ ds) [] = []
let_lines line names (d ∷ ds) (c ∷ cs) = let_line line (text_of names d.name.name) c ++ let_lines line names ds cs

-- ---- the carry and the slots

abbrev pub ring_line : Option Carry → List ℕ
ring_line None = codes "ring none\n"
ring_line (Some carry) = codes "ring " ++ (decimal carry.words ++ codes "\n")

abbrev pub slot_line : List (String Global) → Option SlotDecl → List ℕ
slot_line names None = []
slot_line names (Some d) = codes "update "
    ++ (text_of names d.name.name ++ (codes " " ++ (combine_text d.op ++ codes ";\n")))

-- the lines of the slots at these places
abbrev pub slot_lines : List (String Global) → List SlotDecl → List ℕ → List ℕ
slot_lines names slots places = flat_map (λ i. slot_line names (slice_get slots i)) places

-- ---- the four blocks

abbrev pub begin_block : List (String Global) → List Decl → List Class → List ℕ
begin_block names lets cs =
    codes "begin {\n"
    ++ (flat_map (printed_declaration (codes "let ")) (map (view_declaration names) lets)
    ++ (let_lines Receive names lets cs ++ (let_lines Reset names lets cs ++ codes "}\n")))

-- a block of statements behind its keyword
abbrev pub shown_block : List ℕ → List (String Global) → List Stmt → List ℕ
shown_block keyword names body = keyword ++ (printed_block (view_block names body) ++ codes "}\n")

abbrev pub give_block : List (String Global) → List Decl → List Class → List SlotDecl → List ℕ → List ℕ
give_block names lets cs slots emitted =
    codes "give {\n" ++ (let_lines Forward names lets cs
    ++ (let_lines Update names lets cs ++ (slot_lines names slots emitted ++ codes "}\n")))

-- ---- the whole

abbrev pub shown_loop : List (String Global) → List SlotDecl → Dense → SplitLoop → List ℕ
shown_loop names slots d split =
    let cs = split.classes.locals.items in
    let_lines Local names d.lets.items cs
    ++ (ring_line split.carry
    ++ (begin_block names d.lets.items cs
    ++ (shown_block (codes "segment {\n") names d.body.items
    ++ (give_block names d.lets.items cs slots split.emitted.items
    ++ shown_block (codes "tail {\n") names d.tail.items))))

abbrev pub shown_dense : List (String Global) → List SlotDecl → Option Dense → List ℕ
shown_dense names slots None = codes "no dense\n"
shown_dense names slots (Some d) = shown_loop names slots d (loop_split d)

-- the program, and then how its loop is split
abbrev pub shown : Program → List ℕ
shown p = printed (view_program p) ++ shown_dense p.names.items p.slots.items p.dense
