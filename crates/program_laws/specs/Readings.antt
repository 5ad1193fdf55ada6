-- The laws of reading programs: a list of tokens is a program within the limits, or it has a first fault.
use Rattle.std.specs.Prelude.{◌≡◌, ◌⊎◌, List, [], Ok, Err}
use Rattle.vert_base.specs.declared.text.Span.{Span}
use Rattle.vert_lex.specs.Text.{Placed}
use Rattle.vert_tree.specs.Trees.{ProgramTree}
use Rattle.vert_grammar.specs.Grammar.{ReadsProgram}
use Rattle.vert_grammar.specs.Faults.{Why, IsReading, IsRefused, spot, IsFirstFault}
use Rattle.vert_grammar.specs.Reading.{Stop, reading}

-- What is read is a program within the limits, and all of the tokens are.
abbrev pub ReadsSoundly : List Placed → Type 0
ReadsSoundly tokens = (p : ProgramTree) (rest : List Placed) → reading tokens ≡ Ok (p, rest) → IsReading tokens p ×
    (rest ≡ [])

-- Each program within the limits is read.
abbrev pub ReadsFully : List Placed → Type 0
ReadsFully tokens = (p : ProgramTree) → IsReading tokens p → reading tokens ≡ Ok (p, [])

-- The tokens are one program at most, whatever its size.
abbrev pub IsReadOnce : List Placed → Type 0
IsReadOnce tokens = (p q : ProgramTree) → ReadsProgram p tokens → ReadsProgram q tokens → p ≡ q

-- Where reading stops the tokens are refused, for the cause that it names.
abbrev pub RefusesSoundly : List Placed → Type 0
RefusesSoundly tokens = (s : Stop) → reading tokens ≡ Err s → IsRefused s.why tokens s.rest

-- Where the tokens are refused reading stops.
abbrev pub RefusesFully : List Placed → Type 0
RefusesFully tokens = (why : Why) (rest : List Placed) → IsRefused why tokens rest →
    reading tokens ≡ Err (record { why = why; rest = rest })

-- The tokens are refused for one cause at most, at one token.
abbrev pub IsRefusedOnce : List Placed → Type 0
IsRefusedOnce tokens = (why other : Why) (rest behind : List Placed) → IsRefused why tokens rest →
    IsRefused other tokens behind → (why ≡ other) × (rest ≡ behind)

-- What is refused is no program within the limits.
abbrev pub RefusesNoProgram : List Placed → Type 0
RefusesNoProgram tokens = (why : Why) (rest : List Placed) (p : ProgramTree) → IsRefused why tokens rest →
    IsReading tokens p → ⊥

-- The tokens are a program within the limits, or they are refused.
abbrev pub IsJudged : List Placed → Type 0
IsJudged tokens = ((p : ProgramTree) × IsReading tokens p) ⊎
    ((why : Why) × (rest : List Placed) × IsRefused why tokens rest)

-- Where reading stops is the first fault of the tokens of a text that ends here.
abbrev pub StopsAtFault : List Placed → Span → Type 0
StopsAtFault tokens end = (s : Stop) → reading tokens ≡ Err s → IsFirstFault s.why (spot end s.rest) tokens end

-- They have one first fault at most.
abbrev pub HasOneFault : List Placed → Span → Type 0
HasOneFault tokens end = (why other : Why) (at place : Span) → IsFirstFault why at tokens end →
    IsFirstFault other place tokens end → (why ≡ other) × (at ≡ place)
