-- Which program some tokens are, and where tokens that are none are refused.
use Rattle.std.specs.Prelude.{◌≡◌, List, [], ◌∷◌, ◌++◌}
use Rattle.vert_base.specs.declared.text.Span.{Span}
use Rattle.vert_lex.specs.Text.{Placed}
use Rattle.vert_tree.specs.Trees.{ProgramTree}
use Rattle.vert_grammar.specs.Grammar.{ReadsProgram, limits, IsShallow, IsSmall}

-- the tokens are this program, and it is within the limits
pub record IsReading (tokens : List Placed) (p : ProgramTree) : Type 0 where
  pub reads : ReadsProgram p tokens
  pub small : IsSmall limits p

-- P1, P2 and P3
pub data Why : Type 0 where
  Unexpected : Why
  TooDeep : Why
  TooMany : Why

abbrev pub IsAny : ProgramTree → Type 0
IsAny p = Unit {0}

-- some tokens may follow these, so that all are a program of this sort
abbrev pub IsFront : (ProgramTree → Type 0) → List Placed → Type 0
IsFront P u = (more : List Placed) × (p : ProgramTree) × ReadsProgram p (u ++ more) × P p

-- Why the tokens are refused at the first of the rest. P1: with it they are no front of a program.
-- P2: they are, but of none within the depth. P3: of one within the depth, but of none within the counts.
abbrev pub IsCause : Why → List Placed → List Placed → Type 0
IsCause Unexpected used [] = (p : ProgramTree) → ReadsProgram p used → ⊥
IsCause Unexpected used (t ∷ rest) = IsFront IsAny (used ++ t ∷ []) → ⊥
IsCause TooDeep used [] = ⊥
IsCause TooDeep used (t ∷ rest) = IsFront IsAny (used ++ t ∷ []) ×
    (IsFront (IsShallow limits.depth) (used ++ t ∷ []) → ⊥)
IsCause TooMany used [] = ⊥
IsCause TooMany used (t ∷ rest) = IsFront (IsShallow limits.depth) (used ++ t ∷ []) ×
    (IsFront (IsSmall limits) (used ++ t ∷ []) → ⊥)

-- Up to the rest the tokens are the front of a program within the limits. With the next token they are not.
pub record IsRefused (why : Why) (tokens rest : List Placed) : Type 0 where
  pub used : List Placed
  pub parts : tokens ≡ used ++ rest
  pub front : IsFront (IsSmall limits) used
  pub cause : IsCause why used rest

-- where the first token stands, or the end of the text
abbrev pub spot : Span → List Placed → Span
spot end [] = end
spot end (t ∷ rest) = t.span

-- the tokens of a text that ends here are refused first for this, at this place
pub record IsFirstFault (why : Why) (at : Span) (tokens : List Placed) (end : Span) : Type 0 where
  pub rest : List Placed
  pub place : at ≡ spot end rest
  pub refused : IsRefused why tokens rest
