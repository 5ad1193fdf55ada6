-- The laws of expressions: which tokens are read as one, and where reading one stops.
use Rattle.std.specs.Prelude.{◌≡◌, ℕ, ◌≤◌, ◌<◌, List, [], ◌∷◌, ◌++◌, Ok, Err}
use Rattle.vert_lex.specs.Text.{Placed}
use Rattle.vert_tree.specs.Trees.{Tree, depth}
use Rattle.vert_grammar.specs.Faults.{Why, Unexpected, TooDeep, TooMany}
use Rattle.vert_grammar.specs.Grammar.{Reads}
use Rattle.vert_grammar.specs.Reading.{Stop, tree_at}
use Rattle.vert_grammar.specs.Signs.{layer}

-- what follows doesn't take the expression on at this layer or at one that binds tighter
abbrev pub Ends : ℕ → List Placed → Type 0
Ends k [] = Unit {0}
Ends k (t ∷ ts) = k < layer t.kind

-- what was read of an expression, and what is left
pub record TookTree (b k : ℕ) (ts : List Placed) (t : Tree) (r : List Placed) : Type 0 where
  pub used : List Placed
  pub parts : ts ≡ used ++ r
  pub reads : Reads k t used
  pub shallow : depth t ≤ b
  pub ends : Ends k r

-- some tokens may follow these, so that all are an expression at most so deep
abbrev pub IsTreeFront : ℕ → ℕ → List Placed → Type 0
IsTreeFront b k u = (more : List Placed) × (t : Tree) × Reads k t (u ++ more) × (depth t ≤ b)

-- some tokens may follow these, so that all are an expression
abbrev pub GoesOn : ℕ → List Placed → Type 0
GoesOn k u = (more : List Placed) × (t : Tree) × Reads k t (u ++ more)

-- why no expression is read at the first of the rest
abbrev pub IsTreeCause : ℕ → ℕ → Why → List Placed → List Placed → Type 0
IsTreeCause b k Unexpected used [] = (t : Tree) → Reads k t used → ⊥
IsTreeCause b k Unexpected used (t ∷ rest) = GoesOn k (used ++ t ∷ []) → ⊥
IsTreeCause b k TooDeep used [] = ⊥
IsTreeCause b k TooDeep used (t ∷ rest) = GoesOn k (used ++ t ∷ []) × (IsTreeFront b k (used ++ t ∷ []) → ⊥)
IsTreeCause b k TooMany used rest = ⊥

-- Up to the rest the tokens are the front of an expression that is shallow enough. With the next token they are not.
pub record IsTreeFault (b k : ℕ) (ts : List Placed) (s : Stop) : Type 0 where
  pub used : List Placed
  pub parts : ts ≡ used ++ s.rest
  pub front : IsTreeFront b k used
  pub cause : IsTreeCause b k s.why used s.rest

-- what is read is of the grammar
abbrev pub TreesAreOfGrammar : Type 0
TreesAreOfGrammar = (b k : ℕ) → k ≤ 6 → (ts : List Placed) (t : Tree) (r : List Placed) → tree_at b k ts ≡ Ok (t, r) →
    TookTree b k ts t r

-- what is of the grammar is read
abbrev pub TreesAreRead : Type 0
TreesAreRead = (b k : ℕ) → k ≤ 6 → (t : Tree) (u r : List Placed) → Reads k t u → depth t ≤ b → Ends k r →
    tree_at b k (u ++ r) ≡ Ok (t, r)

-- a fault stands at the first token that allows no expression
abbrev pub TreeFaultsAreFirst : Type 0
TreeFaultsAreFirst = (b k : ℕ) → 1 ≤ b → k ≤ 6 → (ts : List Placed) (s : Stop) → tree_at b k ts ≡ Err s →
    IsTreeFault b k ts s

-- tokens are one expression of a layer at most
abbrev pub TreesAreUnique : Type 0
TreesAreUnique = (k : ℕ) → k ≤ 6 → (t v : Tree) (u : List Placed) → Reads k t u → Reads k v u → t ≡ v
