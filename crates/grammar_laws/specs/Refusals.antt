-- What a fault means: with the next token the tokens are the front of nothing within the limits.
use Rattle.std.specs.Prelude.{◌≡◌, List, [], ◌∷◌, ◌++◌}
use Rattle.vert_lex.specs.Text.{Placed}
use Rattle.vert_grammar.specs.Grammar.{Limits}
use Rattle.vert_grammar.specs.Faults.{Why, Unexpected, TooDeep, TooMany}
use Rattle.vert_grammar.specs.Reading.{Stop}
use Rattle.grammar_laws.specs.Notions.{Covers, Notion, Front, Any}

-- why tokens are refused at the first of the rest, as of values of any sort
abbrev pub CauseOf : {A : Type 0} → Notion A → Limits → Why → List Placed → List Placed → Type 0
CauseOf {A} N l Unexpected used [] = (x : A) → N.form x used → ⊥
CauseOf N l Unexpected used (t ∷ rest) = Front N.form Any (used ++ t ∷ []) → ⊥
CauseOf N l TooDeep used [] = ⊥
CauseOf N l TooDeep used (t ∷ rest) = Front N.form Any (used ++ t ∷ []) ×
    (Front N.form (N.shallow l.depth) (used ++ t ∷ []) → ⊥)
CauseOf N l TooMany used [] = ⊥
CauseOf N l TooMany used (t ∷ rest) = Front N.form (N.shallow l.depth) (used ++ t ∷ []) ×
    (Front N.form (N.within l) (used ++ t ∷ []) → ⊥)

-- a front within the limits, which with the next token is none
pub record RefusedAs {A : Type 0} (N : Notion A) (l : Limits) (ts : List Placed) (s : Stop) : Type 0 where
  pub used : List Placed
  pub parts : ts ≡ used ++ s.rest
  pub front : Front N.form (N.within l) used
  pub cause : CauseOf N l s.why used s.rest

-- each value is within some limits, and each shallow one within limits of the same depth
pub record IsBounded {A : Type 0} (N : Notion A) : Type 0 where
  pub whole : (x : A) → N.follow x []
  pub wide : (l : Limits) (x : A) → (m : Limits) × Covers l m × N.within m x
  pub high : (l : Limits) (x : A) → N.shallow l.depth x → (m : Limits) × (l.depth ≡ m.depth) × Covers l m × N.within m x
