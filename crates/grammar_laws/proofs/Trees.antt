-- What is read as an expression.
use Rattle.std.proofs.Common.{◌≡◌, ℕ, pos, ◌≤◌, ◌<◌, false, List, [], ◌∷◌, refl, sym, subst, arith}
use Rattle.vert_lex.specs.declared.marks.TheConstants as mark
use Rattle.vert_lex.specs.Text.{Placed}
use Rattle.vert_lex.specs.Tokens.{Mark, Number}
use Rattle.vert_tree.specs.Plain.{nowhere}
use Rattle.vert_tree.specs.Trees.{Tree, Literal, Truth, Word, Variable, Got, Value, OtherField, OtherWord, Draw, Negative, Not, Pair, Choice, Least, Greatest, Group, depth}
use Rattle.vert_grammar.specs.Grammar.{Limits, Reads}
use Rattle.vert_grammar.specs.Reading.{Parser, begins, tree_at}
use Rattle.vert_grammar.specs.Signs.{token, is_mark, layer, layer_at}
use Rattle.grammar_laws.specs.Expressions.{Ends}
use Rattle.grammar_laws.specs.Notions.{SameHead, Notion}
use Rattle.grammar_laws.proofs.Operators.{no_dot, dot_less}

pub Ends-same : (k : ℕ) (a b : List Placed) → SameHead a b → Ends k b → Ends k a
Ends-same k [] b h f = tt
Ends-same k (x ∷ xs) [] h f = absurd h
Ends-same k (x ∷ xs) (y ∷ ys) h f = subst (λ (t : Placed). k < layer t.kind) (sym h) f

pub Ends-tighter : (j k : ℕ) → j ≤ k → (a : List Placed) → Ends k a → Ends j a
Ends-tighter j k le [] f = tt
Ends-tighter j k le (x ∷ xs) f = omega arith

abbrev pub tree_notion : ℕ → Notion Tree
tree_notion k = record {
  form = Reads k;
  within = λ l t. depth t ≤ l.depth;
  shallow = λ b t. depth t ≤ b;
  follow = λ x. Ends k;
  wider = λ l m x c h. (let d = c.depth in omega arith);
  weaker = λ l x h. h;
  ahead = λ x. Ends-same k;
}

abbrev pub tree_run : ℕ → Limits → Parser Tree
tree_run k m = tree_at m.depth k

-- a dot goes on with layer 0
pub ends_no_dot : (a : List Placed) → Ends 0 a → begins (is_mark mark.DOT) a ≡ false
ends_no_dot [] h = refl
ends_no_dot (x ∷ xs) h = no_dot x.kind h

pub no_dot_ends : (a : List Placed) → begins (is_mark mark.DOT) a ≡ false → Ends 0 a
no_dot_ends [] h = tt
no_dot_ends (x ∷ xs) h = dot_less x.kind h

pub depth_pos : (t : Tree) → 1 ≤ depth t
depth_pos (Literal s value) = omega arith
depth_pos (Truth s value) = omega arith
depth_pos (Word s w) = omega arith
depth_pos (Variable s name) = omega arith
depth_pos (Got s name) = omega arith
depth_pos (Value s name) = omega arith
depth_pos (OtherField s name) = omega arith
depth_pos (OtherWord s w) = omega arith
depth_pos (Draw s at number) = omega arith
depth_pos (Negative s inner) = omega arith
depth_pos (Not s inner) = omega arith
depth_pos (Pair s op left right) = omega arith
depth_pos (Choice s test held otherwise) = omega arith
depth_pos (Least s left right) = omega arith
depth_pos (Greatest s left right) = omega arith
depth_pos (Group s inner) = omega arith

pub Reads-looser : (j k : ℕ) → j ≤ k → (t : Tree) (u : List Placed) → Reads j t u → Reads k t u
Reads-looser j k le (Literal s value) u h = h
Reads-looser j k le (Truth s value) u h = h
Reads-looser j k le (Word s w) u h = h
Reads-looser j k le (Variable s name) u h = h
Reads-looser j k le (Got s name) u h = h
Reads-looser j k le (Value s name) u h = h
Reads-looser j k le (OtherField s name) u h = h
Reads-looser j k le (OtherWord s w) u h = h
Reads-looser j k le (Draw s at number) u h = h
Reads-looser j k le (Negative s inner) u h = h
Reads-looser j k le (Not s inner) u h = h
Reads-looser j k le (Pair s op left right) u h = (omega arith, h.1, h.2)
Reads-looser j k le (Choice s test held otherwise) u h = (omega arith, h.1, h.2)
Reads-looser j k le (Least s left right) u h = h
Reads-looser j k le (Greatest s left right) u h = h
Reads-looser j k le (Group s inner) u h = h

-- the least expression
abbrev pub leaf : Tree
leaf = Literal nowhere (pos 0)

abbrev pub leaf_tokens : List Placed
leaf_tokens = token nowhere (Number 0) ∷ []

pub leaf_reads : (k : ℕ) → Reads k leaf leaf_tokens
leaf_reads k = (0, refl, refl)

-- marks that end an expression
pub free_close : 6 < layer (Mark mark.RIGHT_PARENTHESIS)
unfolding layer_at
free_close = omega arith

pub free_colon : 6 < layer (Mark mark.COLON)
unfolding layer_at
free_colon = omega arith

pub free_comma : 6 < layer (Mark mark.COMMA)
unfolding layer_at
free_comma = omega arith

pub free_semicolon : 6 < layer (Mark mark.SEMICOLON)
unfolding layer_at
free_semicolon = omega arith

pub free_brace : 6 < layer (Mark mark.LEFT_BRACE)
unfolding layer_at
free_brace = omega arith
