-- The laws of expressions, without notions.
use Rattle.std.proofs.Common.{ℕ, max, List, [], ◌∷◌, refl, arith}
use Rattle.vert_lex.specs.Text.{Placed}
use Rattle.vert_tree.specs.Trees.{depth}
use Rattle.vert_grammar.specs.Faults.{Why, Unexpected, TooDeep, TooMany}
use Rattle.vert_grammar.specs.Grammar.{Limits}
use Rattle.grammar_laws.specs.Expressions.{IsTreeCause, TreesAreOfGrammar, TreesAreRead, TreeFaultsAreFirst, TreesAreUnique}
use Rattle.grammar_laws.specs.Notions.{deep}
use Rattle.grammar_laws.specs.Refusals.{CauseOf, IsBounded}
use Rattle.grammar_laws.proofs.Readers.{covers_refl}
use Rattle.grammar_laws.proofs.Trees.{tree_notion, tree_run}
use Rattle.grammar_laws.proofs.Exprs.{tree_sound, tree_complete, tree_first}
use Rattle.grammar_laws.proofs.Refusals.{fault_refuses, one_value}

pub tree_bounded : (k : ℕ) → IsBounded (tree_notion k)
tree_bounded k = record {
  whole = λ x. tt;
  wide = λ l x. (
    deep l (max l.depth (depth x)),
    record {
      depth = omega arith;
      fields = omega arith;
      slots = omega arith;
      totals = omega arith;
      lets = omega arith;
      sends = omega arith;
    },
    omega arith,
  );
  high = λ l x h. (l, refl, covers_refl l, h);
}

abbrev of_depth : ℕ → Limits
of_depth b = record { depth = b; fields = 0; slots = 0; totals = 0; lets = 0; sends = 0 }

pub trees_are_of_grammar : TreesAreOfGrammar
trees_are_of_grammar b k le ts t r e = let w = tree_sound (of_depth b) k le ts t r e in
    record { used = w.used; parts = w.parts; reads = w.reads; shallow = w.fits; ends = w.ends }

pub trees_are_read : TreesAreRead
trees_are_read b k le t u r h d f = tree_complete (of_depth b) k le t u r h d f

tree_cause : (b k : ℕ) (w : Why) (used rest : List Placed) → CauseOf (tree_notion k) (of_depth b) w used rest →
    IsTreeCause b k w used rest
tree_cause b k Unexpected used [] c = c
tree_cause b k Unexpected used (t ∷ rest) c = λ g. c (g.0, g.1, g.2, tt)
tree_cause b k TooDeep used [] c = c
tree_cause b k TooDeep used (t ∷ rest) c = ((c.0.0, c.0.1, c.0.2), c.1)
tree_cause b k TooMany used [] c = c
tree_cause b k TooMany used (t ∷ rest) c = c.1 c.0

pub tree_faults_are_first : TreeFaultsAreFirst
tree_faults_are_first b k some le ts s e =
    let f = fault_refuses (tree_notion k) (tree_run k) (λ l. tree_complete l k le) (tree_bounded k) (of_depth b) ts s
    (tree_first (of_depth b) some k le ts s e) in
    record { used = f.used; parts = f.parts; front = f.front; cause = tree_cause b k s.why f.used s.rest f.cause }

pub trees_are_unique : TreesAreUnique
trees_are_unique k le t v u h g = one_value (tree_notion k) (tree_run k) (λ l. tree_complete l k le) (tree_bounded k)
    t v u h g
