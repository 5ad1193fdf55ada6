-- What the readers of statements do at each step, by their definitions.
use Rattle.std.proofs.Common.{◌≡◌, ℕ, zero, suc, ◌-◌, ◌<◌, false, eqb, List, [], ◌∷◌, map, Option, None, Some, refl, ap, arith}
use Rattle.std.specs.Prelude.{option_map}
use Rattle.std.specs.Global.{Vec}
use Rattle.std.specs.declared.alloc.Global.{Global}
use Rattle.std.specs.declared.string.String.{String}
use Rattle.std.proofs.lemmas.Bool.{ne_eqb}
use Rattle.vert_base.specs.declared.text.Span.{Span}
use Rattle.vert_lex.specs.Text.{Placed}
use Rattle.vert_tree.specs.declared.expression.Expr.{Expr}
use Rattle.vert_tree.specs.declared.statement.Stmt.{Stmt}
use Rattle.vert_tree.specs.declared.statement.Stmt as statements
use Rattle.vert_tree.specs.Trees.{More}
use Rattle.vert_tree.specs.Views.{if_of, view, view_block, view_statement}
use Rattle.vert_tree.proofs.Rows.{view-If, view-If_else}
use Rattle.vert_grammar.specs.Faults.{TooDeep}
use Rattle.vert_grammar.specs.Grammar.{Rights}
use Rattle.vert_grammar.specs.Reading.{stop, both, made, place, rest, block_of, braced, choose, else_of, statement_at, tree_at}
use Rattle.tree_reader.specs.Parts.{branch_at}

pub if_view : (names : List (String Global)) (s : Span) (test : Expr) (held : Vec Stmt)
    (otherwise : Option (Vec Stmt)) → view_statement names (statements.If s test held otherwise)
    ≡ if_of s (view names test) (view_block names held.items) (option_map (λ b. view_block names b.items) otherwise)
if_view names s test held None = view-If names s test held
if_view names s test held (Some otherwise) = view-If_else names s test held otherwise

pub block_view : (names : List (String Global)) (xs : List Stmt) →
    view_block names xs ≡ block_of (map (view_statement names) xs)
block_view names [] = refl
block_view names (x ∷ xs) = ap (More (view_statement names x)) (block_view names xs)

pub none_nested : (k : ℕ) (ts : List Placed) → tree_at 0 k ts ≡ stop TooDeep ts
unfolding tree_at
none_nested k ts = refl

pub statement_step : (r : Rights) (b : ℕ) (ts : List Placed) → statement_at r b ts ≡ choose r b (branch_at r b) ts
unfolding statement_at
statement_step r zero ts = refl
statement_step r (suc b) ts = refl

pub branch_stops : (r : Rights) (b : ℕ) (ts : List Placed) → b < 2 → branch_at r b ts ≡ stop TooDeep ts
branch_stops r zero ts lt = refl
branch_stops r (suc zero) ts lt = refl
branch_stops r (suc (suc b)) ts lt = absurd (omega arith)

pub branch_step : (r : Rights) (b : ℕ) (ts : List Placed) → (b < 2 → ⊥)
    → branch_at r b ts ≡ made (λ x. if_of (place ts) x.0 x.1.0 x.1.1)
    (both (tree_at (b - 1) 6) (both (braced (statement_at r (b - 1))) (else_of (statement_at r (b - 1))))) (rest ts)
branch_step r zero ts n = absurd (omega arith)
branch_step r (suc b) ts n =
    let e : suc b - 1 ≡ b = omega arith in
    let z : eqb b 0 ≡ false = ne_eqb b 0 (λ e. omega arith) in
    rw (e, z) refl
