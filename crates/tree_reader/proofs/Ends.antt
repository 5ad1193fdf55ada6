-- What is read of all of the tokens.
use Rattle.std.proofs.Common.{◌≡◌, ◌≤◌, List, [], ◌∷◌, length, Ok, refl, arith}
use Rattle.std.specs.declared.alloc.Global.{Global}
use Rattle.std.specs.declared.string.String.{String}
use Rattle.vert_lex.specs.Text.{Placed}
use Rattle.vert_tree.specs.Trees.{ProgramTree}
use Rattle.vert_grammar.specs.Faults.{Unexpected}
use Rattle.vert_grammar.specs.Grammar.{Limits}
use Rattle.vert_grammar.specs.Reading.{all_of, program_at, stop}
use Rattle.tree_reader.specs.declared.sign.Sign.{Sign}
use Rattle.tree_reader.specs.Signs.{plain}

pub left_over : (names : List (String Global)) (l : Limits) (ts : List Placed) (p : ProgramTree) (r : List Sign) →
    program_at l ts ≡ Ok (p, plain names r) → 1 ≤ length r → all_of l ts ≡ stop Unexpected (plain names r)
unfolding all_of
left_over names l ts p [] e h = absurd (omega arith)
left_over names l ts p (x ∷ xs) e h = rw e refl
