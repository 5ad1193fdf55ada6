-- Parts of the readers, under names of their own.
use Rattle.std.specs.Prelude.{ℕ, zero, suc, Bool, ◌&&◌, Option}
use Rattle.vert_lex.specs.Tokens.{Kind}
use Rattle.vert_lex.specs.declared.marks.TheConstants as mark
use Rattle.vert_lex.specs.declared.words.TheConstants as word
use Rattle.vert_tree.specs.Trees.{Tree, Statement, Statements, SparseBlock}
use Rattle.vert_tree.specs.Views.{if_of}
use Rattle.vert_grammar.specs.Faults.{TooDeep}
use Rattle.vert_grammar.specs.Grammar.{Rights, limits, loop_rights, tail_rights}
use Rattle.vert_grammar.specs.Reading.{Parser, block_at, both, braced, else_of, if_begins, is_stop, made, maybe, node, single, sparse_at, statement_at, stop, stop_at, the_mark, the_word, tree_at, two_of, update_at, named_at, other_at, draw_at, is_atom, atom_of}
use Rattle.vert_grammar.specs.Signs.{builtin_of, is_builtin, is_name, is_other, is_word, word_in}

-- one of the four words that may stand behind `u.`
abbrev pub is_other_word : Kind → Bool
is_other_word k = is_builtin k && is_other (builtin_of (word_in k))

-- an expression that no other is part of
abbrev pub plain_at : Parser Tree
plain_at =
    if_begins is_name named_at
    (if_begins (is_word word.U) other_at
    (if_begins (is_word word.DRAW) draw_at
    (single is_atom atom_of)))

-- two expressions in parentheses, where so many nodes may be nested
abbrev pub pair_at : ℕ → Parser (Tree × Tree)
pair_at b = made (λ x. (x.1.0, x.1.1.1.0)) (two_of (tree_at b))

-- an `if`, where so many nodes may be nested
abbrev pub branch_at : Rights → ℕ → Parser Statement
branch_at r zero = stop TooDeep
branch_at r (suc b) = node b (λ s x. if_of s x.0 x.1.0 x.1.1)
    (both (tree_at b 6) (both (braced (statement_at r b)) (else_of (statement_at r b))))

-- the loop body and the tail of a dense block
abbrev pub loop_at : Parser (Statements × Statements)
loop_at =
    made (λ x. (x.1.1.1.0, x.1.1.1.1.1.0))
    (both (the_word word.FOR) (both (the_word word.U)
    (both (the_mark mark.LEFT_BRACE) (both (block_at loop_rights 64) (both (the_mark mark.RIGHT_BRACE)
    (both (block_at tail_rights 64) (the_mark mark.RIGHT_BRACE)))))))

-- the blocks behind the dense one
abbrev pub LaterBlocks : Type 0
LaterBlocks = Option SparseBlock × (Statements × Option Tree)

abbrev pub later_at : ℕ → Parser LaterBlocks
later_at version = both (maybe (is_word word.SPARSE) (sparse_at limits))
    (both (update_at 64) (maybe (is_stop version) (stop_at 64)))
