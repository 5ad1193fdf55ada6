use Rattle.std.proofs.Common.{◌≡◌, drop}
use Rattle.vert_tree.specs.Views.{view_block}
use Rattle.vert_parse.specs.Entered.{enter_all, texts_in}
use Rattle.vert_parse.specs.Names.{block_names}
use Rattle.vert_parse.proofs.entering.+entering.Given as goal

-- with the names of the statements that are left, those of the block are entered
abbrev pub invariant-enter_body-body : goal.invariant-enter_body-body
invariant-enter_body-body l =
    enter_all (texts_in l.used.keys) (block_names (view_block l.names (drop l.stmt-index l.body)))
    ≡ enter_all (texts_in l.initial.used.keys) (block_names (view_block l.names l.body))
