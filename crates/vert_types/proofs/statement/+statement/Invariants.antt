use Rattle.std.proofs.Common.{◌≡◌, drop}
use Rattle.vert_tree.specs.Views.{view_block}
use Rattle.vert_types.specs.Findings.{first_from}
use Rattle.vert_types.specs.Scopes.{dictionary_in, names_in, view_place, view_rights}
use Rattle.vert_types.specs.Typing.{block_faults}
use Rattle.vert_types.proofs.statement.+statement.Given as goal

-- the faults found so far and those of what is left are those of the block
abbrev pub invariant-check_body-loop-stmt : goal.invariant-check_body-loop-stmt
invariant-check_body-loop-stmt l =
    first_from l.found.first (block_faults (dictionary_in l.scope) (view_rights l.rights) (view_place l.place)
    (view_block (names_in l.scope) (drop l.stmt-index l.body)))
    ≡ first_from l.initial.found.first (block_faults (dictionary_in l.scope) (view_rights l.rights)
    (view_place l.place) (view_block (names_in l.scope) l.body))
