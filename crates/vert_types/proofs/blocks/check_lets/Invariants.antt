use Rattle.std.proofs.Common.{◌≡◌, drop, map}
use Rattle.vert_tree.specs.Views.{view_declaration}
use Rattle.vert_types.specs.Findings.{first_from}
use Rattle.vert_types.specs.Scopes.{dictionary_in, names_in, view_place}
use Rattle.vert_types.specs.Typing.{let_faults}
use Rattle.vert_types.proofs.blocks.check_lets.Given as goal

-- the faults found so far and those of the lets that are left are those of all lets
abbrev pub invariant-loop-i : goal.invariant-loop-i
invariant-loop-i l =
    first_from l.found.first (let_faults (dictionary_in l.scope) (view_place l.place) l.i
    (map (view_declaration (names_in l.scope)) (drop l.i l.lets)))
    ≡ first_from l.initial.found.first (let_faults (dictionary_in l.scope) (view_place l.place) 0
    (map (view_declaration (names_in l.scope)) l.lets))
