use Rattle.std.proofs.Common.{◌≡◌, drop, map}
use Rattle.vert_tree.specs.Views.{view_declaration}
use Rattle.vert_types.specs.Findings.{first_from}
use Rattle.vert_types.specs.Scopes.{dictionary_in, names_in, view_place}
use Rattle.vert_types.specs.Typing.{declaration_faults}
use Rattle.vert_types.proofs.blocks.check_decls.Given as goal

-- the faults found so far and those of what is left are those of all
abbrev pub invariant-loop-decl : goal.invariant-loop-decl
invariant-loop-decl l =
    first_from l.found.first (declaration_faults (dictionary_in l.scope) (view_place l.place)
    (map (view_declaration (names_in l.scope)) (drop l.decl-index l.decls)))
    ≡ first_from l.initial.found.first (declaration_faults (dictionary_in l.scope) (view_place l.place)
    (map (view_declaration (names_in l.scope)) l.decls))
