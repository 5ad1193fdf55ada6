use Rattle.std.proofs.Common.{◌≡◌, drop}
use Rattle.std.specs.Prelude.{flat_map}
use Rattle.vert_tree.specs.Views.{view_declaration}
use Rattle.vert_parse.specs.Entered.{enter_all, texts_in}
use Rattle.vert_parse.specs.Names.{declaration_names}
use Rattle.vert_parse.proofs.entering.enter_decls.Given as goal

-- with the names of what is left, all are entered
abbrev pub invariant-decls : goal.invariant-decls
invariant-decls l =
    enter_all (texts_in l.used.keys) (flat_map (λ d. declaration_names (view_declaration l.names d))
    (drop l.decl-index l.decls))
    ≡ enter_all (texts_in l.initial.used.keys) (flat_map (λ d. declaration_names (view_declaration l.names d)) l.decls)
