use Rattle.std.proofs.Common.{◌≡◌, drop}
use Rattle.std.specs.Prelude.{flat_map}
use Rattle.vert_tree.specs.Views.{view_total}
use Rattle.vert_parse.specs.Entered.{enter_all, texts_in}
use Rattle.vert_parse.specs.Names.{total_names}
use Rattle.vert_parse.proofs.entering.enter_totals.Given as goal

-- with the names of what is left, all are entered
abbrev pub invariant-totals : goal.invariant-totals
invariant-totals l =
    enter_all (texts_in l.used.keys) (flat_map (λ d. total_names (view_total l.names d)) (drop l.total-index l.totals))
    ≡ enter_all (texts_in l.initial.used.keys) (flat_map (λ d. total_names (view_total l.names d)) l.totals)
