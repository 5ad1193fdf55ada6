use Rattle.std.proofs.Common.{◌≡◌, drop, map}
use Rattle.vert_tree.specs.Views.{view_total}
use Rattle.vert_types.specs.Findings.{first_from}
use Rattle.vert_types.specs.Scopes.{dictionary_in, names_in, view_place}
use Rattle.vert_types.specs.Typing.{total_faults}
use Rattle.vert_types.proofs.blocks.check_totals.Given as goal

-- the faults found so far and those of what is left are those of all
abbrev pub invariant-loop-total : goal.invariant-loop-total
invariant-loop-total l =
    first_from l.found.first (total_faults (dictionary_in l.scope) (view_place l.place)
    (map (view_total (names_in l.scope)) (drop l.total-index l.totals)))
    ≡ first_from l.initial.found.first (total_faults (dictionary_in l.scope) (view_place l.place)
    (map (view_total (names_in l.scope)) l.totals))
