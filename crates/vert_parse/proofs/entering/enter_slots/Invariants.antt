use Rattle.std.proofs.Common.{◌≡◌, drop}
use Rattle.std.specs.Prelude.{flat_map}
use Rattle.vert_tree.specs.Views.{view_slot}
use Rattle.vert_parse.specs.Entered.{enter_all, texts_in}
use Rattle.vert_parse.specs.Names.{slot_names}
use Rattle.vert_parse.proofs.entering.enter_slots.Given as goal

-- with the names of what is left, all are entered
abbrev pub invariant-slots : goal.invariant-slots
invariant-slots l =
    enter_all (texts_in l.used.keys) (flat_map (λ d. slot_names (view_slot l.names d)) (drop l.slot-index l.slots))
    ≡ enter_all (texts_in l.initial.used.keys) (flat_map (λ d. slot_names (view_slot l.names d)) l.slots)
