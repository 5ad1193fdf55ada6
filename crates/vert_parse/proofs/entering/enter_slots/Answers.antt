use Rattle.std.proofs.Common.{ap, ◌∙◌, arith}
use Rattle.vert_tree.specs.Views.{view_slot}
use Rattle.vert_parse.specs.Entered.{enter_all, texts_in}
use Rattle.vert_parse.specs.Names.{slot_names}
use Rattle.vert_parse.proofs.Turns.{list_at, list_end, through_map}
use Rattle.vert_parse.proofs.entering.enter_slots.Goals as goal

pub slots-preserved : goal.slots-preserved
slots-preserved c =
    let names = c.args.names.now in
    list_at (λ d. slot_names (view_slot names d)) c.args.slots.now c.slots.slot-index _ (omega arith)
    (texts_in c.slots.used.keys) (texts_in c.enter_slot.new.used.keys) c.in_ok-enter_slot.ensures.entered
    ∙ c.slots.invariant

pub returns-clause-entered : goal.returns-clause-entered
returns-clause-entered c =
    let names = c.args.names.now in
    list_end (λ d. slot_names (view_slot names d)) c.args.slots.now c.slots.slot-index (omega arith)
    (texts_in c.args.used.now.keys) (texts_in c.slots.used.keys) c.slots.invariant
    ∙ ap (enter_all (texts_in c.args.used.now.keys)) (through_map slot_names (view_slot names) c.args.slots.now)
