use Rattle.skeleton_laws.proofs.OrderLaws.{each_is_takeable, few_are_under_way, each_was_taken, each_stands, the_rulings_stay, begins_have_modes, some_event_moves, finished_is_empty, finished_is_still, steps_reach}
use Rattle.skeleton_laws.proofs.laws.event_order.Goals as goal

pub returns-clause-takeable : goal.returns-clause-takeable
returns-clause-takeable c = each_is_takeable

pub returns-clause-few : goal.returns-clause-few
returns-clause-few c = few_are_under_way

pub returns-clause-taken : goal.returns-clause-taken
returns-clause-taken c = each_was_taken

pub returns-clause-stands : goal.returns-clause-stands
returns-clause-stands c = each_stands

pub returns-clause-rulings : goal.returns-clause-rulings
returns-clause-rulings c = the_rulings_stay

pub returns-clause-begins : goal.returns-clause-begins
returns-clause-begins c = begins_have_modes

pub returns-clause-moves : goal.returns-clause-moves
returns-clause-moves c = some_event_moves

pub returns-clause-ends : goal.returns-clause-ends
returns-clause-ends c = finished_is_empty

pub returns-clause-still : goal.returns-clause-still
returns-clause-still c = finished_is_still

pub returns-clause-reach : goal.returns-clause-reach
returns-clause-reach c = steps_reach
