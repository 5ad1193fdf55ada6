-- Programs whose rows don't depend on the order in which neighbours are read.
use Rattle.std.specs.Prelude.{ℕ, Bool, true, false, List, Option, Some, None, is_none, if◌then◌else◌}
use Rattle.vert_tree.specs.declared.statement.Stmt.{Stmt}
use Rattle.vert_tree.specs.declared.program.Dense.{Dense}
use Rattle.vert_tree.specs.declared.program.Program.{Program}
use Rattle.carry_analysis.specs.declared.classes.Class.{Class}
use Rattle.carry_analysis.specs.Classes.{body_marks, carry_in, has_break, let_classes}
use Rattle.order_free.specs.declared.freedom.Freedom.{Freedom}
use Rattle.order_free.specs.declared.freedom.Freedom.TheVariants.{NoLoop, Reductions, FoundOne, ReachACount, FirstSlot, OtherLoop}
use Rattle.order_free.specs.Emits.{first_slot}
use Rattle.order_free.specs.Forms.{is_found_one, is_reach_a_count}

-- the form of a loop body, given whether it may break and the classes of its lets: no break and no
-- carried let, or one of the other two forms
abbrev pub form_of : Bool → List Class → List Stmt → Freedom
form_of breaks classes body =
    if is_none (carry_in breaks classes) then Reductions
    else if is_found_one classes body then FoundOne
    else if is_reach_a_count classes body then ReachACount
    else OtherLoop

abbrev pub loop_form : Option Dense → Freedom
loop_form None = NoLoop
loop_form (Some d) =
    let marks = body_marks d.body.items in
    form_of (has_break marks) (let_classes 0 d.lets.items marks) d.body.items

abbrev pub unless_first : Option ℕ → Freedom → Freedom
unless_first None form = form
unless_first (Some slot) form = FirstSlot slot

-- what `free` answers: the least slot of kind `first` to which a neighbour may emit, else the form of
-- the loop
abbrev pub freedom_of : Program → Freedom
freedom_of p = unless_first (first_slot p) (loop_form p.dense)

-- the answers that say that the order doesn't matter
abbrev pub is_free : Freedom → Bool
is_free NoLoop = true
is_free Reductions = true
is_free FoundOne = true
is_free ReachACount = true
is_free (FirstSlot slot) = false
is_free OtherLoop = false
