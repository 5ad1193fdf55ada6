-- A program of which `free` says so doesn't depend on the order of neighbours.
use Rattle.std.proofs.Common.{◌≡◌, ℕ, Bool, true, false, IsTrue, List, refl, Option, Some, None}
use Rattle.std.specs.Prelude.{if◌then◌else◌, is_none}
use Rattle.vert_tree.specs.declared.program.Dense.{Dense}
use Rattle.vert_tree.specs.declared.program.Program.{Program}
use Rattle.vert_tree.specs.Places.{body_placed, loop_rights}
use Rattle.vert_tree.specs.Typed.{is_typed}
use Rattle.carry_analysis.specs.declared.classes.Class.{Class}
use Rattle.carry_analysis.specs.Classes.{body_marks, carry_in, has_break, let_classes}
use Rattle.order_laws.specs.Agreement.{LoopAgrees}
use Rattle.order_laws.specs.OrderFree.{AnyLoopAgrees, IsOrderFree}
use Rattle.order_free.specs.declared.freedom.Freedom.TheVariants.{Reductions, FoundOne, ReachACount, OtherLoop}
use Rattle.order_free.specs.Emits.{first_slot}
use Rattle.order_free.specs.Forms.{is_found_one, is_reach_a_count}
use Rattle.order_free.specs.Free.{freedom_of, is_free, loop_form, unless_first}
use Rattle.order_free.proofs.Fits.{body_fits, class_in}
use Rattle.order_free.proofs.FormLaws.{count_agrees, found_agrees}
use Rattle.order_free.proofs.NoFirst.{program_spares}
use Rattle.order_free.proofs.Reduces.{reduced, run_reduces}
use Rattle.order_free.proofs.TypedParts.{inside, loop_placed}

module _ (p : Program) (typed : is_typed p ≡ true) where
  module _ (d : Dense) (is : p.dense ≡ Some d) where
    abbrev breaks : Bool
    breaks = has_break (body_marks d.body.items)

    abbrev classes : List Class
    classes = let_classes 0 d.lets.items (body_marks d.body.items)

    placed : IsTrue (body_placed loop_rights (inside p typed d) d.body.items)
    placed = loop_placed p typed d is

    reduction_agrees : IsTrue (is_none (carry_in breaks classes)) → LoopAgrees d.body.items
    reduction_agrees h s members others env same =
        let kind = class_in (body_marks d.body.items) in
        reduced kind s d.body.items
        (run_reduces kind (inside p typed d) d.body.items placed
        (body_fits d.lets.items (inside p typed d) d.body.items refl placed h)) members others env same

    by_form : (x y z : Bool) → is_none (carry_in breaks classes) ≡ x → is_found_one classes d.body.items ≡ y →
        is_reach_a_count classes d.body.items ≡ z →
        IsTrue (is_free (if x then Reductions else if y then FoundOne else if z then ReachACount else OtherLoop)) →
        LoopAgrees d.body.items
    by_form true y z e f g h = reduction_agrees e
    by_form false true z e f g h = found_agrees d.lets.items (inside p typed d) d.body.items placed f
    by_form false false true e f g h = count_agrees d.lets.items (inside p typed d) d.body.items placed g
    by_form false false false e f g h = cc

  loop_agrees : (o : Option Dense) → p.dense ≡ o → IsTrue (is_free (loop_form o)) → AnyLoopAgrees o
  loop_agrees None is h = tt
  loop_agrees (Some d) is h =
      by_form d is (is_none (carry_in (breaks d is) (classes d is))) (is_found_one (classes d is) d.body.items)
      (is_reach_a_count (classes d is) d.body.items) refl refl refl h

  by_slot : (o : Option ℕ) → first_slot p ≡ o → IsTrue (is_free (unless_first o (loop_form p.dense))) → IsOrderFree p
  by_slot None e h = record { typed = typed; slots = program_spares p e; loop = loop_agrees p.dense refl h }
  by_slot (Some slot) e h = cc

  pub free_is_order_free : IsTrue (is_free (freedom_of p)) → IsOrderFree p
  free_is_order_free h = by_slot (first_slot p) refl h
