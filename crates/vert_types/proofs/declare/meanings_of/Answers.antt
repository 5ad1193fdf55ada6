use Rattle.std.proofs.Common.{◌≡◌, List, None, Option, ap, map, refl, ◌∙◌}
use Rattle.vert_tree.specs.declared.name.What.TheVariants as what
use Rattle.vert_tree.specs.declared.program.Decl.{Decl}
use Rattle.vert_types.specs.declared.scope.Meaning.{Meaning}
use Rattle.vert_types.specs.Findings.{first_from}
use Rattle.vert_types.specs.Tables.{all_items, items_from, table_after, twice_in, typed_decl, typed_slot, typed_total}
use Rattle.vert_tree.specs.Places.{sends_in, lets_in}
use Rattle.vert_types.proofs.TableLaws.{Declares, declares, then_declares}
use Rattle.vert_types.proofs.declare.meanings_of.Goals as goal

all : (c : goal.After-declare_sends) → Declares c.in_ok-meanings.meanings.items c.args.found.now.first
    (all_items c.args.program.now) c.declare_sends.new.meanings.items c.declare_sends.new.found.first
all c =
    let p = c.args.program.now in
    let fields = declares (λ l. items_from what.Field 0 (map typed_decl l)) c.deref-2.result.now p.fields.items _ _ _
    _ c.deref-2.ensures.value c.declare_all.ensures.table c.declare_all.ensures.faults in
    let slots = declares (λ l. items_from what.Slot 0 (map typed_slot l)) c.deref-3.result.now p.slots.items _ _ _ _
    c.deref-3.ensures.value c.declare_slots.ensures.table c.declare_slots.ensures.faults in
    let totals = declares (λ l. items_from what.Total 0 (map typed_total l)) c.deref-4.result.now p.totals.items _ _ _
    _ c.deref-4.ensures.value c.declare_totals.ensures.table c.declare_totals.ensures.faults in
    let lets = declares (λ (l : List Decl). items_from what.Local 0 (map typed_decl l)) (lets_in p.dense)
    (lets_in p.dense) _ _ _ _ refl c.declare_lets.ensures.table c.declare_lets.ensures.faults in
    let sends = declares (λ (l : List Decl). items_from what.Send 0 (map typed_decl l)) (sends_in p.sparse)
    (sends_in p.sparse) _ _ _ _ refl c.declare_sends.ensures.table c.declare_sends.ensures.faults in
    then_declares _ _ _ _ _ _ _ _ fields (then_declares _ _ _ _ _ _ _ _ slots
    (then_declares _ _ _ _ _ _ _ _ totals (then_declares _ _ _ _ _ _ _ _ lets sends)))

blank : (c : goal.After-declare_sends) → c.in_ok-meanings.meanings.items
    ≡ map (λ name. let none : Option Meaning = None in none) c.args.program.now.names.items
blank c = c.in_ok-meanings.ensures ∙ ap (map (λ name. let none : Option Meaning = None in none)) c.deref.ensures.value

pub returns-clause-table : goal.returns-clause-table
returns-clause-table c = (all c).table ∙ ap (λ t. table_after t (all_items c.args.program.now)) (blank c)

pub returns-clause-faults : goal.returns-clause-faults
returns-clause-faults c = (all c).faults ∙
    ap (λ t. first_from c.args.found.now.first (twice_in t (all_items c.args.program.now))) (blank c)
