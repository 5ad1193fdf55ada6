use Rattle.std.proofs.Common.{List, ℕ, subst, Ok, Err, ap, refl, ◌∙◌}
use Rattle.edge_reader.specs.declared.fault.EdgeFault.{EdgeFault}
use Rattle.edge_reader.specs.declared.fault.EdgeFault.TheVariants.{Byte, Line}
use Rattle.edge_reader.specs.Gives.{Gives}
use Rattle.command_steps.specs.Commands.{graph_of, too_long_graph}
use Rattle.command_steps.specs.States.{shelf_state}
use Rattle.command_steps.specs.Walks.{BadFile, NoFile, WantsForFile}
use Rattle.command_steps.proofs.LoadLaws.{bytes_under, has_failed, is_long, is_missing, loaded_same, wanted_same, within_items}
use Rattle.command_steps.proofs.read.load_graph_bytes.Goals as goal

pub returns-in-Err-TooLong-clause-graph : goal.returns-in-Err-TooLong-clause-graph
returns-in-Err-TooLong-clause-graph g c =
    let old = shelf_state g.H.Shelf.files g.H.Shelf.loads g.H.Shelf.stores c.args.shelf.now in
    let new = shelf_state g.H.Shelf.files g.H.Shelf.loads g.H.Shelf.stores c.load.new.self in
    let is = c.in-Err-TooLong.is ∙ ap Err c.in-Err-TooLong.field-0-is in
    NoFile (is_long old new c.load.ensures.same_files c.load.ensures.same_stores c.args.name.now 268435456
    too_long_graph c.load.result c.load.ensures.counted is (c.load.ensures.too_long is))

pub returns-in-Err-Want-clause-graph : goal.returns-in-Err-Want-clause-graph
returns-in-Err-Want-clause-graph g c =
    let old = shelf_state g.H.Shelf.files g.H.Shelf.loads g.H.Shelf.stores c.args.shelf.now in
    let new = shelf_state g.H.Shelf.files g.H.Shelf.loads g.H.Shelf.stores c.load.new.self in
    WantsForFile (wanted_same old new c.load.ensures.same_files c.load.ensures.same_stores c.load.result
    c.load.ensures.counted (c.in-Err-Want.is ∙ ap Err c.in-Err-Want.field-0-is)) refl

pub returns-in-Err-Failed-clause-graph : goal.returns-in-Err-Failed-clause-graph
returns-in-Err-Failed-clause-graph g c =
    let old = shelf_state g.H.Shelf.files g.H.Shelf.loads g.H.Shelf.stores c.args.shelf.now in
    let new = shelf_state g.H.Shelf.files g.H.Shelf.loads g.H.Shelf.stores c.load.new.self in
    NoFile (has_failed old new c.load.ensures.same_files c.load.ensures.same_stores c.args.name.now 268435456
    too_long_graph _ c.in_ok-unread.ensures.ok
    (c.load.ensures.failed (c.in-Err-Failed.is ∙ ap Err c.in-Err-Failed.field-0-is)))

pub returns-in-Err-Missing-clause-graph : goal.returns-in-Err-Missing-clause-graph
returns-in-Err-Missing-clause-graph g c =
    let old = shelf_state g.H.Shelf.files g.H.Shelf.loads g.H.Shelf.stores c.args.shelf.now in
    let new = shelf_state g.H.Shelf.files g.H.Shelf.loads g.H.Shelf.stores c.load.new.self in
    let is = c.in-Err-Missing.is ∙ ap Err c.in-Err-Missing.field-0-is in
    NoFile (is_missing old new c.load.ensures.same_files c.load.ensures.same_stores c.args.name.now 268435456
    too_long_graph _ c.in_ok-unread.ensures.ok
    (c.load.ensures.missing is) (c.load.ensures.untold_missing is))

pub returns-in-Ok-read_graph-clause-graph : goal.returns-in-Ok-read_graph-clause-graph
returns-in-Ok-read_graph-clause-graph g c =
    let old = shelf_state g.H.Shelf.files g.H.Shelf.loads g.H.Shelf.stores c.args.shelf.now in
    let new = shelf_state g.H.Shelf.files g.H.Shelf.loads g.H.Shelf.stores c.load.new.self in
    let P : List ℕ → Type 0 = λ bytes. Gives (graph_of c.args.form.now bytes) (Ok c.in-Ok-read_graph.edges) in (
      record {
        bytes = c.in-Ok.bytes.items;
        under = bytes_under (g.H.Shelf.files c.args.shelf.now) c.args.name.now c.in-Ok.bytes.items
            c.in-Ok.ensures.bytes;
        within = within_items c.in-Ok.bytes 268435456 c.in-Ok.ensures.within;
        reads = subst P c.deref.ensures.value c.in-Ok-read_graph.ensures;
        same = loaded_same old new c.load.ensures.same_files c.load.ensures.same_stores c.load.result
            c.load.ensures.counted c.in-Ok.bytes c.in-Ok.is;
      },
      refl,
    )

pub returns-in-Err-Line-clause-graph : goal.returns-in-Err-Line-clause-graph
returns-in-Err-Line-clause-graph g c =
    let old = shelf_state g.H.Shelf.files g.H.Shelf.loads g.H.Shelf.stores c.args.shelf.now in
    let new = shelf_state g.H.Shelf.files g.H.Shelf.loads g.H.Shelf.stores c.load.new.self in
    let P : List ℕ → Type 0 = λ bytes. Gives (graph_of c.args.form.now bytes)
    (Err (Line c.in-Err-Line.code c.in-Err-Line.line)) in
    let Q : EdgeFault → Type 0 = λ fault. Gives (graph_of c.args.form.now c.deref.result.now) (Err fault) in
    BadFile c.in-Ok.bytes.items (bytes_under (g.H.Shelf.files c.args.shelf.now) c.args.name.now c.in-Ok.bytes.items
    c.in-Ok.ensures.bytes) (within_items c.in-Ok.bytes 268435456 c.in-Ok.ensures.within)
    (Line c.in-Err-Line.code c.in-Err-Line.line)
    (subst P c.deref.ensures.value (subst Q c.in-Err-Line.field-0-is c.in-Err-Line.ensures))
    (loaded_same old new c.load.ensures.same_files c.load.ensures.same_stores c.load.result c.load.ensures.counted
    c.in-Ok.bytes c.in-Ok.is) refl

pub returns-in-Err-Byte-clause-graph : goal.returns-in-Err-Byte-clause-graph
returns-in-Err-Byte-clause-graph g c =
    let old = shelf_state g.H.Shelf.files g.H.Shelf.loads g.H.Shelf.stores c.args.shelf.now in
    let new = shelf_state g.H.Shelf.files g.H.Shelf.loads g.H.Shelf.stores c.load.new.self in
    let P : List ℕ → Type 0 = λ bytes. Gives (graph_of c.args.form.now bytes)
    (Err (Byte c.in-Err-Byte.code c.in-Err-Byte.at)) in
    let Q : EdgeFault → Type 0 = λ fault. Gives (graph_of c.args.form.now c.deref.result.now) (Err fault) in
    BadFile c.in-Ok.bytes.items (bytes_under (g.H.Shelf.files c.args.shelf.now) c.args.name.now c.in-Ok.bytes.items
    c.in-Ok.ensures.bytes) (within_items c.in-Ok.bytes 268435456 c.in-Ok.ensures.within)
    (Byte c.in-Err-Byte.code c.in-Err-Byte.at)
    (subst P c.deref.ensures.value (subst Q c.in-Err-Byte.field-0-is c.in-Err-Byte.ensures))
    (loaded_same old new c.load.ensures.same_files c.load.ensures.same_stores c.load.result c.load.ensures.counted
    c.in-Ok.bytes c.in-Ok.is) refl

pub returns-clause-graph : goal.returns-clause-graph
returns-clause-graph g c =
    let old = shelf_state g.H.Shelf.files g.H.Shelf.loads g.H.Shelf.stores c.args.shelf.now in
    let new = shelf_state g.H.Shelf.files g.H.Shelf.loads g.H.Shelf.stores c.load.new.self in
    WantsForFile (loaded_same old new c.load.ensures.same_files c.load.ensures.same_stores c.load.result
    c.load.ensures.counted c.in-Ok.bytes c.in-Ok.is) refl
