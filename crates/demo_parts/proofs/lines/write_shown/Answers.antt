use Rattle.std.proofs.Common.{◌++◌, sym, append_assoc}
use Rattle.array_text.proofs.WritesLaws.{writes_failed, writes_same, writes_then}
use Rattle.demo_parts.specs.ShownTexts.{graph_line, rounds_line, table_line}
use Rattle.demo_parts.proofs.lines.write_shown.Goals as goal

pub returns : goal.returns
returns g c = writes_then _
    (writes_then _ c.in_ok-write_graph_line.ensures c.in_ok-write_rounds_line.ensures) c.write_table_line.ensures

pub returns-in_err-write_rounds_line : goal.returns-in_err-write_rounds_line
returns-in_err-write_rounds_line g c =
    writes_failed (table_line c.args.digest.now) c.from_residual-in_err-write_rounds_line.result
    c.from_residual-in_err-write_rounds_line.ensures.0
    (writes_then _ c.in_ok-write_graph_line.ensures c.in_err-write_rounds_line.ensures)

pub returns-in_err-write_graph_line : goal.returns-in_err-write_graph_line
returns-in_err-write_graph_line g c =
    let lines = rounds_line c.args.rounds c.args.reads in
    let table = table_line c.args.digest.now in
    writes_same (sym (append_assoc (graph_line c.args.machines) lines table))
    (writes_failed (lines ++ table) c.from_residual.result c.from_residual.ensures.0
    c.in_err-write_graph_line.ensures)
