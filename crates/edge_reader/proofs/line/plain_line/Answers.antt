-- The two numbers are the words of the line.
use Rattle.std.proofs.Common.{sym, ◌∙◌}
use Rattle.edge_reader.proofs.PlainLaws.{plain_entries}
use Rattle.edge_reader.proofs.line.plain_line.Goals as goal

pub returns-clause-entries : goal.returns-clause-entries
returns-clause-entries c =
    plain_entries c.args.bytes.now c.in_ok-from.rest.now c.in_ok-to.rest.now c.in_ok-from.from c.in_ok-to.to
    c.in_ok-from.separator c.in_ok-to.end c.from_numbers-entry.result
    c.in_ok-from.ensures.says (sym c.blank.ensures ∙ c.if-not-blank.false)
    c.in_ok-to.ensures.says c.if-end-ne10.false c.from_numbers-entry.ensures
