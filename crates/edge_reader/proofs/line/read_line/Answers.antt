use Rattle.std.proofs.Common.{◌∙◌, sym}
use Rattle.edge_reader.specs.Words.{number_of}
use Rattle.edge_reader.specs.Lines.{weight_of}
use Rattle.edge_reader.proofs.LineLaws.{line_three}
use Rattle.edge_reader.proofs.EntryLaws.{numbers_capped}
use Rattle.edge_reader.proofs.line.read_line.Goals as goal

pub returns-in-None : goal.returns-in-None
returns-in-None c =
    let says = line_three c.args.line.now c.trimmed.result.now c.in-Some.from.now c.in-Some-next_word.to.now
    c.in-Some-next_word-2.last.now
    c.in-Some.rest.now c.in-Some-next_word.rest.now c.in-Some-next_word-2.rest.now
    c.trimmed.ensures c.in-Some.ensures (sym c.begins_comment.ensures ∙ c.if-begins_comment.false)
    c.in-Some-next_word.ensures c.in-Some-next_word-2.ensures c.in-None.ensures in
    rw (c.from_numbers-in-None.ensures, c.number-in-None.ensures, c.number-in-None-2.ensures, c.weight.ensures)
    (numbers_capped (number_of c.in-Some.from.now) (number_of c.in-Some-next_word.to.now)
    (weight_of c.in-Some-next_word-2.last.now) ∙ sym says)
