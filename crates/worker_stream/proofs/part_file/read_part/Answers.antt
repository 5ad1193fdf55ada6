-- The sections of the bytes decide, and a part that was written is read back.
use Rattle.std.proofs.Common.{◌∙◌, Err, sym}
use Rattle.worker_stream.specs.declared.fault.PartFault.TheVariants.{Length}
use Rattle.worker_stream.specs.Answers.{ReadsPart}
use Rattle.worker_stream.specs.Numbers.{plain_sections}
use Rattle.worker_stream.proofs.SectionAnswers.{read_sections}
use Rattle.worker_stream.proofs.BackLaws.{read_back}
use Rattle.worker_stream.proofs.part_file.read_part.Goals as goal

pub returns-in-Some : goal.returns-in-Some
returns-in-Some c =
    let answer : ReadsPart c.args.bytes.now c.part_of.result =
    read_sections c.args.bytes.now (plain_sections c.in-Some.sections) c.part_of.result
    (sym c.starts_with.ensures.value ∙ c.if-not-starts_with.false) c.in-Some.ensures.cut c.part_of.ensures in
    record {
      answer = answer;
      back = λ part program fits is. read_back part program fits c.args.bytes.now c.part_of.result is answer;
    }

pub returns-in-None-clause-back : goal.returns-in-None-clause-back
returns-in-None-clause-back c = λ part program fits is.
    read_back part program fits c.args.bytes.now (Err Length) is
    (sym c.starts_with.ensures.value ∙ c.if-not-starts_with.false, c.in-None.ensures.cut)
