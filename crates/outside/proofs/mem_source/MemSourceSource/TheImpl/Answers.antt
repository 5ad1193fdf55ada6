-- What the answer of a take in memory says, as the trait says it.
use Rattle.std.proofs.Common.{arith}
use Rattle.std.proofs.lemmas.Grind.{common_steps}
use Rattle.outside.specs.Calls.{next_fails}
use Rattle.outside.proofs.PiecesLaws.{told_left, told_within, told_rest, told_end}
use Rattle.outside.proofs.mem_source.MemSourceSource.TheImpl.Goals as goal

pub take-tells : goal.take-tells
take-tells c =
    let p = c.args.self.now.pieces in
    let q = c.new.self.now.pieces in
    let old = c.args.into.now in
    let into = c.new.into.now in
    let fails = next_fails c.args.self.now.calls in
    record {
      left = told_left (record {}) p q old into c.result fails c.ensures.answer c.ensures.into c.ensures.pieces;
      within = told_within (record {}) p q old into c.result fails c.ensures.answer;
      rest = told_rest (record {}) p q old into c.result fails c.ensures.answer c.ensures.into;
      end = told_end (record {}) p q old into c.result fails c.ensures.answer;
      counted = grind (arith, common_steps, c.ensures.answer, c.ensures.faults);
      nothing = grind (arith, common_steps, c.ensures.answer, c.ensures.pieces);
      failed = grind (arith, common_steps, c.ensures.answer, c.ensures.faults);
      later = grind (arith, common_steps, c.ensures.answer, c.ensures.faults);
    }
