-- One total more is joined.
use Rattle.std.proofs.Common.{◌∙◌, arith, rules, w64}
use Rattle.std.proofs.lemmas.Int.{to_z-of_z}
use Rattle.machine_steps.proofs.JudgeLaws.{join_end, join_more}
use Rattle.machine_steps.proofs.judging.words_joined.Goals as goal

pub loop-i-preserved : goal.loop-i-preserved
loop-i-preserved c =
    let here = to_z-of_z w64 c.joined_at.result (search rules) ∙ c.joined_at.ensures in
    let low = c.loop-i-test.true in
    record {
      words = join_more c.args.totals.now c.args.held.now c.args.told.now c.loop-i.i c.loop-i.words.items
          c.push.new.self.items c.index-totals-i.result c.index-totals-i.result _ low
          (omega (arith, low, c.requires.held)) (omega (arith, low, c.requires.told)) c.index-totals-i.is here
          c.push.ensures.items c.loop-i.invariant.words;
      len = omega (arith, c.push.ensures.len, c.loop-i.invariant.len);
    }

pub returns-clause-words : goal.returns-clause-words
returns-clause-words c = join_end c.args.totals.now c.args.held.now c.args.told.now c.loop-i.i c.loop-i.words.items
    c.loop-i-test.false c.loop-i.invariant.words
