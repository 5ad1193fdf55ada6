-- One total more has its value.
use Rattle.std.proofs.Common.{◌∙◌, arith, rules, w64}
use Rattle.std.proofs.lemmas.Int.{to_z-of_z}
use Rattle.machine_parts.proofs.TotalLaws.{values_more}
use Rattle.machine_parts.proofs.totals.with_values.Goals as goal

pub loop-i-preserved : goal.loop-i-preserved
loop-i-preserved c =
    let here = to_z-of_z w64 c.with_value.result (search rules) ∙ c.with_value.ensures in
    record {
      words = values_more c.args.env.now c.args.totals.now c.args.held.now c.loop-i.words.items c.push.new.self.items
          c.loop-i.i c.index-totals-i.result c.index-totals-i.result _ _
          c.loop-i-test.true (omega (arith, c.requires.each)) c.index-totals-i.is c.loop-i.invariant.words here
          c.push.ensures.items;
      len = omega (arith, c.push.ensures.len, c.loop-i.invariant.len);
    }
