use Rattle.std.proofs.Common.{◌∙◌, arith}
use Rattle.outside.proofs.BytesLaws.{gained_more}
use Rattle.array_text.proofs.put.put_all.Goals as goal

pub loop-done-preserved : goal.loop-done-preserved
loop-done-preserved g c = record {
  within = omega (arith, c.in_ok-done.ensures.within);
  held = gained_more (g.O.Sink.held c.args.out.now) c.args.bytes.now c.loop-done.done c.in_ok-done.field-0
      (g.O.Sink.held c.loop-done.out) (g.O.Sink.held c.put.new.self) c.loop-done.invariant.held
      c.in_ok-done.ensures.held;
  counted = c.in_ok-done.ensures.counted ∙ c.loop-done.invariant.counted;
  spared = omega (arith, c.in_ok-done.ensures.spared, c.loop-done.invariant.spared);
}
