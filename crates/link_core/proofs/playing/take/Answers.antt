use Rattle.std.proofs.Common.{◌≡◌, ◌≤◌, refl, ap, arith, true}
use Rattle.std.specs.Prelude.{None, Some, if◌then◌else◌}
use Rattle.std.proofs.lemmas.Bool.Decides.{nat_tests}
use Rattle.cluster_run.specs.declared.fault.EventFault.TheVariants.{NotUnderWay}
use Rattle.link_core.specs.declared.fault.LinkFault.TheVariants.{Plain}
use Rattle.link_core.specs.LinkRuns.{linked_of}
use Rattle.link_core.specs.Piles.{count_of}
use Rattle.link_core.specs.Traffic.{has_copy}
use Rattle.link_core.specs.Wires.{traffic_of}
use Rattle.link_core.proofs.playing.take.Goals as goal

pub returns-clause-played : goal.returns-clause-played
returns-clause-played g c =
    let there : 1 ≤ count_of c.args.name.now c.args.wire.now.copies =
    (let is = c.count_of.ensures.count in let some = c.if-count_of-lt1.false in omega arith) in
    let copy : has_copy (traffic_of c.args.wire.now) c.args.name.now ≡ true = grind (arith, nat_tests) in
    record {
      free = ap (λ b. if b then None else Some (Plain NotUnderWay)) copy;
      world = c.in_ok-accept.ensures (linked_of c.args.cluster.now.world c.args.wire.now) refl;
      traffic = c.in_ok-take.ensures;
    }
