use Rattle.std.proofs.Common.{◌≤◌, length, rules, arith, of_calls}
use Rattle.std.proofs.lemmas.Fn.{always_returns_same}
use Rattle.vert_base.specs.Names.{is_before}
use Rattle.flight.specs.declared.entries.Entry.{Entry}
use Rattle.flight.proofs.PlaceLaws.{parted, point_is}
use Rattle.flight.proofs.entries.place_of.Goals as goal

pub returns-clause-value : goal.returns-clause-value
returns-clause-value c = λ messages.
    let x = c.args.name.now in
    let point = c.partition_point.ensures.partitioned (λ (e : Entry). is_before e.name x)
    (always_returns_same _ _ _ (λ a r f k. search (rules, of_calls)))
    (parted messages x c.args.entries.now.items (c.requires messages)) in
    let within : c.partition_point.result ≤ length c.args.entries.now.items = omega arith in
    point_is messages x c.args.entries.now.items c.partition_point.result within point
