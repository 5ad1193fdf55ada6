use Rattle.std.proofs.Common.{◌≡◌, ◌∷◌, ◌∙◌, ap, sym, rules, length, map, None}
use Rattle.edge_reader.specs.EdgePairs.{at_unit, entry_of_unit, units_of}
use Rattle.edge_reader.specs.EdgeText.{code_of}
use Rattle.edge_reader.proofs.GatherLaws.{entry_added, few_added, below_added}
use Rattle.edge_reader.proofs.UnitLaws.{place_next}
use Rattle.edge_reader.proofs.pairs.read_pairs.Goals as goal

pub loop-unit-preserved : goal.loop-unit-preserved
loop-unit-preserved c =
    let front = c.loop-unit.list.items in
    let more = c.add.new.list.items in
    let entry = c.read_unit-entry.result in
    let size = c.unit_size-size.result in
    let count : c.len.result ≡ length front = search rules in
    let fine : code_of None c.args.both (length front) entry ≡ None =
    rw (sym count) (sym c.refusal.ensures ∙ c.in_default-refusal.is) in
    let left = map (entry_of_unit c.args.weighted) (units_of size c.loop-unit.rest.now) in
    let behind = map (entry_of_unit c.args.weighted) (units_of size c.in-Some.after.now) in
    let first : left ≡ entry ∷ behind = rw c.read_unit-entry.ensures
    (ap (map (entry_of_unit c.args.weighted)) c.in-Some.ensures.units) in
    record {
      rest = entry_added None c.args.both (at_unit size) c.loop-unit.number front more entry left behind _ first fine
          c.in_ok-add.ensures c.loop-unit.invariant.rest;
      below = below_added None c.args.both front more entry fine c.in_ok-add.ensures c.loop-unit.invariant.below;
      few = few_added None c.args.both front more entry fine c.in_ok-add.ensures c.loop-unit.invariant.few;
      place = place_next c.loop-unit.number size _ _ _ c.loop-unit.invariant.place c.in-Some.ensures.behind;
    }
