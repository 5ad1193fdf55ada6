-- What was summed, as plain data.
use Rattle.body_shape.specs.Tally.{Counted}
use Rattle.symple_face.specs.State.{Sums as PlainSums}
use Rattle.machine_steps.specs.declared.sums.Sums.{Sums}

abbrev pub plain_sums : Sums → PlainSums
plain_sums s = record { active = s.counts.active; edges = s.counts.edges; totals = s.totals.items }

-- the same with the reads
abbrev pub counted_of : Sums → Counted
counted_of s = record {
  active = s.counts.active;
  edges = s.counts.edges;
  reads = s.counts.reads;
  totals = s.totals.items;
}
