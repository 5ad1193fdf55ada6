-- The spans so far are those of the edges before the place.
use Rattle.std.proofs.Common.{◌-◌, length}
use Rattle.graph_table.specs.Sides.{key_of}
use Rattle.machine_parts.proofs.SpanLaws.{IsSpanning}
use Rattle.machine_parts.proofs.spans.spans_of.Given as goal

abbrev pub invariant-spans : goal.invariant-spans
invariant-spans l = IsSpanning (key_of l.side) l.edges l.start l.spans.items

abbrev pub decreases-spans : goal.decreases-spans
decreases-spans l = length l.edges - l.start
