-- The totals over the vertices so far. Of the environment all stays but what is entered anew.
use Rattle.std.proofs.Common.{◌≡◌, map}
use Rattle.machine_parts.proofs.TotalLaws.{settled, total_upto}
use Rattle.machine_parts.proofs.totals.own_totals.Given as goal

abbrev pub invariant-places : goal.invariant-places
invariant-places l = record {
  env : settled l.env ≡ settled l.initial.env;
  words : l.words.items ≡ map (total_upto l.rows.rows l.degrees l.start l.initial.env l.place) l.totals;
}
