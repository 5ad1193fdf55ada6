-- The vertices so far are at the end of the round, and those that are left as they were.
use Rattle.std.proofs.Common.{◌≡◌, ◌++◌, drop, map}
use Rattle.std.specs.List.{range_with_len}
use Rattle.symple_face.specs.CoreTakes.{empty_partials}
use Rattle.vertex_work.specs.Closing.{ended_at, own_view}
use Rattle.vertex_work.specs.Tails.{SameRound}
use Rattle.machine_steps.proofs.close.end_rows.Given as goal

abbrev pub invariant-places : goal.invariant-places
invariant-places l =
    let split = l.ending.split.now in
    let start = l.ending.start in
    let g = own_view l.initial.rows.rows l.ending.degrees.now start l.initial.env in
    record {
      rows : l.rows.rows ≡
          map (ended_at l.ending.tail split g l.ending.key start l.initial.partials.rows l.ring.states)
          (range_with_len start l.place) ++ drop l.place l.initial.rows.rows;
      width : l.rows.width ≡ l.initial.rows.width;
      partials : l.partials.rows ≡ map (λ v. empty_partials split) (range_with_len start l.place)
          ++ drop l.place l.initial.partials.rows;
      cells : l.partials.width ≡ l.initial.partials.width;
      round : SameRound l.initial.env l.env;
    }
