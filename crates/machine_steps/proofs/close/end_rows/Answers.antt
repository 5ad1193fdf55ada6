-- One own vertex after another.
use Rattle.std.proofs.Common.{◌≡◌, ◌≤◌, ◌<◌, ◌∙◌, [], length, map, ap, sym, arith}
use Rattle.std.specs.List.{range_with_len}
use Rattle.std.proofs.lemmas.List.Elements.{All-get_or}
use Rattle.symple_face.specs.CoreTakes.{empty_partials}
use Rattle.vertex_work.specs.Closing.{ended_at, own_view}
use Rattle.machine_steps.proofs.CloseLaws.{can_still, own_more, rows_more}
use Rattle.vertex_work.proofs.PassLaws.{pass_done, pass_here, pass_length}
use Rattle.machine_steps.proofs.close.end_rows.Goals as goal

pub end_place-requires-clause-can : goal.end_place-requires-clause-can
end_place-requires-clause-can c =
    let e = c.args.ending.now in
    let first = c.args.rows.now in
    let g = own_view first.rows e.degrees.now e.start c.args.env.now in
    let before : c.places.place < length c.args.rows.now.rows =
    omega (arith, c.places-test.true, c.len-place-end.ensures) in
    let many = pass_length (ended_at e.tail e.split.now g e.key e.start c.args.partials.now.rows c.args.ring.now.states)
    e.start c.places.place first.rows c.places.rows.rows c.places.invariant.rows (omega arith) in
    can_still e.split.now e.code.now e.start (length first.rows) (length e.degrees.now) first.width _ _ c.args.env.now
    c.places.env c.requires.can many c.places.invariant.width c.places.invariant.round

pub end_place-requires-clause-place : goal.end_place-requires-clause-place
end_place-requires-clause-place c =
    let e = c.args.ending.now in
    let first = c.args.rows.now in
    let g = own_view first.rows e.degrees.now e.start c.args.env.now in
    let before : c.places.place < length c.args.rows.now.rows =
    omega (arith, c.places-test.true, c.len-place-end.ensures) in
    let many = pass_length (ended_at e.tail e.split.now g e.key e.start c.args.partials.now.rows c.args.ring.now.states)
    e.start c.places.place first.rows c.places.rows.rows c.places.invariant.rows (omega arith) in
    omega (arith, many, before)

pub end_place-requires-clause-states : goal.end_place-requires-clause-states
end_place-requires-clause-states c =
    let e = c.args.ending.now in
    let first = c.args.rows.now in
    let g = own_view first.rows e.degrees.now e.start c.args.env.now in
    let before : c.places.place < length c.args.rows.now.rows =
    omega (arith, c.places-test.true, c.len-place-end.ensures) in
    let many = pass_length (ended_at e.tail e.split.now g e.key e.start c.args.partials.now.rows c.args.ring.now.states)
    e.start c.places.place first.rows c.places.rows.rows c.places.invariant.rows (omega arith) in
    c.requires.states ∙ sym many

pub end_place-requires-clause-wide : goal.end_place-requires-clause-wide
end_place-requires-clause-wide c =
    let e = c.args.ending.now in
    let partials = c.args.partials.now in
    let before : c.places.place < length c.args.partials.now.rows =
    omega (arith, c.places-test.true, c.len-place-end.ensures, c.requires.partials) in
    ap length
    (pass_here (λ v. empty_partials e.split.now) e.start c.places.place partials.rows c.places.partials.rows
    c.places.invariant.partials (omega arith) [] before)
    ∙ All-get_or (λ ps. length ps ≡ partials.width) partials.rows c.places.place [] before c.requires.wide
    ∙ sym c.places.invariant.cells

pub places-preserved : goal.places-preserved
places-preserved c =
    let e = c.args.ending.now in
    let i = c.places.place in
    let first = c.args.rows.now in
    let partials = c.args.partials.now in
    let now = c.places.invariant in
    let within : c.places.place < length c.args.rows.now.rows =
    omega (arith, c.places-test.true, c.len-place-end.ensures) in
    let new = c.end_place.ensures in
    record {
      rows = rows_more e.split.now e.tail e.degrees.now e.start e.key i c.args.ring.now.states first c.places.rows
          partials.rows c.places.partials.rows c.args.env.now c.places.env within c.requires.partials
          c.requires.states now.rows now.partials now.round c.end_place.new.rows new.rows;
      width = ap (λ t. t.width) new.rows ∙ now.width;
      partials = own_more e.split.now e.tail e.degrees.now e.start e.key i c.args.ring.now.states first
          c.places.rows partials.rows c.places.partials.rows c.args.env.now c.places.env within c.requires.partials
          c.requires.states now.rows now.partials now.round c.args.empty.now c.end_place.new.partials.rows
          c.requires.empty (ap (λ t. t.rows) new.partials);
      cells = ap (λ t. t.width) new.partials ∙ now.cells;
      round = record {
        n = new.round.n ∙ now.round.n;
        round = new.round.round ∙ now.round.round;
        draws = new.round.draws ∙ now.round.draws;
        totals = new.round.totals ∙ now.round.totals;
      };
    }

pub returns-clause-rows : goal.returns-clause-rows
returns-clause-rows c =
    let e = c.args.ending.now in
    let first = c.args.rows.now in
    let g = own_view first.rows e.degrees.now e.start c.args.env.now in
    let end : length c.args.rows.now.rows ≤ c.places.place =
    omega (arith, c.places-test.false, c.len-place-end.ensures) in
    let before : c.places.place ≤ length c.args.rows.now.rows =
    omega (arith, c.places.auto.place-end, c.len-place-end.ensures) in
    let rows = pass_done (ended_at e.tail e.split.now g e.key e.start c.args.partials.now.rows c.args.ring.now.states)
    e.start c.places.place first.rows c.places.rows.rows c.places.invariant.rows before end in
    λ j. record { width = c.places.invariant.width j; rows = rows j }

pub returns-clause-partials : goal.returns-clause-partials
returns-clause-partials c =
    let e = c.args.ending.now in
    let partials = c.args.partials.now in
    let end : length c.args.partials.now.rows ≤ c.places.place =
    omega (arith, c.places-test.false, c.len-place-end.ensures, c.requires.partials) in
    let before : c.places.place ≤ length c.args.partials.now.rows =
    omega (arith, c.places.auto.place-end, c.len-place-end.ensures, c.requires.partials) in
    let rows = pass_done (λ v. empty_partials e.split.now) e.start c.places.place partials.rows c.places.partials.rows
    c.places.invariant.partials before end
    ∙ ap (λ n. map (λ v. empty_partials e.split.now) (range_with_len e.start n)) c.requires.partials in
    λ j. record { width = c.places.invariant.cells j; rows = rows j }
