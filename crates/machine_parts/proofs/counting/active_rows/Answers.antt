-- One row more is counted.
use Rattle.std.proofs.Common.{◌+◌, ◌<◌, ◌≤◌, length, ap, sym, ◌∙◌, arith}
use Rattle.std.specs.Prelude.{if◌then◌else◌}
use Rattle.std.specs.List.{filter}
use Rattle.std.proofs.lemmas.List.{take_all}
use Rattle.machine_parts.proofs.CountLaws.{active_more}
use Rattle.machine_parts.proofs.counting.active_rows.Goals as goal

pub places-preserved : goal.places-preserved
places-preserved c =
    let rows = c.args.rows.now.rows in
    let within : c.places.place < length c.args.rows.now.rows =
    omega (arith, c.len-place-end.ensures, c.places-test.true) in
    let one = c.one_if-active.ensures.value ∙ ap (λ b. if b then 1 else 0) c.is_active.ensures in
    record {
      active = ap (λ n. n + c.one_if-active.result) c.places.invariant.active
          ∙ sym (active_more rows c.places.place c.one_if-active.result within one);
      few = omega (arith, c.places.invariant.few, c.one_if-active.ensures.small);
    }

pub returns-clause-active : goal.returns-clause-active
returns-clause-active c =
    let all : length c.args.rows.now.rows ≤ c.places.place =
    omega (arith, c.len-place-end.ensures, c.places-test.false) in
    c.places.invariant.active ∙ ap (λ rows. length (filter (λ r. r.active) rows))
    (take_all c.places.place c.args.rows.now.rows all)
