-- A message that is held is passed over.
use Rattle.std.proofs.Common.{◌≡◌, true, false, sym, ◌∙◌, arith}
use Rattle.std.specs.Prelude.{is_some}
use Rattle.std.proofs.lemmas.Option.{slice_get_within}
use Rattle.vert_base.specs.Letters.{found}
use Rattle.circulant_plan.specs.Table.{needs_of}
use Rattle.machine_parts.proofs.MissingLaws.{missing_here, missing_later, missing_none, needs_few}
use Rattle.machine_parts.proofs.missing.first_missing.Goals as goal

pub returns-then-not-has : goal.returns-then-not-has
returns-then-not-has c =
    let needs = needs_of c.args.ring.now c.args.m c.args.spot.now in
    let held = c.args.held.now.letters in
    let none : is_some (found c.in-Some.name c.args.held.now.letters) ≡ false =
    sym c.has.ensures.has ∙ c.if-not-has.true in
    sym (c.needs.invariant.1 ∙ missing_here needs held c.needs.place c.in-Some.name (sym c.in-Some.ensures) none)

pub overflow_add-place : goal.overflow_add-place
overflow_add-place c =
    let needs = needs_of c.args.ring.now c.args.m c.args.spot.now in
    omega (
      arith,
      slice_get_within needs c.needs.place c.in-Some.name (sym c.in-Some.ensures),
      needs_few c.args.ring.now
          c.args.m c.args.spot.now c.requires.machine,
      c.requires.few,
    )

pub needs-smaller : goal.needs-smaller
needs-smaller c =
    let needs = needs_of c.args.ring.now c.args.m c.args.spot.now in
    omega (arith, slice_get_within needs c.needs.place c.in-Some.name (sym c.in-Some.ensures))

pub needs-preserved : goal.needs-preserved
needs-preserved c =
    let needs = needs_of c.args.ring.now c.args.m c.args.spot.now in
    let held = c.args.held.now.letters in
    let some : is_some (found c.in-Some.name c.args.held.now.letters) ≡ true =
    sym c.has.ensures.has ∙ c.if-not-has.false in (
      omega (arith, slice_get_within needs c.needs.place c.in-Some.name (sym c.in-Some.ensures)),
      c.needs.invariant.1 ∙ missing_later needs held c.needs.place c.in-Some.name (sym c.in-Some.ensures) some,
    )

pub returns : goal.returns
returns c =
    let needs = needs_of c.args.ring.now c.args.m c.args.spot.now in
    sym (c.needs.invariant.1 ∙ missing_none needs c.args.held.now.letters c.needs.place
    (sym c.need.ensures ∙ c.in_default.is))
