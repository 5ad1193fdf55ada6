-- Each part's file is stored behind those of the parts before it.
use Rattle.std.proofs.Common.{map, refl, subst, sym, ◌∙◌}
use Rattle.std.proofs.lemmas.List.Elements.{All-get_or}
use Rattle.std.proofs.lemmas.Result.{err_from_is_err_and}
use Rattle.program_reader.specs.Accepted.{Says}
use Rattle.symple_face.specs.declared.part.Part.{Part}
use Rattle.symple_face.specs.PartViews.{plain_of}
use Rattle.part_runs.proofs.PartLaws.{part_goes, part_stops, parts_done}
use Rattle.part_runs.proofs.parting.store_parts.Goals as goal

pub parts-init : goal.parts-init
parts-init g c = (refl, λ out input after outcome leaves. leaves)

pub parts-preserved : goal.parts-preserved
parts-preserved g c = (
  c.in_ok-store_part.ensures.loads ∙ c.parts.invariant.0,
  part_goes c.args.prefix.now c.args.program.now c.args.parts.now c.parts.part-index c.part-item.result
      c.part-item.result c.parts-test.true c.part-item.is (map plain_of c.args.parts.now) _ _ _ c.parts.invariant.1
      c.in_ok-store_part.ensures.stored,
)

pub returns-in_err-store_part-clause-order : goal.returns-in_err-store_part-clause-order
returns-in_err-store_part-clause-order g c =
    let p = err_from_is_err_and c.from_residual.result c.from_residual.ensures.1 in
    rw (p.1, p.2) (part_stops c.args.prefix.now c.args.program.now c.args.parts.now c.parts.part-index
    c.part-item.result c.part-item.result c.parts-test.true c.part-item.is (map plain_of c.args.parts.now) _ _ _
    c.in_err-store_part.field-0.0 c.parts.invariant.1 c.in_err-store_part.ensures.stored)

pub returns-clause-order : goal.returns-clause-order
returns-clause-order g c =
    parts_done c.args.prefix.now c.args.program.now c.args.parts.now c.parts.part-index
    (map plain_of c.args.parts.now) _
    _ c.parts-test.false c.parts.invariant.1

pub store_part-requires : goal.store_part-requires
store_part-requires g c =
    subst (λ (part : Part). Says c.args.program.now part.split.value.program.program) (sym c.part-item.is)
    (All-get_or (λ part. Says c.args.program.now part.split.value.program.program) c.args.parts.now c.parts.part-index _
    c.parts-test.true c.requires)
