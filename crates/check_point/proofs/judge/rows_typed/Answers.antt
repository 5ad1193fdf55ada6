use Rattle.std.proofs.Common.{◌≡◌, ◌≤◌, ◌+◌, ◌*◌, ℕ, suc, List, ap, sym, subst, ◌∙◌, length, arith}
use Rattle.std.specs.List.{list_all}
use Rattle.dep_layout.specs.Judgement.{rows_in}
use Rattle.dep_layout.specs.Spelling.{are_typed}
use Rattle.vert_base.specs.declared.value.ValueType.TheVariants as kind
use Rattle.vert_tree.specs.declared.program.Decl.{Decl}
use Rattle.vert_tree.proofs.TypedLaws.{few_fields}
use Rattle.body_shape.specs.Shapes.{bool_bits}
use Rattle.symple_face.specs.Shapes.{types_of}
use Rattle.std.specs.Prelude.{◌++◌, ◌∷◌, []}
use Rattle.check_point.proofs.judge.rows_typed.Goals as goal

pub row_bits-requires : goal.row_bits-requires
row_bits-requires c =
    let few = few_fields c.args.split.now.program.program c.args.split.now.program.typed in
    record { few = omega (arith, few, ap length c.as_slice-fields.ensures.value) }

pub are_typed-requires : goal.are_typed-requires
are_typed-requires c =
    let same : length c.as_slice-fields.result.now + 1 ≡ suc (length c.args.split.now.program.program.fields.items) =
    omega (arith, ap length c.as_slice-fields.ensures.value) in
    subst (λ (n : ℕ). 8 * n * c.args.vertices ≤ length c.args.rows.now) (sym same) c.requires

pub returns : goal.returns
returns c =
    let same : length c.as_slice-fields.result.now + 1 ≡ suc (length c.args.split.now.program.program.fields.items) =
    omega (arith, ap length c.as_slice-fields.ensures.value) in
    let bits = c.row_bits.ensures.value
    ∙ ap (λ (fields : List Decl). bool_bits (types_of fields ++ kind.Bool ∷ [])) c.as_slice-fields.ensures.value in
    c.are_typed.ensures
    ∙ ap (λ (b : ℕ). list_all (are_typed b) (rows_in (length c.as_slice-fields.result.now + 1) c.args.vertices
    c.args.rows.now)) bits
    ∙ ap (λ (n : ℕ). list_all (are_typed (bool_bits (types_of c.args.split.now.program.program.fields.items
    ++ kind.Bool ∷ []))) (rows_in n c.args.vertices c.args.rows.now)) same
