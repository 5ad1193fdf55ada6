-- What the blocks of a typed program may read.
use Rattle.std.proofs.Common.{◌≡◌, true, Some, sym, ap, ◌∙◌}
use Rattle.std.specs.List.{list_all}
use Rattle.std.proofs.lemmas.Bool.{and_parts}
use Rattle.vert_tree.specs.declared.program.Dense.{Dense}
use Rattle.vert_tree.specs.declared.program.Program.{Program}
use Rattle.vert_tree.specs.declared.program.Sparse.{Sparse}
use Rattle.vert_tree.specs.Places.{option_all}
use Rattle.vert_tree.specs.Readable.{body_read, decls_read, dense_read, expr_read, in_fields, in_loop, in_sparse, in_stop, in_tests, in_update, sparse_read}
use Rattle.vert_tree.specs.Typed.{is_typed}
use Rattle.vert_tree.proofs.TypedLaws.{readable}

-- the stop test reads no vertex
pub stop_read : (p : Program) → is_typed p ≡ true → option_all (expr_read in_stop) p.stop ≡ true
stop_read p typed =
    let a = and_parts (decls_read in_fields p.fields.items) _ (readable p typed) in
    let b = and_parts (list_all (λ t. expr_read in_tests t.value) p.totals.items) _ a.1 in
    let c = and_parts (expr_read in_fields p.start) _ b.1 in
    let d = and_parts (option_all dense_read p.dense) _ c.1 in
    let e = and_parts (option_all sparse_read p.sparse) _ d.1 in
    (and_parts (body_read in_update p.update.items) _ e.1).1

-- the blocks of rounds
pub blocks_read : (p : Program) → is_typed p ≡ true →
    (option_all dense_read p.dense ≡ true) × (option_all sparse_read p.sparse ≡ true)
blocks_read p typed =
    let a = and_parts (decls_read in_fields p.fields.items) _ (readable p typed) in
    let b = and_parts (list_all (λ t. expr_read in_tests t.value) p.totals.items) _ a.1 in
    let c = and_parts (expr_read in_fields p.start) _ b.1 in
    let d = and_parts (option_all dense_read p.dense) _ c.1 in
    (d.0, (and_parts (option_all sparse_read p.sparse) _ d.1).0)

-- a tail reads no neighbour
pub tail_read : (p : Program) (d : Dense) → is_typed p ≡ true → p.dense ≡ Some d → body_read in_tests d.tail.items ≡
    true
tail_read p d typed e =
    let all : dense_read d ≡ true = ap (option_all dense_read) (sym e) ∙ (blocks_read p typed).0 in
    let a = and_parts (expr_read in_tests d.when_test) _ all in
    let b = and_parts (decls_read in_tests d.lets.items) _ a.1 in
    (and_parts (body_read in_loop d.body.items) _ b.1).1

-- a sparse body reads of the neighbour nothing but the weight of its edge
pub pushed_read : (p : Program) (k : Sparse) → is_typed p ≡ true → p.sparse ≡ Some k →
    body_read in_sparse k.body.items ≡ true
pushed_read p k typed e =
    let all : sparse_read k ≡ true = ap (option_all sparse_read) (sym e) ∙ (blocks_read p typed).1 in
    let a = and_parts (expr_read in_tests k.when_test) _ all in
    (and_parts (decls_read in_tests k.sends.items) _ a.1).1
