use Rattle.plain_run.specs.Views.{program_of}
use Rattle.vert_tree.proofs.TypedLaws.{dense_stands, few_lets, few_sends, sparse_stands}
use Rattle.plain_run.proofs.round.emit_at.Goals as goal

pub run_dense-requires-clause-placed : goal.run_dense-requires-clause-placed
run_dense-requires-clause-placed c = dense_stands (program_of c.args.scene.now) c.args.scene.now.program.now.typed
    c.in-Some.dense c.in-Some.is

pub run_dense-requires-clause-few : goal.run_dense-requires-clause-few
run_dense-requires-clause-few c = few_lets (program_of c.args.scene.now) c.args.scene.now.program.now.typed
    c.in-Some.dense c.in-Some.is

pub run_sparse-requires-clause-placed : goal.run_sparse-requires-clause-placed
run_sparse-requires-clause-placed c = sparse_stands (program_of c.args.scene.now) c.args.scene.now.program.now.typed
    c.in-Some-sparse.sparse c.in-Some-sparse.is

pub run_sparse-requires-clause-few : goal.run_sparse-requires-clause-few
run_sparse-requires-clause-few c = few_sends (program_of c.args.scene.now) c.args.scene.now.program.now.typed
    c.in-Some-sparse.sparse c.in-Some-sparse.is
