use Rattle.std.proofs.Common.{◌*◌, suc, length}
use Rattle.check_point.proofs.ReadLaws.{rows_there}
use Rattle.check_point.proofs.judge.is_own.Goals as goal

pub rows_typed-requires : goal.rows_typed-requires
rows_typed-requires c =
    let program = c.args.split.now.program.program in
    rows_there (8 * suc (length program.fields.items) * c.args.vertices) (length program.totals.items) c.args.bytes.now
    c.behind.result.now c.requires.long c.behind.ensures
