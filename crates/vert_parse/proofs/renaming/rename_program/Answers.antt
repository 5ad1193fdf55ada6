use Rattle.vert_parse.specs.Entered.{has_place}
use Rattle.vert_parse.proofs.Renames.{all_of}
use Rattle.vert_parse.proofs.renaming.rename_program.Goals as goal

pub rename_maybe_sparse-requires-clause-places : goal.rename_maybe_sparse-requires-clause-places
rename_maybe_sparse-requires-clause-places
    c = (all_of (has_place c.args.names.now c.args.used.now.keys) c.args.program.now c.requires.places).0

pub rename_body-requires-clause-places : goal.rename_body-requires-clause-places
rename_body-requires-clause-places c = (all_of (has_place c.args.names.now c.args.used.now.keys) c.args.program.now
    c.requires.places).1.0

pub rename_maybe_stop-requires-clause-places : goal.rename_maybe_stop-requires-clause-places
rename_maybe_stop-requires-clause-places c =
    (all_of (has_place c.args.names.now c.args.used.now.keys) c.args.program.now c.requires.places).1.1
