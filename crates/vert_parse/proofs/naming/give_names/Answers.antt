use Rattle.vert_parse.proofs.Named.{have_places, is_named, same_program}
use Rattle.vert_parse.proofs.naming.give_names.Goals as goal

pub rename_program-requires-clause-places : goal.rename_program-requires-clause-places
rename_program-requires-clause-places c = have_places c.args.names.now c.enter_program.new.used.keys
    c.new-used.result.keys c.args.program.now c.new-used.ensures.empty c.in-Ok.ensures.entered

pub returns-clause-named : goal.returns-clause-named
returns-clause-named c =
    is_named c.args.names.now c.enter_program.new.used.keys c.new-used.result.keys c.args.program.now _
    c.new-used.ensures.empty c.in-Ok.ensures.entered c.in_ok-program.ensures c.rename_program.ensures.same
    c.rename_program.ensures.fresh

pub returns-clause-same : goal.returns-clause-same
returns-clause-same c = same_program c.args.names.now c.enter_program.new.used.keys c.args.program.now
    (record c.rename_program.new.program { names = c.in_ok-program.field-0 }) c.in_ok-program.ensures
    c.rename_program.ensures.same
