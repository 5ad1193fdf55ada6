use Rattle.std.proofs.Common.{◌≡◌, map, drop}
use Rattle.clap.specs.Simple.{app_of}
use Rattle.symple_words.specs.Asked.{app_with, positional_rule}
use Rattle.symple_words.specs.Views.{texts}
use Rattle.symple_words.proofs.asked.with_positionals.Given as goal

abbrev pub invariant-loop-name : goal.invariant-loop-name
invariant-loop-name l = app_with (app_of l.command) (map positional_rule (texts (drop l.name-index l.names)))
    ≡ app_with (app_of l.initial.command) (map positional_rule (texts l.names))
