-- The clap command of a form.
use Rattle.std.specs.Prelude.{true, List, [], ◌++◌, map, Some}
use Rattle.clap.specs.Walk.{Rule}
use Rattle.clap.specs.Simple.{App, new_rule, new_shape, on_top}
use Rattle.clap.specs.declared.builder.action.ArgAction.TheVariants.{Set, SetTrue}
use Rattle.symple_words.specs.Texts.{Text}
use Rattle.symple_words.specs.Spelling.{Form}

abbrev pub positional_rule : Text → Rule
positional_rule name = record (new_rule name) { action = Some Set }

abbrev pub option_rule : Text → Rule
option_rule name = record (new_rule name) { long = Some name; action = Some Set }

abbrev pub flag_rule : Text → Rule
flag_rule name = record (new_rule name) { long = Some name; action = Some SetTrue }

abbrev pub rules_for : Form → List Rule
rules_for f = map positional_rule f.positionals
    ++ (map option_rule f.options ++ map flag_rule f.flags)

-- what clap reads of the command that is made of a form
abbrev pub app_for : Text → Form → App
app_for name f = record {
  top = record (new_shape name) { rules = rules_for f; disable_help_flag = true };
  subs = [];
}

-- a command with more arguments, behind those that it has
abbrev pub app_with : App → List Rule → App
app_with a more = on_top (λ s. record s { rules = s.rules ++ more }) a
