use Rattle.std.proofs.Common.{◌∙◌, ap, true, map}
use Rattle.std.proofs.lemmas.Result.{IfOk-weaker}
use Rattle.clap.specs.Simple.{app_of_fields, on_top}
use Rattle.symple_words.specs.Asked.{positional_rule, option_rule, flag_rule}
use Rattle.symple_words.specs.Views.{texts}
use Rattle.symple_words.proofs.BuildLaws.{built_up}
use Rattle.symple_words.proofs.asked.command_for.Goals as goal

pub returns : goal.returns
returns c =
    let f = c.args.form.now in
    let bare = ap app_of_fields c.disable_help_flag-bare.ensures
    ∙ ap (on_top (λ s. record s { disable_help_flag = true })) c.new.ensures.app in
    IfOk-weaker c.with_flags.result _ _
    (λ r h. built_up c.args.name.now (map positional_rule (texts f.positionals.now))
    (map option_rule (texts f.options.now)) (map flag_rule (texts f.flags.now))
    _ _ _ _ bare c.in_ok-placed.ensures c.in_ok-chosen.ensures h)
    c.with_flags.ensures
