use Rattle.std.proofs.Common.{rules, ◌≡◌, []}
use Rattle.clap.specs.Walk.{rule_of}
use Rattle.symple_words.specs.Asked.{positional_rule}
use Rattle.symple_words.proofs.BuildLaws.{one_more}
use Rattle.symple_words.proofs.asked.with_positionals.Goals as goal

pub loop-name-preserved : goal.loop-name-preserved
loop-name-preserved c =
    let is : rule_of c.action-arg.result ≡ positional_rule c.new.result.id.now = search rules in
    one_more positional_rule _ _ _ c.args.names.now c.loop-name.name-index (record { ref_ptr = (0, 0); now = [] }) _
    c.loop-name-test.true (search rules) (c.in_ok-command.ensures.shape (search rules)) c.loop-name.invariant
