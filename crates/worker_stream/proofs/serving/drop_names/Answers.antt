-- The names go where a round begins.
use Rattle.std.proofs.Common.{◌∙◌, ap, sym}
use Rattle.std.specs.Prelude.{if◌then◌else◌}
use Rattle.worker_stream.specs.Walks.{no_names}
use Rattle.worker_stream.proofs.serving.drop_names.Goals as goal

pub returns-then-begins : goal.returns-then-begins
returns-then-begins g c =
    c.clear.ensures
    ∙ sym (ap (λ b. if b then no_names c.args.names.now else c.args.names.now) (sym c.begins.ensures
    ∙ c.if-begins.true))

pub returns : goal.returns
returns g c =
    sym (ap (λ b. if b then no_names c.args.names.now else c.args.names.now) (sym c.begins.ensures ∙ c.if-begins.false))
