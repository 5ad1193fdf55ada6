-- The sources stand as the edges do.
use Rattle.std.proofs.Common.{refl}
use Rattle.machine_parts.proofs.SpanLaws.{first_sources_are}
use Rattle.machine_parts.proofs.spans.first_sources.Goals as goal

pub returns : goal.returns
returns c = λ edges is same.
    first_sources_are edges c.args.span.now c.args.sources.now _ c.args.count c.requires.count is same refl
