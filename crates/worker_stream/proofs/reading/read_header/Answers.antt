-- The whole header was taken.
use Rattle.std.proofs.Common.{◌≡◌, ◌∙◌, ap, arith, length, take}
use Rattle.std.proofs.lemmas.List.{take_all}
use Rattle.outside.specs.Bytes.{led_by}
use Rattle.worker_stream.proofs.reading.read_header.Goals as goal

pub returns-else-count-lt-HEADER-clause-answer : goal.returns-else-count-lt-HEADER-clause-answer
returns-else-count-lt-HEADER-clause-answer g c =
    let header = c.fill.new.into in
    let same = c.fill.auto.into in
    let within = c.in-Ok.ensures.within in
    let enough = c.if-count-lt-HEADER.false in
    let long : length header ≡ 13 = omega (arith, same) in
    let all : take c.in-Ok.count header ≡ header = take_all c.in-Ok.count header (omega (arith, long, enough)) in (
      header,
      c.in-Ok.ensures.taken ∙ ap (λ q. led_by q (g.I.Source.left c.fill.new.input)) all,
      (long, c.read.ensures),
    )
