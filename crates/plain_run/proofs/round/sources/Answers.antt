use Rattle.std.proofs.Common.{◌≡◌, ◌+◌, ◌-◌, ◌++◌, length, map, take, ap, ◌∙◌, arith}
use Rattle.vert_base.specs.Neighbours.{source}
use Rattle.plain_run.specs.Lists.{ids_of}
use Rattle.plain_run.specs.Views.{members_in}
use Rattle.plain_run.proofs.PieceLaws.{taken_both, taken_first}
use Rattle.plain_run.proofs.round.sources.Goals as goal

pub returns-then-read-first : goal.returns-then-read-first
returns-then-read-first c =
    let m = c.args.members.now in
    let read = c.args.read in
    c.in_ok-push_sources.ensures
    ∙ (ap (λ us. us ++ map source (take read m.first.now)) (ap ids_of c.in_ok-ids.ensures.items)
    ∙ taken_first read m.first.now m.rest.now (omega arith))

pub returns : goal.returns
returns c =
    let m = c.args.members.now in
    let more = c.args.read - length m.first.now in
    let whole : length m.first.now + more ≡ c.args.read = omega (arith, c.if-read-first.false) in
    c.in_ok-push_sources-3.ensures
    ∙ (ap (λ us. us ++ map source (take more m.rest.now)) (c.in_ok-push_sources-2.ensures
    ∙ ap (λ us. us ++ map source m.first.now) (ap ids_of c.in_ok-ids.ensures.items))
    ∙ (taken_both more m.first.now m.rest.now
    ∙ ap (λ n. map source (take n (members_in m))) whole))
