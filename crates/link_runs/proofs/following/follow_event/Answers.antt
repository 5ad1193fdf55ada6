use Rattle.std.proofs.Common.{ap}
use Rattle.std.specs.Prelude.{option_map}
use Rattle.link_runs.specs.LinkTellings.{by_links, why_not}
use Rattle.machine_runs.proofs.FollowLaws.{listed_goes, listed_stops}
use Rattle.link_runs.proofs.following.follow_event.Goals as goal
use Rattle.std.proofs.lemmas.Result.{IfErr-weaker, on_ok_weaker}

pub returns-then-possible-clause-ok : goal.returns-then-possible-clause-ok
returns-then-possible-clause-ok g c =
    let e = c.args.event.now in
    on_ok_weaker c.play_link_event.result (λ puts. listed_goes (by_links g.S.Site.work c.args.lines.now)
    c.args.links.now.links e c.args.line (ap (option_map (why_not e)) (c.possible.ensures.played.0
    c.if-possible.true)) _ _
    puts) c.play_link_event.ensures.ok

pub returns-then-possible-clause-err : goal.returns-then-possible-clause-err
returns-then-possible-clause-err g c =
    let e = c.args.event.now in
    IfErr-weaker c.play_link_event.result _ _ (λ failure stops. listed_stops (by_links g.S.Site.work c.args.lines.now)
    c.args.links.now.links e c.args.line (ap (option_map (why_not e)) (c.possible.ensures.played.0
    c.if-possible.true)) _ _ _
    stops) c.play_link_event.ensures.err
