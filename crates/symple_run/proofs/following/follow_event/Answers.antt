use Rattle.symple_run.proofs.FollowLaws.{listed_goes, listed_stops}
use Rattle.symple_run.proofs.ResultLaws.{err_more, on_more}
use Rattle.symple_run.proofs.following.follow_event.Goals as goal

pub returns-then-possible-clause-ok : goal.returns-then-possible-clause-ok
returns-then-possible-clause-ok g c =
    on_more c.play_event.result (λ puts. listed_goes g.S.Site.work c.args.lines.now c.args.cluster.now.world
    c.args.event.now c.args.line (c.possible.ensures.played.0 c.if-possible.true) _ _ puts) c.play_event.ensures.ok

pub returns-then-possible-clause-err : goal.returns-then-possible-clause-err
returns-then-possible-clause-err g c =
    err_more c.play_event.result (λ failure stops. listed_stops g.S.Site.work c.args.lines.now
    c.args.cluster.now.world c.args.event.now c.args.line (c.possible.ensures.played.0 c.if-possible.true) _ _ _ stops)
    c.play_event.ensures.err
