use Rattle.std.proofs.Common.{rules, arith, sym}
use Rattle.machine_runs.proofs.PlayLaws.{not_finished}
use Rattle.symple_run.proofs.ShowLaws.{count_more, count_none, count_over}
use Rattle.symple_run.proofs.shown.play_counted.Goals as goal

pub events-init : goal.events-init
events-init g c = (c.requires.on, count_none g.S.Site.work c.args.cluster.now.world)

pub plain-requires : goal.plain-requires
plain-requires g c = (omega arith, c.events.invariant.0)

pub count_event-requires-clause-on : goal.count_event-requires-clause-on
count_event-requires-clause-on g c = c.events.invariant.0

pub events-smaller : goal.events-smaller
events-smaller g c = c.in_ok-count_event.ensures.nearer

pub events-preserved : goal.events-preserved
events-preserved g c = (
  c.in_ok-count_event.ensures.on,
  count_more g.S.Site.work c.args.cluster.now.world c.events.cluster.world c.count_event.new.cluster.world
      c.events.counts.rounds c.events.counts.reads c.count_event.new.counts.rounds c.count_event.new.counts.reads
      c.in-Some.event c.events.invariant.1
      (not_finished c.events.cluster.world c.in-Some.event c.in-Some.ensures.none) (sym c.in-Some.ensures.is)
      c.in_ok-count_event.ensures.world c.in_ok-count_event.ensures.rounds c.in_ok-count_event.ensures.reads,
)

pub returns-clause-on : goal.returns-clause-on
returns-clause-on g c = c.events.invariant.0

pub returns-clause-played : goal.returns-clause-played
returns-clause-played g c = count_over g.S.Site.work c.args.cluster.now.world c.events.cluster.world
    c.events.counts.rounds c.events.counts.reads c.events.invariant.1 (c.plain.ensures.none.0 (search rules))
