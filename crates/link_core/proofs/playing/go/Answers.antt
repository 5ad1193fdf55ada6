use Rattle.std.proofs.Common.{◌≡◌, None, Some, ap, sym, ◌∙◌}
use Rattle.std.specs.Prelude.{if◌then◌else◌, option_map}
use Rattle.vert_base.specs.declared.message.Event.TheVariants as plain
use Rattle.cluster_run.specs.declared.fault.EventFault.TheVariants.{RunOver}
use Rattle.cluster_run.specs.Driven.{Driven}
use Rattle.cluster_run.specs.Faults.{event_fault}
use Rattle.link_core.specs.declared.fault.LinkFault.TheVariants.{Plain}
use Rattle.link_core.specs.Wires.{traffic_of}
use Rattle.link_core.proofs.GoMoves.{few_behind, sent_behind, spot_behind}
use Rattle.link_core.proofs.playing.go.Goals as goal

pub send_from-requires-clause-few : goal.send_from-requires-clause-few
send_from-requires-clause-few g c =
    few_behind g.S.Site.work g.S.Site.sound g.met.S.Site.lawful c.args.cluster.now.world c.event.new.self.world
    (c.tells_reached.ensures c.requires.on) c.args.machine (g.S.Site.state c.site.result.now)
    (g.S.Site.state c.site-in-Ok.result.now) c.site.ensures (ap (λ (d : Driven). d.world) c.in-Ok.ensures.ok.1)
    c.site-in-Ok.ensures

pub send_from-requires-clause-spot : goal.send_from-requires-clause-spot
send_from-requires-clause-spot g c =
    spot_behind g.S.Site.work g.S.Site.sound g.met.S.Site.lawful c.args.cluster.now.world c.event.new.self.world
    (c.tells_reached.ensures c.requires.on) c.args.machine (g.S.Site.state c.site.result.now)
    (g.S.Site.state c.site-in-Ok.result.now) c.site.ensures (ap (λ (d : Driven). d.world) c.in-Ok.ensures.ok.1)
    c.site-in-Ok.ensures c.spot-spot.result c.spot-spot.ensures

pub returns-in_ok-send_from-in-Ok-clause-played : goal.returns-in_ok-send_from-in-Ok-clause-played
returns-in_ok-send_from-in-Ok-clause-played g c =
    let w = c.args.cluster.now.world in
    let none : event_fault w (plain.Go c.args.machine) ≡ None =
    sym (ap (λ b. if b then Some RunOver else event_fault w (plain.Go c.args.machine)) c.requires.unfinished)
    ∙ c.in-Ok.ensures.ok.0 in
    record {
      free = ap (option_map (λ fault. Plain fault)) none;
      world = c.in-Ok.ensures.ok.1;
      traffic =
          sent_behind g.S.Site.work g.S.Site.sound g.met.S.Site.lawful w c.event.new.self.world
          (c.tells_reached.ensures c.requires.on) c.args.machine (g.S.Site.state c.site.result.now)
          (g.S.Site.state c.site-in-Ok.result.now) c.site.ensures
          (ap (λ (d : Driven). d.world) c.in-Ok.ensures.ok.1)
          c.site-in-Ok.ensures c.send_from.new.wire (traffic_of c.args.wire.now) c.spot-spot.result
          c.spot-spot.ensures c.in_ok-send_from-in-Ok.ensures;
    }
