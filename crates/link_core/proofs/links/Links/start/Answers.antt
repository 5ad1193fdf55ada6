use Rattle.std.proofs.Common.{◌≡◌, [], false, map, refl, ap, ◌∙◌}
use Rattle.symple_face.specs.Cluster.{World, first_world}
use Rattle.symple_face.specs.PartViews.{plain_of}
use Rattle.cluster_run.specs.Driven.{Driven}
use Rattle.link_core.specs.LinkRuns.{DrivenLinks}
use Rattle.link_core.specs.Links.{Linked}
use Rattle.link_core.specs.Traffic.{Traffic}
use Rattle.link_core.specs.Wires.{traffic_of}
use Rattle.link_core.proofs.links.Links.start.Goals as goal

pub invariant_of-result : goal.invariant_of-result
invariant_of-result g c = λ e.
    let is = c.in_ok-cluster.ensures c.requires.one_split.0 c.requires.one_split.1 in
    let on : c.in_ok-cluster.cluster.ended ≡ false = ap (λ (d : Driven). d.ended) is in
    record {
      on = on;
      settled = c.new.ensures.settled;
      reached = record {
        first = c.in_ok-cluster.cluster.world;
        reached = c.tells_reached.ensures on;
        still = ap (λ (d : Driven). d.world.under_way) is;
        events = [];
        were_possible = refl;
        here =
            ap (λ (t : Traffic). (let l : Linked = record { world = c.in_ok-cluster.cluster.world; traffic = t } in l))
            c.new.ensures.traffic;
      };
    }

pub returns : goal.returns
returns g c = λ split same.
    let first : World = first_world g.S.Site.work split (map plain_of c.args.parts.items) in
    ap (λ (w : World). (let d : DrivenLinks = record {
      links = record { world = w; traffic = traffic_of c.new.result };
      ended = false;
    } in d)) (ap (λ (d : Driven). d.world) (c.in_ok-cluster.ensures split same))
    ∙ ap (λ (t : Traffic). (let d : DrivenLinks = record {
      links = record { world = first; traffic = t };
      ended = false;
    } in d)) c.new.ensures.traffic
