use Rattle.std.proofs.Common.{◌≡◌, ◌<◌, length, false, None, ap, ◌∙◌, subst, arith}
use Rattle.vert_base.specs.declared.message.Event.TheVariants.{Go}
use Rattle.symple_face.specs.Cluster.{events_left, step}
use Rattle.cluster_run.specs.Driven.{Driven, world_of}
use Rattle.cluster_run.specs.Faults.{event_fault}
use Rattle.cluster_run.proofs.PlayedEvents.{go_done, ready_there, room_there}
use Rattle.cluster_run.proofs.cluster.Cluster.go.Goals as goal

pub invariant_of-self : goal.invariant_of-self
invariant_of-self g c =
    let lt : c.from-at.result < length c.self.inside.sites.items = omega arith in
    let on : c.self.inside.ended ≡ false = ap (λ (d : Driven). d.ended) c.self.view_is ∙ c.requires.on in
    let d =
    go_done g.S.Site.work g.S.Site.sound g.met.S.Site.lawful g.S.Site.state c.self.inside.sites.items
    c.self.inside.flight (c.self.invariant.0.reached on)
    c.from-at.result c.index.result.now lt c.index.ensures c.in-Ready.ensures c.go_site.new.sites.items
    c.go_site.new.flight c.args.machine c.from-at.ensures
    c.in-Ok.ensures.sites c.in-Ok.ensures.flight in
    (record { few = d.few; reached = λ e. d.reached }, λ e. c.in-Ok.ensures.none, λ e. c.in-Ok.ensures.flags)

pub go_site-requires-clause-flags : goal.go_site-requires-clause-flags
go_site-requires-clause-flags g c =
    let on : c.self.inside.ended ≡ false = ap (λ (d : Driven). d.ended) c.self.view_is ∙ c.requires.on in
    c.self.invariant.2 on

pub go_site-requires-clause-none : goal.go_site-requires-clause-none
go_site-requires-clause-none g c =
    let on : c.self.inside.ended ≡ false = ap (λ (d : Driven). d.ended) c.self.view_is ∙ c.requires.on in
    c.self.invariant.1 on

pub go_site-requires-clause-ready : goal.go_site-requires-clause-ready
go_site-requires-clause-ready g c =
    let lt : c.from-at.result < length c.self.inside.sites.items = omega arith in
    let on : c.self.inside.ended ≡ false = ap (λ (d : Driven). d.ended) c.self.view_is ∙ c.requires.on in
    ready_there g.S.Site.work g.S.Site.sound g.met.S.Site.lawful g.S.Site.state c.self.inside.sites.items
    c.self.inside.flight (c.self.invariant.0.reached on)
    c.from-at.result c.index.result.now lt c.index.ensures c.in-Ready.ensures

pub go_site-requires-clause-room : goal.go_site-requires-clause-room
go_site-requires-clause-room g c =
    let lt : c.from-at.result < length c.self.inside.sites.items = omega arith in
    let on : c.self.inside.ended ≡ false = ap (λ (d : Driven). d.ended) c.self.view_is ∙ c.requires.on in
    room_there g.S.Site.work g.S.Site.sound g.met.S.Site.lawful g.S.Site.state c.self.inside.sites.items
    c.self.inside.flight (c.self.invariant.0.reached on)
    c.from-at.result c.index.result.now lt c.index.ensures c.in-Ready.ensures

pub returns-in-Ok-clause-ok : goal.returns-in-Ok-clause-ok
returns-in-Ok-clause-ok g c =
    let lt : c.from-at.result < length c.self.inside.sites.items = omega arith in
    let world : world_of g.S.Site.state c.self.inside.sites.items c.self.inside.flight ≡ c.args.self.now.world =
    ap (λ (d : Driven). d.world) c.self.view_is in
    let on : c.self.inside.ended ≡ false = ap (λ (d : Driven). d.ended) c.self.view_is ∙ c.requires.on in
    let d =
    go_done g.S.Site.work g.S.Site.sound g.met.S.Site.lawful g.S.Site.state c.self.inside.sites.items
    c.self.inside.flight (c.self.invariant.0.reached on)
    c.from-at.result c.index.result.now lt c.index.ensures c.in-Ready.ensures c.go_site.new.sites.items
    c.go_site.new.flight c.args.machine c.from-at.ensures
    c.in-Ok.ensures.sites c.in-Ok.ensures.flight in (
      subst (λ w. event_fault w (Go c.args.machine) ≡ None) world d.free,
      ap (λ w. (let v : Driven = record { world = w; ended = c.self.inside.ended } in v))
          (d.is ∙ ap (λ w. step g.S.Site.work w (Go c.args.machine)) world)
          ∙ ap (λ b. (let v : Driven = record {
            world = step g.S.Site.work c.args.self.now.world (Go c.args.machine);
            ended = b;
          } in v)) on,
    )

pub returns-in-Ok-clause-nearer : goal.returns-in-Ok-clause-nearer
returns-in-Ok-clause-nearer g c =
    let lt : c.from-at.result < length c.self.inside.sites.items = omega arith in
    let world : world_of g.S.Site.state c.self.inside.sites.items c.self.inside.flight ≡ c.args.self.now.world =
    ap (λ (d : Driven). d.world) c.self.view_is in
    let on : c.self.inside.ended ≡ false = ap (λ (d : Driven). d.ended) c.self.view_is ∙ c.requires.on in
    let d =
    go_done g.S.Site.work g.S.Site.sound g.met.S.Site.lawful g.S.Site.state c.self.inside.sites.items
    c.self.inside.flight (c.self.invariant.0.reached on)
    c.from-at.result c.index.result.now lt c.index.ensures c.in-Ready.ensures c.go_site.new.sites.items
    c.go_site.new.flight c.args.machine c.from-at.ensures
    c.in-Ok.ensures.sites c.in-Ok.ensures.flight in
    subst (λ w. events_left (world_of g.S.Site.state c.go_site.new.sites.items c.go_site.new.flight) < events_left w)
    world d.nearer
