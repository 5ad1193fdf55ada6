use Rattle.std.proofs.Common.{◌≡◌, ◌<◌, false, None, Some, ap, sym, ◌∙◌, subst}
use Rattle.std.specs.Prelude.{if◌then◌else◌}
use Rattle.std.specs.Option.{option_map}
use Rattle.vert_base.specs.declared.message.Event.TheVariants.{Take}
use Rattle.vert_base.specs.Letters.{found, letter_of}
use Rattle.symple_face.specs.Cluster.{events_left, step}
use Rattle.cluster_run.specs.declared.fault.EventFault.TheVariants.{NotUnderWay}
use Rattle.cluster_run.specs.Driven.{Driven, IsReached, world_of}
use Rattle.cluster_run.specs.Faults.{event_fault}
use Rattle.cluster_run.proofs.PlayedEvents.{none_taken, take_done, take_fits, take_within}
use Rattle.cluster_run.proofs.cluster.Cluster.take.Goals as goal

pub invariant_of-self : goal.invariant_of-self
invariant_of-self g c =
    let none =
    none_taken c.args.name.now c.self.inside.flight c.pick.new.self
    (sym (ap (option_map letter_of) c.in-None.is) ∙ c.pick.ensures.message) c.pick.ensures.rest in
    let same = none.0 in (
      record {
        few = c.self.invariant.0.few;
        reached = λ on. subst (λ ms. IsReached g.S.Site.work g.S.Site.sound
            (world_of g.S.Site.state c.self.inside.sites.items ms)) (sym same) (c.self.invariant.0.reached on);
      },
      c.self.invariant.1,
      c.self.invariant.2,
    )

pub take_site-requires-clause-within : goal.take_site-requires-clause-within
take_site-requires-clause-within g c =
    let on : c.self.inside.ended ≡ false = ap (λ (d : Driven). d.ended) c.self.view_is ∙ c.requires.on in
    let flies : found c.args.name.now c.self.inside.flight ≡ Some (letter_of c.in-Some.message) =
    sym c.pick.ensures.message ∙ ap (option_map letter_of) c.in-Some.is in
    take_within g.S.Site.work g.S.Site.sound g.met.S.Site.lawful g.S.Site.state c.self.inside.sites.items
    c.self.inside.flight (c.self.invariant.0.reached on)
    c.args.name.now (letter_of c.in-Some.message) flies

pub take_site-requires-clause-takeable : goal.take_site-requires-clause-takeable
take_site-requires-clause-takeable g c =
    let on : c.self.inside.ended ≡ false = ap (λ (d : Driven). d.ended) c.self.view_is ∙ c.requires.on in
    let flies : found c.args.name.now c.self.inside.flight ≡ Some (letter_of c.in-Some.message) =
    sym c.pick.ensures.message ∙ ap (option_map letter_of) c.in-Some.is in
    take_fits g.S.Site.work g.S.Site.sound g.met.S.Site.lawful g.S.Site.state c.self.inside.sites.items
    c.self.inside.flight (c.self.invariant.0.reached on)
    c.args.name.now (letter_of c.in-Some.message) flies

pub take_site-requires-clause-flags : goal.take_site-requires-clause-flags
take_site-requires-clause-flags g c =
    let on : c.self.inside.ended ≡ false = ap (λ (d : Driven). d.ended) c.self.view_is ∙ c.requires.on in
    c.self.invariant.2 on

pub invariant_of-self-in-Some : goal.invariant_of-self-in-Some
invariant_of-self-in-Some g c =
    let on : c.self.inside.ended ≡ false = ap (λ (d : Driven). d.ended) c.self.view_is ∙ c.requires.on in
    let flies : found c.args.name.now c.self.inside.flight ≡ Some (letter_of c.in-Some.message) =
    sym c.pick.ensures.message ∙ ap (option_map letter_of) c.in-Some.is in
    let d =
    take_done g.S.Site.work g.S.Site.sound g.met.S.Site.lawful g.S.Site.state c.self.inside.sites.items
    c.self.inside.flight (c.self.invariant.0.reached on)
    c.args.name.now (letter_of c.in-Some.message) flies
    c.take_site.new.sites.items c.pick.new.self c.take_site.ensures.sites c.pick.ensures.rest in
    (record { few = d.few; reached = λ e. d.reached }, c.self.invariant.1, λ e. c.take_site.ensures.flags)

pub returns-in-None-clause-refused : goal.returns-in-None-clause-refused
returns-in-None-clause-refused g c =
    let world : world_of g.S.Site.state c.self.inside.sites.items c.self.inside.flight ≡ c.args.self.now.world =
    ap (λ (d : Driven). d.world) c.self.view_is in
    let none =
    none_taken c.args.name.now c.self.inside.flight c.pick.new.self
    (sym (ap (option_map letter_of) c.in-None.is) ∙ c.pick.ensures.message) c.pick.ensures.rest in (
      λ e. cc,
      subst (λ w. event_fault w (Take c.args.name.now) ≡ Some NotUnderWay) world
          (ap (λ b. if b then None else Some NotUnderWay) none.1),
      ap (λ ms. (let v : Driven = record {
        world = world_of g.S.Site.state c.self.inside.sites.items ms;
        ended = c.self.inside.ended;
      } in v)) none.0 ∙ c.self.view_is,
    )

pub returns-in-Some-clause-ok : goal.returns-in-Some-clause-ok
returns-in-Some-clause-ok g c =
    let world : world_of g.S.Site.state c.self.inside.sites.items c.self.inside.flight ≡ c.args.self.now.world =
    ap (λ (d : Driven). d.world) c.self.view_is in
    let on : c.self.inside.ended ≡ false = ap (λ (d : Driven). d.ended) c.self.view_is ∙ c.requires.on in
    let flies : found c.args.name.now c.self.inside.flight ≡ Some (letter_of c.in-Some.message) =
    sym c.pick.ensures.message ∙ ap (option_map letter_of) c.in-Some.is in
    let d =
    take_done g.S.Site.work g.S.Site.sound g.met.S.Site.lawful g.S.Site.state c.self.inside.sites.items
    c.self.inside.flight (c.self.invariant.0.reached on)
    c.args.name.now (letter_of c.in-Some.message) flies
    c.take_site.new.sites.items c.pick.new.self c.take_site.ensures.sites c.pick.ensures.rest in (
      subst (λ w. event_fault w (Take c.args.name.now) ≡ None) world d.free,
      ap (λ w. (let v : Driven = record { world = w; ended = c.self.inside.ended } in v))
          (d.is ∙ ap (λ w. step g.S.Site.work w (Take c.args.name.now)) world)
          ∙ ap (λ b. (let v : Driven = record {
            world = step g.S.Site.work c.args.self.now.world
                (Take c.args.name.now);
            ended = b;
          } in v)) on,
    )

pub returns-in-Some-clause-nearer : goal.returns-in-Some-clause-nearer
returns-in-Some-clause-nearer g c =
    let world : world_of g.S.Site.state c.self.inside.sites.items c.self.inside.flight ≡ c.args.self.now.world =
    ap (λ (d : Driven). d.world) c.self.view_is in
    let on : c.self.inside.ended ≡ false = ap (λ (d : Driven). d.ended) c.self.view_is ∙ c.requires.on in
    let flies : found c.args.name.now c.self.inside.flight ≡ Some (letter_of c.in-Some.message) =
    sym c.pick.ensures.message ∙ ap (option_map letter_of) c.in-Some.is in
    let d =
    take_done g.S.Site.work g.S.Site.sound g.met.S.Site.lawful g.S.Site.state c.self.inside.sites.items
    c.self.inside.flight (c.self.invariant.0.reached on)
    c.args.name.now (letter_of c.in-Some.message) flies
    c.take_site.new.sites.items c.pick.new.self c.take_site.ensures.sites c.pick.ensures.rest in
    subst (λ w. events_left (world_of g.S.Site.state c.take_site.new.sites.items c.pick.new.self) < events_left w)
    world d.nearer
