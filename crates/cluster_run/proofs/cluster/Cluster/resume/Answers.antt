use Rattle.std.proofs.Common.{◌≡◌, ◌∙◌, length, vec_len, false, ap, subst, arith}
use Rattle.std.specs.List.{All}
use Rattle.symple_face.specs.Cluster.{World}
use Rattle.symple_face.specs.declared.part.Part.{Part}
use Rattle.symple_face.specs.PartViews.{plain_of}
use Rattle.symple_face.specs.Restarts.{IsStart}
use Rattle.symple_face.specs.Work.{plain_start}
use Rattle.cluster_run.specs.Driven.{Driven, world_of}
use Rattle.cluster_run.specs.Ready.{flags_of}
use mathlib.Core.List.{reverse}
use Rattle.cluster_run.proofs.MachineMoves.{popped}
use Rattle.cluster_run.proofs.PartLists.{RunsOn, again_reached, begins, first_holds, one_made, rest_holds}
use Rattle.cluster_run.proofs.ReachedWorldLaws.{reached_few}
use Rattle.cluster_run.proofs.cluster.Cluster.resume.Goals as goal

pub make_at-requires : goal.make_at-requires
make_at-requires g c =
    let first = popped c.loop-part.parts.items c.pop.new.self.items c.in-Some.part c.in-Some.ensures.items in
    first_holds (λ (part : Part). IsStart (plain_of part) part.split.value (plain_start c.args.start.now))
    (reverse c.loop-part.parts.items) (reverse c.pop.new.self.items) c.in-Some.part first
    c.loop-part.invariant.starts

pub loop-part-preserved : goal.loop-part-preserved
loop-part-preserved g c =
    let first = popped c.loop-part.parts.items c.pop.new.self.items c.in-Some.part c.in-Some.ensures.items in
    record {
      on = one_made g.S.Site.state (λ part split. g.S.Site.work.restarted part split (plain_start c.args.start.now))
          c.loop-part.sites.items c.push.new.self.items c.in_ok-make_at.field-0
          (reverse c.loop-part.parts.items) (reverse c.pop.new.self.items) c.in-Some.part first
          c.in_ok-make_at.ensures c.in_ok-push.ensures.items
          ∙ c.loop-part.invariant.on;
      starts =
          rest_holds (λ (part : Part). IsStart (plain_of part) part.split.value (plain_start c.args.start.now))
          (reverse c.loop-part.parts.items) (reverse c.pop.new.self.items) c.in-Some.part first
          c.loop-part.invariant.starts;
    }

pub invariant_of-result : goal.invariant_of-result
invariant_of-result g c =
    let zero : vec_len c.loop-part.parts ≡ 0 = c.in_default.ensures.cases.0 in
    let none : length c.loop-part.parts.items ≡ 0 = omega arith in
    let split = c.requires.one_split.0 in
    let w : World = world_of g.S.Site.state c.loop-part.sites.items c.new.result in
    let is =
    begins g.S.Site.state (λ part split. g.S.Site.work.restarted part split (plain_start c.args.start.now)) split
    c.args.parts.items c.loop-part.parts.items
    c.loop-part.sites.items c.new.result none c.loop-part.invariant.on
    c.requires.one_split.1 c.new.ensures in
    let runs = subst (All RunsOn) c.deref.ensures.value c.each_can_run.ensures in
    let reached =
    again_reached g.S.Site.work g.S.Site.sound g.met.S.Restart.restart_lawful split c.args.parts.items
    (plain_start c.args.start.now) w c.requires.one_run runs c.requires.start c.requires.one_split.1 is in (
      record { few = reached_few g.S.Site.work g.S.Site.sound g.met.S.Site.lawful w reached; reached = λ on. reached },
      λ on. c.new-2.ensures.items,
      λ on. c.in_ok-ready.ensures ∙ ap (flags_of g.S.Site.state) c.deref-2.ensures.value,
    )

pub returns : goal.returns
returns g c = λ split same.
    let zero : vec_len c.loop-part.parts ≡ 0 = c.in_default.ensures.cases.0 in
    let none : length c.loop-part.parts.items ≡ 0 = omega arith in
    ap (λ w. (let d : Driven = record { world = w; ended = false } in d))
    (begins g.S.Site.state (λ part program. g.S.Site.work.restarted part program (plain_start c.args.start.now)) split
    c.args.parts.items c.loop-part.parts.items
    c.loop-part.sites.items c.new.result none c.loop-part.invariant.on
    same c.new.ensures)
