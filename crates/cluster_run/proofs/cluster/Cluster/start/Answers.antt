use Rattle.std.proofs.Common.{◌≡◌, ◌∙◌, length, map, vec_len, false, ap, subst, arith}
use Rattle.std.specs.List.{All}
use Rattle.symple_face.specs.Cluster.{World}
use Rattle.cluster_run.specs.Driven.{Driven}
use Rattle.cluster_run.specs.Ready.{flags_of}
use Rattle.cluster_run.proofs.PartLists.{RunsOn, anew_reached, begins}
use Rattle.cluster_run.proofs.ReachedWorldLaws.{reached_few}
use Rattle.cluster_run.proofs.cluster.Cluster.start.Goals as goal

pub invariant_of-result : goal.invariant_of-result
invariant_of-result g c =
    let zero : vec_len c.loop-part.parts ≡ 0 = c.in_default.ensures.cases.0 in
    let none : length c.loop-part.parts.items ≡ 0 = omega arith in
    let split = c.requires.one_split.0 in
    let w : World = record { sites = map g.S.Site.state c.loop-part.sites.items; under_way = c.new.result } in
    let is =
    begins g.S.Site.state g.S.Site.work.first split c.args.parts.items c.loop-part.parts.items
    c.loop-part.sites.items c.new.result none c.loop-part.invariant
    c.requires.one_split.1 c.new.ensures in
    let runs = subst (All RunsOn) c.deref.ensures.value c.each_can_run.ensures in
    let reached = anew_reached g.S.Site.work g.S.Site.sound split c.args.parts.items w c.requires.one_run runs
    c.requires.one_split.1 is in (
      record { few = reached_few g.S.Site.work g.S.Site.sound g.met.S.Site.lawful w reached; reached = λ on. reached },
      λ on. c.new-2.ensures.items,
      λ on. c.in_ok-ready.ensures ∙ ap (flags_of g.S.Site.state) c.deref-2.ensures.value,
    )

pub returns : goal.returns
returns g c = λ split same.
    let zero : vec_len c.loop-part.parts ≡ 0 = c.in_default.ensures.cases.0 in
    let none : length c.loop-part.parts.items ≡ 0 = omega arith in
    ap (λ w. (let d : Driven = record { world = w; ended = false } in d))
    (begins g.S.Site.state g.S.Site.work.first split c.args.parts.items c.loop-part.parts.items
    c.loop-part.sites.items c.new.result none c.loop-part.invariant
    same c.new.ensures)
