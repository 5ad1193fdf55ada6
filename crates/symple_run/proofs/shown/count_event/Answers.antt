use Rattle.std.proofs.Common.{◌≡◌, ◌+◌, Bool, false, List, length, ap, ◌∙◌}
use Rattle.cluster_run.specs.Driven.{Driven}
use Rattle.plain_run.specs.Told.{Told}
use Rattle.schedule_laws.specs.ToldRounds.{round_ended}
use Rattle.symple_face.specs.Cluster.{World, step}
use Rattle.symple_run.specs.Shows.{reads_in_all}
use Rattle.symple_run.specs.ShowWalks.{reported}
use Rattle.symple_run.proofs.ShowLaws.{reported_is}
use Rattle.symple_run.proofs.shown.count_event.Goals as goal

pub returns-clause-world : goal.returns-clause-world
returns-clause-world g c = ap (λ (d : Driven). d.world) c.in-Ok.ensures.ok.1

pub returns-clause-rounds : goal.returns-clause-rounds
returns-clause-rounds g c =
    let w = c.args.cluster.now.world in
    let work = g.S.Site.work in
    let e = c.args.event.now in
    let told : reported c.ends_round-tells.result work c.event.new.self.world ≡ round_ended false work w e =
    ap (λ (v : World). reported c.ends_round-tells.result work v) (ap (λ (d : Driven). d.world) c.in-Ok.ensures.ok.1)
    ∙ ap (λ (b : Bool). reported b work (step work w e)) c.ends_round-tells.ensures
    ∙ reported_is work w e in
    c.in_ok-count_round_if.ensures.rounds
    ∙ ap (λ (rounds : List Told). c.args.counts.now.rounds + length rounds) told

pub returns-clause-reads : goal.returns-clause-reads
returns-clause-reads g c =
    let w = c.args.cluster.now.world in
    let work = g.S.Site.work in
    let e = c.args.event.now in
    let told : reported c.ends_round-tells.result work c.event.new.self.world ≡ round_ended false work w e =
    ap (λ (v : World). reported c.ends_round-tells.result work v) (ap (λ (d : Driven). d.world) c.in-Ok.ensures.ok.1)
    ∙ ap (λ (b : Bool). reported b work (step work w e)) c.ends_round-tells.ensures
    ∙ reported_is work w e in
    c.in_ok-count_round_if.ensures.reads
    ∙ ap (λ (rounds : List Told). c.args.counts.now.reads + reads_in_all rounds) told
