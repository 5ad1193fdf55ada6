use Rattle.std.proofs.Common.{◌∙◌, ℕ, List, ◌++◌, map, Some, None, slice_get, ap}
use Rattle.vert_base.specs.declared.message.Event.TheVariants.{Go, Take}
use Rattle.cluster_run.proofs.ChoiceLists.{nth_go, nth_take, set_ready}
use Rattle.cluster_run.specs.Ready.{set_from}
use Rattle.cluster_run.proofs.choosing.nth_choice.Goals as goal

pub returns-in-Some : goal.returns-in-Some
returns-in-Some g c =
    let is = set_ready g.S.Site.state c.args.sites.now c.args.ready.now c.requires.flags in
    nth_take (set_from 0 c.args.ready.now) c.args.flight.now c.args.k
    c.in-Err.left (Some c.in-Some.name) c.in-Err.ensures.past c.in-Some.ensures.name
    ∙ ap (λ (ns : List ℕ). slice_get (map (λ m. Go m) ns ++ map (λ l. Take l.name) c.args.flight.now) c.args.k) is

pub returns-in-None : goal.returns-in-None
returns-in-None g c =
    let is = set_ready g.S.Site.state c.args.sites.now c.args.ready.now c.requires.flags in
    nth_take (set_from 0 c.args.ready.now) c.args.flight.now c.args.k
    c.in-Err.left None c.in-Err.ensures.past c.in-None.ensures.name
    ∙ ap (λ (ns : List ℕ). slice_get (map (λ m. Go m) ns ++ map (λ l. Take l.name) c.args.flight.now) c.args.k) is

pub returns-in-Ok : goal.returns-in-Ok
returns-in-Ok g c =
    let is = set_ready g.S.Site.state c.args.sites.now c.args.ready.now c.requires.flags in
    nth_go (set_from 0 c.args.ready.now) c.args.flight.now c.args.k c.in-Ok.machine c.in-Ok.ensures.there
    ∙ ap (λ (ns : List ℕ). slice_get (map (λ m. Go m) ns ++ map (λ l. Take l.name) c.args.flight.now) c.args.k) is
