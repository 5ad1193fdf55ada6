-- The three tests are those of a name that is due.
use Rattle.std.proofs.Common.{◌≡◌, ◌∙◌, ap, sym}
use Rattle.circulant_plan.specs.Skeleton.{is_over}
use Rattle.circulant_plan.specs.Standing.{round_of}
use Rattle.symple_face.specs.State.{has_taken, machine}
use Rattle.worker_stream.proofs.ServeLaws.{due_is, no_spot}
use Rattle.worker_stream.proofs.serving.is_due.Goals as goal

pub returns : goal.returns
returns g c =
    let s = g.S.Site.state c.args.site.now in
    let x = c.args.name.now in
    let here : c.number-machine.result ≡ machine s =
    c.number-machine.ensures.number ∙ ap (λ p. p.at.machine) c.part.ensures.part in
    let taken : c.has-taken.result ≡ has_taken s x =
    c.has-taken.ensures.has ∙ c.requires.stands.taken.has x in
    let now : c.round_of-round.result ≡ s.at.round =
    c.round_of-round.ensures s.at.round
    (no_spot c.spot.result (ap is_over c.spot.ensures ∙ c.requires.going))
    ∙ (ap (round_of s.at.round) c.spot.ensures ∙ sym c.requires.stands.walks.round) in
    c.all_hold.ensures ∙ due_is x s _ _ _ here taken now
