-- What a machine sends is short, and is what it sends by its work.
use Rattle.std.proofs.Common.{◌≡◌, ◌∙◌, ◌++◌, ap, map}
use Rattle.vert_base.specs.Letters.{letter_of}
use Rattle.worker_stream.specs.Sent.{spelled_letters}
use Rattle.worker_stream.specs.Walks.{names_from}
use Rattle.worker_stream.proofs.SentLaws.{sends_same}
use Rattle.worker_stream.proofs.ServeLaws.{all_short, each_short, on_ok, sends_wants}
use Rattle.worker_stream.proofs.ShortLaws.{forms_short}
use Rattle.worker_stream.proofs.serving.act.Goals as goal

pub returns-in-Err-clause-sends : goal.returns-in-Err-clause-sends
returns-in-Err-clause-sends g c =
    sends_wants g.O.Sink.held g.O.Sink.faults g.O.Sink.spare c.args.out.now
    (spelled_letters (g.S.Site.work.sent (g.S.Site.state c.args.site.now)))

pub put_messages-requires : goal.put_messages-requires
put_messages-requires g c =
    let s = g.S.Site.state c.args.site.now in
    let sent : map letter_of c.deref.result.now ≡ g.S.Site.work.sent s =
    ap (map letter_of) c.deref.ensures.value ∙ (c.in-Ok.ensures.sent
    ∙ ap (λ ms. map letter_of ms ++ g.S.Site.work.sent s) c.new-sent.ensures.items) in
    all_short c.deref.result.now (g.S.Site.work.sent s) sent
    (each_short s (g.S.Site.work.sent s) (λ x shape has. forms_short s.split s.part x shape c.requires.stands.can_run
    has)
    (g.met.S.Site.lawful.sent_fit s c.requires.stands.is_sound c.requires.ready))

pub returns-clause-state : goal.returns-clause-state
returns-clause-state g c = on_ok c.put_messages.result _ c.in-Ok.ensures.state

pub returns-clause-names : goal.returns-clause-names
returns-clause-names g c =
    on_ok c.put_messages.result _
    (c.drop_names.ensures ∙ ap (λ t. names_from t c.args.names.now) c.in-Ok.ensures.state)

pub returns-clause-sends : goal.returns-clause-sends
returns-clause-sends g c =
    let s = g.S.Site.state c.args.site.now in
    let sent : map letter_of c.deref.result.now ≡ g.S.Site.work.sent s =
    ap (map letter_of) c.deref.ensures.value ∙ (c.in-Ok.ensures.sent
    ∙ ap (λ ms. map letter_of ms ++ g.S.Site.work.sent s) c.new-sent.ensures.items) in
    sends_same (ap spelled_letters sent) c.put_messages.ensures
