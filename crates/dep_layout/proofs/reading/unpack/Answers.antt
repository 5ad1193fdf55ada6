use Rattle.std.proofs.Common.{◌≡◌, ◌<◌, None, List, take, drop, sym, ap, subst, ◌∙◌, arith}
use Rattle.std.proofs.lemmas.List.Elements.{All-from_get_or}
use Rattle.dep_layout.specs.Spelling.{State, Spells}
use Rattle.dep_layout.specs.Judgement.{mark_len, pairs_in, refusal_of}
use Rattle.dep_layout.specs.Reading.{states_in}
use Rattle.dep_layout.specs.Laws.{AreBytes}
use Rattle.dep_layout.specs.States.{states_of}
use Rattle.dep_layout.proofs.SpellingLaws.{accepted_spells, ok_more, read_again}
use Rattle.dep_layout.proofs.reading.unpack.Goals as goal

pub returns-in-None-clause-found : goal.returns-in-None-clause-found
returns-in-None-clause-found g c =
    let width = g.row.W in
    let vertices = c.args.vertices in
    let bools = c.args.bools in
    let body = c.args.body.now in
    let accepted : refusal_of g.row.W c.args.vertices c.args.bools c.args.body.now ≡ None = sym c.fault_of.ensures
    ∙ c.in-None.is in
    let fits : AreBytes c.args.body.now = All-from_get_or (λ b. b < 256) body 0 (λ i _.
    omega (arith, c.type_inv.body i)) in
    let spells = accepted_spells width vertices bools body fits accepted in
    let front = c.split_at.ensures.front ∙ ap (λ n. take n body) c.mark_len.ensures in
    let back = c.split_at.ensures.back ∙ ap (λ n. drop n body) c.mark_len.ensures in
    let here = ap (λ marks. states_in width (take vertices (pairs_in marks)) c.split_at.result.1.now) front
    ∙ ap (λ words. states_in width (take vertices (pairs_in (take (mark_len vertices) body))) words) back in
    let P : List State → Type 0 = λ states. Spells width vertices bools body states in
    ok_more _ _ _ (λ states same. subst P (sym (same ∙ here)) spells) c.read_states.ensures.states

pub returns-in-None-clause-only : goal.returns-in-None-clause-only
returns-in-None-clause-only g c =
    let width = g.row.W in
    let vertices = c.args.vertices in
    let bools = c.args.bools in
    let body = c.args.body.now in
    let front = c.split_at.ensures.front ∙ ap (λ n. take n body) c.mark_len.ensures in
    let back = c.split_at.ensures.back ∙ ap (λ n. drop n body) c.mark_len.ensures in
    let here = ap (λ marks. states_in width (take vertices (pairs_in marks)) c.split_at.result.1.now) front
    ∙ ap (λ words. states_in width (take vertices (pairs_in (take (mark_len vertices) body))) words) back in
    ok_more c.read_states.result _ (λ states. (others : List State) → Spells width vertices bools body others →
    others ≡ states_of states.items) (λ states same others spells.
    sym (read_again width vertices bools body others spells) ∙ sym (same ∙ here)) c.read_states.ensures.states
