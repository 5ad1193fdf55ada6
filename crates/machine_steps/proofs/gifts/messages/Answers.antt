-- One message after another.
use Rattle.std.proofs.Common.{sym, ◌∙◌, arith}
use Rattle.std.proofs.lemmas.List.{length-map}
use Rattle.circulant_plan.specs.Names.{tally_name}
use Rattle.circulant_plan.specs.Table.{others_of}
use Rattle.circulant_plan.proofs.CountLaws.{length-map_others}
use Rattle.symple_face.specs.PartViews.{plain_of}
use Rattle.machine_steps.proofs.GiftLaws.{added_all, added_more, added_none}
use Rattle.machine_steps.proofs.gifts.messages.Goals as goal

pub messages-init : goal.messages-init
messages-init c =
    added_none (plain_of c.args.ground.now.part) c.args.ground.now.part.split.value c.args.totals.now c.args.rows.now
    c.args.dense c.args.round c.in_ok-out.out.items c.in_ok-out.ensures.items

pub messages-preserved : goal.messages-preserved
messages-preserved c =
    let place = c.args.ground.now.part.at in
    let all = sym (length-map (others_of place.machines place.machine) (tally_name 0))
    ∙ length-map_others (tally_name 0) place.machines place.machine c.args.ground.now.can.place in
    let low = c.messages-test.true in
    added_more (plain_of c.args.ground.now.part) c.args.ground.now.part.split.value c.args.totals.now c.args.rows.now
    c.args.dense c.args.round c.messages.k c.other-to.result c.in_ok-message.message c.messages.out.items
    c.push.new.self.items (omega (arith, low, all, c.machines-count.ensures.count)) c.other-to.ensures.at
    c.messages.invariant c.in_ok-message.ensures
    c.in_ok-push.ensures.items

pub returns : goal.returns
returns c =
    let place = c.args.ground.now.part.at in
    let all = sym (length-map (others_of place.machines place.machine) (tally_name 0))
    ∙ length-map_others (tally_name 0) place.machines place.machine c.args.ground.now.can.place in
    let past = c.messages-test.false in
    added_all (plain_of c.args.ground.now.part) c.args.ground.now.part.split.value c.args.totals.now c.args.rows.now
    c.args.dense c.args.round c.messages.k c.messages.out.items
    (omega (arith, past, all, c.machines-count.ensures.count)) c.messages.invariant
