use Rattle.std.proofs.Common.{◌≡◌, ◌<◌, ◌≤◌, ◌+◌, List, Some, None, drop, length, ap, sym, ◌∙◌, arith, slice_get}
use Rattle.std.proofs.lemmas.Option.{slice_get_within}
use Rattle.vert_base.specs.declared.message.Name.{Name}
use Rattle.circulant_plan.specs.Table.{gives_of}
use Rattle.circulant_plan.proofs.GiftLists.{gives_few}
use Rattle.link_core.specs.Traffic.{all_sent}
use Rattle.link_core.specs.Wires.{traffic_of}
use Rattle.link_core.proofs.SendLaws.{sent_all, sent_next}
use Rattle.link_core.proofs.sending.send_gifts.Goals as goal

pub overflow_add-k : goal.overflow_add-k
overflow_add-k c =
    let names : List Name = gives_of c.args.ring.now c.args.machine c.args.spot.now c.args.ruling in
    let at : slice_get names c.loop-name.k ≡ Some c.in-Some.name = sym c.gives.ensures ∙ c.in-Some.is in
    let within : c.loop-name.k < length names = slice_get_within names c.loop-name.k c.in-Some.name at in
    let few : length names ≤ 64 =
    gives_few c.args.ring.now c.requires.few c.args.machine c.requires.machine c.args.ruling c.args.spot.now in
    omega (arith, within, few)

pub loop-name-smaller : goal.loop-name-smaller
loop-name-smaller c =
    let names : List Name = gives_of c.args.ring.now c.args.machine c.args.spot.now c.args.ruling in
    let at : slice_get names c.loop-name.k ≡ Some c.in-Some.name = sym c.gives.ensures ∙ c.in-Some.is in
    let within : c.loop-name.k < length names = slice_get_within names c.loop-name.k c.in-Some.name at in
    omega (arith, within)

pub loop-name-preserved : goal.loop-name-preserved
loop-name-preserved c =
    let names : List Name = gives_of c.args.ring.now c.args.machine c.args.spot.now c.args.ruling in
    let at : slice_get names c.loop-name.k ≡ Some c.in-Some.name = sym c.gives.ensures ∙ c.in-Some.is in
    record {
      settled = c.in_ok-send.ensures.settled;
      rest =
          ap (all_sent (drop (c.loop-name.k + 1) names)) c.in_ok-send.ensures.traffic
          ∙ sym (sent_next names c.loop-name.k c.in-Some.name (traffic_of c.loop-name.wire) at)
          ∙ c.loop-name.invariant.rest;
    }

pub returns : goal.returns
returns c =
    let names : List Name = gives_of c.args.ring.now c.args.machine c.args.spot.now c.args.ruling in
    let past : slice_get names c.loop-name.k ≡ None = sym c.gives.ensures ∙ c.in_default.is in
    record {
      settled = c.loop-name.invariant.settled;
      traffic = sym (sent_all names c.loop-name.k (traffic_of c.loop-name.wire) past) ∙ c.loop-name.invariant.rest;
    }
