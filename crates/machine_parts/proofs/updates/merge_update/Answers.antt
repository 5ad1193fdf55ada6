-- One vertex after another.
use Rattle.std.proofs.Common.{length, ◌∙◌}
use Rattle.body_shape.specs.Update.{sents_read}
use Rattle.machine_parts.proofs.UpdateLaws.{merged_all, merged_count, merged_each, merged_end, merged_width, stand_once}
use Rattle.machine_parts.proofs.updates.merge_update.Goals as goal

pub loop-vertex-preserved : goal.loop-vertex-preserved
loop-vertex-preserved c =
    let w = c.args.words.now in
    let list = c.args.list.now in
    let i = c.loop-vertex.vertex-index in
    let now = c.loop-vertex.partials in
    let so_far = c.loop-vertex.invariant in
    record {
      width = merged_width c.args.start c.args.key w.slots w.reduced i list _ c.loop-vertex.rest.now now
          c.add_sent.new.partials c.add_sent.ensures ∙ so_far.width;
      count = merged_count c.args.start c.args.key w.slots w.reduced i list _ c.loop-vertex.rest.now now
          c.add_sent.new.partials c.add_sent.ensures ∙ so_far.count;
      each = merged_each c.args.start c.args.key w.slots w.reduced i list _ c.loop-vertex.rest.now now
          c.add_sent.new.partials c.add_sent.ensures c.args.partials.now.width
          (length c.args.partials.now.rows) c.requires.placed c.loop-vertex-test.true so_far.count so_far.each;
      all = merged_all c.args.start c.args.key w.slots w.reduced i list _ c.loop-vertex.rest.now now
          c.add_sent.new.partials c.add_sent.ensures
          c.behind_sent-rest.result.now _ c.loop-vertex-test.true c.behind_sent-rest.ensures so_far.all;
    }

pub returns : goal.returns
returns c =
    let w = c.args.words.now in
    let list = c.args.list.now in
    let first = c.args.partials.now in
    let sents = sents_read w.slots w.reduced (length list) c.args.body.now in
    let so_far = c.loop-vertex.invariant in
    let rows = merged_end c.args.start c.args.key w.slots w.reduced c.loop-vertex.vertex-index list
    c.loop-vertex.rest.now sents first.rows c.loop-vertex.partials.rows
    c.loop-vertex-test.false so_far.all (stand_once c.args.start (length first.rows) list c.requires.placed
    c.requires.order) in
    λ j. record { width = so_far.width j; rows = rows j }
