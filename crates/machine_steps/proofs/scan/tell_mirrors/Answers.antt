-- One mirror more is scanned.
use Rattle.std.proofs.Common.{◌<◌, ap, length, map, sym, ◌∙◌, ◌++◌, arith}
use Rattle.std.proofs.lemmas.List.{get_or-map, length-map}
use Rattle.std.proofs.Common.{get_or}
use Rattle.vert_base.specs.Neighbours.{bucket, target}
use Rattle.body_shape.specs.Update.{Sent, sent_bytes}
use Rattle.symple_face.specs.CoreSight.{none}
use Rattle.machine_parts.specs.Spans.{vertex_of}
use Rattle.machine_parts.proofs.SpanLaws.{no_span}
use Rattle.vertex_work.specs.Scanning.{scanned_over}
use Rattle.machine_steps.proofs.ScanLaws.{round_trans, shows_later}
use Rattle.machine_steps.proofs.WalkLaws.{few_more, sents_more, walking_more}
use Rattle.machine_steps.proofs.scan.tell_mirrors.Goals as goal

pub mirrors-preserved : goal.mirrors-preserved
mirrors-preserved c =
    let b = c.args.body.now in
    let o = c.args.own.now in
    let m = c.args.mirrors.now in
    let l = c.mirrors in
    let at = c.mirrors.at in
    let lt = c.mirrors-test.true in
    let one = c.scan_mirror-count in
    let ids = map vertex_of m.spans.now in
    let v = vertex_of (get_or m.spans.now at no_span) in
    let inside : at < length (map vertex_of c.args.mirrors.now.spans.now) =
    omega (arith, length-map c.args.mirrors.now.spans.now vertex_of) in
    let is = sym (get_or-map vertex_of m.spans.now at no_span 0 lt) in
    let within : at < length c.mirrors.counts = omega (arith, c.requires.counts, c.mirrors.auto.counts) in
    let told : Sent = record { values = one.new.visit.values.items; operands = one.new.visit.operands.items } in
    record {
      same = round_trans c.args.visit.now.env l.visit.env one.new.visit.env l.invariant.same one.ensures.same;
      width = one.ensures.words ∙ l.invariant.width;
      count = one.ensures.states ∙ l.invariant.count;
      few = few_more (λ k. length (bucket target (vertex_of (get_or m.spans.now k no_span)) o.edges.now)) l.counts at
          one.result within one.ensures.within l.invariant.few;
      walking = λ g shows mirrors.
          let f = scanned_over b.split.now b.dense.now g c.args.step.key o.edges.now in
          let later = shows_later g o.rows.now.rows o.degrees.now o.start (none b.split.now) c.args.visit.now.env
          l.visit.env l.invariant.same shows in
          let visited = one.ensures.visited g later mirrors in
          walking_more f c.args.step.start ids at v l.half.states one.new.half.states inside is
          (ap (λ t. t.states) visited.state) o.edges.now c.args.half.now.states l.counts one.result within
          visited.reads (l.invariant.walking g shows mirrors);
      told = λ g shows mirrors.
          let f = scanned_over b.split.now b.dense.now g c.args.step.key o.edges.now in
          let later = shows_later g o.rows.now.rows o.degrees.now o.start (none b.split.now) c.args.visit.now.env
          l.visit.env l.invariant.same shows in
          let visited = one.ensures.visited g later mirrors in
          let values = c.as_slice.ensures.value in
          let operands = c.as_slice-in-mirrors.ensures.value in
          let put = c.in_ok-put_sent.ensures.put
          ∙ (λ i. l.update.items ++ sent_bytes (record { values = values i; operands = operands i })) in
          sents_more f c.args.step.start ids at v l.half.states one.new.half.states inside is
          (ap (λ t. t.states) visited.state) l.update.items c.put_sent.new.bytes.items _ told visited.sent put
          (l.invariant.told g shows mirrors);
    }
