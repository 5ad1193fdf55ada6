-- One own vertex more is scanned.
use Rattle.std.proofs.Common.{◌≡◌, ◌<◌, ◌≤◌, ◌-◌, ap, get_or, length, map, subst, sym, ◌∙◌, arith}
use Rattle.std.proofs.lemmas.List.{get_or-map, get_or_default, length-map, length-set}
use Rattle.vert_base.specs.Neighbours.{bucket, target}
use Rattle.body_shape.specs.Update.{Sent}
use Rattle.symple_face.specs.CoreSight.{none}
use Rattle.machine_parts.specs.Spans.{vertex_of}
use Rattle.machine_parts.proofs.SpanLaws.{no_span}
use Rattle.vertex_work.specs.Scanning.{scanned_over}
use Rattle.machine_steps.proofs.ScanLaws.{round_trans, shows_later}
use Rattle.machine_steps.proofs.WalkLaws.{each_more, few_more, merged_next, walking_more}
use Rattle.machine_steps.proofs.scan.keep_own.Goals as goal

pub spans-preserved : goal.spans-preserved
spans-preserved c =
    let b = c.args.body.now in
    let o = c.args.own.now in
    let l = c.spans in
    let at = c.spans.at in
    let lt = c.spans-test.true in
    let one = c.scan_own_vertex-count in
    let ids = map vertex_of c.args.spans.now in
    let put = c.add_sent.ensures in
    let inside : at < length (map vertex_of c.args.spans.now) = omega (arith, length-map c.args.spans.now vertex_of) in
    let within : at < length c.spans.counts = omega (arith, c.requires.counts, c.spans.auto.counts) in
    let placed : vertex_of (get_or c.args.spans.now at no_span) - c.args.own.now.start < length c.spans.partials.rows =
    omega (arith, (c.requires.own at no_span lt).1, l.invariant.rows, c.requires.partials) in
    let told : Sent = record { values = c.as_slice.result.now; operands = c.as_slice-in-spans.result.now } in
    let few = subst (λ s. one.result ≤ length (bucket target (vertex_of s) o.edges.now))
    (get_or_default c.args.spans.now at _ no_span lt) one.ensures.within in
    record {
      same = round_trans c.args.visit.now.env l.visit.env one.new.visit.env l.invariant.same one.ensures.same;
      words = one.ensures.words ∙ l.invariant.words;
      states = one.ensures.states ∙ l.invariant.states;
      few = few_more (λ k. length (bucket target (vertex_of (get_or c.args.spans.now k no_span)) o.edges.now)) l.counts
          at one.result within few l.invariant.few;
      width = ap (λ p. p.width) put ∙ l.invariant.width;
      rows = ap (λ p. length p.rows) put ∙ length-set l.partials.rows _ _ ∙ l.invariant.rows;
      each = each_more c.args.partials.now.width c.args.step.key _ told l.partials c.add_sent.new.partials put
          (subst (λ s. vertex_of s - o.start < length l.partials.rows)
          (sym (get_or_default c.args.spans.now at _ no_span lt)) placed) l.invariant.each;
      walking = λ g shows.
          let f = scanned_over b.split.now b.dense.now g c.args.step.key o.edges.now in
          let later = shows_later g o.rows.now.rows o.degrees.now o.start (none b.split.now) c.args.visit.now.env
          l.visit.env l.invariant.same shows in
          let visited = one.ensures.visited g later in
          walking_more f c.args.step.start ids at _ l.half.states one.new.half.states inside
          (sym (get_or-map vertex_of c.args.spans.now at _ 0 lt)) (ap (λ t. t.states) visited.state) o.edges.now
          c.args.half.now.states l.counts one.result within visited.reads (l.invariant.walking g shows);
      kept = λ g shows.
          let f = scanned_over b.split.now b.dense.now g c.args.step.key o.edges.now in
          let later = shows_later g o.rows.now.rows o.degrees.now o.start (none b.split.now) c.args.visit.now.env
          l.visit.env l.invariant.same shows in
          let visited = one.ensures.visited g later in
          let values = c.as_slice.ensures.value in
          let operands = c.as_slice-in-spans.ensures.value in
          let same : told ≡ record { values = one.new.visit.values.items; operands = one.new.visit.operands.items } =
          λ i. record { values = values i; operands = operands i } in
          merged_next f c.args.step.start ids at _ l.half.states one.new.half.states inside
          (sym (get_or-map vertex_of c.args.spans.now at _ 0 lt)) (ap (λ t. t.states) visited.state) o.start
          c.args.step.key l.partials.rows c.add_sent.new.partials.rows _ told (same ∙ visited.sent)
          (ap (λ p. p.rows) put) (l.invariant.kept g shows);
    }
