-- Each machine takes its share of the table and makes its part of it.
use Rattle.std.proofs.Common.{◌≡◌, ◌∙◌, ◌<◌, ◌≤◌, ℕ, List, ap, arith, length, map, subst, sym}
use Rattle.std.specs.List.{All, range_with_len}
use Rattle.std.proofs.lemmas.List.Elements.{All-nil, All-push}
use Rattle.vert_base.specs.declared.limits.TheConstants.{EDGES, VERTICES}
use Rattle.vert_base.specs.Neighbours.{AreBelow, in_order, source}
use Rattle.graph_table.proofs.TableLaws.{order_below, targets_below}
use Rattle.chunk_split.specs.Chunks.{vertices_of}
use Rattle.symple_face.specs.declared.part.Part.{Part}
use Rattle.symple_face.specs.Parts.{degree_in}
use Rattle.symple_face.specs.PartViews.{plain_of}
use Rattle.symple_face.specs.PartsOf.{part_of, parts_of}
use Rattle.word_kinds.specs.Fits.{HaveWeights}
use Rattle.mirror_table.specs.Shares.{IsShare}
use Rattle.mirror_table.proofs.GraphLaws.{parts_of_table}
use Rattle.mirror_table.proofs.WeightLaws.{weights_before}
use Rattle.mirror_table.proofs.ShareLaws.{all_left, fewer_left, lists_in}
use Rattle.mirror_table.proofs.SplitLaws.{map_push}
use Rattle.mirror_table.proofs.machines.parts.Goals as goal

pub deal-requires-clause-targets : goal.deal-requires-clause-targets
deal-requires-clause-targets c =
    let n = vertices_of c.args.cuts.now in
    let list = c.args.table.list in
    let outs = c.into_lists-lists.result.outs.items in
    let below : AreBelow n list = subst (λ (q : ℕ). AreBelow q list) (c.vertices-vertices.ensures.value
    ∙ sym c.requires) c.vertices-vertices.ensures.below in
    targets_below n outs (order_below source n list outs below (c.into_lists-lists.ensures.outs
    ∙ ap (λ q. in_order source q list) (sym c.requires)))

pub loop-m-init : goal.loop-m-init
loop-m-init c =
    let list = c.args.table.list in
    record {
      parts = ap (map plain_of) c.in_ok-parts.ensures.items;
      split = subst (λ (ps : List Part). All (λ part. part.split.value ≡ c.args.split.now.value) ps)
          (sym c.in_ok-parts.ensures.items) (All-nil (λ (part : Part). part.split.value ≡ c.args.split.now.value));
      left = all_left c.args.table.vertices c.args.cuts.now list c.into_lists-lists.result.ins.items
          c.into_lists-lists.result.outs.items (lists_in c.in_ok-shares.shares.scans.items)
          (lists_in c.in_ok-shares.shares.pushes.items)
          c.requires c.into_lists-lists.ensures.order c.into_lists-lists.ensures.ins c.into_lists-lists.ensures.outs
          c.in_ok-shares.ensures.scans c.in_ok-shares.ensures.pushes;
    }

pub loop-m-preserved : goal.loop-m-preserved
loop-m-preserved c =
    let ends = c.args.cuts.now in
    let list = c.args.table.list in
    let m = c.loop-m.m in
    let here : m < length ends = omega (arith, c.loop-m-test.true, c.count-m-end.ensures.value) in
    let self : m ≤ m = omega arith in
    let size : c.vertices-vertices.result ≡ vertices_of ends = c.vertices-vertices.ensures.value ∙ sym c.requires in
    let within : vertices_of ends ≤ VERTICES = omega (arith, size, c.vertices-vertices.ensures.within) in
    let few : length list ≤ EDGES = omega (arith, c.edges-edges.ensures.value, c.edges-edges.ensures.within) in
    let share : IsShare ends list c.edges-edges.result c.deref-in-loop-m.result.now m c.taken.result.items
    c.taken-in-loop-m.result.items = record {
      within = within;
      few = few;
      below = subst (λ (q : ℕ). AreBelow q list) size c.vertices-vertices.ensures.below;
      counted = c.edges-edges.ensures.value;
      known = c.deref-in-loop-m.ensures.value
          ∙ (c.in_ok-degrees.ensures ∙ ap (λ q. map (degree_in list list) (range_with_len 0 q)) (sym c.requires));
      scanned = c.taken.ensures.list ∙ c.loop-m.invariant.left.scan_each m self here;
      pushed = c.taken-in-loop-m.ensures.list ∙ c.loop-m.invariant.left.push_each m self here;
    } in
    record {
      parts = map_push plain_of (part_of ends c.args.draws list) m c.loop-m.parts.items c.push.new.self.items
          c.in_ok-part.field-0 c.loop-m.invariant.parts c.in_ok-push.ensures.items
          (c.in_ok-part.ensures.part list share);
      split = subst (λ (ps : List Part). All (λ part. part.split.value ≡ c.args.split.now.value) ps)
          (sym c.in_ok-push.ensures.items)
          (All-push (λ part. part.split.value ≡ c.args.split.now.value) c.loop-m.parts.items c.in_ok-part.field-0
          c.loop-m.invariant.split c.in_ok-part.ensures.split);
      left = fewer_left ends list m (lists_in c.loop-m.shares.scans.items) (lists_in c.loop-m.shares.pushes.items)
          (lists_in c.taken.new.lists.items) (lists_in c.taken-in-loop-m.new.lists.items)
          c.taken.ensures.others c.taken-in-loop-m.ensures.others c.loop-m.invariant.left;
    }

pub returns-clause-graph : goal.returns-clause-graph
returns-clause-graph c = λ n edges is below.
    let ends = c.args.cuts.now in
    let whole : c.loop-m.m ≡ length ends =
    omega (arith, c.loop-m-test.false, c.loop-m.auto.m-end, c.count-m-end.ensures.value) in
    let all : map plain_of c.loop-m.parts.items ≡ parts_of ends c.args.draws c.args.table.list =
    c.loop-m.invariant.parts ∙ ap (λ q. map (part_of ends c.args.draws c.args.table.list) (range_with_len 0 q))
    whole in
    all ∙ parts_of_table n ends c.args.draws edges c.args.table c.requires is below

pub returns-clause-weights : goal.returns-clause-weights
returns-clause-weights c = λ n edges is below.
    let listed = c.deref.ensures.value ∙ c.into_lists-lists.ensures.ins ∙ is.list in
    weights_before n edges below (subst HaveWeights listed c.edges_have_weights.ensures)
