-- The edges are dealt out one by one.
use Rattle.std.proofs.Common.{◌≡◌, ◌∙◌, [], ap, length, map, refl, subst, take, ℕ, Bool, List}
use Rattle.std.specs.Prelude.{slice_index}
use Rattle.std.proofs.lemmas.List.{take_all}
use Rattle.std.specs.List.{range_with_len}
use Rattle.vert_base.specs.declared.graph.Edge.{Edge}
use Rattle.chunk_split.specs.Chunks.{AreEnds}
use Rattle.circulant_plan.specs.Ring.{lies_in}
use Rattle.graph_table.specs.Sides.{key_of}
use Rattle.mirror_table.proofs.DealLaws.{AreDealt, dealt_all, dealt_none}
use Rattle.mirror_table.proofs.ShareLaws.{dealt_edge, lists_in}
use Rattle.mirror_table.proofs.edges.dealt.Goals as goal

pub loop-edge-init : goal.loop-edge-init
loop-edge-init c =
    let test : ℕ → Edge → Bool = λ m e. lies_in c.args.cuts.now m (key_of c.args.side e) in
    let none : ℕ → List Edge = λ _. [] in
    dealt_none test (length c.args.cuts.now) (lists_in c.in_ok-lists.lists.items) (c.in_ok-lists.ensures
    ∙ ap (λ q. map none (range_with_len 0 q)) c.count.ensures.value)

pub loop-edge-preserved : goal.loop-edge-preserved
loop-edge-preserved c =
    let are : AreEnds 64 c.args.cuts.now =
    subst (λ (q : List ℕ). AreEnds 64 q) c.ends-ends.ensures.value c.ends-ends.ensures.ends in
    dealt_edge c.args.cuts.now (key_of c.args.side) c.args.edges.now c.args.owners.now c.loop-edge.edge-index
    c.end_of.result (slice_index c.args.owners.now c.end_of.result) _ c.loop-edge.lists.items
    c.index_mut.result.now c.push.new.self
    are c.loop-edge-test.true c.requires.below c.requires.holds c.end_of.ensures refl c.index_mut.ensures.value
    c.in_ok-push.ensures.items c.loop-edge.invariant

pub returns : goal.returns
returns c =
    let test : ℕ → Edge → Bool = λ m e. lies_in c.args.cuts.now m (key_of c.args.side e) in
    let lists = lists_in c.loop-edge.lists.items in
    let whole : take c.loop-edge.edge-index c.args.edges.now ≡ c.args.edges.now =
    take_all c.loop-edge.edge-index c.args.edges.now c.loop-edge-test.false in
    dealt_all test (length c.args.cuts.now) c.args.edges.now lists
    (subst (λ (es : List Edge). AreDealt test (length c.args.cuts.now) es lists) whole c.loop-edge.invariant)
