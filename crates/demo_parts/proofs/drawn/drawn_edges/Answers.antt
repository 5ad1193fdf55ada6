use Rattle.std.proofs.Common.{◌≡◌, ◌+◌, ◌-◌, ◌*◌, ◌<◌, ◌++◌, [], ◌∷◌, List, length, ap, sym, subst, ◌∙◌, arith, length-append}
use Rattle.std.proofs.lemmas.List.Elements.{All-push}
use Rattle.edge_reader.specs.EdgeList.{Graph}
use Rattle.vert_base.specs.declared.graph.Edge.{Edge}
use Rattle.vert_base.specs.Neighbours.{AreBelow, source, target}
use Rattle.demo_parts.specs.DrawnGraphs.{drawn_graph, edge_of, edges_of}
use Rattle.demo_parts.specs.WordStreams.{behind_word, word_of, words_of}
use Rattle.demo_parts.proofs.DrawnLaws.{drawn_below, edge_pushed, edges_over}
use Rattle.demo_parts.proofs.drawn.drawn_edges.Goals as goal

pub edges-preserved : goal.edges-preserved
edges-preserved c =
    let items = c.edges.list.items in
    let old = c.edges.generator in
    let edge : Edge = edge_of (word_of old) (word_of (behind_word old)) in
    let pushed : c.add.new.list.items ≡ items ++ edge ∷ [] = c.in_ok-add.ensures
    ∙ ap (λ (e : Edge). items ++ e ∷ []) c.next_edge.ensures.edge in
    record {
      whole = ap (λ (t : List Edge). t
          ++ edges_of (words_of (2 * (200000 - (c.edges.counter + 1))) c.next_edge.new.generator)) pushed
          ∙ ap (λ g. (items ++ edge ∷ []) ++ edges_of (words_of (2 * (200000 - (c.edges.counter + 1))) g))
          c.next_edge.ensures.behind
          ∙ edge_pushed items 200000 c.edges.counter old (drawn_graph c.args.seed).list c.edges-test.true
          c.edges.invariant.whole;
      few = omega (arith, ap length pushed, length-append items (edge ∷ []), c.edges.invariant.few);
      below = subst (AreBelow 20000) (sym pushed)
          (All-push (λ e. (source e < 20000) × (target e < 20000)) items edge c.edges.invariant.below
          (drawn_below (word_of old) (word_of (behind_word old))));
    }

pub returns : goal.returns
returns c = ap (λ (list : List Edge). let g : Graph = record { vertices = 20000; list = list } in g)
    (edges_over c.edges.list.items 200000 c.edges.counter c.edges.generator (drawn_graph c.args.seed).list
    c.edges-test.false c.edges.invariant.whole)
