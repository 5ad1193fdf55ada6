-- What is made for a machine is its part.
use Rattle.std.proofs.Common.{◌≡◌, ◌<◌, ◌∙◌, ℕ, List, length, map, ap, refl, sym, subst}
use Rattle.std.specs.List.{All, range_with_len}
use Rattle.std.specs.List.Sorted.{IsNonDecreasingBy}
use Rattle.std.proofs.lemmas.List.FromFn.{length-map-range_with_len}
use Rattle.vert_base.specs.declared.graph.Edge.{Edge}
use Rattle.vert_base.specs.Neighbours.{AreBelow, source, target}
use Rattle.chunk_split.specs.Chunks.{AreEnds, vertices_of}
use Rattle.symple_face.specs.declared.degree.Degree.{Degree}
use Rattle.symple_face.specs.Parts.{IsPart, PlainPart, degree_in, lists_of}
use Rattle.symple_face.specs.PartsOf.{known_of, part_of}
use Rattle.mirror_table.specs.Shares.{IsShare}
use Rattle.mirror_table.proofs.PartLaws.{part_is}
use Rattle.mirror_table.proofs.PartsMade.{known_is, known_low, made_is, others_length, push_below, push_rises, scan_below, scan_rises}
use Rattle.mirror_table.proofs.machines.part.Goals as goal

-- the degrees are as many as the vertices
degree_count : (n : ℕ) (edges : List Edge) (degrees : List Degree) →
    degrees ≡ map (degree_in edges edges) (range_with_len 0 n) → length degrees ≡ n
degree_count n edges degrees are = ap length are ∙ length-map-range_with_len (degree_in edges edges) 0 n

pub mirrors_of-requires-clause-order : goal.mirrors_of-requires-clause-order
mirrors_of-requires-clause-order c =
    let ends = c.args.cuts.now in
    let edges = c.requires.graph.0 in
    let h = c.requires.graph.1 in
    let are : AreEnds 64 ends = subst (λ (q : List ℕ). AreEnds 64 q) c.ends-ends.ensures.value
    c.ends-ends.ensures.ends in
    subst (λ (es : List Edge). IsNonDecreasingBy target es) (sym (c.deref.ensures.value ∙ h.scanned))
    (scan_rises 64 ends edges are h.below c.args.share.machine c.requires.machine)

pub mirrors_of-requires-clause-below : goal.mirrors_of-requires-clause-below
mirrors_of-requires-clause-below c =
    let ends = c.args.cuts.now in
    let edges = c.requires.graph.0 in
    let h = c.requires.graph.1 in
    let are : AreEnds 64 ends = subst (λ (q : List ℕ). AreEnds 64 q) c.ends-ends.ensures.value
    c.ends-ends.ensures.ends in
    subst (λ (es : List Edge). AreBelow (vertices_of ends) es) (sym (c.deref.ensures.value ∙ h.scanned))
    (scan_below 64 ends edges are h.below c.args.share.machine c.requires.machine)

pub mirrors_of-requires-2-clause-order : goal.mirrors_of-requires-2-clause-order
mirrors_of-requires-2-clause-order c =
    let ends = c.args.cuts.now in
    let edges = c.requires.graph.0 in
    let h = c.requires.graph.1 in
    let are : AreEnds 64 ends = subst (λ (q : List ℕ). AreEnds 64 q) c.ends-ends.ensures.value
    c.ends-ends.ensures.ends in
    subst (λ (es : List Edge). IsNonDecreasingBy source es) (sym (c.deref-2.ensures.value ∙ h.pushed))
    (push_rises 64 ends edges are h.below c.args.share.machine c.requires.machine)

pub mirrors_of-requires-2-clause-below : goal.mirrors_of-requires-2-clause-below
mirrors_of-requires-2-clause-below c =
    let ends = c.args.cuts.now in
    let edges = c.requires.graph.0 in
    let h = c.requires.graph.1 in
    let are : AreEnds 64 ends = subst (λ (q : List ℕ). AreEnds 64 q) c.ends-ends.ensures.value
    c.ends-ends.ensures.ends in
    subst (λ (es : List Edge). AreBelow (vertices_of ends) es) (sym (c.deref-2.ensures.value ∙ h.pushed))
    (push_below 64 ends edges are h.below c.args.share.machine c.requires.machine)

pub known-requires : goal.known-requires
known-requires c =
    others_length c.in_ok-onward.onward.refresh.items c.deref-3.result.now (length c.args.cuts.now)
    c.args.share.machine _ c.deref-3.ensures.value c.in_ok-onward.ensures.refresh

pub chosen-requires : goal.chosen-requires
chosen-requires c =
    let ends = c.args.cuts.now in
    let m = c.args.share.machine in
    let here = c.requires.machine in
    let edges = c.requires.graph.0 in
    let h = c.requires.graph.1 in
    let are : AreEnds 64 ends = subst (λ (q : List ℕ). AreEnds 64 q) c.ends-ends.ensures.value
    c.ends-ends.ensures.ends in
    let known : map (λ v. v.0) c.deref-4.result.now ≡ known_of ends edges m =
    ap (map (λ v. v.0)) c.deref-4.ensures.value
    ∙ known_is ends edges are h.below m here (lists_of c.deref-3.result.now) c.deref.result.now
    c.in_ok-known.known.items (c.deref.ensures.value ∙ h.scanned)
    (ap lists_of c.deref-3.ensures.value ∙ c.in_ok-onward.ensures.refresh) c.in_ok-known.ensures in
    subst (λ (q : ℕ). All (λ v. v.0 < q) c.deref-4.result.now)
    (sym (degree_count (vertices_of ends) edges c.args.degrees.now h.known))
    (known_low ends edges are h.below m here c.deref-4.result.now known)

pub invariant_of-result : goal.invariant_of-result
invariant_of-result c =
    let ends = c.args.cuts.now in
    let m = c.args.share.machine in
    let here = c.requires.machine in
    let are : AreEnds 64 ends = subst (λ (q : List ℕ). AreEnds 64 q) c.ends-ends.ensures.value
    c.ends-ends.ensures.ends in
    let plain : PlainPart = record {
      at = c.place.result;
      ends = c.same.result;
      edges = c.args.edges;
      draws = c.args.draws;
      scan = c.args.share.scan.items;
      push = c.args.share.push.items;
      degrees = c.in_ok-degrees.degrees.items;
      refresh_to = lists_of c.in_ok-inward.inward.refresh.items;
      refresh_of = lists_of c.in_ok-onward.onward.refresh.items;
      push_to = lists_of c.in_ok-onward.onward.push.items;
      push_of = lists_of c.in_ok-inward.inward.push.items;
    } in
    let known : (edges : List Edge) → IsShare ends edges c.args.edges c.args.degrees.now m c.args.share.scan.items
    c.args.share.push.items → map (λ v. v.0) c.deref-4.result.now ≡ known_of ends edges m = λ edges h.
    ap (map (λ v. v.0)) c.deref-4.ensures.value
    ∙ known_is ends edges are h.below m here (lists_of c.deref-3.result.now) c.deref.result.now
    c.in_ok-known.known.items (c.deref.ensures.value ∙ h.scanned)
    (ap lists_of c.deref-3.ensures.value ∙ c.in_ok-onward.ensures.refresh) c.in_ok-known.ensures in
    let is : (edges : List Edge) → IsShare ends edges c.args.edges c.args.degrees.now m c.args.share.scan.items
    c.args.share.push.items → plain ≡ part_of ends c.args.draws edges m = λ edges h.
    let all : c.args.degrees.now ≡ map (degree_in edges edges) (range_with_len 0 (length c.args.degrees.now)) =
    h.known ∙ ap (λ q. map (degree_in edges edges) (range_with_len 0 q))
    (sym (degree_count (vertices_of ends) edges c.args.degrees.now h.known)) in
    made_is ends edges are h.below m here c.args.draws plain c.deref.result.now c.deref-2.result.now
    (map (λ v. v.0) c.deref-4.result.now)
    c.place.ensures.machine (c.place.ensures.machines ∙ c.count.ensures.value) c.same.ensures h.counted refl
    h.scanned h.pushed c.deref.ensures.value c.deref-2.ensures.value
    c.in_ok-onward.ensures.refresh c.in_ok-onward.ensures.push c.in_ok-inward.ensures.refresh
    c.in_ok-inward.ensures.push (known edges h) (c.in_ok-degrees.ensures (degree_in edges edges) all) in
    let edges = c.requires.graph.0 in
    let h = c.requires.graph.1 in
    record {
      whole = subst (λ (p : PlainPart). IsPart p) (sym (is edges h))
          (part_is 64 ends edges are h.below m here c.args.draws h.within h.few);
    }

pub returns-clause-part : goal.returns-clause-part
returns-clause-part c =
    let ends = c.args.cuts.now in
    let m = c.args.share.machine in
    let here = c.requires.machine in
    let are : AreEnds 64 ends = subst (λ (q : List ℕ). AreEnds 64 q) c.ends-ends.ensures.value
    c.ends-ends.ensures.ends in
    let plain : PlainPart = record {
      at = c.place.result;
      ends = c.same.result;
      edges = c.args.edges;
      draws = c.args.draws;
      scan = c.args.share.scan.items;
      push = c.args.share.push.items;
      degrees = c.in_ok-degrees.degrees.items;
      refresh_to = lists_of c.in_ok-inward.inward.refresh.items;
      refresh_of = lists_of c.in_ok-onward.onward.refresh.items;
      push_to = lists_of c.in_ok-onward.onward.push.items;
      push_of = lists_of c.in_ok-inward.inward.push.items;
    } in
    let known : (edges : List Edge) → IsShare ends edges c.args.edges c.args.degrees.now m c.args.share.scan.items
    c.args.share.push.items → map (λ v. v.0) c.deref-4.result.now ≡ known_of ends edges m = λ edges h.
    ap (map (λ v. v.0)) c.deref-4.ensures.value
    ∙ known_is ends edges are h.below m here (lists_of c.deref-3.result.now) c.deref.result.now
    c.in_ok-known.known.items (c.deref.ensures.value ∙ h.scanned)
    (ap lists_of c.deref-3.ensures.value ∙ c.in_ok-onward.ensures.refresh) c.in_ok-known.ensures in
    let is : (edges : List Edge) → IsShare ends edges c.args.edges c.args.degrees.now m c.args.share.scan.items
    c.args.share.push.items → plain ≡ part_of ends c.args.draws edges m = λ edges h.
    let all : c.args.degrees.now ≡ map (degree_in edges edges) (range_with_len 0 (length c.args.degrees.now)) =
    h.known ∙ ap (λ q. map (degree_in edges edges) (range_with_len 0 q))
    (sym (degree_count (vertices_of ends) edges c.args.degrees.now h.known)) in
    made_is ends edges are h.below m here c.args.draws plain c.deref.result.now c.deref-2.result.now
    (map (λ v. v.0) c.deref-4.result.now)
    c.place.ensures.machine (c.place.ensures.machines ∙ c.count.ensures.value) c.same.ensures h.counted refl
    h.scanned h.pushed c.deref.ensures.value c.deref-2.ensures.value
    c.in_ok-onward.ensures.refresh c.in_ok-onward.ensures.push c.in_ok-inward.ensures.refresh
    c.in_ok-inward.ensures.push (known edges h) (c.in_ok-degrees.ensures (degree_in edges edges) all) in
    is
