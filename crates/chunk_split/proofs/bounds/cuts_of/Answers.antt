use Rattle.std.proofs.Common.{◌≡◌, ◌<◌, ◌+◌, ◌-◌, ◌∷◌, ◌++◌, [], ◌∙◌, refl, ap, sym, drop, sum, length, arith, length-append, length-drop}
use Rattle.std.specs.Int.{div_ceil}
use Rattle.std.proofs.lemmas.List.{drop-drop}
use Rattle.chunk_split.specs.Bounds.{costs_of, ends_from, ends_of, reach}
use Rattle.chunk_split.proofs.EndLaws.{are_ends, ends_finish, ends_go}
use Rattle.chunk_split.proofs.BoundLaws.{are_bounds, costs_length, costs_positive, ends_same}
use Rattle.chunk_split.proofs.bounds.cuts_of.Goals as goal

pub loop-i-preserved : goal.loop-i-preserved
loop-i-preserved g c =
    let t = c.args.table.now in
    let p = c.args.p in
    let i = c.loop-i.i in
    let start = c.loop-i.start in
    let costs = costs_of p t.vertices t.list in
    let others = drop start costs in
    let end = c.chunk_from-chunk.result.end in
    let len = reach (div_ceil (sum others) (p - i)) others in
    let lt : i + 1 < p = omega (arith, c.loop-i-test.true) in
    let need : c.div_ceil.result ≡ div_ceil (sum others) (p - i) =
    c.div_ceil.ensures ∙ (ap (λ r. div_ceil r c.from-left.result) c.loop-i.invariant.rest
    ∙ ap (div_ceil (sum others)) c.from-left.ensures) in
    let there : end ≡ start + len = c.chunk_from-chunk.ensures.end ∙ ap (λ q. start + reach q others) need in
    let over : drop end costs ≡ drop len others = ap (λ q. drop q costs) there ∙ sym (drop-drop len start costs) in
    record {
      ends = ap (λ ys. ys ++ ends_from (p - (i + 1)) end (drop end costs)) c.push.ensures.items
          ∙ ends_go p i start len end c.loop-i.list.items others (drop end costs) (ends_from p 0 costs) lt refl there
          over c.loop-i.invariant.ends;
      within = c.chunk_from-chunk.ensures.within;
      rest = omega (arith, c.loop-i.invariant.rest, c.chunk_from-chunk.ensures.cost);
      count = omega (
        arith,
        ap length c.push.ensures.items,
        length-append c.loop-i.list.items (end ∷ []),
        c.loop-i.invariant.count,
      );
      small = omega (arith, c.loop-i.invariant.small);
    }

pub invariant_of-result : goal.invariant_of-result
invariant_of-result g c =
    let t = c.args.table.now in
    let p = c.args.p in
    let start = c.loop-i.start in
    let costs = costs_of p t.vertices t.list in
    let last : c.loop-i.i + 1 ≡ p = omega (arith, c.loop-i-test.false, c.requires.some) in
    let all : start + length (drop start costs) ≡ t.vertices =
    omega (arith, length-drop start costs, costs_length p t.vertices t.list, c.loop-i.invariant.within) in
    let is : c.push-2.new.self.items ≡ ends_from p 0 costs =
    c.push-2.ensures.items
    ∙ (ap (λ q. c.loop-i.list.items ++ q ∷ []) c.vertices.ensures.value
    ∙ ends_finish p c.loop-i.i start t.vertices c.loop-i.list.items (drop start costs) (ends_from p 0 costs) last all
    c.loop-i.invariant.ends) in
    (are_ends g.row.CAP p costs c.push-2.new.self.items c.requires.some c.requires.room is, c.requires.few)

pub returns-clause-ends : goal.returns-clause-ends
returns-clause-ends g c =
    let t = c.args.table.now in
    let p = c.args.p in
    let start = c.loop-i.start in
    let costs = costs_of p t.vertices t.list in
    let last : c.loop-i.i + 1 ≡ p = omega (arith, c.loop-i-test.false, c.requires.some) in
    let all : start + length (drop start costs) ≡ t.vertices =
    omega (arith, length-drop start costs, costs_length p t.vertices t.list, c.loop-i.invariant.within) in
    c.push-2.ensures.items
    ∙ (ap (λ q. c.loop-i.list.items ++ q ∷ []) c.vertices.ensures.value
    ∙ ends_finish p c.loop-i.i start t.vertices c.loop-i.list.items (drop start costs) (ends_from p 0 costs) last all
    c.loop-i.invariant.ends)

pub returns-clause-bounds : goal.returns-clause-bounds
returns-clause-bounds g c =
    let t = c.args.table.now in
    are_bounds c.args.p (costs_of c.args.p t.vertices t.list) c.push-2.new.self.items c.requires.some
    (costs_positive c.args.p t.vertices t.list) (returns-clause-ends g c)

pub returns-clause-graph : goal.returns-clause-graph
returns-clause-graph g c =
    let t = c.args.table.now in
    λ n edges is. returns-clause-ends g c ∙
    (ap (λ q. ends_of c.args.p q t.list) is.vertices ∙ ends_same c.args.p n edges t is)
