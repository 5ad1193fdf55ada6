use Rattle.std.proofs.Common.{◌≤◌, ℕ, List, length, subst, sym, refl, rules}
use Rattle.std.proofs.lemmas.List.Sorted.{non_decreasing_from_is_sorted}
use Rattle.chunk_split.specs.Chunks.{AreEnds}
use Rattle.chunk_split.proofs.ChunkLaws.{fall_refutes, rise_stands}
use Rattle.chunk_split.proofs.cuts.Cuts.from_ends.Goals as goal

pub returns-then-not-is_sorted-clause-some : goal.returns-then-not-is_sorted-clause-some
returns-then-not-is_sorted-clause-some g c =
    let answer = non_decreasing_from_is_sorted c.args.ends.now c.is_sorted.result c.is_sorted.ensures.cases in
    fall_refutes g.row.CAP c.args.ends.now c.is_sorted.result c.if-not-is_sorted.true answer

pub invariant_of-result : goal.invariant_of-result
invariant_of-result g c =
    let answer = non_decreasing_from_is_sorted c.args.ends.now c.is_sorted.result c.is_sorted.ensures.cases in
    let some : 1 ≤ length c.args.ends.now = search rules in
    let are : AreEnds g.row.CAP c.args.ends.now =
    rise_stands g.row.CAP c.args.ends.now c.is_sorted.result c.if-not-is_sorted.false answer some
    c.in-Ok.ensures.1 in
    (subst (λ (xs : List ℕ). AreEnds g.row.CAP xs) (sym c.in-Ok.ensures.0) are, c.requires)

pub returns-in-Ok-clause-some : goal.returns-in-Ok-clause-some
returns-in-Ok-clause-some g c =
    let answer = non_decreasing_from_is_sorted c.args.ends.now c.is_sorted.result c.is_sorted.ensures.cases in
    let some : 1 ≤ length c.args.ends.now = search rules in
    let are : AreEnds g.row.CAP c.args.ends.now =
    rise_stands g.row.CAP c.args.ends.now c.is_sorted.result c.if-not-is_sorted.false answer some
    c.in-Ok.ensures.1 in
    (λ _. are, λ _. refl)
