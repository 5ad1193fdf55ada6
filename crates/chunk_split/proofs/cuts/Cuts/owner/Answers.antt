use Rattle.std.proofs.Common.{◌≡◌, ◌≤◌, ◌∙◌, ap, subst, ℕ, List, length, leb, rules, arith}
use Rattle.std.proofs.lemmas.List.Sorted.{IsPartitionPoint-from_clause, IsPartitionedBy-leb}
use Rattle.chunk_split.proofs.ChunkLaws.{Parts, parts_alone, parts_hold, parts_turn, search_parts}
use Rattle.chunk_split.proofs.cuts.Cuts.owner.Goals as goal

pub returns-clause-holds : goal.returns-clause-holds
returns-clause-holds g c =
    let v = c.args.v.0 in
    let m = c.partition_point.result in
    let xs = c.deref.result.now in
    let found : Parts c.args.self.now v m =
    search_parts g.row.CAP xs c.args.self.now c.self.inside.list.items v m c.self.invariant.0 c.self.view_is
    c.deref.ensures.0
    (λ up. IsPartitionPoint-from_clause (λ y. leb y v) xs m c.partition_point.ensures.partitioned
    (IsPartitionedBy-leb (λ y. y) xs v up) (λ a r q k. search rules)) in
    let size : length xs ≡ length c.args.self.now = ap length (c.deref.ensures.0 ∙ c.self.view_is) in
    let some : 1 ≤ length c.args.self.now = subst (λ (ys : List ℕ). 1 ≤ length ys) c.self.view_is c.self.invariant.0.0
    in
    let within : m ≤ length c.args.self.now = omega (arith, c.partition_point.ensures.bound) in
    parts_hold c.args.self.now v m some within c.requires found

pub returns-clause-alone : goal.returns-clause-alone
returns-clause-alone g c =
    let v = c.args.v.0 in
    let m = c.partition_point.result in
    let xs = c.deref.result.now in
    let found : Parts c.args.self.now v m =
    search_parts g.row.CAP xs c.args.self.now c.self.inside.list.items v m c.self.invariant.0 c.self.view_is
    c.deref.ensures.0
    (λ up. IsPartitionPoint-from_clause (λ y. leb y v) xs m c.partition_point.ensures.partitioned
    (IsPartitionedBy-leb (λ y. y) xs v up) (λ a r q k. search rules)) in
    λ k holds. parts_alone c.args.self.now v k m found holds

pub returns-clause-turn : goal.returns-clause-turn
returns-clause-turn g c =
    let v = c.args.v.0 in
    let m = c.partition_point.result in
    let xs = c.deref.result.now in
    let found : Parts c.args.self.now v m =
    search_parts g.row.CAP xs c.args.self.now c.self.inside.list.items v m c.self.invariant.0 c.self.view_is
    c.deref.ensures.0
    (λ up. IsPartitionPoint-from_clause (λ y. leb y v) xs m c.partition_point.ensures.partitioned
    (IsPartitionedBy-leb (λ y. y) xs v up) (λ a r q k. search rules)) in
    let size : length xs ≡ length c.args.self.now = ap length (c.deref.ensures.0 ∙ c.self.view_is) in
    let some : 1 ≤ length c.args.self.now = subst (λ (ys : List ℕ). 1 ≤ length ys) c.self.view_is c.self.invariant.0.0
    in
    let within : m ≤ length c.args.self.now = omega (arith, c.partition_point.ensures.bound) in
    parts_turn c.args.self.now v m (parts_hold c.args.self.now v m some within c.requires found).0 found
