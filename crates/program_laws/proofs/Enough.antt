-- Limits that are wide enough for a program.
use Rattle.std.proofs.Common.{◌≡◌, ℕ, ◌+◌, ◌≤◌, List, [], ◌∷◌, length, Option, None, Some, refl, arith}
use Rattle.std.specs.List.{AllByRecursion}
use Rattle.vert_tree.specs.Trees.{depth, block_depth, DenseBlock, SparseBlock, ProgramTree}
use Rattle.vert_grammar.specs.Grammar.{Limits, Given, IsShallowDense, IsShallowSparse, IsShallow, IsSmall}
use Rattle.grammar_laws.specs.Notions.{Covers}

-- what holds of each number from one on
abbrev From : (ℕ → Type 0) → Type 0
From P = (c : ℕ) × ((b : ℕ) → c ≤ b → P b)

all_from : {A : Type 0} (f : A → ℕ) (xs : List A) → From (λ b. AllByRecursion (λ x. f x ≤ b) xs)
all_from f [] = (0, λ b le. tt)
all_from f (x ∷ xs) = let r = all_from f xs in (f x + r.0, λ b le. (omega arith, r.1 b (omega arith)))

given_from : {A : Type 0} (P : ℕ → A → Type 0) (o : Option A) → ((x : A) → From (λ b. P b x)) →
    From (λ b. Given (P b) o)
given_from P None f = (0, λ b le. tt)
given_from P (Some x) f = f x

dense_from : (d : DenseBlock) → From (λ b. IsShallowDense b d)
dense_from d =
    let r = all_from (λ x. depth x.value) d.lets in (
      depth d.test + (r.0 + (block_depth d.body + block_depth d.tail)),
      λ b le.
          record { test = omega arith; lets = r.1 b (omega arith); body = omega arith; tail = omega arith },
    )

sparse_from : (d : SparseBlock) → From (λ b. IsShallowSparse b d)
sparse_from d =
    let r = all_from (λ x. depth x.value) d.sends in (
      depth d.test + (r.0 + block_depth d.body),
      λ b le.
          record { test = omega arith; sends = r.1 b (omega arith); body = omega arith },
    )

shallow_from : (p : ProgramTree) → From (λ b. IsShallow b p)
shallow_from p =
    let fields = all_from (λ x. depth x.value) p.fields in
    let totals = all_from (λ x. depth x.value) p.totals in
    let dense = given_from IsShallowDense p.dense dense_from in
    let sparse = given_from IsShallowSparse p.sparse sparse_from in
    let stop = given_from (λ b test. depth test ≤ b) p.stop (λ test. (depth test, λ b le. le)) in (
      fields.0 + (totals.0 + (depth p.start + (dense.0 + (sparse.0 + (block_depth p.update + stop.0))))),
      λ b le. record {
        fields = fields.1 b (omega arith);
        totals = totals.1 b (omega arith);
        start = omega arith;
        dense = dense.1 b (omega arith);
        sparse = sparse.1 b (omega arith);
        update = omega arith;
        stop = stop.1 b (omega arith);
      },
    )

-- of the same depth, and wide enough for what isn't deeper
pub enough_names : (k : Limits) (p : ProgramTree) → IsShallow k.depth p → (m : Limits) × (k.depth ≡ m.depth) ×
    Covers k m × IsSmall m p
enough_names k p shallow =
    let lets = given_from (λ b d. length d.lets ≤ b) p.dense (λ d. (length d.lets, λ b le. le)) in
    let sends = given_from (λ b d. length d.sends ≤ b) p.sparse (λ d. (length d.sends, λ b le. le)) in (
      record {
        depth = k.depth;
        fields = k.fields + length p.fields;
        slots = k.slots + length p.slots;
        totals = k.totals + length p.totals;
        lets = k.lets + lets.0;
        sends = k.sends + sends.0;
      },
      refl,
      record {
        depth = omega arith;
        fields = omega arith;
        slots = omega arith;
        totals = omega arith;
        lets = omega arith;
        sends = omega arith;
      },
      record {
        shallow = shallow;
        fields = omega arith;
        slots = omega arith;
        totals = omega arith;
        lets = lets.1 (k.lets + lets.0) (omega arith);
        sends = sends.1 (k.sends + sends.0) (omega arith);
      },
    )

-- wide enough for any
pub enough : (k : Limits) (p : ProgramTree) → (m : Limits) × Covers k m × IsSmall m p
enough k p =
    let s = shallow_from p in
    let l : Limits = record {
      depth = k.depth + s.0;
      fields = k.fields;
      slots = k.slots;
      totals = k.totals;
      lets = k.lets;
      sends = k.sends;
    } in
    let e = enough_names l p (s.1 (k.depth + s.0) (omega arith)) in
    let c = e.2 in (
      e.0,
      record {
        depth = (let d = c.depth in omega arith);
        fields = c.fields;
        slots = c.slots;
        totals = c.totals;
        lets = c.lets;
        sends = c.sends;
      },
      e.3,
    )
