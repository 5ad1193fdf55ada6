-- Where no slot of kind `first` is told, no block emits to one.
use Rattle.std.proofs.Common.{◌≡◌, ℕ, zero, suc, ◌+◌, Bool, true, false, not, ◌&&◌, IsTrue, List, [], ◌∷◌, map, slice_get, refl, sym, ap, subst, ◌∙◌, arith, Option, Some, None}
use Rattle.std.specs.Prelude.{if◌then◌else◌}
use Rattle.std.proofs.lemmas.Bool.{and_from, eq-eqb, or_parts}
use Rattle.vert_base.specs.declared.value.Combine.{Combine}
use Rattle.vert_base.specs.declared.value.Combine.TheVariants.{Min, Max, Sum, First}
use Rattle.vert_tree.specs.declared.name.What.{What}
use Rattle.vert_tree.specs.declared.name.What.TheVariants as what
use Rattle.vert_tree.specs.declared.statement.Stmt.{Stmt, Stmt-F}
use Rattle.vert_tree.specs.declared.statement.Stmt.TheOpen as level
use Rattle.vert_tree.specs.declared.statement.Stmt.TheViews.{roll-Stmt}
use Rattle.vert_tree.specs.declared.statement.Stmt.TheFolds.{fold-roll-Stmt, ind-Stmt, map-Stmt}
use Rattle.vert_tree.specs.declared.program.Dense.{Dense}
use Rattle.vert_tree.specs.declared.program.Program.{Program}
use Rattle.vert_tree.specs.declared.program.SlotDecl.{SlotDecl}
use Rattle.vert_tree.specs.declared.program.Sparse.{Sparse}
use Rattle.vert_tree.specs.Places.{all_true, option_all}
use Rattle.vert_eval.specs.Rounds.{slot_ops}
use Rattle.order_laws.specs.OrderFree.{is_first as is_first_op, level_no_first, names_first, no_first, program_no_first, stmt_no_first}
use Rattle.instrument.specs.Loops.{any_true, body_emits, is_slot_at, level_emits, stmt_emits}
use Rattle.order_free.specs.Emits.{dense_emits, first_slot, least_first, neighbour_emits, sparse_emits}
use Rattle.slot_merge.specs.Combine.{is_first}

module _ (test : ℕ → Bool) where
  here_fails : (op : Combine) (b : Bool) (at : ℕ) (rest : Option ℕ) →
      (if is_first op && b then Some at else rest) ≡ None → IsTrue (is_first_op (Some op)) → b ≡ false
  here_fails First true at rest h k = cc
  here_fails First false at rest h k = refl
  here_fails Min b at rest h k = cc
  here_fails Max b at rest h k = cc
  here_fails Sum b at rest h k = cc

  rest_none : (b : Bool) (at : ℕ) (rest : Option ℕ) → (if b then Some at else rest) ≡ None → rest ≡ None
  rest_none true at rest h = cc
  rest_none false at rest h = h

  none_told : (ds : List SlotDecl) (at i : ℕ) → least_first test at ds ≡ None →
      IsTrue (is_first_op (slice_get (map (λ d. d.op) ds) i)) → test (at + i) ≡ false
  none_told [] at i h k = cc
  none_told (d ∷ ds) at zero h k =
      let same : at ≡ at + zero = omega arith in
      subst (λ n. test n ≡ false) same (here_fails d.op (test at) at (least_first test (at + 1) ds) h k)
  none_told (d ∷ ds) at (suc i) h k =
      let same : (at + 1) + i ≡ at + suc i = omega arith in
      subst (λ n. test n ≡ false) same
      (none_told ds (at + 1) i (rest_none (is_first d.op && test at) at (least_first test (at + 1) ds) h) k)

module _ (ops : List Combine) where
  -- whether the slot of a place is of kind `first`
  abbrev first_at : ℕ → Bool
  first_at i = is_first_op (slice_get ops i)

  -- none of these tests of slots is true of one of kind `first`
  abbrev Spares : (ℕ → Bool) → Type 0
  Spares test = (i : ℕ) → IsTrue (first_at i) → test i ≡ false

  abbrev Held : Type 0
  Held = (s : Stmt) × (Spares (λ i. stmt_emits i s) → IsTrue (stmt_no_first ops s))

  abbrev stmts : List Held → List Stmt
  stmts ss = map (λ s. s.0) ss

  abbrev below : Stmt-F Held → Stmt-F Stmt
  below y = map-Stmt Held Stmt (λ s. s.0) y

  all_spare : (ss : List Held) → Spares (λ i. any_true (map (stmt_emits i) (stmts ss))) →
      IsTrue (all_true (map (stmt_no_first ops) (stmts ss)))
  all_spare [] h = refl
  all_spare (s ∷ ss) h =
      and_from (stmt_no_first ops s.0) (all_true (map (stmt_no_first ops) (stmts ss)))
      (s.1 (λ i k. (or_parts (stmt_emits i s.0) (any_true (map (stmt_emits i) (stmts ss))) (h i k)).0))
      (all_spare ss (λ i k. (or_parts (stmt_emits i s.0) (any_true (map (stmt_emits i) (stmts ss))) (h i k)).1))

  emit_spares : (w : What) → Spares (λ i. is_slot_at i w) → IsTrue (not (names_first ops w))
  emit_spares (what.Slot j) h = by (first_at j) refl
    where
      by : (b : Bool) → first_at j ≡ b → IsTrue (not (first_at j))
      by true e = let fails = h j e in let same = eq-eqb j j refl in cc
      by false e = ap not e
  emit_spares (what.Field j) h = refl
  emit_spares (what.Local j) h = refl
  emit_spares (what.Send j) h = refl
  emit_spares (what.Total j) h = refl
  emit_spares what.Unread h = refl

  level_spares : (y : Stmt-F Held) → Spares (λ i. level_emits i (map-Stmt Stmt Bool (stmt_emits i) (below y))) →
      IsTrue (level_no_first ops (map-Stmt Stmt Bool (stmt_no_first ops) (below y)))
  level_spares (level.Assign t op e) h = refl
  level_spares (level.SetActive at e) h = refl
  level_spares (level.If at test held None) h =
      and_from (all_true (map (stmt_no_first ops) (stmts held.items))) true
      (all_spare held.items (λ i k. (or_parts (any_true (map (stmt_emits i) (stmts held.items))) false (h i k)).0))
      refl
  level_spares (level.If at test held (Some body)) h =
      and_from (all_true (map (stmt_no_first ops) (stmts held.items)))
      (all_true (map (stmt_no_first ops) (stmts body.items)))
      (all_spare held.items
      (λ i k. (or_parts (any_true (map (stmt_emits i) (stmts held.items)))
      (any_true (map (stmt_emits i) (stmts body.items))) (h i k)).0))
      (all_spare body.items
      (λ i k. (or_parts (any_true (map (stmt_emits i) (stmts held.items)))
      (any_true (map (stmt_emits i) (stmts body.items))) (h i k)).1))
  level_spares (level.Emit at slot e) h = emit_spares slot.what h
  level_spares (level.Break at) h = refl

  stmt_spares : (s : Stmt) → Spares (λ i. stmt_emits i s) → IsTrue (stmt_no_first ops s)
  stmt_spares = ind-Stmt (λ s. Spares (λ i. stmt_emits i s) → IsTrue (stmt_no_first ops s)) (λ x y is.
      subst (λ z. Spares (λ i. stmt_emits i (roll-Stmt z)) → IsTrue (stmt_no_first ops (roll-Stmt z))) is
      (λ h. fold-roll-Stmt Bool (level_no_first ops) (below y)
      ∙ level_spares y (λ i k. sym (fold-roll-Stmt Bool (level_emits i) (below y)) ∙ h i k)))

  body_spares : (body : List Stmt) → Spares (λ i. body_emits i body) → IsTrue (no_first ops body)
  body_spares [] h = refl
  body_spares (s ∷ ss) h =
      and_from (stmt_no_first ops s) (no_first ops ss)
      (stmt_spares s (λ i k. (or_parts (stmt_emits i s) (body_emits i ss) (h i k)).0))
      (body_spares ss (λ i k. (or_parts (stmt_emits i s) (body_emits i ss) (h i k)).1))

  dense_spares : (o : Option Dense) → Spares (λ i. dense_emits i o) →
      IsTrue (option_all (λ d. no_first ops d.body.items) o)
  dense_spares None h = refl
  dense_spares (Some d) h = body_spares d.body.items h

  sparse_spares : (o : Option Sparse) → Spares (λ i. sparse_emits i o) →
      IsTrue (option_all (λ d. no_first ops d.body.items) o)
  sparse_spares None h = refl
  sparse_spares (Some d) h = body_spares d.body.items h

-- no neighbour emits to a slot of kind `first`
pub program_spares : (p : Program) → first_slot p ≡ None → IsTrue (program_no_first p)
program_spares p h =
    let ops = slot_ops p in
    let spares : Spares ops (neighbour_emits p) = λ i k.
    let same : 0 + i ≡ i = omega arith in
    subst (λ n. neighbour_emits p n ≡ false) same (none_told (neighbour_emits p) p.slots.items 0 i h k) in
    and_from _ _ (dense_spares ops p.dense
    (λ i k. (or_parts (dense_emits i p.dense) (sparse_emits i p.sparse) (spares i k)).0))
    (sparse_spares ops p.sparse (λ i k. (or_parts (dense_emits i p.dense) (sparse_emits i p.sparse) (spares i k)).1))
