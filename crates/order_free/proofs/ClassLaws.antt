-- What the class of a let says of its uses.
use Rattle.std.proofs.Common.{◌≡◌, ℕ, zero, suc, ◌+◌, Bool, true, false, IsTrue, List, [], ◌∷◌, slice_get, refl, subst, arith, Some}
use Rattle.std.specs.Prelude.{if◌then◌else◌}
use Rattle.std.specs.List.{list_all}
use Rattle.vert_base.specs.declared.value.Combine.TheVariants as combine
use Rattle.vert_tree.specs.declared.program.Decl.{Decl}
use Rattle.carry_analysis.specs.declared.classes.Class.TheVariants.{Constant, Reduced, Carried}
use Rattle.carry_analysis.specs.Classes.{Mark, is_added, is_lowered, is_raised, is_read, let_classes, uses_of}
use Rattle.order_free.specs.Fixed.{is_constant, is_unassigned}
use Rattle.order_free.proofs.Uses.{Idle}

chosen : (r a l h : Bool) →
    IsTrue (is_constant (Some
    (if r then Constant else if a then Reduced combine.Sum else if l then Reduced combine.Min else if h then Reduced
    combine.Max else Carried))) → IsTrue r
chosen true a l h e = refl
chosen false true l h e = cc
chosen false false true h e = cc
chosen false false false true e = cc
chosen false false false false e = cc

-- a constant let is never assigned
constant_from : (ds : List Decl) (k i : ℕ) (ms : List Mark) → IsTrue (is_constant (slice_get (let_classes k ds ms) i)) →
    Idle (k + i) ms
constant_from [] k i ms h = cc
constant_from (d ∷ ds) k zero ms h =
    let us = uses_of k ms in
    let now : Idle k ms =
    chosen (list_all is_read us) (list_all is_added us) (list_all is_lowered us) (list_all is_raised us) h in
    let same : k ≡ k + zero = omega arith in
    subst (λ n. Idle n ms) same now
constant_from (d ∷ ds) k (suc i) ms h =
    let same : (k + 1) + i ≡ k + suc i = omega arith in
    subst (λ n. Idle n ms) same (constant_from ds (k + 1) i ms h)

pub unassigned_idle : (ds : List Decl) (ms : List Mark) (i : ℕ) → IsTrue (is_unassigned (let_classes 0 ds ms) i) →
    Idle i ms
unassigned_idle ds ms i h =
    let same : 0 + i ≡ i = omega arith in
    subst (λ n. Idle n ms) same (constant_from ds 0 i ms h)
