-- In a loop without a carry each use of a let is the one that its class tells.
use Rattle.std.proofs.Common.{◌≡◌, ◌==◌, ◌<◌, ◌≤◌, ℕ, zero, suc, ◌+◌, Bool, true, false, ◌&&◌, ◌||◌, IsTrue, List, [], ◌∷◌, ◌++◌, length, filter, nat_lt, refl, sym, ap, subst, ◌∙◌, arith, Some, None}
use Rattle.std.specs.Prelude.{if◌then◌else◌, is_none}
use Rattle.std.specs.List.{list_all}
use Rattle.std.proofs.lemmas.Bool.{and_from, and_parts, eq-eqb, ltb-false, ltb-true}
use Rattle.vert_base.specs.declared.text.Span.{Span}
use Rattle.vert_base.specs.declared.value.Combine.TheVariants as combine
use Rattle.vert_tree.specs.declared.name.Ident.{Ident}
use Rattle.vert_tree.specs.declared.name.What.{What}
use Rattle.vert_tree.specs.declared.name.What.TheVariants as what
use Rattle.vert_tree.specs.declared.expression.Expr.{Expr}
use Rattle.vert_tree.specs.declared.expression.Node.{Node}
use Rattle.vert_tree.specs.declared.expression.Node.TheVariants as nodes
use Rattle.vert_tree.specs.declared.program.Decl.{Decl}
use Rattle.vert_tree.specs.declared.statement.AssignOp.{AssignOp}
use Rattle.vert_tree.specs.declared.statement.Stmt.{Stmt}
use Rattle.vert_tree.specs.declared.statement.Stmt as statements
use Rattle.vert_tree.specs.declared.statement.Stmt.TheOpen as level
use Rattle.vert_tree.specs.Places.{Counts, body_placed, expr_placed, is_slot, level_placed, loop_rights, node_placed}
use Rattle.carry_analysis.specs.declared.carry.Carry.{Carry}
use Rattle.carry_analysis.specs.declared.classes.Class.{Class}
use Rattle.carry_analysis.specs.declared.classes.Class.TheVariants.{Constant, Reduced, Carried}
use Rattle.carry_analysis.specs.Classes.{Mark, Uses, Breaks, body_marks, carried_in, carry_in, class_of, expr_marks, has_break, is_added, is_carried, is_lowered, is_raised, is_read, let_classes, node_marks, statement_marks, uses_of}
use Rattle.vert_eval.specs.Runs.{Act}
use Rattle.order_free.proofs.Statements.{Closed, run_holds}
use Rattle.order_free.proofs.Uses.{Use, without}
use Rattle.order_free.proofs.Values.{all_both}

-- ---- what a class tells of a use
-- the class takes this use, by whether it is a read, `+=`, `min=` or `max=`
abbrev pub takes : Class → Bool → Bool → Bool → Bool → Bool
takes Constant read added lowered raised = read
takes (Reduced combine.Sum) read added lowered raised = added
takes (Reduced combine.Min) read added lowered raised = lowered
takes (Reduced combine.Max) read added lowered raised = raised
takes (Reduced combine.First) read added lowered raised = false
takes Carried read added lowered raised = false

abbrev pub takes_use : Class → Use → Bool
takes_use k u = takes k (is_read u) (is_added u) (is_lowered u) (is_raised u)

-- each let has its class, and there is no break
abbrev pub mark_fits : (ℕ → Class) → Mark → Bool
mark_fits kind (Uses i u) = takes_use (kind i) u
mark_fits kind Breaks = false

-- the class of the let of a place among marks
abbrev pub class_in : List Mark → ℕ → Class
class_in ms i = class_of (uses_of i ms)

module _ (read added lowered raised : Bool) where
  taken : (r a l h : Bool) → (IsTrue r → IsTrue read) × (IsTrue a → IsTrue added) →
      (IsTrue l → IsTrue lowered) → (IsTrue h → IsTrue raised) →
      is_carried (if r then Constant else if a then Reduced combine.Sum else if l then Reduced combine.Min else
      if h then Reduced combine.Max else Carried) ≡ false →
      IsTrue (takes (if r then Constant else if a then Reduced combine.Sum else if l then Reduced combine.Min
      else if h then Reduced combine.Max else Carried) read added lowered raised)
  taken true a l h p s t e = p.0 refl
  taken false true l h p s t e = p.1 refl
  taken false false true h p s t e = s refl
  taken false false false true p s t e = t refl
  taken false false false false p s t e = cc

-- ---- places
abbrev pub mark_below : ℕ → Mark → Bool
mark_below n (Uses i u) = nat_lt i n
mark_below n Breaks = true

module _ (c : Counts) where
  abbrev below : List Mark → Bool
  below ms = list_all (mark_below c.locals) ms

  name_below : (at : Span) (n : ℕ) (w : What) →
      let name : Ident = record { span = at; name = n; what = w } in
      IsTrue (node_placed c (nodes.Name name)) → IsTrue (below (node_marks (nodes.Name name)))
  name_below at n (what.Local i) h = and_from (nat_lt i c.locals) true h refl
  name_below at n (what.Field i) h = refl
  name_below at n (what.Slot i) h = refl
  name_below at n (what.Send i) h = refl
  name_below at n (what.Total i) h = refl
  name_below at n what.Unread h = refl

  two_below : (a b : Node) → (IsTrue (node_placed c a) → IsTrue (below (node_marks a))) →
      (IsTrue (node_placed c b) → IsTrue (below (node_marks b))) →
      IsTrue (node_placed c a && node_placed c b) → IsTrue (below (node_marks a ++ node_marks b))
  two_below a b p q h =
      all_both (mark_below c.locals) (node_marks a) (node_marks b)
      (p (and_parts (node_placed c a) (node_placed c b) h).0) (q (and_parts (node_placed c a) (node_placed c b) h).1)

  node_below : (e : Node) → IsTrue (node_placed c e) → IsTrue (below (node_marks e))
  node_below (nodes.Int x) h = refl
  node_below (nodes.Bool b) h = refl
  node_below (nodes.Word w) h = refl
  node_below (nodes.Name name) h = name_below name.span name.name name.what h
  node_below (nodes.Got name) h = refl
  node_below (nodes.Value name) h = refl
  node_below (nodes.OtherField name) h = refl
  node_below (nodes.OtherWord w) h = refl
  node_below (nodes.Draw at tag) h = refl
  node_below (nodes.Neg' _ _ a) h = node_below a h
  node_below (nodes.Not' _ _ a) h = node_below a h
  node_below (nodes.Binary' op _ _ a _ _ b) h = two_below a b (node_below a) (node_below b) h
  node_below (nodes.Cond' _ _ test _ _ a _ _ b) h =
      all_both (mark_below c.locals) (node_marks test) (node_marks a ++ node_marks b)
      (node_below test (and_parts (node_placed c test) (node_placed c a && node_placed c b) h).0)
      (two_below a b (node_below a) (node_below b)
      (and_parts (node_placed c test) (node_placed c a && node_placed c b) h).1)
  node_below (nodes.Least' _ _ a _ _ b) h = two_below a b (node_below a) (node_below b) h
  node_below (nodes.Greatest' _ _ a _ _ b) h = two_below a b (node_below a) (node_below b) h
  node_below (nodes.Group' _ _ a) h = node_below a h

  record Below (t : Bool) (ms : List Mark) (f : Act) : Type 0 where
    are : IsTrue t → IsTrue (below ms)

  target_below : (at : Span) (n : ℕ) (w : What) (op : AssignOp) (e : Expr) →
      let target : Ident = record { span = at; name = n; what = w } in
      IsTrue (level_placed loop_rights c (level.Assign target op e)) →
      IsTrue (below (statement_marks (statements.Assign target op e)))
  target_below at n (what.Local i) op e h =
      all_both (mark_below c.locals) (expr_marks e) _
      (node_below e.node (and_parts (nat_lt i c.locals) (expr_placed c e) h).1)
      (and_from (nat_lt i c.locals) true (and_parts (nat_lt i c.locals) (expr_placed c e) h).0 refl)
  target_below at n (what.Field i) op e h = cc
  target_below at n (what.Slot i) op e h = cc
  target_below at n (what.Send i) op e h = cc
  target_below at n (what.Total i) op e h = cc
  target_below at n what.Unread op e h = cc

  marks_below : Closed loop_rights c Below
  marks_below = record {
    nothing = record { are = λ h. refl };
    next = λ t u ms ns f g p q.
        record {
          are = λ h. all_both (mark_below c.locals) ms ns (p.are (and_parts t u h).0)
              (q.are (and_parts t u h).1);
        };
    choice = λ t u test ms ns f g p q. record {
      are = λ h.
          let both = (and_parts (expr_placed c test) (t && u) h).1 in
          all_both (mark_below c.locals) (expr_marks test) (ms ++ ns)
          (node_below test.node (and_parts (expr_placed c test) (t && u) h).0)
          (all_both (mark_below c.locals) ms ns (p.are (and_parts t u both).0) (q.are (and_parts t u both).1));
    };
    assign = λ target op e. record { are = target_below target.span target.name target.what op e };
    active = λ s e. record { are = λ h. cc };
    emits = λ s slot e. record { are = λ h. node_below e.node (and_parts (is_slot c slot.what) (expr_placed c e) h).1 };
    breaks = λ s. record { are = λ h. refl };
  }

  pub body_below : (body : List Stmt) → IsTrue (body_placed loop_rights c body) → IsTrue (below (body_marks body))
  body_below body = (run_holds loop_rights c Below marks_below body).are

-- ---- no let is carried
kept_out : {X : Type 0} (b : Bool) (x : X) (xs : List X) → length (if b then x ∷ xs else xs) ≤ 0 → b ≡ false
kept_out true x xs h = absurd (omega arith)
kept_out false x xs h = refl

rest_out : {X : Type 0} (b : Bool) (x : X) (xs : List X) → length (if b then x ∷ xs else xs) ≤ 0 → length xs ≤ 0
rest_out true x xs h = omega arith
rest_out false x xs h = h

uncarried : (ds : List Decl) (k i : ℕ) (ms : List Mark) → carried_in (let_classes k ds ms) ≤ 0 → i < length ds →
    is_carried (class_in ms (k + i)) ≡ false
uncarried [] k i ms h lt = absurd (omega arith)
uncarried (d ∷ ds) k zero ms h lt =
    let same : k ≡ k + zero = omega arith in
    subst (λ n. is_carried (class_in ms n) ≡ false) same
    (kept_out (is_carried (class_in ms k)) (class_in ms k) (filter is_carried (let_classes (k + 1) ds ms)) h)
uncarried (d ∷ ds) k (suc i) ms h lt =
    let same : (k + 1) + i ≡ k + suc i = omega arith in
    subst (λ n. is_carried (class_in ms n) ≡ false) same
    (uncarried ds (k + 1) i ms
    (rest_out (is_carried (class_in ms k)) (class_in ms k) (filter is_carried (let_classes (k + 1) ds ms)) h)
    (omega arith))

-- ---- all marks fit
module _ (whole : List Mark) (n : ℕ) (free : (i : ℕ) → i < n → is_carried (class_in whole i) ≡ false) where
  fits_from : (ms : List Mark) →
      ((p : Use → Bool) (i : ℕ) → IsTrue (list_all p (uses_of i whole)) → IsTrue (list_all p (uses_of i ms))) →
      IsTrue (list_all (mark_below n) ms) → has_break ms ≡ false → IsTrue (list_all (mark_fits (class_in whole)) ms)
  fits_from [] sub low none = refl
  fits_from (Uses i u ∷ ms) sub low none =
      and_from (takes_use (class_in whole i) u) (list_all (mark_fits (class_in whole)) ms)
      (taken (is_read u) (is_added u) (is_lowered u) (is_raised u) (list_all is_read (uses_of i whole)) (list_all
      is_added (uses_of i whole)) (list_all is_lowered (uses_of i whole)) (list_all is_raised (uses_of i whole))
      (here is_read, here is_added) (here is_lowered) (here is_raised)
      (free i (ltb-true i n (and_parts (nat_lt i n) (list_all (mark_below n) ms) low).0)))
      (fits_from ms (λ p j h. without p (j == i) u (uses_of j ms) (sub p j h))
      (and_parts (nat_lt i n) (list_all (mark_below n) ms) low).1 none)
    where
      here : (p : Use → Bool) → IsTrue (list_all p (uses_of i whole)) → IsTrue (p u)
      here p h =
          let at : IsTrue (list_all p (u ∷ uses_of i ms)) =
          sym (ap (λ b. list_all p (if b then u ∷ uses_of i ms else uses_of i ms)) (eq-eqb i i refl)) ∙ sub p i h in
          (and_parts (p u) (list_all p (uses_of i ms)) at).0
  fits_from (Breaks ∷ ms) sub low none = cc

none_carry : (b t : Bool) (w : Carry) → IsTrue (is_none (if b || t then Some w else None)) → (b ≡ false) × (t ≡ false)
none_carry true t w h = cc
none_carry false true w h = cc
none_carry false false w h = (refl, refl)

-- in a loop body without a carry, whose lets have their places, all marks fit
pub body_fits : (ds : List Decl) (c : Counts) (body : List Stmt) → c.locals ≡ length ds →
    IsTrue (body_placed loop_rights c body) →
    IsTrue (is_none (carry_in (has_break (body_marks body)) (let_classes 0 ds (body_marks body)))) →
    IsTrue (list_all (mark_fits (class_in (body_marks body))) (body_marks body))
body_fits ds c body many placed carry =
    let ms = body_marks body in
    let both = none_carry (has_break ms) (nat_lt 0 (carried_in (let_classes 0 ds ms))) _ carry in
    let few : carried_in (let_classes 0 ds ms) ≤ 0 = ltb-false 0 (carried_in (let_classes 0 ds ms)) both.1 in
    fits_from ms c.locals
    (λ i lt. let same : 0 + i ≡ i = omega arith in subst (λ k. is_carried (class_in ms k) ≡ false) same
    (uncarried ds 0 i ms few (omega arith))) ms (λ p i h. h) (body_below c body placed) both.0
