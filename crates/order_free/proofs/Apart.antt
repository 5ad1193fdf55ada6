-- The forms of loop bodies don't overlap.
use Rattle.std.proofs.Common.{◌≡◌, ℕ, false, IsTrue, List, [], ◌∷◌, ◌++◌, refl, sym, ap, ◌∙◌, Option, Some, None}
use Rattle.std.specs.Global.{Vec}
use Rattle.std.proofs.lemmas.Bool.{and_parts, and_right}
use Rattle.vert_base.specs.declared.text.Span.{Span}
use Rattle.vert_tree.specs.declared.expression.Expr.{Expr}
use Rattle.vert_tree.specs.declared.statement.Stmt.{Stmt, Stmt-F}
use Rattle.vert_tree.specs.declared.statement.Stmt.TheOpen as level
use Rattle.vert_tree.specs.declared.statement.Stmt.TheVariants.{rolls-Break}
use Rattle.vert_tree.specs.declared.statement.Stmt.TheViews.{out-Stmt, roll-Stmt, roll-out-Stmt}
use Rattle.carry_analysis.specs.declared.classes.Class.{Class}
use Rattle.carry_analysis.specs.Classes.{Mark, Uses, Breaks, body_marks, expr_marks, has_break, statement_marks}
use Rattle.order_free.specs.Fixed.{reads_known}
use Rattle.order_free.specs.Forms.{FormsApart, counter_of, counts_members, counts_up, ends_loop, finds_one, is_bound, is_break, is_found_one, is_last_step, is_reach_a_count, stops_counter}
use Rattle.carry_analysis.proofs.StatementMarks.{marks-if}
use Rattle.order_free.proofs.Statements.{shut}

break_left : (a b : List Mark) → IsTrue (has_break a) → IsTrue (has_break (a ++ b))
break_left [] b h = cc
break_left (Uses i u ∷ a) b h = break_left a b h
break_left (Breaks ∷ a) b h = refl

break_right : (a b : List Mark) → IsTrue (has_break b) → IsTrue (has_break (a ++ b))
break_right [] b h = h
break_right (Uses i u ∷ a) b h = break_right a b h
break_right (Breaks ∷ a) b h = refl

break_marked : (s : Stmt) (z : Stmt-F Stmt) → out-Stmt s ≡ z → IsTrue (is_break z) →
    IsTrue (has_break (statement_marks s))
break_marked s (level.Break at) e h =
    ap (λ x. has_break (statement_marks x)) (sym (roll-out-Stmt s) ∙ ap roll-Stmt e ∙ rolls-Break at)
break_marked s (level.Assign t o v) e h = cc
break_marked s (level.SetActive at v) e h = cc
break_marked s (level.If at test held otherwise) e h = cc
break_marked s (level.Emit at slot v) e h = cc

if_breaks : (s : Stmt) (at : Span) (test : Expr) (held : Vec Stmt) → out-Stmt s ≡ level.If at test held None →
    IsTrue (has_break (body_marks held.items)) → IsTrue (has_break (statement_marks s))
if_breaks s at test held e h =
    ap has_break (ap statement_marks (shut s at test held None e) ∙ marks-if at test held)
    ∙ break_right (expr_marks test) (body_marks held.items ++ []) (break_left (body_marks held.items) [] h)

module _ (classes : List Class) where
  end_breaks : (counter : Option ℕ) (body : List Stmt) → IsTrue (ends_loop classes counter body) →
      IsTrue (has_break (body_marks body))
  end_breaks counter [] h = cc
  end_breaks counter (s ∷ []) h = break_left (statement_marks s) [] (break_marked s (out-Stmt s) refl h)
  end_breaks counter (s ∷ t ∷ more) h =
      break_right (statement_marks s) (body_marks (t ∷ more))
      (end_breaks counter (t ∷ more)
      (and_parts (is_last_step classes counter (out-Stmt s)) (ends_loop classes counter (t ∷ more)) h).1)

  find_breaks : (s : Stmt) (z : Stmt-F Stmt) → out-Stmt s ≡ z → IsTrue (finds_one classes z) →
      IsTrue (has_break (statement_marks s))
  find_breaks s (level.If at test held None) e h =
      if_breaks s at test held e
      (end_breaks None held.items
      (and_parts (reads_known classes None test.node) (ends_loop classes None held.items) h).1)
  find_breaks s (level.If at test held (Some body)) e h = cc
  find_breaks s (level.Assign t o v) e h = cc
  find_breaks s (level.SetActive at v) e h = cc
  find_breaks s (level.Emit at slot v) e h = cc
  find_breaks s (level.Break at) e h = cc

  found_breaks : (body : List Stmt) → IsTrue (is_found_one classes body) → IsTrue (has_break (body_marks body))
  found_breaks [] h = cc
  found_breaks (s ∷ []) h = break_left (statement_marks s) [] (find_breaks s (out-Stmt s) refl h)
  found_breaks (s ∷ t ∷ more) h = cc

  stop_breaks : (o : Option ℕ) (s : Stmt) (z : Stmt-F Stmt) → out-Stmt s ≡ z → IsTrue (stops_counter classes o z) →
      IsTrue (has_break (statement_marks s))
  stop_breaks None s z e h = cc
  stop_breaks (Some c) s (level.If at test held None) e h =
      if_breaks s at test held e
      (end_breaks (Some c) held.items
      (and_parts (is_bound classes c test.node) (ends_loop classes (Some c) held.items) h).1)
  stop_breaks (Some c) s (level.If at test held (Some body)) e h = cc
  stop_breaks (Some c) s (level.Assign t o v) e h = cc
  stop_breaks (Some c) s (level.SetActive at v) e h = cc
  stop_breaks (Some c) s (level.Emit at slot v) e h = cc
  stop_breaks (Some c) s (level.Break at) e h = cc

  count_breaks : (body : List Stmt) → IsTrue (counts_up classes body) → IsTrue (has_break (body_marks body))
  count_breaks [] h = cc
  count_breaks (s ∷ []) h = cc
  count_breaks (s ∷ t ∷ []) h =
      break_right (statement_marks s) (statement_marks t ++ [])
      (break_left (statement_marks t) [] (stop_breaks (counter_of classes (out-Stmt s)) t (out-Stmt t) refl h))
  count_breaks (s ∷ t ∷ u ∷ more) h = cc

  member_breaks : (s : Stmt) (z : Stmt-F Stmt) → out-Stmt s ≡ z → IsTrue (counts_members classes z) →
      IsTrue (has_break (statement_marks s))
  member_breaks s (level.If at test held None) e h =
      if_breaks s at test held e
      (count_breaks held.items (and_parts (reads_known classes None test.node) (counts_up classes held.items) h).1)
  member_breaks s (level.If at test held (Some body)) e h = cc
  member_breaks s (level.Assign t o v) e h = cc
  member_breaks s (level.SetActive at v) e h = cc
  member_breaks s (level.Emit at slot v) e h = cc
  member_breaks s (level.Break at) e h = cc

  reach_breaks : (body : List Stmt) → IsTrue (is_reach_a_count classes body) → IsTrue (has_break (body_marks body))
  reach_breaks [] h = cc
  reach_breaks (s ∷ []) h = break_left (statement_marks s) [] (member_breaks s (out-Stmt s) refl h)
  reach_breaks (s ∷ t ∷ more) h = cc

  -- ---- a block that ends by a break, and one that ends by an `if`
  no_stop : (o : Option ℕ) (z : Stmt-F Stmt) → IsTrue (is_break z) → stops_counter classes o z ≡ false
  no_stop None z h = refl
  no_stop (Some c) (level.Break at) h = refl
  no_stop (Some c) (level.If at test held otherwise) h = cc
  no_stop (Some c) (level.Assign t o v) h = cc
  no_stop (Some c) (level.SetActive at v) h = cc
  no_stop (Some c) (level.Emit at slot v) h = cc

  not_both : (body : List Stmt) → IsTrue (ends_loop classes None body) → counts_up classes body ≡ false
  not_both [] h = refl
  not_both (s ∷ []) h = refl
  not_both (s ∷ t ∷ []) h =
      no_stop (counter_of classes (out-Stmt s)) (out-Stmt t)
      (and_parts (is_last_step classes None (out-Stmt s)) (is_break (out-Stmt t)) h).1
  not_both (s ∷ t ∷ u ∷ more) h = refl

  one_apart : (z : Stmt-F Stmt) → IsTrue (finds_one classes z) → counts_members classes z ≡ false
  one_apart (level.If at test held None) h =
      and_right (reads_known classes None test.node) (counts_up classes held.items)
      (not_both held.items (and_parts (reads_known classes None test.node) (ends_loop classes None held.items) h).1)
  one_apart (level.If at test held (Some body)) h = cc
  one_apart (level.Assign t o v) h = cc
  one_apart (level.SetActive at v) h = cc
  one_apart (level.Emit at slot v) h = cc
  one_apart (level.Break at) h = cc

  found_apart : (body : List Stmt) → IsTrue (is_found_one classes body) → is_reach_a_count classes body ≡ false
  found_apart [] h = cc
  found_apart (s ∷ []) h = one_apart (out-Stmt s) h
  found_apart (s ∷ t ∷ more) h = cc

pub forms_apart : (classes : List Class) (body : List Stmt) → FormsApart classes body
forms_apart classes body =
    record { found = found_breaks classes body; reached = reach_breaks classes body; apart = found_apart classes body }
