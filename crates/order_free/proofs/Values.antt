-- Values that don't depend on the lets that an expression doesn't read.
use Rattle.std.proofs.Common.{◌≡◌, ℕ, ℤ, pos, Bool, true, not, IsTrue, List, [], ◌∷◌, ◌++◌, refl, ap, ◌∙◌}
use Rattle.std.specs.Prelude.{if◌then◌else◌, is_some, unwrap_or, neg_ℤ}
use Rattle.std.specs.Int.{int_min, int_max}
use Rattle.std.specs.List.{list_all}
use Rattle.std.proofs.lemmas.Bool.{and_from, and_parts}
use Rattle.arrayvec.specs.ArrayVec.{ArrayVec}
use Rattle.vert_base.specs.declared.text.Span.{Span}
use Rattle.vert_tree.specs.declared.name.Ident.{Ident}
use Rattle.vert_tree.specs.declared.name.What.{What}
use Rattle.vert_tree.specs.declared.name.What.TheVariants as what
use Rattle.vert_tree.specs.declared.expression.Builtin.{Builtin}
use Rattle.vert_tree.specs.declared.expression.Builtin.TheVariants as word
use Rattle.vert_tree.specs.declared.expression.Node.{Node}
use Rattle.vert_tree.specs.declared.expression.Node.TheVariants as nodes
use Rattle.carry_analysis.specs.Classes.{node_marks}
use Rattle.order_free.specs.Fixed.{uses_held}
use Rattle.vert_eval.specs.declared.environment.Env.{Env}
use Rattle.vert_eval.specs.Words.{binary, is_set, word_of, wrapped}
use Rattle.vert_eval.specs.Values.{builtin, named, node_value, other_field, slot_value, word_at}

module _ {X : Type 0} (p : X → Bool) where
  pub all_left : (a b : List X) → IsTrue (list_all p (a ++ b)) → IsTrue (list_all p a)
  all_left [] b h = refl
  all_left (x ∷ a) b h =
      and_from (p x) (list_all p a) (and_parts (p x) (list_all p (a ++ b)) h).0
      (all_left a b (and_parts (p x) (list_all p (a ++ b)) h).1)

  pub all_right : (a b : List X) → IsTrue (list_all p (a ++ b)) → IsTrue (list_all p b)
  all_right [] b h = h
  all_right (x ∷ a) b h = all_right a b (and_parts (p x) (list_all p (a ++ b)) h).1

  pub all_both : (a b : List X) → IsTrue (list_all p a) → IsTrue (list_all p b) → IsTrue (list_all p (a ++ b))
  all_both [] b h k = k
  all_both (x ∷ a) b h k =
      and_from (p x) (list_all p (a ++ b)) (and_parts (p x) (list_all p a) h).0
      (all_both a b (and_parts (p x) (list_all p a) h).1 k)

-- ---- an expression that reads some lets alone
-- the lets that pass the test have these words
pub record SameHeld (held : ℕ → Bool) (ls ks : List ℤ) : Type 0 where
  pub same : (i : ℕ) → IsTrue (held i) → word_at ks i ≡ word_at ls i

-- the same with other locals
abbrev pub relet : ArrayVec ℤ → ℕ → Env → Env
relet ls t env = record env { locals = ls; touched = t }

module _ (held : ℕ → Bool) (ls : ArrayVec ℤ) (t : ℕ) (env : Env) (same : SameHeld held env.locals.items ls.items) where
  name_relet : (at : Span) (n : ℕ) (w : What) →
      let name : Ident = record { span = at; name = n; what = w } in
      IsTrue (list_all (uses_held held) (node_marks (nodes.Name name))) → named w (relet ls t env) ≡ named w env
  name_relet at n what.Unread h = refl
  name_relet at n (what.Field i) h = refl
  name_relet at n (what.Slot i) h = refl
  name_relet at n (what.Local i) h = same.same i (and_parts (held i) true h).0
  name_relet at n (what.Send i) h = refl
  name_relet at n (what.Total i) h = refl

  word_relet : (w : Builtin) → builtin w (relet ls t env) ≡ builtin w env
  word_relet word.Id = refl
  word_relet word.Count = refl
  word_relet word.Round = refl
  word_relet word.InDeg = refl
  word_relet word.OutDeg = refl
  word_relet word.Active = refl
  word_relet word.Weight = refl

  other_word_relet : (w : Builtin) →
      node_value (nodes.OtherWord w) (relet ls t env) ≡ node_value (nodes.OtherWord w) env
  other_word_relet word.Id = refl
  other_word_relet word.Count = refl
  other_word_relet word.Round = refl
  other_word_relet word.InDeg = refl
  other_word_relet word.OutDeg = refl
  other_word_relet word.Active = refl
  other_word_relet word.Weight = refl

  slot_relet : (w : What) → slot_value w (relet ls t env) ≡ slot_value w env
  slot_relet what.Unread = refl
  slot_relet (what.Field i) = refl
  slot_relet (what.Slot i) = refl
  slot_relet (what.Local i) = refl
  slot_relet (what.Send i) = refl
  slot_relet (what.Total i) = refl

  other_relet : (w : What) → other_field w (relet ls t env) ≡ other_field w env
  other_relet what.Unread = refl
  other_relet (what.Field i) = refl
  other_relet (what.Slot i) = refl
  other_relet (what.Local i) = refl
  other_relet (what.Send i) = refl
  other_relet (what.Total i) = refl

  abbrev reads : Node → Bool
  reads e = list_all (uses_held held) (node_marks e)

  pub value_relet : (e : Node) → IsTrue (reads e) → node_value e (relet ls t env) ≡ node_value e env
  value_relet (nodes.Int x) h = refl
  value_relet (nodes.Bool b) h = refl
  value_relet (nodes.Word w) h = word_relet w
  value_relet (nodes.Name name) h = name_relet name.span name.name name.what h
  value_relet (nodes.Got name) h = ap (λ o. word_of (is_some o)) (slot_relet name.what)
  value_relet (nodes.Value name) h = ap (λ o. unwrap_or o (pos 0)) (slot_relet name.what)
  value_relet (nodes.OtherField name) h = other_relet name.what
  value_relet (nodes.OtherWord w) h = other_word_relet w
  value_relet (nodes.Draw at tag) h = refl
  value_relet (nodes.Neg' _ _ a) h = ap (λ x. wrapped (neg_ℤ x)) (value_relet a h)
  value_relet (nodes.Not' _ _ a) h = ap (λ x. word_of (not (is_set x))) (value_relet a h)
  value_relet (nodes.Binary' op _ _ a _ _ b) h =
      let x = value_relet a (all_left (uses_held held) (node_marks a) (node_marks b) h) in
      let y = value_relet b (all_right (uses_held held) (node_marks a) (node_marks b) h) in
      ap (λ v. binary op v (node_value b (relet ls t env))) x ∙ ap (λ v. binary op (node_value a env) v) y
  value_relet (nodes.Cond' _ _ test _ _ a _ _ b) h =
      let more = all_right (uses_held held) (node_marks test) (node_marks a ++ node_marks b) h in
      let z = value_relet test (all_left (uses_held held) (node_marks test) (node_marks a ++ node_marks b) h) in
      let x = value_relet a (all_left (uses_held held) (node_marks a) (node_marks b) more) in
      let y = value_relet b (all_right (uses_held held) (node_marks a) (node_marks b) more) in
      ap (λ v. if is_set v then node_value a (relet ls t env) else node_value b (relet ls t env)) z
      ∙ ap (λ v. if is_set (node_value test env) then v else node_value b (relet ls t env)) x
      ∙ ap (λ v. if is_set (node_value test env) then node_value a env else v) y
  value_relet (nodes.Least' _ _ a _ _ b) h =
      let x = value_relet a (all_left (uses_held held) (node_marks a) (node_marks b) h) in
      let y = value_relet b (all_right (uses_held held) (node_marks a) (node_marks b) h) in
      ap (λ v. int_min v (node_value b (relet ls t env))) x ∙ ap (λ v. int_min (node_value a env) v) y
  value_relet (nodes.Greatest' _ _ a _ _ b) h =
      let x = value_relet a (all_left (uses_held held) (node_marks a) (node_marks b) h) in
      let y = value_relet b (all_right (uses_held held) (node_marks a) (node_marks b) h) in
      ap (λ v. int_max v (node_value b (relet ls t env))) x ∙ ap (λ v. int_max (node_value a env) v) y
  value_relet (nodes.Group' _ _ a) h = value_relet a h
