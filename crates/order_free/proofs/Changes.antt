-- Changes of locals that may come in any order.
use Rattle.std.proofs.Common.{◌≡◌, ◌≢◌, ℕ, zero, suc, ℤ, Bool, true, false, IsTrue, List, [], ◌∷◌, ◌++◌, IsPermutation, set, refl, sym, ap, subst, ◌∙◌, Some}
use Rattle.std.specs.List.{list_all}
use Rattle.std.proofs.lemmas.Bool.{and_from, and_parts}
use Rattle.vert_base.specs.declared.value.Combine.{Combine}
use Rattle.vert_base.specs.declared.value.Combine.TheVariants as combine
use Rattle.vert_tree.specs.declared.name.What.TheVariants as what
use Rattle.vert_tree.specs.declared.statement.AssignOp.{AssignOp}
use Rattle.vert_tree.specs.declared.statement.AssignOp.TheVariants as assign
use Rattle.carry_analysis.specs.declared.classes.Class.{Class}
use Rattle.carry_analysis.specs.declared.classes.Class.TheVariants.{Constant, Reduced, Carried}
use Rattle.slot_merge.specs.Combine.{combined_of}
use Rattle.slot_merge.proofs.CombineLaws.{combined_of-assoc, combined_of-comm}
use Rattle.slot_merge.proofs.Permutations.{IsKept, permutation-kept}
use Rattle.vert_eval.specs.declared.environment.Env.{Env}
use Rattle.vert_eval.specs.Runs.{with_target}
use Rattle.vert_eval.specs.Values.{word_at}
use Rattle.vert_eval.specs.Words.{assigned}
use Rattle.order_laws.specs.Agreement.{SameButNeighbour}
use Rattle.order_free.specs.Fixed.{is_constant}
use Rattle.order_laws.proofs.Loops.{SameButNeighbour-trans}
use Rattle.order_free.proofs.Fits.{takes}
use Rattle.order_free.proofs.Keeps.{word_other}
use Rattle.order_laws.proofs.Blindness.{moved}
use Rattle.order_free.proofs.Values.{SameHeld, relet}

-- what `op=` does to the let of a place
pub record Change : Type 0 where
  pub place : ℕ
  pub op : AssignOp
  pub word : ℤ

abbrev pub changed : Change → Env → Env
changed c env = with_target (what.Local c.place) c.op c.word env

abbrev pub with_changes : List Change → Env → Env
with_changes [] env = env
with_changes (c ∷ cs) env = with_changes cs (changed c env)

pub with_append : (cs ds : List Change) (env : Env) →
    with_changes (cs ++ ds) env ≡ with_changes ds (with_changes cs env)
with_append [] ds env = refl
with_append (c ∷ cs) ds env = with_append cs ds (changed c env)

-- ---- the operator fits the class of its let
abbrev is_add : AssignOp → Bool
is_add assign.Add = true
is_add _ = false

abbrev is_least : AssignOp → Bool
is_least assign.Least = true
is_least _ = false

abbrev is_greatest : AssignOp → Bool
is_greatest assign.Greatest = true
is_greatest _ = false

abbrev pub takes_op : Class → AssignOp → Bool
takes_op k op = takes k false (is_add op) (is_least op) (is_greatest op)

right_comm : (o : Combine) → o ≢ combine.First → (v x y : ℤ) →
    combined_of o (combined_of o v x) y ≡ combined_of o (combined_of o v y) x
right_comm o other v x y =
    combined_of-assoc o v x y ∙ ap (combined_of o v) (combined_of-comm o other x y) ∙ sym (combined_of-assoc o v y x)

ops_commute : (k : Class) (p q : AssignOp) → IsTrue (takes_op k p) → IsTrue (takes_op k q) → (v x y : ℤ) →
    assigned q (assigned p v x) y ≡ assigned p (assigned q v y) x
ops_commute Constant p q h g v x y = cc
ops_commute (Reduced combine.Sum) assign.Add assign.Add h g v x y = right_comm combine.Sum (λ e. cc) v x y
ops_commute (Reduced combine.Sum) assign.Add assign.Set h g v x y = cc
ops_commute (Reduced combine.Sum) assign.Add assign.Least h g v x y = cc
ops_commute (Reduced combine.Sum) assign.Add assign.Greatest h g v x y = cc
ops_commute (Reduced combine.Sum) assign.Set q h g v x y = cc
ops_commute (Reduced combine.Sum) assign.Least q h g v x y = cc
ops_commute (Reduced combine.Sum) assign.Greatest q h g v x y = cc
ops_commute (Reduced combine.Min) assign.Least assign.Least h g v x y = right_comm combine.Min (λ e. cc) v x y
ops_commute (Reduced combine.Min) assign.Least assign.Set h g v x y = cc
ops_commute (Reduced combine.Min) assign.Least assign.Add h g v x y = cc
ops_commute (Reduced combine.Min) assign.Least assign.Greatest h g v x y = cc
ops_commute (Reduced combine.Min) assign.Set q h g v x y = cc
ops_commute (Reduced combine.Min) assign.Add q h g v x y = cc
ops_commute (Reduced combine.Min) assign.Greatest q h g v x y = cc
ops_commute (Reduced combine.Max) assign.Greatest assign.Greatest h g v x y = right_comm combine.Max (λ e. cc) v x y
ops_commute (Reduced combine.Max) assign.Greatest assign.Set h g v x y = cc
ops_commute (Reduced combine.Max) assign.Greatest assign.Add h g v x y = cc
ops_commute (Reduced combine.Max) assign.Greatest assign.Least h g v x y = cc
ops_commute (Reduced combine.Max) assign.Set q h g v x y = cc
ops_commute (Reduced combine.Max) assign.Add q h g v x y = cc
ops_commute (Reduced combine.Max) assign.Least q h g v x y = cc
ops_commute (Reduced combine.First) p q h g v x y = cc
ops_commute Carried p q h g v x y = cc

-- two writes of words
two_writes : (l : List ℤ) (i j : ℕ) (p q : AssignOp) (x y : ℤ) →
    (i ≡ j → (v : ℤ) → assigned q (assigned p v x) y ≡ assigned p (assigned q v y) x) →
    set (set l i (assigned p (word_at l i) x)) j (assigned q (word_at (set l i (assigned p (word_at l i) x)) j) y)
    ≡ set (set l j (assigned q (word_at l j) y)) i (assigned p (word_at (set l j (assigned q (word_at l j) y)) i) x)
two_writes [] i j p q x y h = refl
two_writes (w ∷ l) zero zero p q x y h = ap (λ v. v ∷ l) (h refl w)
two_writes (w ∷ l) zero (suc j) p q x y h = refl
two_writes (w ∷ l) (suc i) zero p q x y h = refl
two_writes (w ∷ l) (suc i) (suc j) p q x y h = ap (λ t. w ∷ t) (two_writes l i j p q x y (λ e. h (ap suc e)))

-- ---- the same but for the neighbour
changed_beside : (c : Change) (a b : Env) → SameButNeighbour a b → SameButNeighbour (changed c a) (changed c b)
changed_beside c a b p = ap (λ e. moved b.other b.other_row (changed c b).touched (changed c e)) p

pub changes_beside : (cs : List Change) (a b : Env) → SameButNeighbour a b →
    SameButNeighbour (with_changes cs a) (with_changes cs b)
changes_beside [] a b p = p
changes_beside (c ∷ cs) a b p = changes_beside cs (changed c a) (changed c b) (changed_beside c a b p)

-- changes leave all but locals
pub changes_rest : (cs : List Change) (a : Env) →
    with_changes cs a ≡ relet (with_changes cs a).locals (with_changes cs a).touched a
changes_rest [] a = refl
changes_rest (c ∷ cs) a = changes_rest cs (changed c a)

module _ (kind : ℕ → Class) where
  abbrev pub change_fits : Change → Bool
  change_fits c = takes_op (kind c.place) c.op

  abbrev pub Fits : List Change → Type 0
  Fits cs = IsTrue (list_all change_fits cs)

  -- a let that no loop body assigns
  abbrev pub is_still : ℕ → Bool
  is_still i = is_constant (Some (kind i))

  still_other : (k : Class) (op : AssignOp) → IsTrue (is_constant (Some k)) → IsTrue (takes_op k op) → ⊥
  still_other Constant op h g = cc
  still_other (Reduced o) op h g = cc
  still_other Carried op h g = cc

  pub changes_hold : (cs : List Change) (a : Env) → Fits cs →
      SameHeld is_still a.locals.items (with_changes cs a).locals.items
  changes_hold [] a h = record { same = λ i k. refl }
  changes_hold (c ∷ cs) a h = record {
    same = λ i k.
        (changes_hold cs (changed c a) (and_parts (change_fits c) (list_all change_fits cs) h).1).same i k
        ∙ word_other a.locals.items c.place i _
        (λ e. still_other (kind c.place) c.op (subst (λ n. IsTrue (is_still n)) e k)
        (and_parts (change_fits c) (list_all change_fits cs) h).0);
  }

  flip_changes : (c d : Change) (a : Env) → IsTrue (change_fits c) → IsTrue (change_fits d) →
      SameButNeighbour (changed d (changed c a)) (changed c (changed d a))
  flip_changes c d a h g =
      let words = two_writes a.locals.items c.place d.place c.op d.op c.word d.word
      (λ e v. ops_commute (kind c.place) c.op d.op h
      (subst (λ n. IsTrue (takes_op (kind n) d.op)) (sym e) g) v c.word d.word) in
      ap (λ ls. relet (record { items = ls }) (changed c (changed d a)).touched a) (sym words)

  -- one list of changes fits where the other does, and does the same
  record SameChanges (cs ds : List Change) : Type 0 where
    fit : Fits cs → Fits ds
    same : Fits cs → (a : Env) → SameButNeighbour (with_changes cs a) (with_changes ds a)

  kept : IsKept SameChanges
  kept = record {
    same = λ cs. record { fit = λ h. h; same = λ h a. refl };
    under = λ c cs ds p. record {
      fit = λ h. and_from (change_fits c) (list_all change_fits ds)
          (and_parts (change_fits c) (list_all change_fits cs) h).0
          (p.fit (and_parts (change_fits c) (list_all change_fits cs) h).1);
      same = λ h a. p.same (and_parts (change_fits c) (list_all change_fits cs) h).1 (changed c a);
    };
    flip = λ c d cs.
        let first : Fits (c ∷ d ∷ cs) → IsTrue (change_fits c) =
        λ h. (and_parts (change_fits c) (list_all change_fits (d ∷ cs)) h).0 in
        let second : Fits (c ∷ d ∷ cs) → IsTrue (change_fits d) =
        λ h. (and_parts (change_fits d) (list_all change_fits cs)
        (and_parts (change_fits c) (list_all change_fits (d ∷ cs)) h).1).0 in
        let others : Fits (c ∷ d ∷ cs) → Fits cs =
        λ h. (and_parts (change_fits d) (list_all change_fits cs)
        (and_parts (change_fits c) (list_all change_fits (d ∷ cs)) h).1).1 in
        record {
          fit = λ h. and_from (change_fits d) (list_all change_fits (c ∷ cs)) (second h)
              (and_from (change_fits c) (list_all change_fits cs) (first h) (others h));
          same = λ h a. changes_beside cs (changed d (changed c a)) (changed c (changed d a))
              (flip_changes c d a (first h) (second h));
        };
    both = λ cs ds es p q. record {
      fit = λ h. q.fit (p.fit h);
      same = λ h a. SameButNeighbour-trans (with_changes cs a) (with_changes ds a) (with_changes es a) (p.same h a)
          (q.same (p.fit h) a);
    };
  }

  pub changes_permuted : (cs ds : List Change) → IsPermutation cs ds → Fits cs → (a : Env) →
      SameButNeighbour (with_changes cs a) (with_changes ds a)
  changes_permuted cs ds p = (permutation-kept SameChanges kept cs ds p).same
