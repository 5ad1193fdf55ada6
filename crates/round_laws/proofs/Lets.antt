-- The lets at the end of a loop by machines.
use Rattle.std.proofs.Common.{◌≡◌, ℕ, zero, suc, ◌+◌, ℤ, List, [], ◌∷◌, ◌++◌, length, refl, sym, ap, subst, ◌∙◌, Option, None, Some, arith, append-nil}
use Rattle.std.specs.Prelude.{option_to_list, slice_get}
use Rattle.std.specs.Int.{bit_at}
use Rattle.std.specs.List.{flat_map, range_with_len}
use Rattle.std.proofs.lemmas.List.Concat.{flat_map-append}
use Rattle.vert_base.specs.declared.graph.Edge.{Edge}
use Rattle.vert_base.specs.declared.value.Combine.{Combine}
use Rattle.vert_tree.specs.declared.program.Dense.{Dense}
use Rattle.vert_tree.specs.declared.program.Program.{Program}
use Rattle.carry_analysis.specs.declared.classes.Class.{Class}
use Rattle.carry_analysis.specs.declared.classes.Class.TheVariants.{Constant, Reduced, Carried}
use Rattle.carry_analysis.specs.Classes.{body_marks, let_classes}
use Rattle.slot_merge.specs.Combine.{combined, combined_of, neutral}
use Rattle.slot_merge.proofs.CombineLaws.{both_of, combined-append, combined_of-assoc}
use Rattle.vert_eval.specs.declared.environment.Env.{Env}
use Rattle.vert_eval.specs.declared.environment.Flow.{Flow}
use Rattle.vert_eval.specs.declared.environment.Flow.TheVariants.{Going, Broke}
use Rattle.vert_eval.specs.Rounds.{Scene}
use Rattle.vert_eval.specs.Runs.{Ran}
use Rattle.vert_eval.specs.Values.{word_at}
use Rattle.circulant_plan.specs.Ring.{members_by_steps, members_with, order_of}
use Rattle.graph_table.proofs.BucketLaws.{range_more}
use Rattle.instrument.specs.Continued.{AreLeft, IsSplit, SameOutcome, combined_words, segment, whole, with_segment}
use Rattle.instrument.specs.Loops.{loop_split}
use Rattle.instrument.specs.Segments.{carried_words, given, own_words}
use Rattle.instrument.proofs.SplitLaws.{ends, goes_on, left, length-own, neutrals}
use Rattle.instrument.proofs.TypedLaws.{length-let_classes}
use Rattle.symple_face.specs.Ring.{Running, Broken, closing, combined_operands, machine_ran, operand, operand_at, operand_words, operands_by_steps, state_of, state_with, step_ran, with_operand}
use Rattle.round_laws.proofs.Ranges.{steps_more}
use Rattle.round_laws.proofs.Steps.{first_part}

-- ---- operands, let by let

-- the operands of the reduced lets, of which the first let is at this place
abbrev pub each_operand : (ℕ → Option ℤ) → ℕ → List Class → List (Option ℤ)
each_operand came place [] = []
each_operand came place (Constant ∷ cs) = each_operand came (place + 1) cs
each_operand came place (Carried ∷ cs) = each_operand came (place + 1) cs
each_operand came place (Reduced op ∷ cs) = came place ∷ each_operand came (place + 1) cs

-- operands with more behind them
abbrev merged : List Class → List (Option ℤ) → List (Option ℤ) → List (Option ℤ)
merged [] ts os = []
merged (Constant ∷ cs) ts os = merged cs ts os
merged (Carried ∷ cs) ts os = merged cs ts os
merged (Reduced op ∷ cs) [] os = []
merged (Reduced op ∷ cs) (t ∷ ts) [] = t ∷ ts
merged (Reduced op ∷ cs) (t ∷ ts) (o ∷ os) = both_of op t o ∷ merged cs ts os

combined-operand : (op : Combine) (o : Option ℤ) → combined op (option_to_list o) ≡ o
combined-operand op None = refl
combined-operand op (Some x) = refl

-- one step more
word_more : (op : Combine) (f : ℕ → Env) (steps : List ℕ) (step place : ℕ) →
    combined op (operand_words f (steps ++ step ∷ []) place) ≡
    both_of op (combined op (operand_words f steps place)) (operand_at place (f step))
word_more op f steps step place =
    let words : ℕ → List ℤ = λ k. option_to_list (operand_at place (f k)) in
    ap (combined op) (flat_map-append words steps (step ∷ []))
    ∙ combined-append op (flat_map words steps) (words step ++ [])
    ∙ ap (both_of op (combined op (flat_map words steps)))
    (ap (combined op) (append-nil (words step)) ∙ combined-operand op (operand_at place (f step)))

operands_more : (f : ℕ → Env) (steps : List ℕ) (step place : ℕ) (cs : List Class) →
    combined_operands f (steps ++ step ∷ []) place cs ≡
    merged cs (combined_operands f steps place cs) (each_operand (λ k. operand_at k (f step)) place cs)
operands_more f steps step place [] = refl
operands_more f steps step place (Constant ∷ cs) = operands_more f steps step (place + 1) cs
operands_more f steps step place (Carried ∷ cs) = operands_more f steps step (place + 1) cs
operands_more f steps step place (Reduced op ∷ cs) =
    let rest = combined_operands f (steps ++ step ∷ []) (place + 1) cs in
    let come : Option ℤ = both_of op (combined op (operand_words f steps place)) (operand_at place (f step)) in
    ap (λ o. o ∷ rest) (word_more op f steps step place)
    ∙ ap (λ os. come ∷ os) (operands_more f steps step (place + 1) cs)

-- ---- words that are own ones, carried ones, or own ones combined with these operands
abbrev AreClosed : List Class → List ℤ → List ℤ → List (Option ℤ) → Type 0
AreClosed [] [] [] ts = Unit {0}
AreClosed [] [] (x ∷ xs) ts = ⊥
AreClosed [] (o ∷ own) xs ts = ⊥
AreClosed (c ∷ cs) [] xs ts = ⊥
AreClosed (c ∷ cs) (o ∷ own) [] ts = ⊥
AreClosed (Constant ∷ cs) (o ∷ own) (x ∷ xs) ts = (x ≡ o) × AreClosed cs own xs ts
AreClosed (Carried ∷ cs) (o ∷ own) (x ∷ xs) ts = AreClosed cs own xs ts
AreClosed (Reduced op ∷ cs) (o ∷ own) (x ∷ xs) [] = ⊥
AreClosed (Reduced op ∷ cs) (o ∷ own) (x ∷ xs) (t ∷ ts) = (x ≡ with_operand op o t) × AreClosed cs own xs ts

closed_is : (cs : List Class) (own xs : List ℤ) (ts : List (Option ℤ)) → AreClosed cs own xs ts →
    xs ≡ closing cs own (carried_words cs xs) ts
closed_is [] [] [] ts h = refl
closed_is [] [] (x ∷ xs) ts h = absurd h
closed_is [] (o ∷ own) xs ts h = absurd h
closed_is (c ∷ cs) [] xs ts h = absurd h
closed_is (c ∷ cs) (o ∷ own) [] ts h = absurd h
closed_is (Constant ∷ cs) (o ∷ own) (x ∷ xs) ts h = ap (λ y. y ∷ xs) h.0 ∙ ap (λ l. o ∷ l) (closed_is cs own xs ts h.1)
closed_is (Carried ∷ cs) (o ∷ own) (x ∷ xs) ts h = ap (λ l. x ∷ l) (closed_is cs own xs ts h)
closed_is (Reduced op ∷ cs) (o ∷ own) (x ∷ xs) [] h = absurd h
closed_is (Reduced op ∷ cs) (o ∷ own) (x ∷ xs) (t ∷ ts) h =
    ap (λ y. y ∷ xs) h.0 ∙ ap (λ l. with_operand op o t ∷ l) (closed_is cs own xs ts h.1)

-- before the first step
closed_own : (f : ℕ → Env) (place : ℕ) (cs : List Class) (own : List ℤ) → length cs ≡ length own →
    AreClosed cs own own (combined_operands f [] place cs)
closed_own f place [] [] e = tt
closed_own f place [] (o ∷ own) e = absurd (omega arith)
closed_own f place (c ∷ cs) [] e = absurd (omega arith)
closed_own f place (Constant ∷ cs) (o ∷ own) e = (refl, closed_own f (place + 1) cs own (omega arith))
closed_own f place (Carried ∷ cs) (o ∷ own) e = closed_own f (place + 1) cs own (omega arith)
closed_own f place (Reduced op ∷ cs) (o ∷ own) e = (refl, closed_own f (place + 1) cs own (omega arith))

nothing_more : (op : Combine) (t : Option ℤ) → both_of op t None ≡ t
nothing_more op None = refl
nothing_more op (Some x) = refl

-- what a segment leaves in a reduced let: the neutral value where it has no operand for it
abbrev left_with : Combine → Option ℤ → ℤ
left_with op None = neutral op
left_with op (Some x) = x

module _ (op : Combine) (own before x : ℤ) where
  one_operand : (t o : Option ℤ) → before ≡ with_operand op own t →
      combined_of op before (neutral op) ≡ before → x ≡ left_with op o →
      combined_of op before x ≡ with_operand op own (both_of op t o)
  one_operand t None is stays leaves =
      ap (combined_of op before) leaves ∙ stays ∙ is ∙ ap (with_operand op own) (sym (nothing_more op t))
  one_operand None (Some y) is stays leaves = ap (λ b. combined_of op b x) is
      ∙ ap (combined_of op own) leaves
  one_operand (Some z) (Some y) is stays leaves =
      ap (λ b. combined_of op b x) is ∙ ap (combined_of op (combined_of op own z)) leaves ∙ combined_of-assoc op
      own z y

-- with the words of one segment more
closed_more :
    (came : ℕ → Option ℤ) (cs : List Class) (own before xs : List ℤ) (ts : List (Option ℤ)) (place : ℕ) →
    AreClosed cs own before ts × AreLeft cs own before × AreLeft cs own (combined_words cs before xs) →
    ((j : ℕ) (op : Combine) → slice_get cs j ≡ Some (Reduced op) → word_at xs j ≡ left_with op (came (place +
    j))) → AreClosed cs own (combined_words cs before xs) (merged cs ts (each_operand came place cs))
closed_more came [] [] [] [] ts place are leaves = tt
closed_more came [] [] [] (x ∷ xs) ts place are leaves = are.2
closed_more came [] [] (b ∷ before) xs ts place are leaves = absurd are.0
closed_more came [] (o ∷ own) before xs ts place are leaves = absurd are.0
closed_more came (c ∷ cs) [] before xs ts place are leaves = absurd are.0
closed_more came (c ∷ cs) (o ∷ own) [] xs ts place are leaves = absurd are.0
closed_more came (c ∷ cs) (o ∷ own) (b ∷ before) [] ts place are leaves = absurd are.2
closed_more came (Constant ∷ cs) (o ∷ own) (b ∷ before) (x ∷ xs) ts place are leaves = (
  are.2.0,
  closed_more came cs own before xs ts (place + 1) (are.0.1, are.1.1, are.2.1)
      (λ j op is. leaves (suc j) op is ∙ ap (λ k. left_with op (came k)) (omega arith)),
)
closed_more came (Carried ∷ cs) (o ∷ own) (b ∷ before) (x ∷ xs) ts place are leaves =
    closed_more came cs own before xs ts (place + 1) (are.0, are.1.1, are.2.1)
    (λ j op is. leaves (suc j) op is ∙ ap (λ k. left_with op (came k)) (omega arith))
closed_more came (Reduced op ∷ cs) (o ∷ own) (b ∷ before) (x ∷ xs) [] place are leaves = absurd are.0
closed_more came (Reduced op ∷ cs) (o ∷ own) (b ∷ before) (x ∷ xs) (t ∷ ts) place are leaves = (
  one_operand op o b x t (came place) are.0.0 are.1.0
      (leaves 0 op refl ∙ ap (λ k. left_with op (came k)) (omega arith)),
  closed_more came cs own before xs ts (place + 1) (are.0.1, are.1.1, are.2.1)
      (λ j other is. leaves (suc j) other is ∙ ap (λ k. left_with other (came k)) (omega arith)),
)

-- with no operand more
closed_still : (cs : List Class) (own xs : List ℤ) (ts : List (Option ℤ)) (came : ℕ → Option ℤ) (place : ℕ) →
    ((j : ℕ) → came j ≡ None) → AreClosed cs own xs ts → AreClosed cs own xs (merged cs ts (each_operand came place cs))
closed_still [] [] [] ts came place none h = tt
closed_still [] [] (x ∷ xs) ts came place none h = absurd h
closed_still [] (o ∷ own) xs ts came place none h = absurd h
closed_still (c ∷ cs) [] xs ts came place none h = absurd h
closed_still (c ∷ cs) (o ∷ own) [] ts came place none h = absurd h
closed_still (Constant ∷ cs) (o ∷ own) (x ∷ xs) ts came place none h =
    (h.0, closed_still cs own xs ts came (place + 1) none h.1)
closed_still (Carried ∷ cs) (o ∷ own) (x ∷ xs) ts came place none h = closed_still cs own xs ts came (place + 1) none h
closed_still (Reduced op ∷ cs) (o ∷ own) (x ∷ xs) [] came place none h = absurd h
closed_still (Reduced op ∷ cs) (o ∷ own) (x ∷ xs) (t ∷ ts) came place none h = (
  h.0 ∙ ap (with_operand op o) (sym (ap (both_of op t) (none place) ∙ nothing_more op t)),
  closed_still cs own xs ts came (place + 1) none h.1,
)

-- where nothing is marked there is no operand
pub unmarked_none : (env : Env) (place : ℕ) → env.touched ≡ 0 → operand_at place env ≡ None
unmarked_none env place unmarked =
    let none : bit_at 0 place ≡ 0 = omega arith in
    ap (λ m. operand (bit_at m place) (word_at env.locals.items place)) unmarked
    ∙ ap (λ b. operand b (word_at env.locals.items place)) none

left_by : (op : Combine) (mark : ℕ) (x : ℤ) → (mark ≡ 0 → x ≡ neutral op) → x ≡ left_with op (operand mark x)
left_by op zero x quiet = quiet refl
left_by op (suc n) x quiet = refl

module _ (s : Scene) (d : Dense) (env : Env) (p : Program) (h : IsSplit p d env) (unmarked : env.touched ≡ 0) where
  abbrev cs : List Class
  cs = let_classes 0 d.lets.items (body_marks d.body.items)

  abbrev own : List ℤ
  own = own_words d.lets.items env

  abbrev w : List Edge → Ran
  w a = whole s d env a

  as_many : length cs ≡ length own
  as_many = length-let_classes 0 d.lets.items (body_marks d.body.items) ∙ sym (length-own d.lets.items env)

  abbrev Closed : List Edge → List (Option ℤ) → Type 0
  Closed a ts = AreClosed cs own (w a).env.locals.items ts

  -- the operands of a run
  abbrev operands_in : Ran → List (Option ℤ)
  operands_in ran = each_operand (λ place. operand_at place ran.env) 0 cs

  after_part : (a : List Edge) (e : Edge) (es : List Edge) (ts : List (Option ℤ)) (received : Option (List ℤ)) →
      Closed a ts →
      SameOutcome (w (a ++ (e ∷ es))) (with_segment (loop_split d) (w a) (segment s d env received (e ∷ es))) →
      Closed (a ++ (e ∷ es)) (merged cs ts (operands_in (segment s d env received (e ∷ es))))
  after_part a e es ts received c same =
      let part : Ran = segment s d env received (e ∷ es) in
      subst (λ l. AreClosed cs own l (merged cs ts (operands_in part))) (sym same.locals)
      (closed_more (λ place. operand_at place part.env) cs own (w a).env.locals.items part.env.locals.items ts 0
      (c, left d env p h s a, subst (AreLeft cs own) same.locals (left d env p h s (a ++ (e ∷ es))))
      (λ j op is. left_by op (bit_at part.env.touched j) (word_at part.env.locals.items j)
      (λ clear. neutrals d env s received (e ∷ es) j op is clear)
      ∙ (let here : j ≡ 0 + j = omega arith in ap (λ k. left_with op (operand_at k part.env)) here)))

  still : (a : List Edge) (ts : List (Option ℤ)) → Closed a ts →
      Closed a (merged cs ts (each_operand (λ place. operand_at place env) 0 cs))
  still a ts c = closed_still cs own (w a).env.locals.items ts (λ place. operand_at place env) 0
      (λ place. unmarked_none env place unmarked) c

  later : (x : Edge) (xs : List Edge) (e : Edge) (es : List Edge) (ts : List (Option ℤ)) (flow : Flow) →
      (w (x ∷ xs)).flow ≡ flow → Closed (x ∷ xs) ts →
      Closed ((x ∷ xs) ++ (e ∷ es)) (merged cs ts (operands_in (step_ran s d env (e ∷ es) (state_of s d env (x ∷ xs)))))
  later x xs e es ts Going going c =
      let a : List Edge = x ∷ xs in
      let words : List ℤ = given (loop_split d) (w a).env in
      let is : state_of s d env a ≡ Running words = ap (λ f. state_with f words) going in
      subst (λ st. Closed (a ++ (e ∷ es)) (merged cs ts (operands_in (step_ran s d env (e ∷ es) st)))) (sym is)
      (after_part a e es ts (Some words) c (goes_on d env p h s a (e ∷ es) going))
  later x xs e es ts Broke broke c =
      let a : List Edge = x ∷ xs in
      let words : List ℤ = given (loop_split d) (w a).env in
      let is : state_of s d env a ≡ Broken words = ap (λ f. state_with f words) broke in
      subst (λ st. Closed (a ++ (e ∷ es)) (merged cs ts (operands_in (step_ran s d env (e ∷ es) st)))) (sym is)
      (subst (λ r. AreClosed cs own r.env.locals.items
      (merged cs ts (each_operand (λ place. operand_at place env) 0 cs))) (sym (ends d env s a (e ∷ es) broke))
      (still a ts c))

  closes : (a b : List Edge) (ts : List (Option ℤ)) → Closed a ts →
      Closed (a ++ b) (merged cs ts (operands_in (step_ran s d env b (state_of s d env a))))
  closes a [] ts c =
      subst (λ l. Closed l (merged cs ts (each_operand (λ place. operand_at place env) 0 cs)))
      (sym (append-nil a)) (still a ts c)
  closes [] (e ∷ es) ts c = after_part [] e es ts None c (first_part s d env p h e es)
  closes (x ∷ xs) (e ∷ es) ts c = later x xs e es ts (w (x ∷ xs)).flow refl c

  closed_by : (bounds : List ℕ) (m c count : ℕ) (members : List Edge) →
      Closed (members_by_steps bounds m c 0 count members) (operands_by_steps s d env bounds m c members count)
  closed_by bounds m c zero members =
      closed_own (λ step. (machine_ran s d env bounds m c members step).env) 0 cs own as_many
  closed_by bounds m c (suc count) members =
      let left_by_step : ℕ → Env = λ step. (machine_ran s d env bounds m c members step).env in
      let before : List Edge = members_by_steps bounds m c 0 count members in
      let more : List Edge = members_with bounds (order_of c count m) members in
      let ts : List (Option ℤ) = operands_by_steps s d env bounds m c members count in
      subst (λ l. Closed l (operands_by_steps s d env bounds m c members (suc count)))
      (sym (steps_more bounds m c count members))
      (subst (Closed (before ++ more))
      (sym (ap (λ steps. combined_operands left_by_step steps 0 cs) (range_more count)
      ∙ operands_more left_by_step (range_with_len 0 count) count 0 cs))
      (closes before more ts (closed_by bounds m c count members)))

  pub lets_by_machines : (bounds : List ℕ) (m c count : ℕ) (members : List Edge) →
      let looped : Ran = w (members_by_steps bounds m c 0 count members) in
      looped.env.locals.items ≡
      closing cs own (given (loop_split d) looped.env) (operands_by_steps s d env bounds m c members count)
  lets_by_machines bounds m c count members =
      closed_is cs own (w (members_by_steps bounds m c 0 count members)).env.locals.items
      (operands_by_steps s d env bounds m c members count) (closed_by bounds m c count members)
