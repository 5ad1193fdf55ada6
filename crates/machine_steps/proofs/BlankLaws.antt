-- What stands before a round, put together.
use Rattle.std.proofs.Common.{◌≡◌, ◌≤◌, ◌<◌, ◌+◌, ◌++◌, ℕ, zero, suc, Bool, true, false, List, [], ◌∷◌, get_or, length, map, replicate, take, refl, sym, ap, subst, ◌∙◌, Option, Some, None, append_assoc, arith, length-append}
use Rattle.std.specs.Prelude.{◌||◌, if◌then◌else◌, nat_lt, option_map}
use Rattle.std.specs.List.{range_with_len}
use Rattle.std.proofs.lemmas.List.{take_more}
use Rattle.std.proofs.lemmas.List.Sums.{count_by-le-length, length-filter}
use Rattle.graph_table.proofs.FilterLaws.{map-append}
use Rattle.std.proofs.Math.ListN.{length-map}
use Rattle.carry_analysis.specs.declared.classes.Class.{Class}
use Rattle.carry_analysis.specs.declared.classes.Class.TheVariants.{Constant, Reduced, Carried}
use Rattle.carry_analysis.specs.Classes.{body_marks, carried_in, carry_in, has_break, is_carried, let_classes}
use Rattle.slot_merge.specs.declared.partial.Partial.{Partial}
use Rattle.slot_merge.specs.Partials.{empty_partial}
use Rattle.vert_base.specs.declared.value.Combine.{Combine}
use Rattle.vert_tree.specs.declared.program.Dense.{Dense}
use Rattle.vert_tree.proofs.TypedLaws.{few_lets}
use Rattle.vert_eval.specs.Rounds.{slot_ops}
use Rattle.instrument.specs.declared.split.Split.{Split}
use Rattle.instrument.specs.declared.split.SplitLoop.{SplitLoop}
use Rattle.instrument.specs.Loops.{is_reduced, loop_split, places_where}
use Rattle.instrument.proofs.TypedLaws.{length-let_classes}
use Rattle.symple_face.specs.CoreSight.{program_of}
use Rattle.symple_face.specs.CoreTakes.{classes_of, empty_partials, reduced_ops, slot_count}
use Rattle.symple_face.specs.Plans.{loop_carry}
use Rattle.symple_face.specs.Shapes.{reduced_in, words_in}
use Rattle.state_laws.proofs.Carries.{few_carry}

-- the same element for each of so many numbers
pub same_for_each : {X : Type 0} (x : X) (a n : ℕ) → map (λ v. x) (range_with_len a n) ≡ replicate n x
same_for_each x a zero = refl
same_for_each x a (suc n) = ap (λ xs. x ∷ xs) (same_for_each x (a + 1) n)

-- ---- reduced lets
reduced_append : (cs ds : List Class) → reduced_ops (cs ++ ds) ≡ reduced_ops cs ++ reduced_ops ds
reduced_append [] ds = refl
reduced_append (Constant ∷ cs) ds = reduced_append cs ds
reduced_append (Carried ∷ cs) ds = reduced_append cs ds
reduced_append (Reduced op ∷ cs) ds = ap (λ ops. op ∷ ops) (reduced_append cs ds)

-- the partial of one let more
module _ (classes : List Class) (i : ℕ) (c d : Class) (before now new : List Partial) where
  pub reduced_more : i < length classes → c ≡ get_or classes i d →
      now ≡ before ++ map empty_partial (reduced_ops (take i classes)) →
      new ≡ now ++ map empty_partial (reduced_ops (c ∷ [])) →
      new ≡ before ++ map empty_partial (reduced_ops (take (i + 1) classes))
  reduced_more lt here so_far is =
      let front : List Class = take i classes in
      is ∙ ap (λ ps. ps ++ map empty_partial (reduced_ops (c ∷ []))) so_far
      ∙ append_assoc before (map empty_partial (reduced_ops front)) (map empty_partial (reduced_ops (c ∷ [])))
      ∙ ap (λ ps. before ++ ps)
      (sym (map-append empty_partial (reduced_ops front) (reduced_ops (c ∷ [])))
      ∙ ap (map empty_partial) (sym (reduced_append front (c ∷ [])))
      ∙ ap (λ x. map empty_partial (reduced_ops (front ++ x ∷ []))) here
      ∙ ap (λ cs. map empty_partial (reduced_ops cs)) (sym (take_more classes i d lt)))

reduced_count : (i : ℕ) (cs : List Class) → length (reduced_ops cs) ≡ length (places_where is_reduced i cs)
reduced_count i [] = refl
reduced_count i (Constant ∷ cs) = reduced_count (i + 1) cs
reduced_count i (Carried ∷ cs) = reduced_count (i + 1) cs
reduced_count i (Reduced op ∷ cs) = ap suc (reduced_count (i + 1) cs)

-- ---- a split
module _ (split : Split) where
  by_block : (P : Option SplitLoop → Type 0) → P None →
      ((d : Dense) → (program_of split).dense ≡ Some d → P (Some (loop_split d))) → P split.dense
  by_block P none some = subst P (sym split.split) (at (program_of split).dense refl)
    where
      at : (o : Option Dense) → (program_of split).dense ≡ o → P (option_map loop_split o)
      at None is = none
      at (Some d) is = some d is

  few_classes : (d : Dense) → (program_of split).dense ≡ Some d →
      length (loop_split d).classes.locals.items ≤ 8
  few_classes d is =
      let count = length-let_classes 0 d.lets.items (body_marks d.body.items) in
      let few = few_lets (program_of split) split.program.typed d is in
      omega (arith, count, few)

  -- how many words its loop hands on
  pub few_words : words_in (loop_carry split.dense) ≤ 8
  few_words = by_block (λ o. words_in (loop_carry o) ≤ 8) (omega arith) some
    where
      some : (d : Dense) → (program_of split).dense ≡ Some d → words_in (loop_split d).carry ≤ 8
      some d is =
          few_carry (has_break (body_marks d.body.items)) (let_classes 0 d.lets.items (body_marks d.body.items)) 8
          (few_classes d is)

  -- how many partials a vertex has
  pub count_empty : length (empty_partials split) ≡ slot_count split + length (reduced_in split.dense)
  count_empty =
      let ops : List Combine = slot_ops (program_of split) ++ reduced_ops (classes_of split.dense) in
      let all = length-map ops empty_partial in
      let parts = length-append (slot_ops (program_of split)) (reduced_ops (classes_of split.dense)) in
      let slots = length-map (program_of split).slots.items (λ s. s.op) in
      let lets = by_block (λ o. length (reduced_ops (classes_of o)) ≡ length (reduced_in o)) refl
      (λ d is. reduced_count 0 (loop_split d).classes.locals.items) in
      omega (arith, all, parts, slots, lets)
