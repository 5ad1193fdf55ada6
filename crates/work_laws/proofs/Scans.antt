-- A scan at a vertex leaves a state of its form, sends words, and reads no more than the members.
use Rattle.std.proofs.Common.{◌≡◌, ◌<◌, ◌≤◌, ◌^◌, ℕ, zero, suc, ℤ, pos, Bool, true, false, ◌||◌, not, List, [], ◌∷◌, length, replicate, All, refl, sym, ap, subst, ◌∙◌, Option, None, Some, option_map, FitsSigned, w64, arith}
use Rattle.std.specs.Prelude.{if◌then◌else◌, slice_index_or}
use Rattle.std.specs.Int.{bit_at}
use Rattle.std.specs.List.{AllByRecursion}
use Rattle.std.proofs.lemmas.Option.{same_Some}
use Rattle.std.proofs.lemmas.List.{length-map, length-replicate}
use Rattle.std.proofs.lemmas.List.Elements.{All-nil}
use Rattle.vert_base.specs.declared.graph.Edge.{Edge}
use Rattle.vert_base.specs.declared.value.ValueType.{ValueType}
use Rattle.vert_base.specs.declared.value.ValueType.TheVariants as kind
use Rattle.vert_tree.specs.declared.program.Dense.{Dense}
use Rattle.vert_tree.specs.declared.program.Program.{Program}
use Rattle.vert_tree.specs.Kinds.{Kinds, field_kinds, kinds_of}
use Rattle.carry_analysis.specs.declared.classes.Class.{Class}
use Rattle.carry_analysis.specs.declared.classes.Class.TheVariants.{Constant, Reduced, Carried}
use Rattle.carry_analysis.specs.Classes.{body_marks, carried_in, is_carried, let_classes}
use Rattle.slot_merge.specs.Combine.{slot_values}
use Rattle.slot_merge.proofs.SlotLaws.{length-slot_values}
use Rattle.vert_eval.specs.declared.environment.Env.{Env}
use Rattle.vert_eval.specs.declared.environment.Flow.{Flow}
use Rattle.vert_eval.specs.declared.environment.Flow.TheVariants.{Going, Broke}
use Rattle.vert_eval.specs.Rounds.{slot_ops}
use Rattle.vert_eval.specs.Runs.{Ran}
use Rattle.vert_eval.specs.Values.{value_of, word_at}
use Rattle.vert_eval.specs.Words.{is_set}
use Rattle.dep_layout.specs.declared.state.Mark.{Mark}
use Rattle.dep_layout.specs.declared.state.Mark.TheVariants.{Fresh, Running, Broken}
use Rattle.dep_layout.specs.Spelling.{State as LoopState, are_typed}
use Rattle.instrument.specs.declared.split.Split.{Split}
use Rattle.instrument.specs.declared.split.SplitLoop.{SplitLoop}
use Rattle.instrument.specs.Loops.{loop_split, places_where}
use Rattle.instrument.specs.Segments.{begun, carried_words, only_lets, own_words, with_neutral, with_received, with_words}
use Rattle.instrument.proofs.SplitLaws.{length-own}
use Rattle.instrument.proofs.TypedLaws.{length-let_classes}
use Rattle.instrument.proofs.WordLaws.{length-carried_words}
use Rattle.body_shape.specs.Shapes.{bool_bits}
use Rattle.body_shape.specs.Update.{Sent}
use Rattle.word_kinds.specs.Fits.{AreWords, HasKinds, IsEdge, IsFitting}
use Rattle.value_laws.proofs.Rounds.{DenseParts, lets_keep, no_words, with_locals}
use Rattle.value_laws.proofs.Rows.{SlotsFit, no_values_fit, slot_values_fit}
use Rattle.value_laws.proofs.Words.{zero_word}
use Rattle.symple_face.specs.CoreScan.{Scanned, fresh, is_broken, mark_after, passed, scanned, scanned_by, segment_seen, told_words, words_by}
use Rattle.symple_face.specs.CoreSight.{none, program_of}
use Rattle.symple_face.specs.CoreTakes.{slot_count, unsent}
use Rattle.symple_face.specs.Plans.{loop_carry}
use Rattle.symple_face.specs.Ring.{operand, operand_at, operands}
use Rattle.symple_face.specs.Shapes.{reduced_in, types_at, types_of, words_in}
use Rattle.symple_face.specs.Sight.{Sight, seen_env}
use Rattle.work_laws.specs.Sound.{IsLoopState, IsStateIn}
use Rattle.work_laws.proofs.Reduced.{AreInts, reduced_are_ints}
use Rattle.work_laws.proofs.Sights.{Looped, SightFits, dense_of, fits_at, loop_looped, seen_has}
use Rattle.work_laws.proofs.Words.{MayFit, begun_length, carried_are, carried_kinds, carried_types, neutral_are, received_are, typed_words, words_alone, words_fit}
use Rattle.state_laws.proofs.Carries.{carry_count}

-- ---- the classes of a block's lets
abbrev pub block_classes : Dense → List Class
block_classes d = let_classes 0 d.lets.items (body_marks d.body.items)

pub class_each : (d : Dense) → length (block_classes d) ≡ length (kinds_of d.lets.items)
class_each d = length-let_classes 0 d.lets.items (body_marks d.body.items) ∙ sym (length-map d.lets.items (λ x. x.kind))

carried_count : (cs : List Class) (kinds : List ValueType) → length cs ≡ length kinds →
    length (carried_kinds cs kinds) ≡ carried_in cs
carried_count [] kinds n = refl
carried_count (c ∷ cs) [] n = absurd (omega (arith, n))
carried_count (Constant ∷ cs) (k ∷ ks) n = carried_count cs ks (omega (arith, n))
carried_count (Reduced op ∷ cs) (k ∷ ks) n = carried_count cs ks (omega (arith, n))
carried_count (Carried ∷ cs) (k ∷ ks) n = ap suc (carried_count cs ks (omega (arith, n)))

-- the types of its carried lets
abbrev pub carried_of : Dense → List ValueType
carried_of d = carried_kinds (block_classes d) (kinds_of d.lets.items)

carried_width : (d : Dense) → words_in (loop_split d).carry ≡ length (carried_of d)
carried_width d = carry_count (loop_split d).classes.breaks (block_classes d) ∙
    sym (carried_count (block_classes d) (kinds_of d.lets.items) (class_each d))

carried_bits : (d : Dense) → types_at (types_of d.lets.items) (places_where is_carried 0 (block_classes d)) ≡
    carried_of d
carried_bits d =
    carried_types (kinds_of d.lets.items) (kinds_of d.lets.items) 0 (block_classes d) (class_each d)
    (λ j. ap (λ m. slice_index_or (kinds_of d.lets.items) m kind.Int) (omega arith))

-- ---- loop states
pub state_from : (d : Dense) (mark : Mark) (words : List ℤ) → AreWords (carried_of d) words →
    length words ≡ length (carried_of d) →
    (mark ≡ Fresh → words ≡ replicate (words_in (loop_split d).carry) (pos 0)) →
    IsStateIn (Some d) (Some (loop_split d)) (record { mark = mark; words = words })
state_from d mark words are n still = record {
  count = n ∙ sym (carried_width d);
  fits = words_fit (carried_of d) words n are;
  typed = ap (λ ts. are_typed (bool_bits ts) words) (carried_bits d) ∙ typed_words (carried_of d) words are n;
  still = still;
}

pub state_words : (d : Dense) (st : LoopState) → IsStateIn (Some d) (Some (loop_split d)) st →
    AreWords (carried_of d) st.words
state_words d st is =
    words_alone (carried_of d) st.words (is.count ∙ carried_width d) is.fits
    (ap (λ ts. are_typed (bool_bits ts) st.words) (sym (carried_bits d)) ∙ is.typed)

pub split_dense : (split : Split) (d : Dense) → (program_of split).dense ≡ Some d → split.dense ≡ Some (loop_split d)
split_dense split d e = split.split ∙ ap (option_map loop_split) e

pub loop_state : (split : Split) (d : Dense) (st : LoopState) → (program_of split).dense ≡ Some d →
    IsStateIn (Some d) (Some (loop_split d)) st → IsLoopState split st
loop_state split d st e is =
    subst (λ q. IsStateIn (program_of split).dense q st) (sym (split_dense split d e))
    (subst (λ o. IsStateIn o (Some (loop_split d)) st) (sym e) is)

pub state_of_loop : (split : Split) (d : Dense) (st : LoopState) → (program_of split).dense ≡ Some d →
    IsLoopState split st →
    IsStateIn (Some d) (Some (loop_split d)) st
state_of_loop split d st e is =
    subst (λ o. IsStateIn o (Some (loop_split d)) st) e
    (subst (λ q. IsStateIn (program_of split).dense q st) (split_dense split d e) is)

zeros_are : (kinds : List ValueType) → AreWords kinds (replicate (length kinds) (pos 0))
zeros_are [] i t e = cc
zeros_are (k ∷ ks) zero t e = zero_word t
zeros_are (k ∷ ks) (suc i) t e = zeros_are ks i t e

abbrev fresh_in : Option SplitLoop → LoopState
fresh_in q = record { mark = Fresh; words = replicate (words_in (loop_carry q)) (pos 0) }

fresh_by : (o : Option Dense) → IsStateIn o (option_map loop_split o) (fresh_in (option_map loop_split o))
fresh_by None = record { count = refl; fits = tt; typed = refl; still = λ e. refl }
fresh_by (Some d) =
    let width = words_in (loop_split d).carry in
    state_from d Fresh (replicate width (pos 0))
    (subst (λ n. AreWords (carried_of d) (replicate n (pos 0))) (sym (carried_width d)) (zeros_are (carried_of d)))
    (length-replicate width (pos 0) ∙ carried_width d) (λ e. refl)

-- that of a loop which isn't started
pub fresh_fits : (split : Split) → IsLoopState split (fresh split)
fresh_fits split =
    subst (λ q. IsStateIn (program_of split).dense q (fresh_in q)) (sym split.split) (fresh_by (program_of split).dense)

-- ---- what is sent
pub record SentFits (split : Split) (sent : Sent) : Type 0 where
  pub value_count : length sent.values ≡ slot_count split
  pub values : AllByRecursion MayFit sent.values
  pub operand_count : length sent.operands ≡ length (reduced_in split.dense)
  pub operands : AllByRecursion MayFit sent.operands

none_fit : (n : ℕ) → AllByRecursion MayFit (replicate n None)
none_fit zero = tt
none_fit (suc n) = (λ z e. cc, none_fit n)

pub unsent_fits : (split : Split) → SentFits split (unsent split)
unsent_fits split = record {
  value_count = length-replicate (slot_count split) None;
  values = none_fit (slot_count split);
  operand_count = length-replicate (length (reduced_in split.dense)) None;
  operands = none_fit (length (reduced_in split.dense));
}

pub may_all_fit : (slots : List (Option ℤ)) → SlotsFit slots → AllByRecursion MayFit slots
may_all_fit [] h = tt
may_all_fit (x ∷ xs) h = (λ z e. h zero z (ap Some e), may_all_fit xs (λ i. h (suc i)))

pub slots_all_fit : (slots : List (Option ℤ)) → AllByRecursion MayFit slots → SlotsFit slots
slots_all_fit [] h i z e = cc
slots_all_fit (x ∷ xs) h zero z e = h.0 z (same_Some x (Some z) e)
slots_all_fit (x ∷ xs) h (suc i) z e = slots_all_fit xs h.1 i z e

operand_fits : (n : ℕ) (x : ℤ) → FitsSigned w64 x → MayFit (operand n x)
operand_fits zero x f z e = cc
operand_fits (suc n) x f z e = subst (FitsSigned w64) (same_Some x z e) f

operands_fit : (places : List ℕ) (env : Env) → ((i : ℕ) → FitsSigned w64 (word_at env.locals.items i)) →
    AllByRecursion MayFit (operands places env)
operands_fit [] env f = tt
operands_fit (i ∷ is) env f = (
  operand_fits (bit_at env.touched i) (word_at env.locals.items i) (f i),
  operands_fit is
      env f,
)

-- ---- a scan
pub record ScanFits (split : Split) (most : ℕ) (s : Scanned) : Type 0 where
  pub state : IsLoopState split s.state
  pub sent : SentFits split s.sent
  pub few : length s.reads ≤ most

pub passed_fits : (split : Split) (most : ℕ) (st : LoopState) → IsLoopState split st →
    ScanFits split most (passed split st)
passed_fits split most st is = record { state = is; sent = unsent_fits split; few = omega arith }

untouched : (k : Kinds) (env : Env) → HasKinds k env → HasKinds k (record env { touched = 0 })
untouched k env has = record {
  fields = has.fields;
  other_fields = has.other_fields;
  locals = has.locals;
  sends = has.sends;
  slots = has.slots;
  totals = has.totals;
  id = has.id;
  n = has.n;
  round = has.round;
  indeg = has.indeg;
  outdeg = has.outdeg;
  other_id = has.other_id;
  other_indeg = has.other_indeg;
  other_outdeg = has.other_outdeg;
  weight = has.weight;
}

abbrev pub inner_kinds : Program → Dense → Kinds
inner_kinds p d = record (field_kinds p) { locals = kinds_of d.lets.items }

not_fresh : (flow : Flow) → mark_after flow ≡ Fresh → ⊥
not_fresh Going e = cc
not_fresh Broke e = cc

carried_length : (cs : List Class) (kinds : List ValueType) (words : List ℤ) → length words ≡ length cs →
    length cs ≡ length kinds →
    length (carried_words cs words) ≡ length (carried_kinds cs kinds)
carried_length cs kinds words n m = length-carried_words cs words n ∙ sym (carried_count cs kinds m)

module _ (split : Split) (d : Dense) (is : (program_of split).dense ≡ Some d) (fit : IsFitting (program_of split)) where
  abbrev inner : Kinds
  inner = inner_kinds (program_of split) d

  block : DenseParts (field_kinds (program_of split)) d
  block = dense_of (program_of split) d fit is

  pub ints : AreInts (block_classes d) (kinds_of d.lets.items)
  ints = reduced_are_ints (inner_kinds (program_of split) d) d.lets.items d.body.items block.body.0

  -- the lets have words of their types
  pub lets_have : (env : Env) → HasKinds (field_kinds (program_of split)) env →
      HasKinds (inner_kinds (program_of split) d) (only_lets d.lets.items env)
  lets_have env has =
      (lets_keep (field_kinds (program_of split)) d.lets.items (record env { locals = record { items = [] } }) refl
      block.lets.0 block.lets.1
      (with_locals (field_kinds (program_of split)) [] [] env (no_words []) has) (All-nil (FitsSigned w64))).has

  told_are : (mark : Mark) (words : List ℤ) (own : List ℤ) → AreWords (carried_of d) words →
      AreWords (kinds_of d.lets.items) own →
      AreWords (kinds_of d.lets.items) (with_received (block_classes d) (words_by mark words) own)
  told_are Fresh words own are mine = mine
  told_are Running words own are mine = received_are (block_classes d) (kinds_of d.lets.items) words own mine are
  told_are Broken words own are mine = received_are (block_classes d) (kinds_of d.lets.items) words own mine are

  begun_has : (st : LoopState) (env : Env) → IsLoopState split st → HasKinds (field_kinds (program_of split)) env →
      HasKinds (inner_kinds (program_of split) d) (begun (loop_split d) d.lets.items (told_words st) env)
  begun_has st env state has =
      let first : Env = only_lets d.lets.items env in
      let own : List ℤ = own_words d.lets.items env in
      let mine = lets_have env has in
      let all : List ℤ = with_neutral (block_classes d) (with_received (block_classes d) (told_words st) own) in
      let are : AreWords (kinds_of d.lets.items) all =
      neutral_are (block_classes d) (kinds_of d.lets.items) (with_received (block_classes d) (told_words st) own) ints
      (told_are st.mark st.words own (state_words d st (state_of_loop split d st is state)) mine.locals) in
      untouched (inner_kinds (program_of split) d) (with_words all first)
      (with_locals (inner_kinds (program_of split) d) (kinds_of d.lets.items) all first are mine)

  begun_count : (st : LoopState) (env : Env) →
      length (begun (loop_split d) d.lets.items (told_words st) env).locals.items ≡ length (block_classes d)
  begun_count st env =
      begun_length (block_classes d) (told_words st) (own_words d.lets.items env)
      ∙ length-own d.lets.items env ∙ sym (length-let_classes 0 d.lets.items (body_marks d.body.items))

  ran_fits : (members : List Edge) (ran : Ran) → Looped (inner_kinds (program_of split) d) (length (block_classes d))
      (length members) ran →
      ScanFits split (length members) (scanned_by split d ran)
  ran_fits members ran looped =
      let cs : List Class = block_classes d in
      let kinds : List ValueType = kinds_of d.lets.items in
      let words : List ℤ = carried_words cs ran.env.locals.items in
      let locals : AreWords kinds ran.env.locals.items = looped.kinds.env.locals in
      let n : length ran.env.locals.items ≡ length kinds = looped.count ∙ class_each d in
      let state : IsStateIn (Some d) (Some (loop_split d)) (record { mark = mark_after ran.flow; words = words }) =
      state_from d (mark_after ran.flow) words (carried_are cs kinds ran.env.locals.items locals)
      (carried_length cs kinds ran.env.locals.items looped.count (class_each d)) (λ e. absurd (not_fresh ran.flow e)) in
      record {
        state = loop_state split d (record { mark = mark_after ran.flow; words = words }) is state;
        sent = record {
          value_count = length-slot_values 0 (slot_ops (program_of split)) ran.emitted ∙ length-map
              (program_of split).slots.items (λ s. s.op);
          values = may_all_fit (slot_values 0 (slot_ops (program_of split)) ran.emitted)
              (slot_values_fit 0 (slot_ops (program_of split)) ran.emitted looped.kinds.emitted);
          operand_count = length-map (loop_split d).reduced.items (λ i. operand_at i ran.env)
              ∙ ap (λ q. length (reduced_in q)) (sym (split_dense split d is));
          operands = operands_fit (loop_split d).reduced.items ran.env (fits_at kinds ran.env.locals.items n locals);
        };
        few = looped.few;
      }

  segment_fits : (g : Sight) (members : List Edge) (st : LoopState) (env : Env) →
      SightFits (field_kinds (program_of split)).fields g →
      All IsEdge members → IsLoopState split st → HasKinds (field_kinds (program_of split)) env →
      ScanFits split (length members) (scanned_by split d (segment_seen d g members st env))
  segment_fits g members st env sees edges state has =
      let begins : Env = begun (loop_split d) d.lets.items (told_words st) env in
      let looped = loop_looped (inner_kinds (program_of split) d) g d.body.items sees block.body.0 block.body.1 members
      edges begins
      (begun_has st env state has) in
      ran_fits members (segment_seen d g members st env)
      (record { kinds = looped.kinds; count = looped.count ∙ begun_count st env; few = looped.few })

  either_fits : (most : ℕ) (b : Bool) (x y : Scanned) → ScanFits split most x → ScanFits split most y →
      ScanFits split most (if b then x else y)
  either_fits most true x y p q = p
  either_fits most false x y p q = q

  module _ (g : Sight) (key : ℕ) where
    pub scanned_fits : (members : List Edge) (v : ℕ) (st : LoopState) →
        SightFits (field_kinds (program_of split)).fields g → v < 2 ^ 32 → All IsEdge members →
        IsLoopState split st → ScanFits split (length members) (scanned split d g key members v st)
    scanned_fits [] v st sees small edges state = passed_fits split 0 st state
    scanned_fits (e ∷ es) v st sees small edges state =
        let env : Env = seen_env g v key (none split) in
        let has = seen_has (field_kinds (program_of split)) g v key (none split) sees small
        (no_values_fit (slot_ops (program_of split))) in
        either_fits (length (e ∷ es)) (is_broken st.mark || not (is_set (value_of d.when_test env))) (passed split st)
        (scanned_by split d (segment_seen d g (e ∷ es) st env)) (passed_fits split (length (e ∷ es)) st state)
        (segment_fits g (e ∷ es) st env sees edges state has)
