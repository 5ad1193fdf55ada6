-- The close of a round leaves rows of words.
use Rattle.std.proofs.Common.{◌≡◌, ◌<◌, ◌-◌, ◌^◌, ℕ, ℤ, Bool, true, false, List, [], ◌∷◌, length, take, drop, All, refl, ap, ◌∙◌, Option, None, Some, arith}
use Rattle.std.specs.Prelude.{if◌then◌else◌, unwrap_or}
use Rattle.std.specs.List.{AllByRecursion}
use Rattle.std.proofs.lemmas.List.Elements.{All-drop, All-head, All-tail, All-take}
use Rattle.vert_base.specs.declared.value.ValueType.{ValueType}
use Rattle.vert_tree.specs.declared.program.Dense.{Dense}
use Rattle.vert_tree.specs.Kinds.{Kinds, field_kinds, kinds_of}
use Rattle.slot_merge.specs.declared.partial.Partial.{Partial}
use Rattle.slot_merge.specs.Partials.{with_emissions}
use Rattle.dep_layout.specs.declared.state.Mark.{Mark}
use Rattle.dep_layout.specs.declared.state.Mark.TheVariants.{Fresh, Running, Broken}
use Rattle.dep_layout.specs.Spelling.{State as LoopState}
use Rattle.vert_eval.specs.declared.environment.Env.{Env}
use Rattle.vert_eval.specs.Rounds.{slot_ops}
use Rattle.vert_eval.specs.Runs.{run}
use Rattle.vert_eval.specs.Values.{value_of}
use Rattle.vert_eval.specs.Words.{is_set}
use Rattle.vert_eval.proofs.FrameLaws.{run_keeps as run_frame}
use Rattle.instrument.specs.declared.split.Split.{Split}
use Rattle.instrument.specs.Segments.{own_words}
use Rattle.word_kinds.specs.Fits.{AreWords, HasKinds, IsFitting, IsRow}
use Rattle.value_laws.proofs.Rounds.{no_words, parts, row_count, with_locals}
use Rattle.value_laws.proofs.Rows.{no_values_fit}
use Rattle.value_laws.proofs.Runs.{run_keeps}
use Rattle.symple_face.specs.CoreClose.{close_go, closed_partials, closed_row, closed_rows, closing_words, tail_at, tail_env, values_of, with_tail}
use Rattle.symple_face.specs.CoreDense.{ring_at}
use Rattle.symple_face.specs.CoreScan.{fresh, told_words, words_by}
use Rattle.symple_face.specs.CoreSight.{none, own_sight, own_start, own_vertices, program_of, targets}
use Rattle.symple_face.specs.CoreTakes.{empty_partials, own_partials, slot_count}
use Rattle.symple_face.specs.Lawful.{CanRun}
use Rattle.symple_face.specs.Sight.{Sight, seen_env}
use Rattle.symple_face.specs.State.{State, p_of}
use Rattle.work_laws.specs.Sound.{ArePartials, HasWord, HoldsFit, IsLoopState, OfOwn}
use Rattle.work_laws.proofs.Partials.{IsAmong, emissions_more, empty_are, made_own, own_at}
use Rattle.work_laws.proofs.Scans.{carried_of, block_classes, fresh_fits, inner_kinds, ints, lets_have, slots_all_fit, state_of_loop, state_words}
use Rattle.work_laws.proofs.Sees.{among_lies, own_partials_are, own_sees, own_small, targets_small, within_map}
use Rattle.work_laws.proofs.Sights.{SightFits, dense_of, seen_has}
use Rattle.work_laws.proofs.Words.{MayFit, closing_are}

pub values_fit : (ps : List Partial) → All HasWord ps → AllByRecursion MayFit (values_of ps)
values_fit [] has = tt
values_fit (q ∷ ps) has = (All-head HasWord q ps has, values_fit ps (All-tail HasWord q ps has))

module _ (split : Split) (d : Dense) (is : (program_of split).dense ≡ Some d) (fit : IsFitting (program_of split)) where
  handed : (mark : Mark) (words : List ℤ) → AreWords (carried_of d) words →
      AreWords (carried_of d) (unwrap_or (words_by mark words) [])
  handed Fresh words are = no_words (carried_of d)
  handed Running words are = are
  handed Broken words are = are

  tail_has : (env : Env) (ps : List Partial) (st : LoopState) → ArePartials split ps → IsLoopState split st →
      HasKinds (field_kinds (program_of split)) env →
      HasKinds (inner_kinds (program_of split) d) (tail_env split d env ps st)
  tail_has env ps st are state has =
      let kinds : List ValueType = kinds_of d.lets.items in
      let own : List ℤ = own_words d.lets.items env in
      let lets : List Partial = drop (slot_count split) ps in
      with_locals (field_kinds (program_of split)) kinds (closing_words (block_classes d) own st lets) env
      (closing_are (block_classes d) kinds own (unwrap_or (told_words st) []) (values_of lets)
      (ints split d is fit, (lets_have split d is fit env has).locals)
      (handed st.mark st.words (state_words d st (state_of_loop split d st is state)))
      (values_fit lets (All-drop HasWord (slot_count split) ps are.words)))
      has

  module _ (g : Sight) (key : ℕ) (ps : List Partial) (st : LoopState) (v : ℕ) where
    pub tail_are : SightFits (field_kinds (program_of split)).fields g → v < 2 ^ 32 → ArePartials split ps →
        IsLoopState split st → ArePartials split (tail_at split d g key ps st v)
    tail_are sees small are state = by (is_set (value_of d.when_test (seen_env g v key (none split))))
      where
        by : (b : Bool) →
            ArePartials split
            (if b then with_emissions key ps (run d.tail.items
            (tail_env split d (seen_env g v key (none split)) ps st)).emitted else ps)
        by true =
            let env : Env = seen_env g v key (none split) in
            let has = seen_has (field_kinds (program_of split)) g v key (none split) sees small
            (no_values_fit (slot_ops (program_of split))) in
            let block = dense_of (program_of split) d fit is in
            emissions_more split key ps (run d.tail.items (tail_env split d env ps st)).emitted
            (run_keeps (inner_kinds (program_of split) d) d.tail.items block.tail.0 block.tail.1
            (tail_env split d env ps st)
            (tail_has env ps st are state has)).emitted are
        by false = are

module _ (s : State) (can : CanRun s.part s.split) (fits : HoldsFit s.part s.split s) where
  abbrev IsOwn : ℕ → Type 0
  IsOwn v = IsAmong (own_start s) (length (own_vertices s)) v

  own_id : (v : ℕ) → IsAmong (own_start s) (length (own_vertices s)) v → v < 2 ^ 32
  own_id v among = own_small s.part s.split can v (among_lies s.part v among)

  tails_are : (r v : ℕ) → r < 2 ^ 32 → IsAmong (own_start s) (length (own_vertices s)) v →
      ArePartials s.split (with_tail (program_of s.split).dense s r v)
  tails_are r v small among = by (program_of s.split).dense refl
    where
      by : (o : Option Dense) → (program_of s.split).dense ≡ o → ArePartials s.split (with_tail o s r v)
      by None is = own_partials_are s can fits v among
      by (Some d) is =
          tail_are s.split d is can.program (own_sight s r) (p_of s) (own_partials s v) (ring_at s v) v
          (own_sees s can fits r small)
          (own_id v among) (own_partials_are s can fits v among)
          (own_at s.part (IsLoopState s.split) s.ring (fresh s.split) v fits.ring among)

  closed_are : (r : ℕ) (dense : Bool) (v : ℕ) → r < 2 ^ 32 → IsAmong (own_start s) (length (own_vertices s)) v →
      ArePartials s.split (closed_partials s r dense v)
  closed_are r true v small among = tails_are r v small among
  closed_are r false v small among = own_partials_are s can fits v among

  closed_word : (r v : ℕ) (ps : List Partial) → r < 2 ^ 32 → IsAmong (own_start s) (length (own_vertices s)) v →
      ArePartials s.split ps →
      IsRow (kinds_of (program_of s.split).fields.items) (closed_row s.split (own_sight s r) ps v)
  closed_word r v ps small among are =
      let k : Kinds = field_kinds (program_of s.split) in
      let slots : List (Option ℤ) = values_of (take (slot_count s.split) ps) in
      let env : Env = seen_env (own_sight s r) v 0 slots in
      let has = seen_has k (own_sight s r) v 0 slots (own_sees s can fits r small) (own_id v among)
      (slots_all_fit slots (values_fit (take (slot_count s.split) ps)
      (All-take HasWord (slot_count s.split) ps are.words))) in
      let own = parts (program_of s.split) can.program in
      let kept = run_keeps k (program_of s.split).update.items own.update.0 own.update.1 env has in
      let low = among.0 in
      let high = among.1 in
      let n = fits.rows.0 in
      record {
        count = ap (λ c. c.fields) (run_frame (program_of s.split).update.items env).counts
            ∙ row_count (kinds_of (program_of s.split).fields.items) s.rows fits.rows.1 (v - own_start s)
            (omega (arith, low, high, n));
        words = kept.env.fields;
      }

  pub closed_rows_fit : (r : ℕ) (dense : Bool) → r < 2 ^ 32 →
      OfOwn s.part (IsRow (kinds_of (program_of s.split).fields.items)) (closed_rows s r dense)
  closed_rows_fit r dense small =
      made_own s.part (IsRow (kinds_of (program_of s.split).fields.items))
      (λ v. closed_row s.split (own_sight s r) (closed_partials s r dense v) v)
      (λ v among. closed_word r v (closed_partials s r dense v) small among (closed_are r dense v small among))

  pub close_go_fits : (r : ℕ) (dense : Bool) → r < 2 ^ 32 → HoldsFit s.part s.split (close_go s r dense)
  close_go_fits r dense small = record {
    rows = closed_rows_fit r dense small;
    partials = made_own s.part (ArePartials s.split) (λ v. empty_partials s.split) (λ v among. empty_are s.split);
    ring = made_own s.part (IsLoopState s.split) (λ v. fresh s.split) (λ v among. fresh_fits s.split);
    held = fits.held;
    reading = within_map s.part (λ v. []) (λ v. v < 2 ^ 32) (targets s) (targets_small s.part s.split can)
        (λ v id. omega arith);
    reads = fits.reading;
    judged = fits.judged;
    report = fits.report;
  }
