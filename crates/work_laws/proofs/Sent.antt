-- What a sound core sends fits its form.
use Rattle.std.proofs.Common.{◌≡◌, ◌≢◌, ◌<◌, ◌≤◌, ◌+◌, ◌-◌, ◌==◌, ◌^◌, inl, inr, ℕ, suc, ℤ, Bool, true, false, ◌&&◌, List, [], ◌∷◌, ◌++◌, map, length, All, refl, sym, ap, subst, ◌∙◌, Option, None, Some, option_map, FitsSigned, w64, arith, length-append}
use Rattle.std.specs.Prelude.{if◌then◌else◌, is_none, nat_le, nat_lt, slice_index_or, sum}
use Rattle.std.specs.List.{AllByRecursion, list_all, range_with_len}
use Rattle.std.proofs.lemmas.Bool.{and_from, and_parts, eq-eqb, ltb-true}
use Rattle.std.proofs.lemmas.Bool.Decides.{nat_tests}
use Rattle.std.proofs.lemmas.Option.{same_Some}
use Rattle.std.proofs.lemmas.List.{length-map}
use Rattle.std.proofs.lemmas.List.Elements.{All-filter, All-head, All-tail}
use Rattle.std.proofs.lemmas.List.FromFn.{length-range_with_len}
use Rattle.vert_base.specs.declared.message.Name.{Name}
use Rattle.vert_base.specs.declared.message.NameKind.TheVariants as kind
use Rattle.vert_base.specs.declared.value.Row.{Row}
use Rattle.vert_base.specs.declared.value.Ruling.{Ruling}
use Rattle.vert_base.specs.declared.value.Ruling.TheVariants.{Stop, Dense, Sparse}
use Rattle.vert_base.specs.declared.value.ValueType.{ValueType}
use Rattle.vert_base.specs.declared.value.ValueType.TheVariants as value
use Rattle.vert_base.specs.Letters.{Letter}
use Rattle.vert_tree.specs.declared.program.Sparse.{Sparse as SparseBlock}
use Rattle.vert_tree.specs.Kinds.{kinds_of}
use Rattle.vert_tree.specs.declared.program.Dense.{Dense as DenseBlock}
use Rattle.carry_analysis.specs.declared.classes.Class.{Class}
use Rattle.carry_analysis.specs.Classes.{body_marks}
use Rattle.dep_layout.specs.Spelling.{State as LoopState, IsState, are_typed, spelled}
use Rattle.dep_layout.specs.Judgement.{refusal_of}
use Rattle.dep_layout.proofs.SpellingLaws.{back_law}
use Rattle.circulant_plan.specs.declared.spot.Ring.{Ring}
use Rattle.circulant_plan.specs.declared.spot.Spot.{Spot}
use Rattle.circulant_plan.specs.declared.spot.Spot.TheVariants.{Tell, Judge, Begin, Scan, Close, Over}
use Rattle.circulant_plan.specs.Deliveries.{HasSpot}
use Rattle.circulant_plan.specs.Names.{dep_name, push_name, refresh_name, tally_name, update_name, verdict_name}
use Rattle.circulant_plan.specs.Ring.{after_machine, chunk_of, lies_in}
use Rattle.circulant_plan.specs.Skeleton.{acting_ruling, may_rule}
use Rattle.circulant_plan.specs.Table.{begin_gives, gives_of, name_if, others_of, tally_gives}
use Rattle.circulant_plan.proofs.CircleLaws.{chunk_other}
use Rattle.circulant_plan.proofs.Members.{Has, contains_from_has, has_map, has_others_cases}
use Rattle.instrument.specs.Loops.{is_reduced, loop_split, places_where}
use Rattle.instrument.proofs.TypedLaws.{length-let_classes}
use Rattle.vert_tree.proofs.TypedLaws.{few_lets}
use Rattle.body_shape.specs.declared.shape.BodyShape.{BodyShape}
use Rattle.body_shape.specs.declared.shape.BodyShape.TheVariants.{Refresh, Update, Push, Tally}
use Rattle.body_shape.specs.Fit.{is_fit}
use Rattle.body_shape.specs.Places.{there}
use Rattle.body_shape.specs.Refresh.{IsWords, PlainRow, plain_row, IsRow as IsPlainRow}
use Rattle.vert_base.specs.Truth.{word_of_bool}
use Rattle.body_shape.specs.Shapes.{bool_bits}
use Rattle.body_shape.specs.Tally.{tally_body}
use Rattle.body_shape.specs.Update.{AreValues, IsSent, Sent}
use Rattle.body_shape.specs.Verdict.{Judged, may_be, verdict_body}
use Rattle.body_shape.proofs.ByteLaws.{few_places}
use Rattle.body_shape.proofs.PushLaws.{push_fits}
use Rattle.body_shape.proofs.RefreshLaws.{refresh_fits}
use Rattle.body_shape.proofs.TallyLaws.{tally_fits}
use Rattle.body_shape.proofs.UpdateLaws.{update_fits}
use Rattle.body_shape.proofs.VerdictLaws.{verdict_fits}
use Rattle.word_kinds.specs.Fits.{AreWords, IsRow, IsWord}
use Rattle.value_laws.proofs.Rounds.{append_words, row_count, row_words as row_words_at}
use Rattle.value_laws.proofs.Words.{truth_word}
use Rattle.vert_eval.specs.declared.environment.Env.{Env}
use Rattle.vert_eval.specs.Rounds.{sent_by}
use Rattle.vert_eval.specs.Values.{value_of}
use Rattle.vert_eval.specs.Words.{is_set}
use Rattle.circulant_plan.specs.Standing.{round_of}
use Rattle.symple_face.specs.Sight.{seen_env}
use Rattle.symple_face.specs.declared.action.Action.TheVariants as action
use Rattle.symple_face.specs.CoreClose.{closed_rows}
use Rattle.symple_face.specs.CoreDense.{scan_dep, scan_update, scanned_at}
use Rattle.symple_face.specs.CoreJudge.{counted, judge_at, ruling_by, sums_at}
use Rattle.symple_face.specs.CoreSight.{is_within, none, own_row, own_sight, own_start, program_of, those_within, total_count}
use Rattle.symple_face.specs.CoreSparse.{own_sends, sends_at}
use Rattle.symple_face.specs.CoreTakes.{slot_count}
use Rattle.symple_face.specs.CoreWork.{core_sent, push_sent, refresh_sent, sent_at}
use Rattle.symple_face.specs.Lawful.{HasForm}
use Rattle.symple_face.specs.Planned.{HasMessage, has_block}
use Rattle.symple_face.specs.Plans.{blocks_of, is_in_range, loop_carry, ring_of}
use Rattle.symple_face.specs.Shapes.{carried_in, count_within, form_of, half_in, reduced_in, refreshed, shape_of, size_of, types_at, types_of}
use Rattle.vert_tree.specs.Places.{lets_in, sends_in}
use Rattle.symple_face.specs.Shapes as shapes
use Rattle.symple_face.specs.State.{State, action_of, machine, p_of}
use Rattle.vert_tree.proofs.TypedLaws.{few_slots}
use Rattle.symple_face.proofs.TableLaws.{plans_by_table, some_block}
use Rattle.work_laws.specs.Sound.{FitsSpot, IsRuled, TakesPlace, core_sound}
use Rattle.work_laws.proofs.Closes.{closed_rows_fit}
use Rattle.work_laws.proofs.Counts.{counted_suits, reads_few, sums_fit}
use Rattle.work_laws.proofs.Gone.{begin_ruled, judged_may, ready_knows, small, small_within}
use Rattle.work_laws.proofs.Held.{send_kinds}
use Rattle.work_laws.proofs.Lists.{chunk_low, half_small, mirrors_small, push_to_own, refresh_to_own}
use Rattle.work_laws.proofs.Scans.{SentFits}
use Rattle.work_laws.proofs.Sees.{own_small, scan_fits}
use Rattle.work_laws.proofs.Sparse.{lies_among, own_sends_fit}
use Rattle.work_laws.proofs.Words.{MayFit, typed_words, words_fit}

-- ---- rows
sent_row : (kinds : List ValueType) (row : Row) → IsRow kinds row →
    IsPlainRow (length kinds) (bool_bits (kinds ++ value.Bool ∷ [])) (plain_row row)
sent_row kinds row is =
    let flag : ℤ = word_of_bool row.active in
    let all = append_words kinds value.Bool row.words.items flag is.count is.words (flag_word row.active) in (
      (is.count, words_fit kinds row.words.items is.count is.words),
      typed_words (kinds ++ value.Bool ∷ []) (row.words.items ++ flag ∷ []) all
          (let n = is.count in omega (
            arith,
            length-append row.words.items (flag ∷ []),
            length-append kinds
                (value.Bool ∷ []),
            n,
          )),
    )
  where
    flag_word : (b : Bool) → IsWord value.Bool (word_of_bool b)
    flag_word true = truth_word true
    flag_word false = truth_word false

-- ---- words that are there
pub there_fit : (xs : List (Option ℤ)) → AllByRecursion MayFit xs → AllByRecursion (FitsSigned w64) (there xs)
there_fit [] all = tt
there_fit (None ∷ xs) all = there_fit xs all.1
there_fit (Some x ∷ xs) all = (all.0 x refl, there_fit xs all.1)

pub places_few : (test : Class → Bool) (i : ℕ) (cs : List Class) → length (places_where test i cs) ≤ length cs
places_few test i [] = omega arith
places_few test i (c ∷ cs) = by (test c) (places_few test (i + 1) cs)
  where
    by : (b : Bool) → length (places_where test (i + 1) cs) ≤ length cs →
        length (if b then i ∷ places_where test (i + 1) cs else places_where test (i + 1) cs) ≤ length (c ∷ cs)
    by true rest = omega (arith, rest)
    by false rest = omega (arith, rest)

-- a part of a list by its elements
mapped_all : {X : Type 0} (P : ℕ → Type 0) (Q : X → Type 0) (f : ℕ → X) (vs : List ℕ) → All P vs →
    ((v : ℕ) → P v → Q (f v)) →
    AllByRecursion Q (map f vs)
mapped_all P Q f [] all h = tt
mapped_all P Q f (v ∷ vs) all h = (h v (All-head P v vs all), mapped_all P Q f vs (All-tail P v vs all) h)

-- ---- sends
-- so many words, each of its type, where there are some
abbrev IsSend : List ValueType → Option (List ℤ) → Type 0
IsSend kinds o = (words : List ℤ) → o ≡ Some words → (length words ≡ length kinds) × AreWords kinds words

sends_words : (kinds : List ValueType) (sends : List (Option (List ℤ))) → AllByRecursion (IsSend kinds) sends →
    AllByRecursion (IsWords (length kinds)) (there sends)
sends_words kinds [] all = tt
sends_words kinds (None ∷ sends) all = sends_words kinds sends all.1
sends_words kinds (Some ws ∷ sends) all =
    let one = all.0 ws refl in
    ((one.0, words_fit kinds ws one.0 one.1), sends_words kinds sends all.1)

sends_typed : (kinds : List ValueType) (sends : List (Option (List ℤ))) → AllByRecursion (IsSend kinds) sends →
    list_all (are_typed (bool_bits kinds)) (there sends) ≡ true
sends_typed kinds [] all = refl
sends_typed kinds (None ∷ sends) all = sends_typed kinds sends all.1
sends_typed kinds (Some ws ∷ sends) all =
    let one = all.0 ws refl in
    and_from (are_typed (bool_bits kinds) ws) (list_all (are_typed (bool_bits kinds)) (there sends))
    (typed_words kinds ws one.1 one.0) (sends_typed kinds sends all.1)

sent_length : (b : Bool) (n : ℕ) (ws words : List ℤ) → length ws ≡ n → (if b then Some ws else None) ≡ Some words →
    length words ≡ n
sent_length true n ws words count e = subst (λ (l : List ℤ). length l ≡ n) (same_Some ws words e) count
sent_length false n ws words count e = cc

pub sent_count : (o : Option SparseBlock) (env : Env) (words : List ℤ) → sends_at o env ≡ Some words →
    length words ≡ length (kinds_of (sends_in o))
sent_count None env words e = cc
sent_count (Some b) env words e =
    sent_length (env.row.active && is_set (value_of b.when_test env)) (length (kinds_of b.sends.items)) (sent_by b env)
    words
    (length-map b.sends.items (λ d. value_of d.value env) ∙ sym (length-map b.sends.items (λ d. d.kind))) e

-- ---- forms
module _ (s : State) (sound : core_sound s) where
  abbrev ring : Ring
  ring = ring_of s.split (p_of s)

  abbrev limit : ℕ
  limit = (program_of s.split).limit

  few_machines : p_of s ≤ 64
  few_machines =
      let whole = sound.can.whole.machine in
      let few = sound.can.ends.1 in
      omega (arith, whole, few)

  -- a message of the table at a spot of its list, with a body that fits its kind's form, has its form
  module _ (spot : Spot) (ruling : Ruling) (x : Name) (body : List ℕ) where
    formed : has_block (blocks_of s.split) ruling ≡ true →
        HasSpot (ring_of s.split (p_of s)) (machine s) ruling spot →
        Has (gives_of (ring_of s.split (p_of s)) (machine s) spot ruling) x →
        is_in_range (program_of s.split).limit x.kind x.round ≡ true →
        is_fit (form_of s.split s.part x.kind x) body ≡ true → HasForm s (record { name = x; body = body })
    formed block has gives range fit =
        let all : List Name = gives_of (ring_of s.split (p_of s)) (machine s) spot ruling in
        let message : HasMessage (ring_of s.split (p_of s)) (machine s) ruling x =
        (spot, has, inl (contains_from_has all x gives)) in
        let planned = (plans_by_table s.split (p_of s) (machine s) x few_machines sound.can.place).1
        ((ruling, block, message), range) in
        let form : BodyShape = form_of s.split s.part x.kind x in
        (form, ap (λ b. if b then Some form else None) planned, fit)

  letters : (f : Name → List ℕ) (g : ℕ → Name) (ks : List ℕ) →
      ((k : ℕ) → Has ks k → HasForm s (record { name = g k; body = f (g k) })) →
      AllByRecursion (HasForm s) (map (λ x. let l : Letter = record { name = x; body = f x } in l) (map g ks))
  letters f g [] h = tt
  letters f g (k ∷ ks) h = (h k (inl refl), letters f g ks (λ j has. h j (inr has)))

  -- ---- tallies
  module _ (spot : Spot) (ruling : Ruling) (r : ℕ) (body : List ℕ) where
    tally_sent : has_block (blocks_of s.split) ruling ≡ true →
        HasSpot (ring_of s.split (p_of s)) (machine s) ruling spot →
        gives_of (ring_of s.split (p_of s)) (machine s) spot ruling ≡ tally_gives (machine s) r →
        r ≤ (program_of s.split).limit → is_fit (Tally (total_count s.split)) body ≡ true →
        AllByRecursion (HasForm s) (map (λ x. let l : Letter = record { name = x; body = body } in l)
        (tally_gives (machine s) r))
    tally_sent block has gives low fit = by (machine s == 0) refl
      where
        by : (b : Bool) → (machine s == 0) ≡ b →
            AllByRecursion (HasForm s)
            (map (λ x. let l : Letter = record { name = x; body = body } in l)
            (if b then [] else tally_name r (machine s) ∷ []))
        by true e = tt
        by false e = (
          formed spot ruling (tally_name r (machine s)) body block has
              (subst (λ (xs : List Name). Has xs (tally_name r (machine s))) (sym gives)
              (subst (λ b. Has (if b then [] else tally_name r (machine s) ∷ []) (tally_name r (machine s))) (sym e)
              (inl refl)))
              (grind (arith, nat_tests, low)) fit,
          tt,
        )

  tell_sent : AllByRecursion (HasForm s)
      (map (λ x. let l : Letter = record { name = x; body = sent_at s Tell x } in l) (tally_gives (machine s) 0))
  tell_sent =
      let block = some_block s.split in
      let none : sum (map (length {A = ℕ}) []) ≡ 0 = refl in
      let few : sum (map (length {A = ℕ}) []) ≤ length s.part.scan = omega (arith, none) in
      tally_sent Tell block.0 0 (sent_at s Tell (tally_name 0 0)) block.1 tt refl (omega arith)
      (tally_fits (total_count s.split) (counted s.part s.split s.rows [] 0)
      (counted_suits s.part s.split sound.can s.rows [] 0 sound.fits.rows few (omega arith)))

  closed_fit : (r : ℕ) (dense : Bool) → TakesPlace s r →
      is_fit (Tally (total_count s.split)) (tally_body (counted s.part s.split (closed_rows s r dense) s.reading r)) ≡
      true
  closed_fit r dense place =
      let low = small_within s sound.can sound.fits r place.1 in
      tally_fits (total_count s.split) (counted s.part s.split (closed_rows s r dense) s.reading r)
      (counted_suits s.part s.split sound.can (closed_rows s r dense) s.reading r
      (closed_rows_fit s sound.can sound.fits r dense low)
      (reads_few s.part s.reading sound.fits.reading) low)

  -- ---- verdicts
  ruled_be : (r : ℕ) (ruling : Ruling) → may_rule (blocks_of s.split) r ruling ≡ true →
      may_be (may_rule (blocks_of s.split) r Dense) (may_rule (blocks_of s.split) r Sparse) ruling ≡ true
  ruled_be r Stop may = refl
  ruled_be r Dense may = may
  ruled_be r Sparse may = may

  judge_sent : (r : ℕ) → machine s ≡ 0 → r ≤ (program_of s.split).limit →
      AllByRecursion (HasForm s)
      (map (λ x. let l : Letter = record { name = x; body = sent_at s (Judge r) x } in l)
      (if machine s == 0 then map (verdict_name (r + 1)) (others_of (p_of s) 0) else []))
  judge_sent r first low =
      let is : (machine s == 0) ≡ true = eq-eqb (machine s) 0 first in
      let sums = sums_at s r in
      let judged : Judged = record { ruling = ruling_by s r sums; totals = sums.totals } in
      let block = some_block s.split in
      let fit = verdict_fits (may_rule (blocks_of s.split) (r + 1) Dense) (may_rule (blocks_of s.split) (r + 1) Sparse)
      (total_count s.split) judged (
        ruled_be (r + 1) (ruling_by s r sums) (judged_may s r sums),
        (sums_fit s sound.can sound.fits r (small_within s sound.can sound.fits r low)).totals,
      ) in
      subst
      (λ b. AllByRecursion (HasForm s)
      (map (λ x. let l : Letter = record { name = x; body = sent_at s (Judge r) x } in l)
      (if b then map (verdict_name (r + 1)) (others_of (p_of s) 0) else []))) (sym is)
      (letters (sent_at s (Judge r)) (verdict_name (r + 1)) (others_of (p_of s) 0)
      (λ k has.
      formed (Judge r) block.0 (verdict_name (r + 1) k) (verdict_body judged) block.1 first
      (subst (λ b. Has (if b then map (verdict_name (r + 1)) (others_of (p_of s) 0) else []) (verdict_name (r + 1) k))
      (sym is)
      (has_map (verdict_name (r + 1)) (others_of (p_of s) 0) k has))
      (grind (arith, nat_tests, low)) fit))

  -- ---- refreshes
  same_machine : (machine s == machine s) ≡ true
  same_machine = eq-eqb (machine s) (machine s) refl

  pub own_is_row : (v : ℕ) → lies_in s.part.ends (machine s) v ≡ true →
      IsRow (kinds_of (program_of s.split).fields.items) (own_row s v)
  own_is_row v lies =
      let kinds : List ValueType = kinds_of (program_of s.split).fields.items in
      let among = lies_among s.part v lies in
      let low = among.0 in
      let high = among.1 in
      let n = sound.fits.rows.0 in
      record {
        count = row_count kinds s.rows sound.fits.rows.1 (v - own_start s) (omega (arith, low, high, n));
        words = row_words_at kinds s.rows sound.fits.rows.1 (v - own_start s);
      }

  refresh_fit : (r k : ℕ) → k < p_of s → k ≢ machine s →
      is_fit (form_of s.split s.part kind.Refresh (refresh_name r (machine s) k)) (refresh_sent s k) ≡ true
  refresh_fit r k within other =
      let kinds : List ValueType = kinds_of (program_of s.split).fields.items in
      let vertices : List ℕ = slice_index_or s.part.refresh_to k [] in
      let rows : List PlainRow = map (λ v. plain_row (own_row s v)) vertices in
      let bools : ℕ = bool_bits (kinds ++ value.Bool ∷ []) in
      let fit = refresh_fits (length vertices) (length kinds) bools rows (
        length-map vertices (λ v. plain_row (own_row s v)),
        mapped_all (λ v. lies_in s.part.ends (machine s) v ≡ true) (IsPlainRow (length kinds) bools)
            (λ v. plain_row (own_row s v)) vertices
            (refresh_to_own s.part s.split sound.can k within other)
            (λ v lies. sent_row kinds (own_row s v) (own_is_row v lies)),
      ) in
      ap (λ b. is_fit (Refresh (length (if b then vertices else slice_index_or s.part.refresh_of (machine s) []))
      (length (kinds ++ value.Bool ∷ [])) bools) (refresh_sent s k)) same_machine
      ∙ ap (λ n. is_fit (Refresh (length vertices) n bools) (refresh_sent s k)) (flag_count kinds)
      ∙ fit
    where
      flag_count : (kinds : List ValueType) → length (kinds ++ value.Bool ∷ []) ≡ suc (length kinds)
      flag_count kinds = omega (arith, length-append kinds (value.Bool ∷ []))

  -- ---- pushes
  push_fit : (r k : ℕ) → r < 2 ^ 32 → k < p_of s → k ≢ machine s →
      is_fit (form_of s.split s.part kind.Push (push_name r (machine s) k)) (push_sent s r k) ≡ true
  push_fit r k low within other =
      let kinds : List ValueType = send_kinds s.split in
      let vertices : List ℕ = slice_index_or s.part.push_to k [] in
      let sends : List (Option (List ℤ)) = map (own_sends s r) vertices in
      let all : AllByRecursion (IsSend kinds) sends =
      mapped_all (λ v. lies_in s.part.ends (machine s) v ≡ true) (IsSend kinds) (own_sends s r) vertices
      (push_to_own s.part s.split sound.can k within other)
      (λ v lies words e. (
        sent_count (program_of s.split).sparse (seen_env (own_sight s r) v 0 (none s.split)) words e,
        own_sends_fit s sound.can sound.fits r v low (own_small s.part s.split sound.can v lies) words e,
      )) in
      let fit = push_fits (length vertices) (length kinds) (bool_bits kinds) sends (record {
        count = length-map vertices (own_sends s r);
        each = sends_words kinds sends all;
        typed = sends_typed kinds sends all;
      }) in
      ap (λ b. is_fit (Push (length (if b then vertices else slice_index_or s.part.push_of (machine s) []))
      (length kinds) (bool_bits kinds))
      (push_sent s r k)) same_machine
      ∙ fit

  begin_sent : (r : ℕ) → 1 ≤ r → r ≤ (program_of s.split).limit + 1 → (ruling : Ruling) →
      may_rule (blocks_of s.split) r ruling ≡ true →
      AllByRecursion (HasForm s)
      (map (λ x. let l : Letter = record { name = x; body = sent_at s (Begin r) x } in l)
      (begin_gives (p_of s) (machine s) r ruling))
  begin_sent r some low Stop may = tt
  begin_sent r some low Dense may =
      let b = and_parts (blocks_of s.split).dense (nat_le r (program_of s.split).limit) may in
      letters (sent_at s (Begin r)) (refresh_name r (machine s)) (others_of (p_of s) (machine s))
      (λ k has.
      let other = has_others_cases (p_of s) (machine s) k sound.can.place has in
      formed (Begin r) Dense (refresh_name r (machine s) k) (refresh_sent s k) b.0 some
      (has_map (refresh_name r (machine s)) (others_of (p_of s) (machine s)) k has)
      (and_from (nat_le 1 r) (nat_le r (program_of s.split).limit) (grind (arith, nat_tests, some)) b.1)
      (refresh_fit r k other.0 other.1))
  begin_sent r some low Sparse may =
      let b = and_parts (blocks_of s.split).sparse (nat_le r (program_of s.split).limit) may in
      letters (sent_at s (Begin r)) (push_name r (machine s)) (others_of (p_of s) (machine s))
      (λ k has.
      let other = has_others_cases (p_of s) (machine s) k sound.can.place has in
      formed (Begin r) Sparse (push_name r (machine s) k) (push_sent s r k) b.0 some
      (has_map (push_name r (machine s)) (others_of (p_of s) (machine s)) k has)
      (and_from (nat_le 1 r) (nat_le r (program_of s.split).limit) (grind (arith, nat_tests, some)) b.1)
      (push_fit r k (small s sound.can sound.fits r low) other.0 other.1))

  -- ---- updates and loop states
  few_reduced : length (reduced_in s.split.dense) ≤ 8
  few_reduced = subst (λ q. length (reduced_in q) ≤ 8) (sym s.split.split) (by (program_of s.split).dense refl)
    where
      by : (o : Option DenseBlock) → (program_of s.split).dense ≡ o → length (reduced_in (option_map loop_split o)) ≤ 8
      by None e = omega arith
      by (Some d) e =
          let cs = places_few is_reduced 0 (loop_split d).classes.locals.items in
          let lets = few_lets (program_of s.split) s.split.program.typed d e in
          let count = length-let_classes 0 d.lets.items (body_marks d.body.items) in
          omega (arith, cs, lets, count)

  sent_is : (sent : Sent) → SentFits s.split sent → IsSent (slot_count s.split) (length (reduced_in s.split.dense)) sent
  sent_is sent fit =
      let slots = few_slots (program_of s.split) s.split.program.typed in
      let reduced = few_reduced in
      let a = fit.value_count in
      let b = fit.operand_count in (
        subst (λ n. AreValues n sent.values) fit.value_count
            (few_places sent.values (omega (arith, a, slots)) (there_fit sent.values fit.values)),
        subst (λ n. AreValues n sent.operands) fit.operand_count
            (few_places sent.operands (omega (arith, b, reduced)) (there_fit sent.operands fit.operands)),
      )

  update_fit : (r step h : ℕ) → r < 2 ^ 32 → step < p_of s - 1 →
      is_fit (form_of s.split s.part kind.Update
      (update_name r step h (machine s) (chunk_of (machine s) step (p_of s)))) (scan_update s r step h)
      ≡ true
  update_fit r step h low early =
      let place = sound.can.place in
      let d : ℕ = chunk_of (machine s) step (p_of s) in
      let range : ℕ × ℕ = half_in s.part.ends d h in
      let all : List ℕ = slice_index_or s.part.refresh_of d [] in
      let vertices : List ℕ = those_within range all in
      let f : ℕ → Sent = λ v. (scanned_at s r step h v).sent in
      let within : d < p_of s = chunk_low (machine s) step (p_of s) (omega (arith, place)) in
      let other : d ≢ machine s = chunk_other (machine s) step (p_of s) place early in
      let reduced : ℕ = length (reduced_in s.split.dense) in
      let each : AllByRecursion (IsSent (slot_count s.split) reduced) (map f vertices) =
      mapped_all (λ v. v < 2 ^ 32) (IsSent (slot_count s.split) reduced) f vertices
      (All-filter (is_within range) (λ v. v < 2 ^ 32) all (mirrors_small s.part s.split sound.can d within other))
      (λ v id. sent_is (f v) (scan_fits s sound.can sound.fits r step h v low (omega (arith, early)) id).sent) in
      let fit = update_fits (length vertices) (slot_count s.split) reduced (map f vertices)
      (length-map vertices f, each) in
      ap (λ b. is_fit (Update (count_within range (if b then all else slice_index_or s.part.refresh_to (machine s) []))
      (slot_count s.split)
      (length (reduced_in s.split.dense))) (scan_update s r step h)) same_machine
      ∙ fit

  dep_fit : (r step h : ℕ) → r < 2 ^ 32 → step < p_of s - 1 →
      is_fit (form_of s.split s.part kind.Dep (dep_name r step h (machine s) (after_machine (machine s) (p_of s))))
      (scan_dep s r step h) ≡ true
  dep_fit r step h low early =
      let place = sound.can.place in
      let d : ℕ = chunk_of (machine s) step (p_of s) in
      let range : ℕ × ℕ = half_in s.part.ends d h in
      let vertices : List ℕ = range_with_len range.0 (size_of range) in
      let width : ℕ = shapes.words_in (loop_carry s.split.dense) in
      let bools : ℕ = bool_bits (types_at (types_of (lets_in (program_of s.split).dense)) (carried_in s.split.dense)) in
      let f : ℕ → LoopState = λ v. (scanned_at s r step h v).state in
      let within : d < p_of s = chunk_low (machine s) step (p_of s) (omega (arith, place)) in
      let fits = (back_law width bools (map f vertices)
      (mapped_all (λ v. v < 2 ^ 32) (IsState width bools) f vertices (half_small s.part s.split d h sound.can within)
      (λ v id. (scan_fits s sound.can sound.fits r step h v low (omega (arith, early)) id).state))).0 in
      let count : length (map f vertices) ≡ size_of range =
      length-map vertices f ∙ length-range_with_len range.0 (size_of range) in
      ap is_none (subst (λ n. refusal_of width n bools (spelled (map f vertices)) ≡ None) count fits)

  scan_sent : (r step h : ℕ) → (blocks_of s.split).dense ≡ true → TakesPlace s r → step < p_of s → h ≤ 1 →
      AllByRecursion (HasForm s)
      (map (λ x. let l : Letter = record { name = x; body = sent_at s (Scan r step h) x } in l)
      (gives_of (ring_of s.split (p_of s)) (machine s) (Scan r step h) Dense))
  scan_sent r step h block place low one = by (nat_lt step (p_of s - 1)) refl
    where
      by : (b : Bool) → nat_lt step (p_of s - 1) ≡ b →
          AllByRecursion (HasForm s)
          (map (λ x. let l : Letter = record { name = x; body = sent_at s (Scan r step h) x } in l)
          (if b
          then update_name r step h (machine s) (chunk_of (machine s) step (p_of s))
          ∷ name_if (ring_of s.split (p_of s)).carry
          (dep_name r step h (machine s) (after_machine (machine s) (p_of s)))
          else []))
      by false e = tt
      by true e =
          let early : step < p_of s - 1 = ltb-true step (p_of s - 1) e in
          let small : r < 2 ^ 32 = small_within s sound.can sound.fits r place.1 in
          let x : Name = update_name r step h (machine s) (chunk_of (machine s) step (p_of s)) in
          let y : Name = dep_name r step h (machine s) (after_machine (machine s) (p_of s)) in
          let carry : Bool = (ring_of s.split (p_of s)).carry in
          let range : (nat_le 1 r && nat_le r (program_of s.split).limit) ≡ true =
          and_from (nat_le 1 r) (nat_le r (program_of s.split).limit) (grind (arith, nat_tests, place.0))
          (grind (arith, nat_tests, place.1)) in
          let given : (z : Name) → Has (x ∷ name_if carry y) z →
          Has (gives_of (ring_of s.split (p_of s)) (machine s) (Scan r step h) Dense) z =
          λ z has. subst (λ b. Has (if b then x ∷ name_if carry y else []) z) (sym e) has in (
            formed (Scan r step h) Dense x (scan_update s r step h) block (place.0, low, one, refl)
                (given x (inl refl)) range
                (update_fit r step h small early),
            deps carry refl
                (λ has. formed (Scan r step h) Dense y (scan_dep s r step h) block (place.0, low, one, refl)
                (given y (inr has)) range
                (dep_fit r step h small early)),
          )
        where
          deps : (c : Bool) → (ring_of s.split (p_of s)).carry ≡ c →
              (Has (name_if (ring_of s.split (p_of s)).carry
              (dep_name r step h (machine s) (after_machine (machine s) (p_of s))))
              (dep_name r step h (machine s) (after_machine (machine s) (p_of s))) →
              HasForm s
              (record {
                name = dep_name r step h (machine s) (after_machine (machine s) (p_of s));
                body = scan_dep s r
                    step h;
              })) →
              AllByRecursion (HasForm s)
              (map (λ x. let l : Letter = record { name = x; body = sent_at s (Scan r step h) x } in l)
              (name_if c (dep_name r step h (machine s) (after_machine (machine s) (p_of s)))))
          deps true e form = (
            form (subst (λ b. Has (name_if b (dep_name r step h (machine s) (after_machine (machine s) (p_of s))))
                (dep_name r step h (machine s) (after_machine (machine s) (p_of s)))) (sym e) (inl refl)),
            tt,
          )
          deps false e form = tt

  sent_by_spot : (spot : Spot) → FitsSpot s spot → ((r : ℕ) → spot ≡ Begin r → IsRuled s r) →
      AllByRecursion (HasForm s)
      (map (λ x. let l : Letter = record { name = x; body = sent_at s spot x } in l)
      (gives_of (ring_of s.split (p_of s)) (machine s) spot (acting_ruling (judge_at s spot) s.ruling spot)))
  sent_by_spot Tell fits ruled = tell_sent
  sent_by_spot (Judge r) fits ruled = judge_sent r fits.0 fits.1
  sent_by_spot (Begin r) fits ruled = begin_sent r fits.0 fits.1 s.ruling (ruled r refl).1
  sent_by_spot (Scan r step h) fits ruled = scan_sent r step h fits.0 fits.1 fits.2 fits.3
  sent_by_spot (Close r true) fits ruled =
      tally_sent (Close r true) Dense r (tally_body (counted s.part s.split (closed_rows s r true) s.reading r)) fits.0
      (fits.1.0, refl) refl
      fits.1.1 (closed_fit r true fits.1)
  sent_by_spot (Close r false) fits ruled =
      tally_sent (Close r false) Sparse r (tally_body (counted s.part s.split (closed_rows s r false) s.reading r))
      fits.0 (fits.1.0, refl) refl
      fits.1.1 (closed_fit r false fits.1)
  sent_by_spot Over fits ruled = tt

pub sent_fit : (s : State) → core_sound s → action_of s ≡ action.Ready → AllByRecursion (HasForm s) (core_sent s)
sent_fit s sound ready =
    sent_by_spot s sound s.at.spot sound.spot
    (λ r here.
    begin_ruled s s.at.spot sound.spot r here
    (ready_knows s r (subst (FitsSpot s) here sound.spot).0 here (sound.round ∙ ap (round_of s.at.round) here) ready))
