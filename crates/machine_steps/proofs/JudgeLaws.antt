-- The totals of one machine more, and the verdicts for all others.
use Rattle.std.proofs.Common.{◌≡◌, ℕ, ℤ, ◌+◌, ◌-◌, ◌<◌, ◌≤◌, true, List, [], ◌∷◌, ◌++◌, Option, None, Some, drop, length, get_or, map, pos, refl, ap, sym, ◌∙◌, arith, append_assoc, append-nil}
use Rattle.std.specs.Prelude.{if◌then◌else◌}
use Rattle.std.specs.List.{range_with_len}
use Rattle.std.proofs.Math.ListN.{drop_of_length-le}
use Rattle.std.proofs.lemmas.List.{drop_more}
use Rattle.std.proofs.lemmas.List.FromFn.{map-range_with_len_more}
use Rattle.graph_table.proofs.FilterLaws.{map-append, map-map}
use Rattle.slot_merge.specs.Combine.{combined_of}
use Rattle.vert_base.specs.declared.message.Message.{Message}
use Rattle.vert_base.specs.Letters.{Letter, letter_of}
use Rattle.vert_tree.specs.declared.program.TotalDecl.{TotalDecl}
use Rattle.body_shape.specs.Tally.{Counted}
use Rattle.instrument.specs.declared.split.Split.{Split}
use Rattle.machine_parts.specs.Judging.{IsStopPlaced}
use Rattle.mode_switch.specs.Ruling.{ruling_of}
use Rattle.symple_face.specs.CoreJudge.{ruling_by, totals_joined}
use Rattle.symple_face.specs.CoreSight.{part_sight, program_of}
use Rattle.symple_face.specs.Parts.{PlainPart}
use Rattle.symple_face.specs.Sight.{Sight, seen_env}
use Rattle.symple_face.specs.State.{State}
use Rattle.value_laws.specs.Blind.{SameButVertex}
use Rattle.value_laws.proofs.Blind.{stop_anywhere}
use Rattle.vert_base.specs.declared.value.Ruling.{Ruling}
use Rattle.vert_base.specs.declared.value.Ruling.TheVariants.{Stop}
use Rattle.vert_eval.specs.declared.environment.Env.{Env}
use Rattle.vert_eval.specs.Rounds.{empty_row}
use Rattle.vert_eval.specs.SourceRun.{stops}
use Rattle.vert_eval.specs.Values.{counts_of}
use Rattle.vert_eval.specs.Words.{is_set}
use Rattle.vert_tree.specs.declared.expression.Expr.{Expr}
use Rattle.vert_tree.specs.declared.program.Program.{Program}
use Rattle.vert_tree.specs.Places.{expr_placed, option_all, stop_counts}
use Rattle.vert_tree.specs.Readable.{expr_read, in_stop}
use Rattle.vert_tree.specs.Typed.{is_typed}
use Rattle.vert_tree.proofs.ReadLaws.{stop_read}
use Rattle.vert_tree.proofs.TypedLaws.{stop_stands}
use Rattle.circulant_plan.specs.Names.{verdict_name}
use Rattle.round_laws.proofs.Judging.{stops_same}

module _ (ts : List TotalDecl) (held told : List ℤ) (i : ℕ) where
  -- the total at a place is joined
  module _ (words new : List ℤ) (t d : TotalDecl) (w : ℤ) where
    pub join_more : i < length ts → i < length held → i < length told → t ≡ get_or ts i d →
        w ≡ combined_of t.op (get_or held i (pos 0)) (get_or told i (pos 0)) → new ≡ words ++ w ∷ [] →
        words ++ totals_joined (drop i ts) (drop i held) (drop i told) ≡ totals_joined ts held told →
        new ++ totals_joined (drop (i + 1) ts) (drop (i + 1) held) (drop (i + 1) told) ≡ totals_joined ts held
        told
    join_more low low' low'' at is pushed left =
        let rest : List ℤ = totals_joined (drop (i + 1) ts) (drop (i + 1) held) (drop (i + 1) told) in
        ap (λ xs. xs ++ rest) pushed
        ∙ append_assoc words (w ∷ []) rest
        ∙ ap (λ x. words ++ x ∷ rest) is
        ∙ ap (λ (u : TotalDecl). words ++ combined_of u.op (get_or held i (pos 0)) (get_or told i (pos 0)) ∷ rest) at
        ∙ ap (λ us. words ++ totals_joined us (get_or held i (pos 0) ∷ drop (i + 1) held)
        (get_or told i (pos 0) ∷ drop (i + 1) told)) (sym (drop_more ts i d low))
        ∙ ap (λ xs. words ++ totals_joined (drop i ts) xs (get_or told i (pos 0) ∷ drop (i + 1) told))
        (sym (drop_more held i (pos 0) low'))
        ∙ ap (λ xs. words ++ totals_joined (drop i ts) (drop i held) xs) (sym (drop_more told i (pos 0) low''))
        ∙ left

  pub join_end : (words : List ℤ) → length ts ≤ i →
      words ++ totals_joined (drop i ts) (drop i held) (drop i told) ≡ totals_joined ts held told →
      words ≡ totals_joined ts held told
  join_end words end left =
      sym (append-nil words)
      ∙ ap (λ us. words ++ totals_joined us (drop i held) (drop i told)) (sym (drop_of_length-le ts end))
      ∙ left

-- ---- verdicts
abbrev pub verdict_letter : ℕ → List ℕ → ℕ → Letter
verdict_letter round body k = record { name = verdict_name round k; body = body }

module _ (round : ℕ) (body : List ℕ) (sent new : List Message) (m : Message) (to : ℕ) where
  pub verdicts_more : 1 ≤ to →
      map letter_of sent ≡ map (verdict_letter round body) (range_with_len 1 (to - 1)) → new ≡ sent ++ m ∷ [] →
      letter_of m ≡ verdict_letter round body to →
      map letter_of new ≡ map (verdict_letter round body) (range_with_len 1 (to + 1 - 1))
  verdicts_more some so_far pushed is =
      let one : to + 1 - 1 ≡ to - 1 + 1 = omega arith in
      ap (map letter_of) pushed
      ∙ map-append letter_of sent (m ∷ [])
      ∙ ap (λ xs. xs ++ letter_of m ∷ []) so_far
      ∙ ap (λ l. map (verdict_letter round body) (range_with_len 1 (to - 1)) ++ l ∷ []) is
      ∙ sym (map-range_with_len_more (verdict_letter round body) 1 (to - 1) to (omega arith))
      ∙ ap (λ n. map (verdict_letter round body) (range_with_len 1 n)) (sym one)

module _ (round : ℕ) (body : List ℕ) (sent : List Message) (to p n : ℕ) where
  pub verdicts_all : to ≡ p → n ≡ p - 1 →
      map letter_of sent ≡ map (verdict_letter round body) (range_with_len 1 (to - 1)) →
      map letter_of sent ≡ map (λ x. let l : Letter = record { name = x; body = body } in l) (map (verdict_name
      round) (range_with_len 1 n))
  verdicts_all end count so_far =
      let same : to - 1 ≡ n = omega arith in
      so_far
      ∙ ap (λ k. map (verdict_letter round body) (range_with_len 1 k)) same
      ∙ sym (map-map (λ x. let l : Letter = record { name = x; body = body } in l) (verdict_name round)
      (range_with_len 1 n))

-- ---- the stop test
pub stop_placed : (p : Program) → is_typed p ≡ true → (env : Env) → counts_of env ≡ stop_counts p →
    IsStopPlaced p.stop env
stop_placed p typed env counts = by p.stop refl
  where
    by : (o : Option Expr) → p.stop ≡ o → IsStopPlaced o env
    by None e = tt
    by (Some test) e = ap (λ k. expr_placed k test) counts ∙ stop_stands p typed test e

-- the environment of a judge, which has no row and no degrees
abbrev pub nobody_sight : PlainPart → ℕ → List ℤ → Sight
nobody_sight part r totals = record (part_sight part r totals (λ v. empty_row)) { ins = λ v. 0; outs = λ v. 0 }

abbrev pub ruling_with : PlainPart → Split → ℕ → Counted → Env → Ruling
ruling_with part split r sums env =
    if stops (program_of split).stop env
    then Stop
    else ruling_of sums.active sums.edges part.edges (r + 1) (program_of split).limit (program_of split).mode

pub rules_anywhere : (part : PlainPart) (split : Split) (r : ℕ) (sums : Counted) (s : State) → s.part ≡ part →
    s.split ≡ split →
    ruling_with part split r sums (seen_env (nobody_sight part r sums.totals) 0 0 []) ≡ ruling_by s r sums
rules_anywhere part split r sums s is_part is_split =
    let a : Env = seen_env (part_sight part r sums.totals (λ v. empty_row)) 0 0 [] in
    let b : Env = seen_env (nobody_sight part r sums.totals) 0 0 [] in
    ap (λ t. if t then Stop
    else ruling_of sums.active sums.edges part.edges (r + 1) (program_of split).limit (program_of split).mode)
    (stops_same (program_of split).stop (stop_read (program_of split) split.program.typed) a b refl)
    ∙ ap (λ q. ruling_with q split r sums (seen_env (part_sight q r sums.totals (λ v. empty_row)) 0 0 [])) (sym is_part)
    ∙ ap (λ q. ruling_with s.part q r sums (seen_env (part_sight s.part r sums.totals (λ v. empty_row)) 0 0 []))
    (sym is_split)
