-- The tallies and verdicts that machines send have the bodies that the source's run says.
use Rattle.std.proofs.Common.{◌≡◌, ◌<◌, ◌≤◌, ◌+◌, ℕ, Bool, true, false, List, [], ◌∷◌, length, map, sum, sym, ap, subst, ◌∙◌, arith}
use Rattle.std.specs.Prelude.{◌==◌, if◌then◌else◌, nat_le}
use Rattle.std.specs.List.{AllByRecursion}
use Rattle.std.proofs.lemmas.Bool.Decides.{nat_tests}
use Rattle.vert_base.specs.declared.graph.Edge.{Edge}
use Rattle.vert_base.specs.declared.message.Name.{Name}
use Rattle.vert_base.specs.declared.value.Row.{Row}
use Rattle.vert_base.specs.Letters.{Letter}
use Rattle.vert_eval.specs.Rounds as meaning
use Rattle.vert_eval.specs.Rounds.{row_at}
use Rattle.circulant_plan.specs.declared.spot.Spot.TheVariants.{Close, Judge}
use Rattle.circulant_plan.specs.Names.{tally_name, verdict_name}
use Rattle.circulant_plan.specs.Standing.{Standing, first_standing}
use Rattle.circulant_plan.specs.Table.{others_of}
use Rattle.graph_table.proofs.FilterLaws.{all_map, all_true, map_same}
use Rattle.body_shape.specs.Tally.{tally_body}
use Rattle.body_shape.specs.Verdict.{verdict_body}
use Rattle.symple_face.specs.declared.action.Action.TheVariants.{Ready}
use Rattle.symple_face.specs.CoreClose.{closed_rows}
use Rattle.symple_face.specs.CoreJudge.{counted}
use Rattle.symple_face.specs.CoreSight.{targets_of}
use Rattle.symple_face.specs.CoreWork.{sent_at}
use Rattle.symple_face.specs.Ideal.{ideal_body, ideal_reads, machines_of, reads_by}
use Rattle.symple_face.specs.Parts.{PlainPart, chunk_vertices}
use Rattle.symple_face.specs.PartsOf.{part_of}
use Rattle.symple_face.specs.Source.{Source, stand}
use Rattle.symple_face.specs.State.{State, action_of}
use Rattle.round_laws.specs.FoldJudge.{IsCountedRound}
use Rattle.round_laws.specs.IsIdeal.{IsIdeal, reads_held}
use Rattle.round_laws.specs.Sent.{CloseSendsIdeal, JudgeSendsIdeal, SendsIdeal, TellSendsIdeal}
use Rattle.round_laws.proofs.FoldJudge.{job_is, judged_is, rules}
use Rattle.round_laws.proofs.Judging.{counts_ideal}
use Rattle.round_laws.proofs.ReadsTargets.{targets_read}
use Rattle.round_laws.proofs.Sums.{sum_none}

-- a letter of a name, with what is sent under it
abbrev lettered : State → Name → Letter
lettered s x = record { name = x; body = sent_at s s.at.spot x }

-- where all that is sent under some names is ideal, all letters are
all_sent : (src : Source) (s : State) (xs : List Name) →
    AllByRecursion (λ x. sent_at s s.at.spot x ≡ ideal_body src x) xs →
    AllByRecursion (λ l. l.body ≡ ideal_body src l.name) (map (lettered s) xs)
all_sent src s xs all = all_map (λ l. l.body ≡ ideal_body src l.name) (lettered s) xs all

not_least : (a : ℕ) → 1 ≤ a → nat_le a 0 ≡ false
not_least a some = grind (arith, nat_tests)

module _ (src : Source) (most m round : ℕ) (state : State) (fits : IsCountedRound src most round)
    (machine : m < machines_of src) where
  abbrev ends : List ℕ
  ends = src.job.graph.ends

  abbrev edges : List Edge
  edges = src.job.graph.edges

  abbrev part : PlainPart
  part = part_of ends src.job.draws edges m

  abbrev rows : List Row
  rows = map (row_at (stand src (round + 1)).rows) (chunk_vertices ends m)

  -- the tally of ideal rows and reads
  tally_is : (reads : List (List ℕ)) →
      sum (map length reads) ≡ sum (map (λ v. length (ideal_reads src round m v)) (meaning.vertices_of src.job.graph)) →
      tally_body (counted part src.split rows reads round) ≡ ideal_body src (tally_name round m)
  tally_is reads read =
      ap tally_body
      (counts_ideal src most m round src.split ends src.job.draws edges reads (job_is src most round state fits)
      fits.ends
      machine read)

  tally_alone : (s : State) → (sent_at s s.at.spot (tally_name round m) ≡ ideal_body src (tally_name round m)) →
      AllByRecursion (λ l. l.body ≡ ideal_body src l.name)
      (map (lettered s) (if m == 0 then [] else tally_name round m ∷ []))
  tally_alone s is = by (m == 0)
    where
      by : (b : Bool) → AllByRecursion (λ l. l.body ≡ ideal_body src l.name)
          (map (lettered s) (if b then [] else tally_name round m ∷ []))
      by true = tt
      by false = (is, tt)

  -- ---- the close
  module _ (dense : Bool) where
    abbrev closing : Standing
    closing = record { spot = Close round dense; round = round }

    abbrev at_close : State
    at_close = record state { part = part; split = src.split; at = closing }

    close_sends : IsIdeal src m at_close → closed_rows at_close round dense ≡ rows →
        ((v : ℕ) → reads_held src m closing v ≡ ideal_reads src round m v) → SendsIdeal src at_close
    close_sends is closed reads =
        tally_alone at_close
        (ap (λ l. tally_body (counted part src.split l state.reading round)) closed
        ∙ tally_is state.reading
        (ap (λ l. sum (map length l)) (is.reading
        ∙ map_same (reads_held src m closing) (ideal_reads src round m) (targets_of part)
        (all_true _ reads (targets_of part)))
        ∙ targets_read src most m round fits.ends fits.sized machine))

pub close_sends_ideal : CloseSendsIdeal
close_sends_ideal src most m round dense state fits machine is at closed reads =
    let t : State = at_close src most m round state fits machine dense in
    let same : state ≡ t = λ i. record state { part = is.part i; split = is.split i; at = at i } in
    subst (SendsIdeal src) (sym same)
    (close_sends src most m round state fits machine dense (subst (IsIdeal src m) same is)
    (ap (λ x. closed_rows x round dense) (sym same) ∙ closed)
    (λ v. ap (λ a. reads_held src m a v) (sym at) ∙ reads v))

-- ---- before the first round
pub tell_sends_ideal : TellSendsIdeal
tell_sends_ideal src most m state fits machine is at =
    let t : State = record state {
      part = part_of src.job.graph.ends src.job.draws src.job.graph.edges m;
      split = src.split;
      at = first_standing;
    } in
    let same : state ≡ t = λ i. record state { part = is.part i; split = is.split i; at = at i } in
    let here : IsIdeal src m t = subst (IsIdeal src m) same is in
    subst (SendsIdeal src) (sym same)
    (tally_alone src most m 0 state fits machine t
    (ap (λ l. tally_body (counted t.part src.split l [] 0)) here.rows
    ∙ tally_is src most m 0 state fits machine [] (sym nothing)))
  where
    nothing : sum (map (λ v. length (ideal_reads src 0 m v)) (meaning.vertices_of src.job.graph)) ≡ 0
    nothing =
        ap sum (map_same (λ v. length (ideal_reads src 0 m v)) (λ v. 0) (meaning.vertices_of src.job.graph)
        (all_true _ (λ v. ap (λ b. length (if b then reads_by src (stand src 0).ruling 0 m v else []))
        (not_least src.base fits.base)) (meaning.vertices_of src.job.graph)))
        ∙ sum_none (meaning.vertices_of src.job.graph)

-- ---- the judge
pub judge_sends_ideal : JudgeSendsIdeal
judge_sends_ideal src most round state fits is at ready =
    let t : State = record state {
      part = part_of src.job.graph.ends src.job.draws src.job.graph.edges 0;
      split = src.split;
      at = record { spot = Judge round; round = round };
    } in
    let same : state ≡ t = λ i. record state { part = is.part i; split = is.split i; at = at i } in
    let here : IsIdeal src 0 t = subst (IsIdeal src 0) same is in
    let able : action_of t ≡ Ready = subst (λ x. action_of x ≡ Ready) same ready in
    subst (SendsIdeal src) (sym same)
    (all_sent src t (map (verdict_name (round + 1)) (others_of (machines_of src) 0))
    (all_map (λ x. sent_at t t.at.spot x ≡ ideal_body src x) (verdict_name (round + 1)) (others_of (machines_of src) 0)
    (all_true _ (λ k i. verdict_body (record {
      ruling = rules src most round state fits here able i;
      totals = (judged_is src most round state fits here able i).totals;
    })) (others_of (machines_of src) 0))))
