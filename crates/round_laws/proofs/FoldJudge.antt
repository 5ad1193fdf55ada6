-- Machine 0 that judges a round goes on as the source's run says.
use Rattle.std.proofs.Common.{◌≡◌, inl, inr, ◌<◌, ◌≤◌, ◌+◌, ◌-◌, ℕ, true, false, List, [], ◌∷◌, length, map, sum, refl, sym, ap, subst, ◌∙◌, arith}
use Rattle.std.specs.Prelude.{◌^◌, if◌then◌else◌, is_some, nat_le}
use Rattle.std.specs.List.{AllByRecursion}
use Rattle.vert_base.specs.declared.graph.Edge.{Edge}
use Rattle.vert_base.specs.declared.message.Name.{Name}
use Rattle.vert_base.specs.declared.message.NameKind.{NameKind}
use Rattle.vert_base.specs.declared.message.NameKind.TheVariants as kind
use Rattle.vert_base.specs.declared.value.Row.{Row}
use Rattle.vert_base.specs.declared.value.Ruling.{Ruling}
use Rattle.vert_base.specs.declared.value.Ruling.TheVariants as ruling
use Rattle.vert_base.specs.Letters.{Letter, found}
use Rattle.vert_eval.specs.SourceRun.{Job, active_edges, ruling_after}
use Rattle.slot_merge.specs.Filled.{AreFilled}
use Rattle.circulant_plan.specs.declared.spot.Spot.TheVariants.{Judge, Over}
use Rattle.circulant_plan.specs.Names.{tally_name}
use Rattle.circulant_plan.specs.Standing.{Standing, standing_at}
use Rattle.circulant_plan.specs.Table.{after_judge, others_of}
use Rattle.graph_table.proofs.FilterLaws.{all_range, all_true, all_weaker, map_same}
use Rattle.body_shape.specs.Tally.{Counted, IsCounted, counted_read}
use Rattle.body_shape.proofs.TallyLaws.{tally_back}
use Rattle.symple_face.specs.declared.action.Action.TheVariants.{Ready}
use Rattle.symple_face.specs.declared.report.Report.{Report}
use Rattle.symple_face.specs.CoreJudge.{all_joined, counted, judge_go, report_after, ruling_by, sums_at, tally_of}
use Rattle.symple_face.specs.CoreSight.{program_of, targets_of, total_count}
use Rattle.symple_face.specs.CoreTakes.{own_partials}
use Rattle.symple_face.specs.CoreWork.{core_go, moved}
use Rattle.symple_face.specs.Ideal.{ideal_count, machines_of}
use Rattle.symple_face.specs.Parts.{PlainPart, chunk_vertices}
use Rattle.symple_face.specs.PartsOf.{part_of}
use Rattle.symple_face.specs.Source.{Source, job_of, stand}
use Rattle.symple_face.specs.State.{State, Sums, action_of, first_missing, waiting_for}
use Rattle.round_laws.specs.FoldJudge.{IsCountedRound, JudgesAndGoesOn}
use Rattle.round_laws.specs.IsIdeal.{HoldsBody, IsIdeal, keys_below, reads_held, ring_held}
use Rattle.round_laws.specs.Partials.{partial_ops}
use Rattle.round_laws.specs.Tallies.{source_count}
use Rattle.round_laws.proofs.FoldCloses.{at_most, begin, no_reads, no_ring, no_words}
use Rattle.round_laws.proofs.FoldScanHeld.{found_holds, ready_one, ready_rest, still_ahead}
use Rattle.round_laws.proofs.Judging.{counts_ideal, judges_as_source}
use Rattle.round_laws.proofs.ReadsTargets.{targets_read}
use Rattle.round_laws.proofs.Tallies.{tallies_summed}

-- ---- readiness
ready_each : (f : ℕ → Name) (ks : List ℕ) (held : List Letter) → waiting_for (first_missing (map f ks) held) ≡ Ready →
    AllByRecursion (λ k. is_some (found (f k) held) ≡ true) ks
ready_each f [] held ready = tt
ready_each f (k ∷ ks) held ready =
    (ready_one (f k) (map f ks) held ready, ready_each f ks held (ready_rest (f k) (map f ks) held ready))

-- ---- what stands after a round of the run follows of its rows
module _ (src : Source) (most round : ℕ) (state : State) (fits : IsCountedRound src most round) where
  abbrev ends : List ℕ
  ends = src.job.graph.ends

  abbrev edges : List Edge
  edges = src.job.graph.edges

  abbrev part : PlainPart
  part = part_of ends src.job.draws edges 0

  abbrev judging : Standing
  judging = record { spot = Judge round; round = round }

  abbrev s : State
  s = record state { part = part; split = src.split; at = judging }

  abbrev rows : List Row
  rows = (stand src (round + 1)).rows

  abbrev own : List ℕ
  own = chunk_vertices ends 0

  pub job_is : src.job ≡ job_of src.split ends src.job.draws edges
  job_is = λ i. record {
    program = sym fits.program i;
    graph = record { vertices = fits.sized i; ends = ends; edges = edges };
    draws = src.job.draws;
  }

  module _ (is : IsIdeal src 0 s) (ready : action_of s ≡ Ready) where
    some_machine : 0 < machines_of src
    some_machine = let some = fits.ends.0 in omega (arith, some)

    -- ---- the sums
    own_counted : counted part src.split state.rows state.reads round ≡ ideal_count src round 0
    own_counted =
        ap (λ l. counted part src.split l state.reads round) is.rows
        ∙ counts_ideal src most 0 round src.split ends src.job.draws edges state.reads job_is fits.ends some_machine
        (ap (λ l. sum (map length l)) (is.reads round refl)
        ∙ targets_read src most 0 round fits.ends fits.sized some_machine)

    tallies_back : (ks : List ℕ) → AllByRecursion (λ k. is_some (found (tally_name round k) state.held) ≡ true) ks →
        AllByRecursion (λ k. IsCounted (2 ^ 64) (total_count src.split) (ideal_count src round k)) ks →
        map (tally_of s round) ks ≡ map (ideal_count src round) ks
    tallies_back [] taken counts = refl
    tallies_back (k ∷ ks) taken counts =
        ap (λ x. x ∷ map (tally_of s round) ks)
        (ap (counted_read (total_count src.split))
        (found_holds (λ l. HoldsBody l.name.kind src judging l) (tally_name round k) state.held is.bodies taken.0)
        ∙ tally_back (total_count src.split) (ideal_count src round k) counts.0)
        ∙ ap (λ l. ideal_count src round k ∷ l) (tallies_back ks taken.1 counts.1)

    sums_are : sums_at s round ≡ source_count src round
    sums_are =
        let others : List ℕ = others_of (machines_of src) 0 in
        ap (λ x. all_joined (program_of src.split).totals.items x (map (tally_of s round) others)) own_counted
        ∙ ap (all_joined (program_of src.split).totals.items (ideal_count src round 0))
        (tallies_back others (ready_each (tally_name round) others state.held ready)
        (all_range (λ k. IsCounted (2 ^ 64) (total_count src.split) (ideal_count src round k)) 1
        (machines_of src - 1 - 0)
        (λ k low high. fits.counted k (omega (arith, low, high)))))
        ∙ ap (λ program. all_joined program.totals.items (ideal_count src round 0)
        (map (ideal_count src round) others)) fits.program
        ∙ tallies_summed src most round fits.typed fits.ends fits.sized fits.rows

    -- ---- the ruling
    pub rules : ruling_by s round (sums_at s round) ≡ (stand src (round + 1)).ruling
    rules =
        ap (ruling_by s round) sums_are
        ∙ judges_as_source s ends src.job.draws 0 round edges rows (source_count src round) refl refl
        (ap (λ (job : Job). active_edges job.graph rows) job_is)
        ∙ ap (λ job. ruling_after job round rows (source_count src round).totals) (sym job_is)
        ∙ sym (ap (λ x. x.ruling) fits.after)

    abbrev sums_of : Counted → Sums
    sums_of sums = record { active = sums.active; edges = sums.edges; totals = sums.totals }

    abbrev stood : Sums
    stood = record {
      active = (stand src (round + 1)).active;
      edges = (stand src (round + 1)).edges;
      totals = (stand src (round + 1)).totals;
    }

    pub judged_is : sums_of (sums_at s round) ≡ stood
    judged_is =
        ap sums_of sums_are
        ∙ sym (ap (λ x. record { active = x.active; edges = x.edges; totals = x.totals }) fits.after)

    -- ---- the report
    abbrev reported : Report
    reported = record {
      round = round;
      ruling = (stand src round).ruling;
      active = (stand src round).active;
      edges = (stand src round).edges;
      reads = (source_count src round).reads;
    }

    report_is : src.base ≤ round → report_after s round ≡ reported
    report_is le =
        let base = fits.base in
        let some : 1 ≤ round = omega (arith, base, le) in
        let knows : nat_le 1 round ≡ true = at_most 1 round some in
        ap (λ b. if b then record {
          round = round;
          ruling = state.ruling;
          active = state.judged.active;
          edges = state.judged.edges;
          reads = (sums_at s round).reads;
        } else state.report) knows
        ∙ (λ i. record {
          round = round;
          ruling = is.ruling knows i;
          active = (is.judged refl some i).active;
          edges = (is.judged refl some i).edges;
          reads = (sums_are i).reads;
        })

    report_of : (r : ℕ) → r + 1 ≡ round + 1 → src.base ≤ r → report_after s round ≡ record {
      round = r;
      ruling = (stand src r).ruling;
      active = (stand src r).active;
      edges = (stand src r).edges;
      reads = (source_count src r).reads;
    }
    report_of r e le =
        let same : r ≡ round = omega (arith, e) in
        report_is (subst (λ k. src.base ≤ k) same le)
        ∙ ap (λ k. record {
          round = k;
          ruling = (stand src k).ruling;
          active = (stand src k).active;
          edges = (stand src k).edges;
          reads = (source_count src k).reads;
        }) (sym same)

    -- ---- where it goes on
    abbrev ruled : Ruling → State
    ruled q = record (judge_go s round) { ruling = q }

    begins : (q : Ruling) → q ≡ (stand src (round + 1)).ruling →
        IsIdeal src 0 (moved (begin src 0 (round + 1)) (ruled q))
    begins q told = record {
      part = refl;
      split = refl;
      rows = is.rows;
      ruling = λ knows. told;
      totals = λ knows. ap (λ x. x.totals) judged_is;
      bodies = tt;
      many = is.many;
      partials = λ v lies.
          subst (λ ws. AreFilled 0 (partial_ops src.split) ws (keys_below src) (own_partials s v))
          (λ i place key. sym (no_words src 0 (round + 1) (stand src (round + 1)).ruling v place key) i)
          (is.partials v lies);
      ring = λ carries. is.ring carries
          ∙ map_same (ring_held src 0 judging) (ring_held src 0 (begin src 0 (round + 1))) own
          (all_true _ (λ v. sym (no_ring src 0 (round + 1) v)) own);
      reading = is.reading
          ∙ map_same (reads_held src 0 judging) (reads_held src 0 (begin src 0 (round + 1))) (targets_of part)
          (all_true _ (λ v. sym (no_reads src 0 (round + 1) v)) (targets_of part));
      reads = is.reads;
      judged = λ zero_machine some. judged_is;
      report = λ r zero_machine e le. report_of r e le;
    }

    abbrev over : Standing
    over = record { spot = Over; round = round + 1 }

    held_on : (k : NameKind) (l : Letter) → HoldsBody k src judging l → HoldsBody k src over l
    held_on kind.Refresh l holds = holds
    held_on kind.Dep l holds = λ late. holds (still_ahead judging over l.name (omega arith) late)
    held_on kind.Update l holds = holds
    held_on kind.Push l (inl empty) = inl empty
    held_on kind.Push l (inr both) = let wrong : true ≡ false = sym both.1 in absurd cc
    held_on kind.Tally l holds = holds
    held_on kind.Verdict l holds = holds

    ends_run : (q : Ruling) → q ≡ (stand src (round + 1)).ruling → IsIdeal src 0 (moved over (ruled q))
    ends_run q told = record {
      part = refl;
      split = refl;
      rows = is.rows;
      ruling = λ knows. told;
      totals = λ knows. ap (λ x. x.totals) judged_is;
      bodies = all_weaker (λ l. HoldsBody l.name.kind src judging l) (λ l. HoldsBody l.name.kind src over l)
          (λ l holds. held_on l.name.kind l holds) state.held is.bodies;
      many = is.many;
      partials = is.partials;
      ring = is.ring;
      reading = is.reading;
      reads = is.reads;
      judged = λ zero_machine some. judged_is;
      report = λ r zero_machine e le. report_of r e le;
    }

    by_ruling : (q : Ruling) → q ≡ (stand src (round + 1)).ruling →
        IsIdeal src 0 (moved (standing_at (round + 1) (after_judge round q)) (ruled q))
    by_ruling ruling.Stop told = ends_run ruling.Stop told
    by_ruling ruling.Dense told = begins ruling.Dense told
    by_ruling ruling.Sparse told = begins ruling.Sparse told

    judges : IsIdeal src 0 (core_go s)
    judges = by_ruling (ruling_by s round (sums_at s round)) rules

pub judges_and_goes_on : JudgesAndGoesOn
judges_and_goes_on src most round state fits is at_judge ready =
    let t : State = s src most round state fits in
    let same : state ≡ t = λ i. record state { part = is.part i; split = is.split i; at = at_judge i } in
    subst (λ x. IsIdeal src 0 (core_go x)) (sym same)
    (judges src most round state fits (subst (IsIdeal src 0) same is) (subst (λ x. action_of x ≡ Ready) same ready))
