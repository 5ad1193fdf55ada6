-- The rounds that the events of a complete run end are those of the source's run, and so is the table.
use Rattle.std.proofs.Common.{◌≡◌, ◌≢◌, ℕ, ◌+◌, ◌<◌, ◌≤◌, Bool, true, false, List, [], ◌∷◌, ◌++◌, length, Some, refl, ap, sym, ◌∙◌, subst, arith, ⊎_elim, slice_get}
use Rattle.std.specs.Prelude.{if◌then◌else◌, nat_le, slice_set}
use Rattle.std.proofs.lemmas.Bool.{and_parts, cases_eq, cases_lt, ne_eqb}
use Rattle.std.proofs.lemmas.Bool.Decides.{nat_tests}
use Rattle.std.proofs.lemmas.Option.{slice_get_within}
use Rattle.vert_base.specs.declared.message.Event.{Event}
use Rattle.vert_base.specs.declared.message.Event.TheVariants.{Go, Take}
use Rattle.vert_base.specs.declared.message.Name.{Name}
use Rattle.vert_base.specs.declared.value.Ruling.TheVariants.{Stop}
use Rattle.vert_base.specs.Letters.{found}
use Rattle.vert_eval.specs.SourceRun.{played_at}
use Rattle.plain_run.specs.Told.{Told, rounds_told, told_played}
use Rattle.symple_words.specs.declared.line.Lines.{Lines}
use Rattle.circulant_plan.specs.declared.spot.Spot.{Spot}
use Rattle.circulant_plan.specs.declared.spot.Spot.TheVariants.{Tell, Judge, Begin, Scan, Close, Over}
use Rattle.circulant_plan.specs.Skeleton.{Skeleton, first_skeleton}
use Rattle.symple_face.specs.Cluster.{IsOneRun, World, after, all_possible, can_act, finished, first_world, is_complete, possible, step}
use Rattle.symple_face.specs.Cluster as cluster
use Rattle.symple_face.specs.CoreWork.{core_go, core_work}
use Rattle.symple_face.specs.Parts.{PlainPart}
use Rattle.symple_face.specs.Source.{Source, stand}
use Rattle.symple_face.specs.State.{State}
use Rattle.cluster_run.proofs.SiteLists.{get_one, set_here, set_other}
use Rattle.round_laws.proofs.FoldCloses.{at_most}
use Rattle.schedule_laws.specs.Laws.{EveryRoundIsTold, EveryTableIsTold, whole_run}
use Rattle.schedule_laws.specs.Layout.{told_in}
use Rattle.schedule_laws.specs.OutputText.{next_by}
use Rattle.schedule_laws.specs.Runs.{IsSourceRun}
use Rattle.schedule_laws.specs.ToldRounds.{gone_round, judged_round, round_ended, rounds_ended}
use Rattle.schedule_laws.proofs.Follows.{Follows, is_judge, rounds_stay, took_is, zero_stays}
use Rattle.schedule_laws.proofs.Printed.{first_prints, late, mode, round_behind, round_is, to_come, told_is, within}
use Rattle.schedule_laws.proofs.Printing.{late as begun_by, next_follows, stops, zero_site}
use Rattle.schedule_laws.proofs.RunLaws.{run_at, run_on, run_over}
use Rattle.schedule_laws.proofs.Saying.{first_run, table_says}
use Rattle.schedule_laws.proofs.Whole.{first_site, whole_follows, whole_is_a_run}
use Rattle.state_laws.proofs.Options.{some_of}
use Rattle.cluster_run.proofs.ReachedWorldLaws.{some_site}
use Rattle.schedule_laws.specs.Texts.{no_lines}

abbrev keeps : Bool → Lines
keeps kept = record { rounds = false; reads = kept; log = false }

-- the rounds from one on, as they are told
abbrev come : Bool → Source → ℕ → List Told
come kept src round = rounds_told kept (run_at src round)

come_on : (kept : Bool) (src : Source) (round : ℕ) → src.base ≤ round → round ≤ src.job.program.limit →
    (stand src round).ruling ≢ Stop →
    told_played kept (played_at src.job round (stand src round)) ∷ come kept src (round + 1) ≡ come kept src round
come_on kept src round base within mode = sym (ap (rounds_told kept) (run_on src round base within mode))

come_over : (kept : Bool) (src : Source) (round : ℕ) → (stand src round).ruling ≡ Stop → come kept src round ≡ []
come_over kept src round stops = ap (rounds_told kept) (run_over src round stops)

under : (r : ℕ) → r < 1 → nat_le 1 r ≡ false
under r lt = grind (arith, nat_tests)

module _ (kept : Bool) (src : Source) (parts : List PlainPart) (one : IsOneRun parts) (run : IsSourceRun src)
    (same_ends : src.job.graph.ends ≡ one.ends) where
  module _ (w : World) (k : Skeleton) (f : Follows src parts w k) where
    -- ---- machine 0 judges a round
    module _ (s : State) (at : slice_get w.sites 0 ≡ Some s) (ready : can_act (Some s) ≡ true) (r : ℕ)
        (spot : s.at.spot ≡ Judge r) where
      abbrev w' : World
      w' = cluster.go_at core_work w 0 (Some s)

      late_round : 1 ≤ r →
          told_in kept core_work w' (core_work.report (core_go s)) ∷ come kept src (to_come src (core_go s).at.round)
          ≡ come kept src (to_come src s.at.round)
      late_round some =
          let begun : src.base ≤ r = late (keeps kept) src parts one run same_ends w k f s at ready r spot some in
          let here : to_come src s.at.round ≡ r =
          ap (to_come src) (round_is (keeps kept) src parts one run same_ends w k f s at ready r spot)
          ∙ ap (λ (b : Bool). if b then r else src.base) (at_most src.base r begun) in
          let next : to_come src (core_go s).at.round ≡ r + 1 =
          ap (to_come src) (sym (round_behind (keeps kept) src parts one run same_ends w k f s at ready r spot some))
          ∙ ap (λ (b : Bool). if b then r + 1 else src.base) (at_most src.base (r + 1) (omega (arith, begun))) in
          ap (λ (t : Told). t ∷ come kept src (to_come src (core_go s).at.round))
          (told_is (keeps kept) src parts one run same_ends w k f s at ready r spot some)
          ∙ ap (λ (q : ℕ). told_played kept (played_at src.job r (stand src r)) ∷ come kept src q) next
          ∙ come_on kept src r begun (within (keeps kept) src parts one run same_ends w k f s at ready r spot some)
          (mode (keeps kept) src parts one run same_ends w k f s at ready r spot some)
          ∙ ap (come kept src) (sym here)

      judge_round :
          judged_round kept core_work w s (Judge r) ++ come kept src (to_come src (core_go s).at.round)
          ≡ come kept src (to_come src s.at.round)
      judge_round =
          let next : step core_work w (Go 0) ≡ w' = ap (cluster.go_at core_work w 0) at in
          ap (λ (v : World). (if nat_le 1 r then told_in kept core_work v (core_go s).report ∷ [] else [])
          ++ come kept src (to_come src (core_go s).at.round)) next
          ∙ ⊎_elim
          (λ (none : r < 1).
          ap (λ (b : Bool). (if b then told_in kept core_work w' (core_go s).report ∷ [] else [])
          ++ come kept src (to_come src (core_go s).at.round)) (under r none)
          ∙ ap (come kept src) (first_prints (keeps kept) src parts one run same_ends w k f s at ready r spot none))
          (λ (some : 1 ≤ r).
          ap (λ (b : Bool). (if b then told_in kept core_work w' (core_go s).report ∷ [] else [])
          ++ come kept src (to_come src (core_go s).at.round)) (at_most 1 r some)
          ∙ late_round some)
          (cases_lt r 1)

    -- ---- any event
    still : (s : State) (at : slice_get w.sites 0 ≡ Some s) → can_act (Some s) ≡ true → (q : Spot) →
        s.at.spot ≡ q → is_judge q ≡ false →
        come kept src (to_come src (core_go s).at.round) ≡ come kept src (to_come src s.at.round)
    still s at ready q spot none =
        ap (λ (n : ℕ). come kept src (to_come src n))
        (zero_stays src parts one run same_ends w k f 0 s at ready refl (ap is_judge spot ∙ none))

    go_tells : (s : State) (at : slice_get w.sites 0 ≡ Some s) → can_act (Some s) ≡ true → (q : Spot) →
        s.at.spot ≡ q →
        judged_round kept core_work w s q ++ come kept src (to_come src (core_go s).at.round)
        ≡ come kept src (to_come src s.at.round)
    go_tells s at ready Tell spot = still s at ready Tell spot refl
    go_tells s at ready (Judge r) spot = judge_round s at ready r spot
    go_tells s at ready (Begin r) spot = still s at ready (Begin r) spot refl
    go_tells s at ready (Scan r step h) spot = still s at ready (Scan r step h) spot refl
    go_tells s at ready (Close r dense) spot = still s at ready (Close r dense) spot refl
    go_tells s at ready Over spot = still s at ready Over spot refl

    -- the round that an event ends, and then those that are still to come behind it
    abbrev Tells : Event → Type 0
    Tells e =
        (s t : State) → slice_get w.sites 0 ≡ Some s → slice_get (step core_work w e).sites 0 ≡ Some t →
        possible w e ≡ true →
        round_ended kept core_work w e ++ come kept src (to_come src t.at.round)
        ≡ come kept src (to_come src s.at.round)

    zero_tells : Tells (Go 0)
    zero_tells s t at there can =
        let went : slice_get (slice_set w.sites 0 (core_go s)) 0 ≡ Some t =
        subst (λ o. slice_get (cluster.go_at core_work w 0 o).sites 0 ≡ Some t) at there in
        let is : core_go s ≡ t =
        get_one (slice_get (slice_set w.sites 0 (core_go s)) 0) (core_go s) t
        (set_here w.sites 0 (core_go s) (slice_get_within w.sites 0 s at)) went in
        ap (λ (q : State). round_ended kept core_work w (Go 0) ++ come kept src (to_come src q.at.round)) (sym is)
        ∙ ap (λ o. gone_round kept core_work w o ++ come kept src (to_come src (core_go s).at.round)) at
        ∙ go_tells s at (subst (λ o. can_act o ≡ true) at can) s.at.spot refl

    other_tells : (m : ℕ) → m ≢ 0 → Tells (Go m)
    other_tells m apart s t at there can =
        let site = some_site (slice_get w.sites m) can in
        let stays : slice_get w.sites 0 ≡ Some t =
        sym (set_other w.sites m 0 (core_go site.0) (λ e. apart (sym e)))
        ∙ subst (λ o. slice_get (cluster.go_at core_work w m o).sites 0 ≡ Some t) site.1 there in
        ap (λ (b : Bool). (if b then gone_round kept core_work w (slice_get w.sites 0) else [])
        ++ come kept src (to_come src t.at.round)) (ne_eqb m 0 apart)
        ∙ ap (λ (q : State). come kept src (to_come src q.at.round)) (get_one (slice_get w.sites 0) t s stays at)

    take_tells : (x : Name) → Tells (Take x)
    take_tells x s t at there can =
        let l = some_of (found x w.under_way) can in
        let old =
        rounds_stay src parts one run same_ends w k f x l.0 l.1 0 t
        (subst (λ (v : World). slice_get v.sites 0 ≡ Some t)
        (took_is src parts one run same_ends w k f x l.0 l.1) there) in
        ap (λ (n : ℕ). come kept src (to_come src n))
        (old.2 ∙ ap (λ (q : State). q.at.round) (get_one (slice_get w.sites 0) old.0 s old.1 at))

    event_tells : (e : Event) → Tells e
    event_tells (Go m) =
        ⊎_elim (λ (first : m ≡ 0). subst (λ (n : ℕ). Tells (Go n)) (sym first) zero_tells)
        (λ (apart : m ≢ 0). other_tells m apart) (cases_eq m 0)
    event_tells (Take x) = take_tells x

    none_left : finished w ≡ true → (s : State) → slice_get w.sites 0 ≡ Some s →
        [] ≡ come kept src (to_come src s.at.round)
    none_left ends s at =
        sym (come_over kept src s.at.round (stops (keeps kept) src parts one run same_ends w k f ends s at))
        ∙ ap (come kept src) (sym (ap (λ (b : Bool). if b then s.at.round else src.base)
        (at_most src.base s.at.round (begun_by (keeps kept) src parts one run same_ends w k f ends s at))))

  all_tell : (w : World) (k : Skeleton) → Follows src parts w k → (s : State) → slice_get w.sites 0 ≡ Some s →
      (es : List Event) → all_possible core_work w es ≡ true → finished (after core_work w es) ≡ true →
      rounds_ended kept core_work w es ≡ come kept src (to_come src s.at.round)
  all_tell w k f s at [] can ends = none_left w k f ends s at
  all_tell w k f s at (e ∷ es) can ends =
      let c = and_parts (possible w e) (all_possible core_work (step core_work w e) es) can in
      let next = next_follows src parts one run same_ends w k f e c.0 in
      let t = zero_site (keeps kept) src parts one run same_ends (step core_work w e) (next_by src k e) next in
      ap (λ (rest : List Told). round_ended kept core_work w e ++ rest)
      (all_tell (step core_work w e) (next_by src k e) next t.0 t.1 es c.1 ends)
      ∙ event_tells w k f e s t.0 at t.1 c.0

pub every_round_is_told : EveryRoundIsTold
every_round_is_told kept split parts one es fits complete =
    let src : Source = whole_run split parts one in
    let w : World = first_world core_work split parts in
    let c = and_parts (all_possible core_work w es) (finished (after core_work w es)) complete in
    let site = first_site split parts one fits in
    all_tell kept src parts one (whole_is_a_run split parts one fits) refl w (first_skeleton (length parts))
    (whole_follows split parts one fits) site.0 site.1 es c.0 c.1
    ∙ ap (come kept src) (ap (λ (n : ℕ). if nat_le 1 n then n else 1) site.2)
    ∙ ap (rounds_told kept) (first_run src)

pub every_table_is_told : EveryTableIsTold
every_table_is_told split parts one es fits complete =
    let site = first_site split parts one fits in
    table_says no_lines (whole_run split parts one) parts one (whole_is_a_run split parts one fits) refl
    (first_world core_work split parts) (first_skeleton (length parts)) (whole_follows split parts one fits) site.0
    site.1
    (ap (λ (n : ℕ). if nat_le 1 n then n else 1) site.2) es complete
