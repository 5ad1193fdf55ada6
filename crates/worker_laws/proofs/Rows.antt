-- The rows that a machine holds at the end of a run are those that the source's run leaves.
use Rattle.std.proofs.Common.{◌≡◌, ◌≢◌, ℕ, zero, suc, ◌+◌, ◌<◌, ◌≤◌, Bool, true, false, List, [], ◌∷◌, length, map, Some, refl, ap, sym, ◌∙◌, subst, arith, ⊎_elim, slice_get}
use Rattle.std.specs.Prelude.{if◌then◌else◌, slice_set}
use Rattle.std.specs.List.{list_all}
use Rattle.std.proofs.lemmas.Bool.{and_parts, cases_eq, cases_lt, false≢true}
use Rattle.std.proofs.lemmas.Option.{same_Some, slice_get_within}
use Rattle.vert_base.specs.declared.message.Event.{Event}
use Rattle.vert_base.specs.declared.message.Event.TheVariants.{Go, Take}
use Rattle.vert_base.specs.declared.message.Name.{Name}
use Rattle.vert_base.specs.Letters.{found}
use Rattle.vert_eval.specs.Rounds.{row_at}
use Rattle.vert_eval.specs.SourceRun.{Run}
use Rattle.vert_eval.specs.SourceRun as source
use Rattle.circulant_plan.specs.declared.spot.Spot.{Spot}
use Rattle.circulant_plan.specs.declared.spot.Spot.TheVariants.{Tell, Judge, Begin, Scan, Close, Over}
use Rattle.circulant_plan.specs.Skeleton.{Skeleton, is_over}
use Rattle.circulant_plan.specs.Standing.{Standing, place_of}
use Rattle.skeleton_laws.proofs.Lockstep.{fit}
use Rattle.skeleton_laws.proofs.ReachedSettles.{reached}
use Rattle.skeleton_laws.proofs.Settled.{SettledState, over_place}
use Rattle.skeleton_laws.proofs.Standings.{got, standing_of}
use Rattle.symple_face.specs.Cluster.{IsOneRun, World, after, all_possible, can_act, finished, possible, step}
use Rattle.symple_face.specs.Cluster as cluster
use Rattle.symple_face.specs.CoreWork.{core_go, core_work}
use Rattle.symple_face.specs.Parts.{PlainPart, chunk_vertices}
use Rattle.symple_face.specs.Plans.{blocks_of, ring_of}
use Rattle.symple_face.specs.Source.{Source, stand}
use Rattle.symple_face.specs.State.{State}
use Rattle.work_laws.specs.Sound.{core_sound}
use Rattle.work_laws.proofs.Whole.{core_lawful}
use Rattle.cluster_run.proofs.SiteLists.{get_one, set_here, set_other}
use Rattle.cluster_run.proofs.Worlds.{it_keeps, it_stands}
use Rattle.round_laws.specs.IsIdeal.{rows_round}
use Rattle.round_laws.proofs.FoldCloses.{at_most}
use Rattle.schedule_laws.specs.Events.{IsTrue}
use Rattle.schedule_laws.specs.Runs.{IsSourceRun}
use Rattle.schedule_laws.proofs.Follows.{Follows, few, is_judge, rounds_stay, took_is, zero_stays}
use Rattle.schedule_laws.proofs.Printed.{first_prints, late, mode, round_behind, round_is, to_come, within}
use Rattle.schedule_laws.proofs.Printing.{all_pass, late as begun_by, next_follows, over_rows, stops, zero_site}
use Rattle.schedule_laws.proofs.RunLaws.{run_at, run_on, run_over}
use Rattle.schedule_laws.specs.OutputText.{next_by}
use Rattle.cluster_run.proofs.ReachedWorldLaws.{some_site}
use Rattle.state_laws.proofs.Options.{some_of}
use Rattle.schedule_laws.specs.Texts.{no_lines}

-- what stands after the last round, by the round that comes next
abbrev last_at : Source → ℕ → source.Standing
last_at src round = (run_at src round).last

module _ (src : Source) (parts : List PlainPart) (one : IsOneRun parts) (run : IsSourceRun src)
    (same_ends : src.job.graph.ends ≡ one.ends) where
  module _ (w : World) (k : Skeleton) (f : Follows src parts w k) where
    -- ---- machine 0 judges a round
    module _ (s : State) (at : slice_get w.sites 0 ≡ Some s) (ready : can_act (Some s) ≡ true) (r : ℕ)
        (spot : s.at.spot ≡ Judge r) where
      late_round : 1 ≤ r → last_at src (to_come src (core_go s).at.round) ≡ last_at src (to_come src s.at.round)
      late_round some =
          let begun : src.base ≤ r = late no_lines src parts one run same_ends w k f s at ready r spot some in
          let here : to_come src s.at.round ≡ r =
          ap (to_come src) (round_is no_lines src parts one run same_ends w k f s at ready r spot)
          ∙ ap (λ (b : Bool). if b then r else src.base) (at_most src.base r begun) in
          let next : to_come src (core_go s).at.round ≡ r + 1 =
          ap (to_come src) (sym (round_behind no_lines src parts one run same_ends w k f s at ready r spot some))
          ∙ ap (λ (b : Bool). if b then r + 1 else src.base) (at_most src.base (r + 1) (omega (arith, begun))) in
          ap (last_at src) next
          ∙ sym (ap (λ (q : Run). q.last) (run_on src r begun
          (within no_lines src parts one run same_ends w k f s at ready r spot some)
          (mode no_lines src parts one run same_ends w k f s at ready r spot some)))
          ∙ ap (last_at src) (sym here)

      judge_round : last_at src (to_come src (core_go s).at.round) ≡ last_at src (to_come src s.at.round)
      judge_round =
          ⊎_elim
          (λ (none : r < 1).
          ap (last_at src) (first_prints no_lines src parts one run same_ends w k f s at ready r spot none))
          late_round (cases_lt r 1)

    -- ---- any event
    still : (s : State) (at : slice_get w.sites 0 ≡ Some s) → can_act (Some s) ≡ true → (q : Spot) →
        s.at.spot ≡ q → is_judge q ≡ false →
        last_at src (to_come src (core_go s).at.round) ≡ last_at src (to_come src s.at.round)
    still s at ready q spot none =
        ap (λ (n : ℕ). last_at src (to_come src n))
        (zero_stays src parts one run same_ends w k f 0 s at ready refl (ap is_judge spot ∙ none))

    go_keeps : (s : State) (at : slice_get w.sites 0 ≡ Some s) → can_act (Some s) ≡ true → (q : Spot) →
        s.at.spot ≡ q → last_at src (to_come src (core_go s).at.round) ≡ last_at src (to_come src s.at.round)
    go_keeps s at ready Tell spot = still s at ready Tell spot refl
    go_keeps s at ready (Judge r) spot = judge_round s at ready r spot
    go_keeps s at ready (Begin r) spot = still s at ready (Begin r) spot refl
    go_keeps s at ready (Scan r step h) spot = still s at ready (Scan r step h) spot refl
    go_keeps s at ready (Close r dense) spot = still s at ready (Close r dense) spot refl
    go_keeps s at ready Over spot = still s at ready Over spot refl

    abbrev Keeps : Event → Type 0
    Keeps e =
        (s t : State) → slice_get w.sites 0 ≡ Some s → slice_get (step core_work w e).sites 0 ≡ Some t →
        possible w e ≡ true → last_at src (to_come src t.at.round) ≡ last_at src (to_come src s.at.round)

    zero_keeps : Keeps (Go 0)
    zero_keeps s t at there can =
        let went : slice_get (slice_set w.sites 0 (core_go s)) 0 ≡ Some t =
        subst (λ o. slice_get (cluster.go_at core_work w 0 o).sites 0 ≡ Some t) at there in
        let is : core_go s ≡ t =
        get_one (slice_get (slice_set w.sites 0 (core_go s)) 0) (core_go s) t
        (set_here w.sites 0 (core_go s) (slice_get_within w.sites 0 s at)) went in
        ap (λ (q : State). last_at src (to_come src q.at.round)) (sym is)
        ∙ go_keeps s at (subst (λ o. can_act o ≡ true) at can) s.at.spot refl

    other_keeps : (m : ℕ) → m ≢ 0 → Keeps (Go m)
    other_keeps m apart s t at there can =
        let site = some_site (slice_get w.sites m) can in
        let stays : slice_get w.sites 0 ≡ Some t =
        sym (set_other w.sites m 0 (core_go site.0) (λ e. apart (sym e)))
        ∙ subst (λ o. slice_get (cluster.go_at core_work w m o).sites 0 ≡ Some t) site.1 there in
        ap (λ (q : State). last_at src (to_come src q.at.round)) (get_one (slice_get w.sites 0) t s stays at)

    take_keeps : (x : Name) → Keeps (Take x)
    take_keeps x s t at there can =
        let l = some_of (found x w.under_way) can in
        let old =
        rounds_stay src parts one run same_ends w k f x l.0 l.1 0 t
        (subst (λ (v : World). slice_get v.sites 0 ≡ Some t)
        (took_is src parts one run same_ends w k f x l.0 l.1) there) in
        ap (λ (n : ℕ). last_at src (to_come src n))
        (old.2 ∙ ap (λ (q : State). q.at.round) (get_one (slice_get w.sites 0) old.0 s old.1 at))

    event_keeps : (e : Event) → Keeps e
    event_keeps (Go m) =
        ⊎_elim (λ (first : m ≡ 0). subst (λ (n : ℕ). Keeps (Go n)) (sym first) zero_keeps)
        (λ (apart : m ≢ 0). other_keeps m apart) (cases_eq m 0)
    event_keeps (Take x) = take_keeps x

    -- ---- the end
    module _ (ends : finished w ≡ true) where
      last_here : (s : State) → slice_get w.sites 0 ≡ Some s →
          stand src s.at.round ≡ last_at src (to_come src s.at.round)
      last_here s at =
          sym (ap (λ (q : Run). q.last)
          (run_over src s.at.round (stops no_lines src parts one run same_ends w k f ends s at)))
          ∙ ap (last_at src) (sym (ap (λ (b : Bool). if b then s.at.round else src.base)
          (at_most src.base s.at.round (begun_by no_lines src parts one run same_ends w k f ends s at))))

      abbrev state : SettledState
      state = reached (ring_of src.split (length parts)) (blocks_of src.split) k f.reached

      low : (j : ℕ) (t : State) → slice_get w.sites j ≡ Some t → j < length parts
      low j t there =
          (it_keeps core_work core_sound core_lawful src.split parts (few src parts one run same_ends) w k f.alike
          f.reached j t there).machine

      stands : (j : ℕ) (t : State) → slice_get w.sites j ≡ Some t → standing_of k.standings j ≡ t.at
      stands j t there =
          same_Some (standing_of k.standings j) t.at
          (sym (got k.standings j
          (let all = state.settled.rules.all_there in let lt = low j t there in omega arith))
          ∙ it_stands core_work core_sound core_lawful src.split parts (few src parts one run same_ends) w k f.alike
          f.reached j t there)

      over : (j : ℕ) (t : State) → slice_get w.sites j ≡ Some t → is_over t.at.spot ≡ true
      over j t there = all_pass (λ (t : State). is_over t.at.spot) w.sites j t ends there

      not_past : (i j : ℕ) (t u : State) → slice_get w.sites i ≡ Some t → slice_get w.sites j ≡ Some u →
          u.at.round ≤ t.at.round
      not_past i j t u at_i at_j =
          let last =
          (fit state).fits.over_last i j (low i t at_i) (low j u at_j)
          (ap (λ (q : Standing). is_over q.spot) (stands i t at_i) ∙ over i t at_i) in
          let place_i = ap place_of (stands i t at_i) ∙ over_place t.at (over i t at_i) in
          let place_j = ap place_of (stands j u at_j) ∙ over_place u.at (over j u at_j) in
          omega (arith, last, place_i, place_j)

      -- whoever stands as a machine does at the end holds these rows
      rows_here : (s : State) → slice_get w.sites 0 ≡ Some s → (m : ℕ) (t u : State) →
          slice_get w.sites m ≡ Some t → IsTrue src m u → u.at ≡ t.at →
          u.rows ≡ map (row_at (last_at src (to_come src s.at.round)).rows) (chunk_vertices src.job.graph.ends m)
      rows_here s at m t u there truth same =
          let a = not_past 0 m s t at there in
          let b = not_past m 0 t s there at in
          let round : t.at.round ≡ s.at.round = omega arith in
          truth.ideal.rows
          ∙ ap (λ (q : Standing). map (row_at (stand src (rows_round q.round q.spot)).rows)
          (chunk_vertices src.job.graph.ends m)) same
          ∙ ap (λ r. map (row_at (stand src r).rows) (chunk_vertices src.job.graph.ends m))
          (over_rows t.at.round t.at.spot (over m t there) ∙ round)
          ∙ ap (λ (q : source.Standing). map (row_at q.rows) (chunk_vertices src.job.graph.ends m)) (last_here s at)

  module _ (m : ℕ) (t u : State) (truth : IsTrue src m u) (same : u.at ≡ t.at) where
    pub rows_at_end : (es : List Event) (w : World) (k : Skeleton) → Follows src parts w k → (s : State) →
        slice_get w.sites 0 ≡ Some s →
        (all_possible core_work w es ≡ true) × (finished (after core_work w es) ≡ true) →
        slice_get (after core_work w es).sites m ≡ Some t →
        u.rows ≡ map (row_at (last_at src (to_come src s.at.round)).rows) (chunk_vertices src.job.graph.ends m)
    rows_at_end [] w k f s at done there = rows_here w k f done.1 s at m t u there truth same
    rows_at_end (e ∷ es) w k f s at done there =
        let c = and_parts (possible w e) (all_possible core_work (step core_work w e) es) done.0 in
        let next = next_follows src parts one run same_ends w k f e c.0 in
        let z = zero_site no_lines src parts one run same_ends (step core_work w e) (next_by src k e) next in
        rows_at_end es (step core_work w e) (next_by src k e) next z.0 z.1 (c.1, done.1) there
        ∙ ap (λ (q : source.Standing). map (row_at q.rows) (chunk_vertices src.job.graph.ends m))
        (event_keeps w k f e s z.0 at z.1 c.0)
