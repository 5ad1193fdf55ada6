-- The images that cores leave are those of the source's run.
use Rattle.std.proofs.Common.{◌≡◌, ◌≢◌, ℕ, ◌+◌, ◌-◌, ◌<◌, ◌≤◌, Bool, true, false, ◌&&◌, List, [], ◌∷◌, ◌++◌, length, map, Option, Some, None, refl, sym, ap, subst, ◌∙◌, arith, ⊎_elim, slice_get}
use Rattle.std.specs.Prelude.{if◌then◌else◌, nat_le, slice_set}
use Rattle.std.specs.List.{list_all}
use Rattle.std.proofs.lemmas.Bool.{and_parts, cases_eq, cases_lt, ne_eqb}
use Rattle.std.proofs.lemmas.Bool.Decides.{nat_tests}
use Rattle.std.proofs.lemmas.Option.{same_Some, slice_get_within}
use Rattle.vert_base.specs.declared.message.Event.{Event}
use Rattle.vert_base.specs.declared.message.Event.TheVariants.{Go, Take}
use Rattle.vert_base.specs.declared.message.Name.{Name}
use Rattle.vert_base.specs.declared.value.Ruling.{Ruling}
use Rattle.vert_base.specs.declared.value.Ruling.TheVariants.{Stop, Dense, Sparse}
use Rattle.vert_base.specs.Letters.{found}
use Rattle.circulant_plan.specs.declared.spot.Spot.{Spot}
use Rattle.circulant_plan.specs.declared.spot.Spot.TheVariants.{Tell, Judge, Begin, Scan, Close, Over}
use Rattle.circulant_plan.specs.Skeleton.{Blocks, Skeleton, first_skeleton, is_over, may_rule, ruling_in}
use Rattle.circulant_plan.specs.Standing.{Standing, round_of}
use Rattle.skeleton_laws.proofs.ReachedSettles.{reached}
use Rattle.skeleton_laws.proofs.Settled.{SettledState}
use Rattle.skeleton_laws.proofs.Standings.{got, standing_of}
use Rattle.cluster_run.proofs.PartsAt.{parts_some}
use Rattle.cluster_run.proofs.SiteLists.{get_one, map_get, set_here, set_other}
use Rattle.cluster_run.proofs.Worlds.{it_keeps, it_stands}
use Rattle.edge_reader.specs.EdgeList.{Graph}
use Rattle.instrument.specs.declared.split.Split.{Split}
use Rattle.outside.specs.Files.{File}
use Rattle.check_point.specs.Images.{image_bytes}
use Rattle.command_steps.specs.Commands.{image_name}
use Rattle.command_steps.specs.Orders.{Course}
use Rattle.round_laws.proofs.FoldCloses.{at_most}
use Rattle.schedule_laws.specs.Laws.{whole_run}
use Rattle.schedule_laws.specs.Runs.{IsSourceRun}
use Rattle.schedule_laws.specs.Starts.{start_at, start_by, start_told}
use Rattle.schedule_laws.proofs.Follows.{Follows, few, is_judge, judged_next, judges_so, rounds_stay, took_is, zero_judges, zero_stays}
use Rattle.schedule_laws.proofs.Printed.{to_come}
use Rattle.schedule_laws.proofs.Printing.{next_follows}
use Rattle.schedule_laws.proofs.RunLaws.{run_at, run_on, run_over}
use Rattle.schedule_laws.proofs.Shown.{there_at}
use Rattle.schedule_laws.proofs.Starts.{start_is}
use Rattle.schedule_laws.proofs.Whole.{whole_follows, whole_is_a_run}
use Rattle.symple_face.specs.Cluster.{IsOneRun, World, after, all_possible, can_act, finished, first_world, is_complete, possible, step}
use Rattle.symple_face.specs.Cluster as cluster
use Rattle.symple_face.specs.CoreFirst.{core_first}
use Rattle.symple_face.specs.CoreSight.{program_of}
use Rattle.symple_face.specs.CoreWork.{core_go, core_work}
use Rattle.symple_face.specs.Parts.{PlainPart}
use Rattle.symple_face.specs.Plans.{blocks_of, ring_of}
use Rattle.symple_face.specs.Source.{Source, job_of, stand}
use Rattle.symple_face.specs.State.{State}
use Rattle.symple_face.specs.Work.{PlainStart}
use Rattle.work_laws.specs.Sound.{FitsSpot, core_sound}
use Rattle.work_laws.proofs.Whole.{core_lawful}
use Rattle.symple_run.specs.KeptImages.{imaged_from, start_behind, with_image}
use Rattle.machine_runs.specs.PlainPlays.{IsFirstWorld, judges_late, is_late_judge}
use Rattle.symple_run.specs.SourceImages.{files_kept, image_file, images_of, later_rounds}
use Rattle.symple_run.specs.SourceTexts as sources
use Rattle.symple_words.specs.declared.line.Lines.{Lines}
use Rattle.vert_eval.specs.SourceRun.{Job, Played, Run, source_run}
use Rattle.vert_tree.specs.declared.program.Program.{Program}
use Rattle.word_kinds.specs.Fits.{IsFitting}
use Rattle.state_laws.proofs.Options.{some_of}
use Rattle.cluster_run.proofs.ReachedWorldLaws.{some_site}
use Rattle.schedule_laws.specs.OutputText.{next_by}
use Rattle.state_laws.proofs.Rulings.{judged_on}

within_limit : (blocks : Blocks) (round : ℕ) (q : Ruling) → q ≢ Stop → may_rule blocks round q ≡ true →
    nat_le round blocks.limit ≡ true
within_limit blocks round Stop mode may = absurd (mode refl)
within_limit blocks round Dense mode may = (and_parts blocks.dense (nat_le round blocks.limit) may).1
within_limit blocks round Sparse mode may = (and_parts blocks.sparse (nat_le round blocks.limit) may).1

-- what each of a list passes its first element passes
first_passes : (p : State → Bool) (xs : List State) (x : State) → list_all p xs ≡ true → slice_get xs 0 ≡ Some x →
    p x ≡ true
first_passes p [] x all at = cc
first_passes p (y ∷ ys) x all at =
    ap p (sym (same_Some y x at)) ∙ (and_parts (p y) (list_all p ys) all).0

pub not_below : (a b : ℕ) → b < a → nat_le a b ≡ false
not_below a b lt = grind (arith, nat_tests)

is_within : (a b : ℕ) → nat_le a b ≡ true → a ≤ b
is_within a b test = grind (arith, nat_tests)

module _ (key image : List ℕ) where
  -- the file of the image of a start
  abbrev told_files : Option PlainStart → List File
  told_files None = []
  told_files (Some start) =
      record { name = image_name image (start.round - 1); bytes = image_bytes key start } ∷ []

  with_files : (told : Option PlainStart) (rest : Course) →
      files_kept (with_image key image told rest) ≡ told_files told ++ files_kept rest
  with_files None rest = refl
  with_files (Some start) rest = refl

module _ (key image : List ℕ) (split : Split) (parts : List PlainPart) (one : IsOneRun parts)
    (fits : IsFitting split.program.program) where
  abbrev src : Source
  src = whole_run split parts one

  run : IsSourceRun src
  run = whole_is_a_run split parts one fits

  abbrev file : Played → File
  file = image_file key image

  -- the images that are still to come where machine 0 is in this round
  abbrev to_keep : ℕ → List File
  to_keep round = map file (later_rounds (run_at src (to_come src round)).rounds)

  come : (round : ℕ) → 1 ≤ round → to_come src round ≡ round
  come round some = ap (λ b. if b then round else 1) (at_most 1 round some)

  -- where a round takes place, the images behind it are still to come
  keep_on : (r : ℕ) → 1 ≤ r → r ≤ src.job.program.limit → (stand src r).ruling ≢ Stop →
      to_keep r ≡ map file (run_at src (r + 1)).rounds
  keep_on r some within mode =
      ap (λ n. map file (later_rounds (run_at src n).rounds)) (come r some)
      ∙ ap (λ (q : Run). map file (later_rounds q.rounds)) (run_on src r some within mode)

  module _ (w : World) (k : Skeleton) (f : Follows src parts w k) where
    abbrev state : SettledState
    state = reached (ring_of src.split (length parts)) (blocks_of src.split) k f.reached

    low : (j : ℕ) (t : State) → slice_get w.sites j ≡ Some t → j < length parts
    low j t there =
        (it_keeps core_work core_sound core_lawful src.split parts (few src parts one run refl) w k f.alike f.reached
        j t
        there).machine

    stands : (j : ℕ) (t : State) → slice_get w.sites j ≡ Some t → standing_of k.standings j ≡ t.at
    stands j t there =
        same_Some (standing_of k.standings j) t.at
        (sym (got k.standings j
        (let all = state.settled.rules.all_there in let lt = low j t there in omega arith))
        ∙ it_stands core_work core_sound core_lawful src.split parts (few src parts one run refl) w k f.alike
        f.reached j
        t there)

    -- ---- machine 0 judges a round
    module _ (s : State) (at : slice_get w.sites 0 ≡ Some s) (ready : can_act (Some s) ≡ true) (r : ℕ)
        (spot : s.at.spot ≡ Judge r) where
      round_is : s.at.round ≡ r
      round_is = (f.alike.machines 0 s at).is_sound.round ∙ ap (round_of s.at.round) spot

      next_is : (core_go s).at.round ≡ r + 1
      next_is =
          ap (λ (q : Standing). q.round) (zero_judges src parts one run refl w k f 0 s at ready refl r spot)
          ∙ judged_on r (core_work.judge s)

      same_limit : blocks_of s.split ≡ blocks_of src.split
      same_limit = ap blocks_of (f.alike.machines 0 s at).split_is

      module _ (some : 1 ≤ r) where
        within : r ≤ src.job.program.limit
        within =
            subst (λ p. r ≤ p.limit) (ap program_of (f.alike.machines 0 s at).split_is ∙ run.program)
            (subst (FitsSpot s) spot (f.alike.machines 0 s at).is_sound.spot).1

        mode : (stand src r).ruling ≢ Stop
        mode stops =
            let going : is_over s.at.spot ≡ false = ap is_over spot in
            let zero = stands 0 s at in
            let on : is_over (standing_of k.standings 0).spot ≡ false =
            ap (λ (q : Standing). is_over q.spot) zero ∙ going in
            let round : (standing_of k.standings 0).round ≡ r = ap (λ (q : Standing). q.round) zero ∙ round_is in
            let next = judged_next src parts one run refl w k f s at in
            state.settled.rules.zero_going on (omega (arith, round, some))
            (ap (ruling_in k.rulings) round ∙ f.rulings r some (omega (arith, next, round_is)) ∙ stops)

      -- where the next round takes place, its start is told, and the images behind it are still to come
      module _ (some : 1 ≤ r) where
        next_within : (q : Ruling) → (stand src (r + 1)).ruling ≡ q → q ≢ Stop → r + 1 ≤ src.job.program.limit
        next_within q is mode =
            let may = subst (λ (p : Ruling). may_rule (blocks_of s.split) (r + 1) p ≡ true)
            (judges_so src parts one run refl w k f 0 s at ready refl r spot ∙ is) (core_lawful.judge_may s r spot) in
            subst (λ p. r + 1 ≤ p.limit) (ap program_of (f.alike.machines 0 s at).split_is ∙ run.program)
            (is_within (r + 1) (blocks_of s.split).limit (within_limit (blocks_of s.split) (r + 1) q mode may))

        next_on : (q : Ruling) → (stand src (r + 1)).ruling ≡ q → q ≢ Stop →
            told_files key image (Some (start_at src (r + 1))) ++ to_keep (r + 1) ≡ map file (run_at src (r + 1)).rounds
        next_on q is mode =
            let there = next_within q is mode in
            let goes : (stand src (r + 1)).ruling ≢ Stop = λ stops. mode (sym is ∙ stops) in
            ap (λ (fs : List File). told_files key image (Some (start_at src (r + 1))) ++ fs)
            (keep_on (r + 1) (omega arith) there goes)
            ∙ sym (ap (λ (q : Run). map file q.rounds) (run_on src (r + 1) (omega arith) there goes))

        by_next : (q : Ruling) → (stand src (r + 1)).ruling ≡ q →
            told_files key image (start_by q (start_at src (r + 1))) ++ to_keep (r + 1)
            ≡ map file (run_at src (r + 1)).rounds
        by_next Stop is =
            let over = run_over src (r + 1) is in
            ap (λ n. map file (later_rounds (run_at src n).rounds)) (come (r + 1) (omega arith))
            ∙ ap (λ (q : Run). map file (later_rounds q.rounds)) over
            ∙ sym (ap (λ (q : Run). map file q.rounds) over)
        by_next Dense is = next_on Dense is (λ same. cc)
        by_next Sparse is = next_on Sparse is (λ same. cc)

        judge_keeps : told_files key image (start_told core_work (cluster.go_at core_work w 0 (Some s)))
            ++ to_keep (core_go s).at.round ≡ to_keep s.at.round
        judge_keeps =
            ap (λ (o : Option PlainStart). told_files key image o ++ to_keep (core_go s).at.round)
            (start_is src parts one run refl w k f s at ready r spot)
            ∙ ap (λ n. told_files key image (start_by (stand src (r + 1)).ruling (start_at src (r + 1))) ++ to_keep n)
            next_is
            ∙ by_next (stand src (r + 1)).ruling refl
            ∙ sym (keep_on r some (within some) (mode some))
            ∙ ap to_keep (sym round_is)

      judged_keeps : told_files key image
          (if nat_le 1 r then start_told core_work (cluster.go_at core_work w 0 (Some s)) else None)
          ++ to_keep (core_go s).at.round ≡ to_keep s.at.round
      judged_keeps =
          ⊎_elim
          (λ (none : r < 1).
          let first : (core_go s).at.round ≡ 1 = next_is ∙ (let e : r + 1 ≡ 1 = omega (arith, none) in e) in
          let here : s.at.round ≡ 0 = omega (arith, round_is, none) in
          ap (λ b. told_files key image
          (if b then start_told core_work (cluster.go_at core_work w 0 (Some s)) else None)
          ++ to_keep (core_go s).at.round) (not_below 1 r none)
          ∙ ap to_keep first ∙ sym (ap to_keep here))
          (λ (some : 1 ≤ r).
          ap (λ b. told_files key image
          (if b then start_told core_work (cluster.go_at core_work w 0 (Some s)) else None)
          ++ to_keep (core_go s).at.round) (at_most 1 r some)
          ∙ judge_keeps some)
          (cases_lt r 1)

    -- ---- any event
    module _ (s : State) (at : slice_get w.sites 0 ≡ Some s) where
      still : can_act (Some s) ≡ true → (q : Spot) → s.at.spot ≡ q → is_judge q ≡ false →
          to_keep (core_go s).at.round ≡ to_keep s.at.round
      still ready q spot none =
          ap to_keep (zero_stays src parts one run refl w k f 0 s at ready refl (ap is_judge spot ∙ none))

      go_keeps : can_act (Some s) ≡ true → (q : Spot) → s.at.spot ≡ q →
          told_files key image
          (if is_late_judge q then start_told core_work (cluster.go_at core_work w 0 (Some s)) else None)
          ++ to_keep (core_go s).at.round ≡ to_keep s.at.round
      go_keeps ready Tell spot = still ready Tell spot refl
      go_keeps ready (Judge r) spot = judged_keeps s at ready r spot
      go_keeps ready (Begin r) spot = still ready (Begin r) spot refl
      go_keeps ready (Scan r step h) spot = still ready (Scan r step h) spot refl
      go_keeps ready (Close r dense) spot = still ready (Close r dense) spot refl
      go_keeps ready Over spot = still ready Over spot refl

    -- the image of an event, and then what is still to come behind it
    abbrev KeepsOn : Event → Type 0
    KeepsOn e =
        (s t : State) → slice_get w.sites 0 ≡ Some s → slice_get (step core_work w e).sites 0 ≡ Some t →
        possible w e ≡ true →
        told_files key image (start_behind core_work w e) ++ to_keep t.at.round ≡ to_keep s.at.round

    zero_keeps : KeepsOn (Go 0)
    zero_keeps s t at there can =
        let went : slice_get (slice_set w.sites 0 (core_go s)) 0 ≡ Some t =
        subst (λ o. slice_get (cluster.go_at core_work w 0 o).sites 0 ≡ Some t) at there in
        let is : core_go s ≡ t =
        get_one (slice_get (slice_set w.sites 0 (core_go s)) 0) (core_go s) t
        (set_here w.sites 0 (core_go s) (slice_get_within w.sites 0 s at)) went in
        ap (λ (q : State). told_files key image (start_behind core_work w (Go 0)) ++ to_keep q.at.round) (sym is)
        ∙ ap (λ o. told_files key image
        (if judges_late o then start_told core_work (cluster.go_at core_work w 0 o) else None)
        ++ to_keep (core_go s).at.round) at
        ∙ go_keeps s at (subst (λ o. can_act o ≡ true) at can) s.at.spot refl

    other_keeps : (m : ℕ) → m ≢ 0 → KeepsOn (Go m)
    other_keeps m apart s t at there can =
        let site = some_site (slice_get w.sites m) can in
        let stays : slice_get w.sites 0 ≡ Some t =
        sym (set_other w.sites m 0 (core_go site.0) (λ e. apart (sym e)))
        ∙ subst (λ o. slice_get (cluster.go_at core_work w m o).sites 0 ≡ Some t) site.1 there in
        ap (λ b. told_files key image (if b && judges_late (slice_get w.sites 0)
        then start_told core_work (step core_work w (Go m)) else None) ++ to_keep t.at.round) (ne_eqb m 0 apart)
        ∙ ap (λ (q : State). to_keep q.at.round) (get_one (slice_get w.sites 0) t s stays at)

    take_keeps : (x : Name) → KeepsOn (Take x)
    take_keeps x s t at there can =
        let l = some_of (found x w.under_way) can in
        let old =
        rounds_stay src parts one run refl w k f x l.0 l.1 0 t
        (subst (λ (v : World). slice_get v.sites 0 ≡ Some t) (took_is src parts one run refl w k f x l.0 l.1) there) in
        ap to_keep
        (old.2 ∙ ap (λ (q : State). q.at.round) (get_one (slice_get w.sites 0) old.0 s old.1 at))

    event_keeps : (e : Event) → KeepsOn e
    event_keeps (Go m) =
        ⊎_elim (λ (first : m ≡ 0). subst (λ n. KeepsOn (Go n)) (sym first) zero_keeps)
        (λ (apart : m ≢ 0). other_keeps m apart) (cases_eq m 0)
    event_keeps (Take x) = take_keeps x

    -- ---- the end
    module _ (ends : finished w ≡ true) (s : State) (at : slice_get w.sites 0 ≡ Some s) where
      over : is_over s.at.spot ≡ true
      over = first_passes (λ (t : State). is_over t.at.spot) w.sites s ends at

      stops : (stand src s.at.round).ruling ≡ Stop
      stops =
          let next = judged_next src parts one run refl w k f s at in
          let zero = stands 0 s at in
          sym (f.rulings s.at.round (f.late s at over) (omega (arith, next)))
          ∙ ap (ruling_in k.rulings) (sym (ap (λ (q : Standing). q.round) zero))
          ∙ state.settled.rules.zero_over (ap (λ (q : Standing). is_over q.spot) zero ∙ over)

      none_left : [] ≡ to_keep s.at.round
      none_left = sym
          (ap (λ n. map file (later_rounds (run_at src n).rounds)) (come s.at.round (f.late s at over))
          ∙ ap (λ (q : Run). map file (later_rounds q.rounds)) (run_over src s.at.round stops))

  -- ---- all events
  zero_site : (w : World) (k : Skeleton) → Follows src parts w k → (s : State) × (slice_get w.sites 0 ≡ Some s)
  zero_site w k f =
      let some = parts_some parts one in
      let many = f.alike.count in
      there_at w.sites 0 (omega (arith, some, many))

  module _ (lines : Lines) where
    all_keep : (w : World) (k : Skeleton) → Follows src parts w k → (s : State) → slice_get w.sites 0 ≡ Some s →
        (es : List Event) → all_possible core_work w es ≡ true → finished (after core_work w es) ≡ true →
        files_kept (imaged_from core_work lines key image w es) ≡ to_keep s.at.round
    all_keep w k f s at [] can ends = none_left w k f ends s at
    all_keep w k f s at (e ∷ es) can ends =
        let c = and_parts (possible w e) (all_possible core_work (step core_work w e) es) can in
        let next = next_follows src parts one run refl w k f e c.0 in
        let t = zero_site (step core_work w e) (next_by src k e) next in
        with_files key image (start_behind core_work w e) (imaged_from core_work lines key image (step core_work w
        e) es)
        ∙ ap (λ (fs : List File). told_files key image (start_behind core_work w e) ++ fs)
        (all_keep (step core_work w e) (next_by src k e) next t.0 t.1 es c.1 ends)
        ∙ event_keeps w k f e s t.0 at t.1 c.0

  first_keep : (lines : Lines) (es : List Event) →
      is_complete core_work (first_world core_work split parts) es ≡ true →
      files_kept (imaged_from core_work lines key image (first_world core_work split parts) es)
      ≡ images_of key image (source_run src.job)
  first_keep lines es complete =
      let w : World = first_world core_work split parts in
      let both = and_parts (all_possible core_work w es) (finished (after core_work w es)) complete in
      let part = there_at parts 0 (let some = parts_some parts one in omega (arith, some)) in
      all_keep lines w (first_skeleton (length parts)) (whole_follows split parts one fits) (core_first part.0 split)
      (map_get (λ part. core_first part split) parts 0 part.0 part.1) es both.0 both.1

module _ (lines : Lines) (key image : List ℕ) (program : Program) (graph : Graph) (machines draws : ℕ)
    (v : World) (first : IsFirstWorld core_work program graph machines draws v) where
  pub images_told : job_of first.split first.of_graph.one.ends first.of_graph.one.draws first.of_graph.one.edges
      ≡ sources.job_of machines draws program graph → (es : List Event) → is_complete core_work v es ≡ true →
      files_kept (imaged_from core_work lines key image v es) ≡ images_of key image (source_run (sources.job_of
      machines draws program graph))
  images_told same es complete =
      ap (λ (u : World). files_kept (imaged_from core_work lines key image u es)) first.here
      ∙ first_keep key image first.split first.parts first.of_graph.one first.fits lines es
      (subst (λ (u : World). is_complete core_work u es ≡ true) first.here complete)
      ∙ ap (λ (job : Job). images_of key image (source_run job)) same
