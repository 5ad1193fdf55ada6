-- What an event prints, and what is still to come behind it.
use Rattle.std.proofs.Common.{◌≡◌, ◌≢◌, ℕ, ◌+◌, ◌*◌, ◌^◌, ◌<◌, ◌≤◌, true, false, List, [], ◌++◌, length, map, Some, refl, ap, sym, ◌∙◌, subst, arith, ⊎_elim, slice_get}
use Rattle.std.specs.Prelude.{if◌then◌else◌, nat_le, slice_set, sum}
use Rattle.std.proofs.lemmas.Bool.{cases_eq, cases_lt, ne_eqb}
use Rattle.std.proofs.lemmas.Bool.Decides.{nat_tests}
use Rattle.std.proofs.lemmas.Option.{same_Some, slice_get_within}
use Rattle.vert_base.specs.declared.message.Name.{Name}
use Rattle.vert_base.specs.declared.message.Event.{Event}
use Rattle.vert_base.specs.declared.message.Event.TheVariants.{Go, Take}
use Rattle.vert_base.specs.declared.value.Ruling.{Ruling}
use Rattle.vert_base.specs.declared.value.Ruling.TheVariants.{Stop, Dense, Sparse}
use Rattle.vert_base.specs.Letters.{found}
use Rattle.vert_eval.specs.Rounds.{reads_of}
use Rattle.vert_eval.specs.SourceRun.{played_at}
use Rattle.plain_run.specs.Told.{kept_reads, told_played}
use Rattle.symple_words.specs.declared.line.Lines.{Lines}
use Rattle.circulant_plan.specs.declared.spot.Spot.{Spot}
use Rattle.circulant_plan.specs.declared.spot.Spot.TheVariants.{Tell, Judge, Begin, Scan, Close, Over}
use Rattle.circulant_plan.specs.Skeleton.{Skeleton, is_over, ruling_in}
use Rattle.circulant_plan.specs.Standing.{Standing, offset_of, place_of, round_of, standing_at}
use Rattle.circulant_plan.specs.Table.{after_judge}
use Rattle.skeleton_laws.proofs.Lockstep.{offset_at, together, zero_from}
use Rattle.skeleton_laws.proofs.ReachedSettles.{reached}
use Rattle.skeleton_laws.proofs.Settled.{SettledState}
use Rattle.skeleton_laws.proofs.Standings.{got, standing_of}
use Rattle.symple_face.specs.Cluster.{IsOneRun, World, can_act, possible, step}
use Rattle.symple_face.specs.Cluster as cluster
use Rattle.symple_face.specs.CoreSight.{program_of}
use Rattle.symple_face.specs.CoreWork.{core_go, core_work}
use Rattle.symple_face.specs.Parts.{PlainPart}
use Rattle.symple_face.specs.Plans.{blocks_of, ring_of}
use Rattle.symple_face.specs.Source.{Source, scene, stand}
use Rattle.symple_face.specs.State.{State}
use Rattle.work_laws.specs.Sound.{FitsSpot, core_sound}
use Rattle.work_laws.proofs.Whole.{core_lawful}
use Rattle.cluster_run.proofs.SiteLists.{get_one, same, other, set_cases, set_here, set_other}
use Rattle.cluster_run.proofs.Worlds.{it_keeps, it_stands}
use Rattle.round_laws.specs.IsIdeal.{rows_before, rows_round}
use Rattle.round_laws.specs.Tallies.{source_count}
use Rattle.round_laws.proofs.FoldCloses.{at_most}
use Rattle.round_laws.proofs.ReadsCounted.{reads_are_counted}
use Rattle.schedule_laws.specs.Runs.{IsSourceRun}
use Rattle.schedule_laws.proofs.SourceSees.{splits}
use Rattle.schedule_laws.proofs.Stands.{few as few_rounds}
use Rattle.schedule_laws.specs.Layout.{gone_lines, judged_lines, reads_in, round_lines, told_in, vertices_in}
use Rattle.schedule_laws.specs.OutputText.{lines_at}
use Rattle.schedule_laws.specs.Texts.{told_lines}
use Rattle.schedule_laws.proofs.Follows.{Follows, count, few, gone_follows, gone_to, is_judge, judged_next, rounds_stay, took_is, zero_judges, zero_stays}
use Rattle.schedule_laws.proofs.RunLaws.{rest, rest_on}
use Rattle.schedule_laws.proofs.Shown.{HasParts, reads_shown}
use Rattle.state_laws.proofs.Options.{some_of}
use Rattle.cluster_run.proofs.ReachedWorldLaws.{some_site}
use Rattle.state_laws.proofs.Rulings.{judged_on}

not_below : (a b : ℕ) → b < a → nat_le a b ≡ false
not_below a b lt = grind (arith, nat_tests)

-- the round from which on lines are still to come, where machine 0 is in this one
abbrev pub to_come : Source → ℕ → ℕ
to_come src round = if nat_le src.base round then round else src.base

-- who stands at the first place of a round has the rows before it
first_rows : (round : ℕ) (spot : Spot) → offset_of spot ≡ 0 → rows_round round spot ≡ round
first_rows round Tell none = absurd (omega (arith, none))
first_rows round (Judge r) none = absurd (omega (arith, none))
first_rows round (Begin r) none = refl
first_rows round (Scan r step h) none = absurd (omega (arith, none))
first_rows round (Close r dense) none = absurd (omega (arith, none))
first_rows round Over none = refl

judged_rows : (r : ℕ) (a : Ruling) → rows_before (standing_at (r + 1) (after_judge r a)) ≡ r + 1
judged_rows r Stop = refl
judged_rows r Dense = refl
judged_rows r Sparse = refl

judged_offset : (r : ℕ) (a : Ruling) → offset_of (after_judge r a) ≡ 0
judged_offset r Stop = refl
judged_offset r Dense = refl
judged_offset r Sparse = refl

module _ (lines : Lines) (src : Source) (parts : List PlainPart) (one : IsOneRun parts) (run : IsSourceRun src)
    (same_ends : src.job.graph.ends ≡ one.ends) where
  -- machines of the run have its parts
  pub has_parts : (w : World) (k : Skeleton) → Follows src parts w k → HasParts src w
  has_parts w k f = record {
    ends = run.ends;
    sized = run.sized;
    program = run.program;
    count = f.alike.count ∙ count src parts one run same_ends;
    part = λ m s at. (f.machines m s at).ideal.part;
    split = λ m s at. (f.machines m s at).ideal.split;
  }

  module _ (w : World) (k : Skeleton) (f : Follows src parts w k) where
    -- ---- machine 0 judges a round
    module _ (s : State) (at : slice_get w.sites 0 ≡ Some s) (ready : can_act (Some s) ≡ true) (r : ℕ)
        (spot : s.at.spot ≡ Judge r) where
      abbrev k' : Skeleton
      k' = gone_to src parts one run same_ends w k f 0 s at ready

      abbrev w' : World
      w' = cluster.go_at core_work w 0 (Some s)

      pub f' : Follows src parts w' k'
      f' = gone_follows src parts one run same_ends w k f 0 s at ready

      abbrev before : SettledState
      before = reached (ring_of src.split (length parts)) (blocks_of src.split) k f.reached

      abbrev behind : SettledState
      behind = reached (ring_of src.split (length parts)) (blocks_of src.split) k' f'.reached

      low : (j : ℕ) (t : State) → slice_get w'.sites j ≡ Some t → j < length parts
      low j t there =
          (it_keeps core_work core_sound core_lawful src.split parts
          (few src parts one run same_ends) w' k' f'.alike f'.reached j t there).machine

      -- where a machine stands
      stands_before : (j : ℕ) (t : State) → slice_get w.sites j ≡ Some t → j < length parts →
          standing_of k.standings j ≡ t.at
      stands_before j t there lt =
          same_Some (standing_of k.standings j) t.at
          (sym (got k.standings j (let all = before.settled.rules.all_there in omega arith))
          ∙ it_stands core_work core_sound core_lawful src.split parts
          (few src parts one run same_ends) w k f.alike f.reached j t there)

      stands_behind : (j : ℕ) (t : State) → slice_get w'.sites j ≡ Some t → standing_of k'.standings j ≡ t.at
      stands_behind j t there =
          same_Some (standing_of k'.standings j) t.at
          (sym (got k'.standings j
          (let all = behind.settled.rules.all_there in let lt = low j t there in omega arith))
          ∙ it_stands core_work core_sound core_lawful src.split parts
          (few src parts one run same_ends) w' k' f'.alike f'.reached j t there)

      pub there_zero : slice_get w'.sites 0 ≡ Some (core_go s)
      there_zero = set_here w.sites 0 (core_go s) (slice_get_within w.sites 0 s at)

      pub goes_to : (core_go s).at ≡ standing_at (r + 1) (after_judge r (core_work.judge s))
      goes_to = zero_judges src parts one run same_ends w k f 0 s at ready refl r spot

      pub round_is : s.at.round ≡ r
      round_is = (f.alike.machines 0 s at).is_sound.round ∙ ap (round_of s.at.round) spot

      place_before : place_of (standing_of k.standings 0) ≡ 256 * r + 255
      place_before =
          ap place_of (stands_before 0 s at (low 0 (core_go s) there_zero))
          ∙ ap (λ n. 256 * n + offset_of s.at.spot) round_is
          ∙ ap (λ q. 256 * r + offset_of q) spot

      place_behind : place_of (standing_of k'.standings 0) ≡ 256 * (r + 1)
      place_behind =
          ap place_of (stands_behind 0 (core_go s) there_zero ∙ goes_to)
          ∙ ap (λ n. 256 * n + offset_of (after_judge r (core_work.judge s))) (judged_on r (core_work.judge s))
          ∙ ap (λ n. 256 * (r + 1) + n) (judged_offset r (core_work.judge s))
          ∙ (let none : 256 * (r + 1) + 0 ≡ 256 * (r + 1) = omega arith in none)

      -- every machine has the rows behind the round
      pub rows_are : (j : ℕ) (t : State) → slice_get w'.sites j ≡ Some t → r + 1 ≡ rows_before t.at
      rows_are j t there =
          elim (set_cases w.sites 0 (core_go s) j t there) as (λ _. r + 1 ≡ rows_before t.at) [
            | same here now ↦
                sym (judged_rows r (core_work.judge s)) ∙ sym (ap rows_before goes_to)
                ∙ ap (λ (q : State). rows_before q.at) now
            | other apart old ↦ others apart old
          ]
        where
          others : j ≢ 0 → slice_get w.sites j ≡ Some t → r + 1 ≡ rows_before t.at
          others apart old =
              let lt = low j t there in
              let at_before = stands_before j t old lt in
              let at_behind = stands_behind j t there in
              let zero = place_behind in
              let all : 256 * (r + 1) ≤ place_of (standing_of k'.standings j) =
              together behind (r + 1) j (omega arith) lt (omega (arith, zero)) in
              let up : 256 * (r + 1) ≤ place_of t.at = subst (λ q. 256 * (r + 1) ≤ place_of q) at_behind all in
              let not_past : place_of t.at ≤ 256 * (r + 1) =
              ⊎_elim
              (λ (past : 256 * (r + 1) < place_of t.at).
              absurd
              (let was = zero_from before (r + 1) j (omega arith) lt
              (subst (λ q. 256 * (r + 1) < place_of q) (sym at_before) past) in
              let here = place_before in
              omega (arith, was, here)))
              (λ (le : place_of t.at ≤ 256 * (r + 1)). le)
              (cases_lt (256 * (r + 1)) (place_of t.at)) in
              let off : offset_of t.at.spot < 256 =
              subst (λ (q : Standing). offset_of q.spot < 256) at_before (offset_at before j lt) in
              let first : offset_of t.at.spot ≡ 0 = omega (arith, up, not_past, off) in
              let round : t.at.round ≡ r + 1 = omega (arith, up, not_past, off) in
              sym (first_rows t.at.round t.at.spot first ∙ round)

      module _ (some : 1 ≤ r) where
        pub late : src.base ≤ r
        late =
            ⊎_elim (λ (one : src.base ≡ 1). omega (arith, one, some))
            (λ (begun : src.base ≤ s.at.round). omega (arith, begun, round_is)) (f.machines 0 s at).begun

        pub within : r ≤ src.job.program.limit
        within =
            let is = f.alike.machines 0 s at in
            subst (λ p. r ≤ p.limit) (ap program_of is.split_is ∙ run.program)
            (subst (FitsSpot s) spot is.is_sound.spot).1

        pub mode : (stand src r).ruling ≢ Stop
        mode stops =
            let going : is_over s.at.spot ≡ false = ap is_over spot in
            let zero = stands_before 0 s at (low 0 (core_go s) there_zero) in
            let on : is_over (standing_of k.standings 0).spot ≡ false =
            ap (λ (q : Standing). is_over q.spot) zero ∙ going in
            let round : (standing_of k.standings 0).round ≡ r = ap (λ (q : Standing). q.round) zero ∙ round_is in
            let next = judged_next src parts one run same_ends w k f s at in
            before.settled.rules.zero_going on (omega (arith, round, some))
            (ap (ruling_in k.rulings) round ∙ f.rulings r late (omega (arith, next, round_is)) ∙ stops)

        small : r < 2 ^ 31
        small = let limit = few_rounds src run in omega (arith, within, limit)

        told_reads : map (reads_in core_work w') (vertices_in w') ≡
            reads_of src.job.program (stand src r).ruling (scene src r)
        told_reads =
            reads_shown src w' (has_parts w' k' f') r late (splits src run r small)
            (λ j t there. (f'.machines j t there).ideal.reads r (rows_are j t there))

        pub round_behind : r + 1 ≡ (core_go s).at.round
        round_behind = sym (ap (λ (q : Standing). q.round) goes_to ∙ judged_on r (core_work.judge s))

        -- what is told of the round is what the source's run plays
        pub told_is : told_in lines.reads core_work w' (core_work.report (core_go s)) ≡
            told_played lines.reads (played_at src.job r (stand src r))
        told_is =
            let counted : (source_count src r).reads ≡
            sum (map length (reads_of src.job.program (stand src r).ruling (scene src r))) =
            reads_are_counted src 64 r run.ends run.sized late (splits src run r small) in
            ap (told_in lines.reads core_work w')
            ((f'.machines 0 (core_go s) there_zero).ideal.report r refl round_behind late)
            ∙ (λ i. record {
              round = r;
              ruling = (stand src r).ruling;
              active = (stand src r).active;
              edges = (stand src r).edges;
              read = counted i;
              reads = kept_reads lines.reads (told_reads i);
            })

        judge_prints :
            told_lines lines (told_in lines.reads core_work w' (core_work.report (core_go s)))
            ++ rest lines src (to_come src (core_go s).at.round) ≡ rest lines src (to_come src s.at.round)
        judge_prints =
            let here : to_come src s.at.round ≡ r =
            ap (to_come src) round_is ∙ ap (λ b. if b then r else src.base) (at_most src.base r late) in
            let next : to_come src (core_go s).at.round ≡ r + 1 =
            ap (to_come src) (sym round_behind)
            ∙ ap (λ b. if b then r + 1 else src.base) (at_most src.base (r + 1) (omega (arith, late))) in
            ap (λ t. told_lines lines t ++ rest lines src (to_come src (core_go s).at.round)) told_is
            ∙ ap (λ q. told_lines lines (told_played lines.reads (played_at src.job r (stand src r)))
            ++ rest lines src q) next
            ∙ rest_on lines src r late within mode
            ∙ ap (rest lines src) (sym here)

      -- so its lines are those of the source
      pub judge_says : judged_lines core_work lines w s (Judge r) ≡ lines_at lines src (Judge r)
      judge_says =
          let next : step core_work w (Go 0) ≡ w' = ap (cluster.go_at core_work w 0) at in
          ap (λ v. if nat_le 1 r then told_lines lines (told_in lines.reads core_work v (core_go s).report) else [])
          next
          ∙ ⊎_elim
          (λ (none : r < 1).
          ap (λ b. if b then told_lines lines (told_in lines.reads core_work w' (core_go s).report) else [])
          (not_below 1 r none)
          ∙ sym (ap (λ b. if b then told_lines lines (told_played lines.reads (played_at src.job r (stand src r)))
          else []) (not_below 1 r none)))
          (λ (some : 1 ≤ r).
          ap (λ t. if nat_le 1 r then told_lines lines t else []) (told_is some))
          (cases_lt r 1)

      -- before the first round nothing is told
      pub first_prints : r < 1 → to_come src (core_go s).at.round ≡ to_come src s.at.round
      first_prints none =
          let first : src.base ≡ 1 =
          ⊎_elim (λ (one : src.base ≡ 1). one)
          (λ (begun : src.base ≤ s.at.round).
          let base = run.base in omega (arith, begun, round_is, none, base)) (f.machines 0 s at).begun in
          let next : (core_go s).at.round ≡ 1 =
          ap (λ (q : Standing). q.round) goes_to ∙ judged_on r (core_work.judge s)
          ∙ (let e : r + 1 ≡ 1 = omega (arith, none) in e) in
          let here : s.at.round ≡ 0 = omega (arith, round_is, none) in
          ap (to_come src) next
          ∙ ap (λ n. if nat_le n 1 then 1 else n) first
          ∙ sym (ap (to_come src) here ∙ ap (λ n. if nat_le n 0 then 0 else n) first)

      judge_lines :
          judged_lines core_work lines w s (Judge r) ++ rest lines src (to_come src (core_go s).at.round) ≡
          rest lines src (to_come src s.at.round)
      judge_lines =
          let next : step core_work w (Go 0) ≡ w' = ap (cluster.go_at core_work w 0) at in
          ap (λ v. (if nat_le 1 r then told_lines lines (told_in lines.reads core_work v (core_go s).report) else [])
          ++ rest lines src (to_come src (core_go s).at.round)) next
          ∙ ⊎_elim
          (λ (none : r < 1).
          ap (λ b. (if b then told_lines lines (told_in lines.reads core_work w' (core_go s).report) else [])
          ++ rest lines src (to_come src (core_go s).at.round)) (not_below 1 r none)
          ∙ ap (rest lines src) (first_prints none))
          (λ (some : 1 ≤ r).
          ap (λ b. (if b then told_lines lines (told_in lines.reads core_work w' (core_go s).report) else [])
          ++ rest lines src (to_come src (core_go s).at.round)) (at_most 1 r some)
          ∙ judge_prints some)
          (cases_lt r 1)

    -- ---- any event
    still : (s : State) (at : slice_get w.sites 0 ≡ Some s) → can_act (Some s) ≡ true → (q : Spot) →
        s.at.spot ≡ q → is_judge q ≡ false →
        rest lines src (to_come src (core_go s).at.round) ≡ rest lines src (to_come src s.at.round)
    still s at ready q spot none =
        ap (λ n. rest lines src (to_come src n))
        (zero_stays src parts one run same_ends w k f 0 s at ready refl (ap is_judge spot ∙ none))

    -- a go of machine 0
    go_prints : (s : State) (at : slice_get w.sites 0 ≡ Some s) → can_act (Some s) ≡ true → (q : Spot) →
        s.at.spot ≡ q →
        judged_lines core_work lines w s q ++ rest lines src (to_come src (core_go s).at.round) ≡
        rest lines src (to_come src s.at.round)
    go_prints s at ready Tell spot = still s at ready Tell spot refl
    go_prints s at ready (Judge r) spot = judge_lines s at ready r spot
    go_prints s at ready (Begin r) spot = still s at ready (Begin r) spot refl
    go_prints s at ready (Scan r step h) spot = still s at ready (Scan r step h) spot refl
    go_prints s at ready (Close r dense) spot = still s at ready (Close r dense) spot refl
    go_prints s at ready Over spot = still s at ready Over spot refl

    gone_prints : (s : State) → slice_get w.sites 0 ≡ Some s → can_act (Some s) ≡ true →
        gone_lines core_work lines w (slice_get w.sites 0) ++ rest lines src (to_come src (core_go s).at.round) ≡
        rest lines src (to_come src s.at.round)
    gone_prints s at ready =
        ap (λ o. gone_lines core_work lines w o ++ rest lines src (to_come src (core_go s).at.round)) at
        ∙ go_prints s at ready s.at.spot refl

    -- the lines of an event, and then what is still to come behind it
    abbrev pub Prints : Event → Type 0
    Prints e =
        (s t : State) → slice_get w.sites 0 ≡ Some s → slice_get (step core_work w e).sites 0 ≡ Some t →
        possible w e ≡ true →
        round_lines core_work lines w e ++ rest lines src (to_come src t.at.round) ≡
        rest lines src (to_come src s.at.round)

    zero_prints : Prints (Go 0)
    zero_prints s t at there can =
        let went : slice_get (slice_set w.sites 0 (core_go s)) 0 ≡ Some t =
        subst (λ o. slice_get (cluster.go_at core_work w 0 o).sites 0 ≡ Some t) at there in
        let is : core_go s ≡ t =
        get_one (slice_get (slice_set w.sites 0 (core_go s)) 0) (core_go s) t
        (set_here w.sites 0 (core_go s) (slice_get_within w.sites 0 s at)) went in
        ap (λ (q : State). round_lines core_work lines w (Go 0) ++ rest lines src (to_come src q.at.round)) (sym is)
        ∙ gone_prints s at (subst (λ o. can_act o ≡ true) at can)

    other_prints : (m : ℕ) → m ≢ 0 → Prints (Go m)
    other_prints m apart s t at there can =
        let site = some_site (slice_get w.sites m) can in
        let stays : slice_get w.sites 0 ≡ Some t =
        sym (set_other w.sites m 0 (core_go site.0) (λ e. apart (sym e)))
        ∙ subst (λ o. slice_get (cluster.go_at core_work w m o).sites 0 ≡ Some t) site.1 there in
        ap (λ b. (if b then gone_lines core_work lines w (slice_get w.sites 0) else [])
        ++ rest lines src (to_come src t.at.round)) (ne_eqb m 0 apart)
        ∙ ap (λ (q : State). rest lines src (to_come src q.at.round)) (get_one (slice_get w.sites 0) t s stays at)

    take_prints : (x : Name) → Prints (Take x)
    take_prints x s t at there can =
        let l = some_of (found x w.under_way) can in
        let old =
        rounds_stay src parts one run same_ends w k f x l.0 l.1 0 t
        (subst (λ (v : World). slice_get v.sites 0 ≡ Some t)
        (took_is src parts one run same_ends w k f x l.0 l.1) there) in
        ap (λ n. rest lines src (to_come src n))
        (old.2 ∙ ap (λ (q : State). q.at.round) (get_one (slice_get w.sites 0) old.0 s old.1 at))

    pub event_prints : (e : Event) → Prints e
    event_prints (Go m) =
        ⊎_elim (λ (first : m ≡ 0). subst (λ n. Prints (Go n)) (sym first) zero_prints)
        (λ (apart : m ≢ 0). other_prints m apart) (cases_eq m 0)
    event_prints (Take x) = take_prints x
