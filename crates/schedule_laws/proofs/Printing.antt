-- What a list of events prints, and then the table.
use Rattle.std.proofs.Common.{◌≡◌, ℕ, zero, suc, ◌^◌, ◌<◌, ◌≤◌, Bool, true, false, List, [], ◌∷◌, ◌++◌, length, map, Some, refl, ap, sym, ◌∙◌, subst, arith, ⊎_elim, slice_get}
use Rattle.std.specs.Prelude.{if◌then◌else◌}
use Rattle.std.specs.List.{list_all}
use Rattle.std.proofs.lemmas.Bool.{and_parts, false≢true}
use Rattle.std.proofs.lemmas.List.{append_assoc}
use Rattle.std.proofs.lemmas.Option.{same_Some}
use Rattle.vert_base.specs.declared.message.Event.{Event}
use Rattle.vert_base.specs.declared.message.Event.TheVariants.{Go, Take}
use Rattle.vert_base.specs.declared.value.Ruling.TheVariants.{Stop}
use Rattle.vert_base.specs.Letters.{found}
use Rattle.vert_eval.specs.Rounds.{row_at}
use Rattle.symple_words.specs.declared.line.Lines.{Lines}
use Rattle.array_text.specs.Events.{event_line}
use Rattle.circulant_plan.specs.declared.spot.Spot.{Spot}
use Rattle.circulant_plan.specs.declared.spot.Spot.TheVariants.{Tell, Judge, Begin, Scan, Close, Over}
use Rattle.circulant_plan.specs.Skeleton.{Skeleton, is_over, ruling_in}
use Rattle.circulant_plan.specs.Standing.{Standing, place_of}
use Rattle.skeleton_laws.proofs.Lockstep.{fit}
use Rattle.skeleton_laws.proofs.ReachedSettles.{reached}
use Rattle.skeleton_laws.proofs.Settled.{SettledState, over_place}
use Rattle.skeleton_laws.proofs.Standings.{got, standing_of}
use Rattle.symple_face.specs.Cluster.{IsOneRun, World, after, all_possible, finished, possible, step}
use Rattle.symple_face.specs.Cluster as cluster
use Rattle.symple_face.specs.CoreWork.{core_work}
use Rattle.symple_face.specs.Parts.{PlainPart, chunk_vertices}
use Rattle.symple_face.specs.Plans.{blocks_of, ring_of}
use Rattle.symple_face.specs.Source.{Source, stand}
use Rattle.symple_face.specs.State.{State}
use Rattle.work_laws.specs.Sound.{core_sound}
use Rattle.work_laws.proofs.Whole.{core_lawful}
use Rattle.cluster_run.proofs.PartsAt.{parts_some}
use Rattle.cluster_run.proofs.Worlds.{it_keeps, it_stands}
use Rattle.round_laws.specs.IsIdeal.{rows_round}
use Rattle.round_laws.proofs.FoldCloses.{at_most}
use Rattle.schedule_laws.specs.Runs.{IsSourceRun}
use Rattle.schedule_laws.proofs.Stands.{few as few_rounds, stands_in_words}
use Rattle.schedule_laws.specs.Layout.{lines_of, round_lines, table_of, taken_in}
use Rattle.schedule_laws.specs.OutputText.{next_by}
use Rattle.schedule_laws.proofs.Follows.{Follows, few, gone_follows, gone_is, gone_to, judged_next, took_follows, took_is, took_to}
use Rattle.schedule_laws.proofs.Printed.{event_prints, has_parts, to_come}
use Rattle.schedule_laws.proofs.RunLaws.{rest, rest_over}
use Rattle.schedule_laws.proofs.Shown.{table_shown, there_at}
use Rattle.state_laws.proofs.Options.{some_of}
use Rattle.cluster_run.proofs.ReachedWorldLaws.{some_site}

-- what each of a list passes its element at a place passes
pub all_pass : {X : Type 0} → (p : X → Bool) (xs : List X) (m : ℕ) (x : X) → list_all p xs ≡ true →
    slice_get xs m ≡ Some x → p x ≡ true
all_pass p [] m x all at = cc
all_pass p (y ∷ ys) zero x all at =
    let same : y ≡ x = cc in
    ap p (sym same) ∙ (and_parts (p y) (list_all p ys) all).0
all_pass p (y ∷ ys) (suc m) x all at = all_pass p ys m x (and_parts (p y) (list_all p ys) all).1 at

-- at the end the own rows are those before the round that doesn't take place
pub over_rows : (round : ℕ) (spot : Spot) → is_over spot ≡ true → rows_round round spot ≡ round
over_rows round Tell over = absurd (false≢true over)
over_rows round (Judge r) over = absurd (false≢true over)
over_rows round (Begin r) over = absurd (false≢true over)
over_rows round (Scan r step h) over = absurd (false≢true over)
over_rows round (Close r dense) over = absurd (false≢true over)
over_rows round Over over = refl

module _ (src : Source) (parts : List PlainPart) (one : IsOneRun parts) (run : IsSourceRun src)
    (same_ends : src.job.graph.ends ≡ one.ends) where
  -- the world behind an event goes with the source's run
  pub next_follows : (w : World) (k : Skeleton) → Follows src parts w k → (e : Event) → possible w e ≡ true →
      Follows src parts (step core_work w e) (next_by src k e)
  next_follows w k f (Go m) can =
      let site = some_site (slice_get w.sites m) can in
      let ready = subst (λ o. cluster.can_act o ≡ true) site.1 can in
      subst (Follows src parts (step core_work w (Go m)))
      (sym (gone_is src parts one run same_ends w k f m site.0 site.1 ready))
      (subst
      (λ o. Follows src parts (cluster.go_at core_work w m o)
      (gone_to src parts one run same_ends w k f m site.0 site.1 ready)) (sym site.1)
      (gone_follows src parts one run same_ends w k f m site.0 site.1 ready))
  next_follows w k f (Take x) can =
      let l = some_of (found x w.under_way) can in
      subst (λ v. Follows src parts v (took_to src parts one run same_ends w k f x l.0 l.1))
      (sym (took_is src parts one run same_ends w k f x l.0 l.1))
      (took_follows src parts one run same_ends w k f x l.0 l.1)

  pub all_follow : (w : World) (k : Skeleton) → Follows src parts w k → (es : List Event) →
      all_possible core_work w es ≡ true → (k' : Skeleton) × Follows src parts (after core_work w es) k'
  all_follow w k f [] can = (k, f)
  all_follow w k f (e ∷ es) can =
      let c = and_parts (possible w e) (all_possible core_work (step core_work w e) es) can in
      all_follow (step core_work w e) (next_by src k e) (next_follows w k f e c.0) es c.1

module _ (lines : Lines) (src : Source) (parts : List PlainPart) (one : IsOneRun parts) (run : IsSourceRun src)
    (same_ends : src.job.graph.ends ≡ one.ends) where
  -- ---- the end
  module _ (w : World) (k : Skeleton) (f : Follows src parts w k) (ends : finished w ≡ true) (s : State)
      (at : slice_get w.sites 0 ≡ Some s) where
    abbrev state : SettledState
    state = reached (ring_of src.split (length parts)) (blocks_of src.split) k f.reached

    low : (j : ℕ) (t : State) → slice_get w.sites j ≡ Some t → j < length parts
    low j t there =
        (it_keeps core_work core_sound core_lawful src.split parts
        (few src parts one run same_ends) w k f.alike f.reached j t there).machine

    stands : (j : ℕ) (t : State) → slice_get w.sites j ≡ Some t → standing_of k.standings j ≡ t.at
    stands j t there =
        same_Some (standing_of k.standings j) t.at
        (sym (got k.standings j
        (let all = state.settled.rules.all_there in let lt = low j t there in omega arith))
        ∙ it_stands core_work core_sound core_lawful src.split parts
        (few src parts one run same_ends) w k f.alike f.reached j t there)

    over : (j : ℕ) (t : State) → slice_get w.sites j ≡ Some t → is_over t.at.spot ≡ true
    over j t there = all_pass (λ (t : State). is_over t.at.spot) w.sites j t ends there

    -- no machine is past another one that is over
    not_past : (i j : ℕ) (t u : State) → slice_get w.sites i ≡ Some t → slice_get w.sites j ≡ Some u →
        u.at.round ≤ t.at.round
    not_past i j t u at_i at_j =
        let last =
        (fit state).fits.over_last i j (low i t at_i) (low j u at_j)
        (ap (λ (q : Standing). is_over q.spot) (stands i t at_i) ∙ over i t at_i) in
        let place_i = ap place_of (stands i t at_i) ∙ over_place t.at (over i t at_i) in
        let place_j = ap place_of (stands j u at_j) ∙ over_place u.at (over j u at_j) in
        omega (arith, last, place_i, place_j)

    same_round : (j : ℕ) (t : State) → slice_get w.sites j ≡ Some t → t.at.round ≡ s.at.round
    same_round j t there =
        let a = not_past 0 j s t at there in
        let b = not_past j 0 t s there at in
        omega (arith, a, b)

    pub late : src.base ≤ s.at.round
    late =
        ⊎_elim (λ (first : src.base ≡ 1). let some = f.late s at (over 0 s at) in omega (arith, first, some))
        (λ (begun : src.base ≤ s.at.round). begun) (f.machines 0 s at).begun

    pub stops : (stand src s.at.round).ruling ≡ Stop
    stops =
        let next = judged_next src parts one run same_ends w k f s at in
        let zero = stands 0 s at in
        sym (f.rulings s.at.round late (omega (arith, next)))
        ∙ ap (ruling_in k.rulings) (sym (ap (λ (q : Standing). q.round) zero))
        ∙ state.settled.rules.zero_over (ap (λ (q : Standing). is_over q.spot) zero ∙ over 0 s at)

    rows_held : (j : ℕ) (t : State) → slice_get w.sites j ≡ Some t →
        t.rows ≡ map (row_at (stand src s.at.round).rows) (chunk_vertices src.job.graph.ends j)
    rows_held j t there =
        (f.machines j t there).ideal.rows
        ∙ ap (λ r. map (row_at (stand src r).rows) (chunk_vertices src.job.graph.ends j))
        (over_rows t.at.round t.at.spot (over j t there) ∙ same_round j t there)

    small : s.at.round ≤ 2 ^ 31
    small =
        let keeps =
        it_keeps core_work core_sound core_lawful src.split parts (few src parts one run same_ends)
        w k f.alike f.reached 0 s at in
        let within = keeps.within in
        let limit = few_rounds src run in
        let same = ap (λ p. p.limit) run.program in
        omega (arith, within, limit, same)

    pub table_prints : table_of core_work w ≡ rest lines src (to_come src s.at.round)
    table_prints =
        table_shown src w (has_parts lines src parts one run same_ends w k f)
        (stand src s.at.round).rows (stands_in_words src run s.at.round small).count rows_held
        ∙ sym (rest_over lines src s.at.round stops)
        ∙ ap (rest lines src)
        (sym (ap (λ b. if b then s.at.round else src.base) (at_most src.base s.at.round late)))

  -- ---- all events
  pub zero_site : (w : World) (k : Skeleton) → Follows src parts w k → (s : State) × (slice_get w.sites 0 ≡ Some s)
  zero_site w k f =
      let some = parts_some parts one in
      let many = f.alike.count in
      there_at w.sites 0 (omega (arith, some, many))

  module _ (quiet : lines.log ≡ false) where
    pub all_print : (w : World) (k : Skeleton) → Follows src parts w k → (s : State) →
        slice_get w.sites 0 ≡ Some s → (es : List Event) → all_possible core_work w es ≡ true →
        finished (after core_work w es) ≡ true →
        lines_of core_work lines w es ++ table_of core_work (after core_work w es) ≡ rest lines src (to_come src
        s.at.round)
    all_print w k f s at [] can ends = table_prints w k f ends s at
    all_print w k f s at (e ∷ es) can ends =
        let c = and_parts (possible w e) (all_possible core_work (step core_work w e) es) can in
        let next = next_follows src parts one run same_ends w k f e c.0 in
        let t = zero_site (step core_work w e) (next_by src k e) next in
        ap (λ (b : Bool). ((if b then event_line e (taken_in w e) else []) ++ round_lines core_work lines w e
        ++ lines_of core_work lines (step core_work w e) es)
        ++ table_of core_work (after core_work (step core_work w e) es)) quiet
        ∙ append_assoc (round_lines core_work lines w e) (lines_of core_work lines (step core_work w e) es)
        (table_of core_work (after core_work (step core_work w e) es))
        ∙ ap (λ text. round_lines core_work lines w e ++ text)
        (all_print (step core_work w e) (next_by src k e) next t.0 t.1 es c.1 ends)
        ∙ event_prints lines src parts one run same_ends w k f e s t.0 at t.1 c.0
