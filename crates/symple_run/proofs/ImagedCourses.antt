-- A run by cores that leaves images takes the course that the source's run tells.
use Rattle.std.proofs.Common.{◌≡◌, ◌≢◌, ℕ, true, ◌&&◌, List, [], ◌∷◌, length, Option, None, Some, refl, sym, ap, subst, ◌∙◌, ⊎_elim, slice_get}
use Rattle.std.specs.Prelude.{if◌then◌else◌, nat_le}
use Rattle.std.proofs.lemmas.Bool.{and_parts, cases_eq, ne_eqb}
use Rattle.array_text.specs.Events.{event_line}
use Rattle.array_text.specs.Tables.{table_text}
use Rattle.circulant_plan.specs.declared.spot.Spot.{Spot}
use Rattle.circulant_plan.specs.declared.spot.Spot.TheVariants.{Tell, Judge, Begin, Scan, Close, Over}
use Rattle.circulant_plan.specs.Skeleton.{Skeleton, first_skeleton}
use Rattle.cluster_run.proofs.ReachedWorldLaws.{some_site}
use Rattle.cluster_run.proofs.Worlds.{it_stands}
use Rattle.command_steps.specs.Orders.{IsOver, Prints}
use Rattle.instrument.specs.declared.split.Split.{Split}
use Rattle.machine_runs.specs.PlainPlays.{is_late_judge, judges_late}
use Rattle.machine_runs.proofs.SourceFollows.{first_goes}
use Rattle.schedule_laws.specs.Laws.{whole_run}
use Rattle.schedule_laws.specs.Layout.{table_of}
use Rattle.schedule_laws.specs.OutputText.{next_by, run_of}
use Rattle.schedule_laws.specs.Runs.{IsSourceRun}
use Rattle.schedule_laws.specs.Starts.{start_told}
use Rattle.schedule_laws.proofs.Follows.{Follows, few}
use Rattle.schedule_laws.proofs.Printing.{next_follows}
use Rattle.schedule_laws.proofs.Saying.{ended_says, taken_says}
use Rattle.schedule_laws.proofs.Starts.{start_is}
use Rattle.schedule_laws.proofs.Whole.{whole_follows, whole_is_a_run}
use Rattle.symple_face.specs.Cluster.{IsOneRun, World, after, all_possible, can_act, finished, first_world, is_complete, possible, step}
use Rattle.symple_face.specs.Cluster as cluster
use Rattle.symple_face.specs.CoreWork.{core_work}
use Rattle.symple_face.specs.Parts.{PlainPart}
use Rattle.symple_face.specs.Source.{Source}
use Rattle.symple_face.specs.State.{State}
use Rattle.symple_face.specs.Work.{PlainStart}
use Rattle.symple_run.specs.KeptImages.{imaged_from, start_behind, with_image}
use Rattle.symple_run.specs.SourceStores.{imaged_by_source, start_ended, start_judged, start_standing}
use Rattle.symple_words.specs.declared.line.Lines.{Lines}
use Rattle.vert_base.specs.declared.message.Event.{Event}
use Rattle.vert_base.specs.declared.message.Event.TheVariants.{Go, Take}
use Rattle.vert_base.specs.Letters.{Letter}
use Rattle.word_kinds.specs.Fits.{IsFitting}
use Rattle.work_laws.specs.Sound.{core_sound}
use Rattle.work_laws.proofs.Whole.{core_lawful}

module _ (src : Source) (parts : List PlainPart) (one : IsOneRun parts) (run : IsSourceRun src)
    (same_ends : src.job.graph.ends ≡ one.ends) where
  -- ---- the start that an event leaves
  module _ (w : World) (k : Skeleton) (f : Follows src parts w k) where
    at_spot : (s : State) → slice_get w.sites 0 ≡ Some s → can_act (Some s) ≡ true → (q : Spot) → s.at.spot ≡ q →
        (if is_late_judge q then start_told core_work (cluster.go_at core_work w 0 (Some s)) else None)
        ≡ start_judged src q
    at_spot s at ready Tell spot = refl
    at_spot s at ready (Judge r) spot =
        ap (λ (o : Option PlainStart). if nat_le 1 r then o else None)
        (start_is src parts one run same_ends w k f s at ready r spot)
    at_spot s at ready (Begin r) spot = refl
    at_spot s at ready (Scan r step h) spot = refl
    at_spot s at ready (Close r dense) spot = refl
    at_spot s at ready Over spot = refl

    zero_leaves : possible w (Go 0) ≡ true → start_behind core_work w (Go 0) ≡ start_ended src k (Go 0)
    zero_leaves can =
        let s = some_site (slice_get w.sites 0) can in
        ap (λ (o : Option State).
        if judges_late o then start_told core_work (cluster.go_at core_work w 0 o) else None) s.1
        ∙ at_spot s.0 s.1 (subst (λ o. can_act o ≡ true) s.1 can) s.0.at.spot refl
        ∙ sym (ap (start_standing src)
        (it_stands core_work core_sound core_lawful src.split parts (few src parts one run same_ends) w k f.alike
        f.reached 0 s.0 s.1))

    event_leaves : (e : Event) → possible w e ≡ true → start_behind core_work w e ≡ start_ended src k e
    event_leaves (Go m) can =
        ⊎_elim
        (λ (first : m ≡ 0).
        subst (λ n. possible w (Go n) ≡ true → start_behind core_work w (Go n) ≡ start_ended src k (Go n)) (sym first)
        zero_leaves can)
        (λ (apart : m ≢ 0).
        ap (λ b. if b && judges_late (slice_get w.sites 0) then start_told core_work (step core_work w (Go m)) else
        None) (ne_eqb m 0 apart)
        ∙ sym (ap (λ b. if b then start_standing src (slice_get k.standings 0) else None) (ne_eqb m 0 apart)))
        (cases_eq m 0)
    event_leaves (Take x) can = refl

  -- ---- all events, up to the table of the run
  module _ (lines : Lines) (key image : List ℕ) where
    all_leave : (w : World) (k : Skeleton) → Follows src parts w k → (es : List Event) →
        all_possible core_work w es ≡ true →
        table_of core_work (after core_work w es) ≡ table_text src.job.program (run_of src).last.rows →
        imaged_from core_work lines key image w es ≡ imaged_by_source lines src key image k es
    all_leave w k f [] can table = ap (λ (text : List ℕ). Prints text IsOver) table
    all_leave w k f (e ∷ es) can table =
        let c = and_parts (possible w e) (all_possible core_work (step core_work w e) es) can in
        let own = ap (λ (o : Option Letter). if lines.log then event_line e o else [])
        (taken_says lines src parts one run same_ends w k f e c.0) in
        let ended = ended_says lines src parts one run same_ends w k f e c.0 in
        let start = event_leaves w k f e c.0 in
        let rest = all_leave (step core_work w e) (next_by src k e)
        (next_follows src parts one run same_ends w k f e c.0) es c.1 table in
        (λ i. Prints (own i) (Prints (ended i) (with_image key image (start i) (rest i))))

-- a complete run from the first world
module _ (split : Split) (parts : List PlainPart) (one : IsOneRun parts)
    (fits : IsFitting split.program.program) (lines : Lines) (key image : List ℕ) (es : List Event) where
  pub course_told : is_complete core_work (first_world core_work split parts) es ≡ true →
      imaged_from core_work lines key image (first_world core_work split parts) es ≡ imaged_by_source lines
      (whole_run split parts one) key image (first_skeleton (length parts)) es
  course_told complete =
      let w : World = first_world core_work split parts in
      let both = and_parts (all_possible core_work w es) (finished (after core_work w es)) complete in
      all_leave (whole_run split parts one) parts one (whole_is_a_run split parts one fits) refl lines key image w
      (first_skeleton (length parts)) (whole_follows split parts one fits) es both.0
      ((first_goes split parts one fits).ends es complete)
