-- The text of a complete run is that of the source's run and of its events.
use Rattle.std.proofs.Common.{◌≡◌, ◌≢◌, ℕ, ◌-◌, Bool, true, false, List, [], ◌∷◌, ◌++◌, Option, Some, None, refl, ap, sym, ◌∙◌, subst, arith, ⊎_elim, slice_get}
use Rattle.std.specs.Prelude.{if◌then◌else◌, ◌==◌, nat_le}
use Rattle.std.proofs.lemmas.Bool.{and_parts, cases_eq, ne_eqb}
use Rattle.vert_base.specs.declared.message.Event.{Event}
use Rattle.vert_base.specs.declared.message.Event.TheVariants.{Go, Take}
use Rattle.vert_base.specs.Letters.{found}
use Rattle.vert_base.proofs.LetterLaws.{found_name}
use Rattle.vert_eval.specs.SourceRun.{Run, resumed_run}
use Rattle.plain_run.specs.Told.{Told, rounds_told}
use Rattle.symple_words.specs.declared.line.Lines.{Lines}
use Rattle.array_text.specs.Events.{event_line}
use Rattle.array_text.specs.Tables.{table_text}
use Rattle.circulant_plan.specs.declared.spot.Spot.{Spot}
use Rattle.circulant_plan.specs.declared.spot.Spot.TheVariants.{Tell, Judge, Begin, Scan, Close, Over}
use Rattle.circulant_plan.specs.Skeleton.{Skeleton}
use Rattle.graph_table.proofs.FilterLaws.{all_true, flat_map_none}
use Rattle.symple_face.specs.Cluster.{IsOneRun, World, after, all_possible, can_act, finished, is_complete, possible, step}
use Rattle.symple_face.specs.CoreSight.{body_of}
use Rattle.symple_face.specs.CoreWork.{core_work}
use Rattle.symple_face.specs.Ideal.{ideal_body}
use Rattle.symple_face.specs.Parts.{PlainPart}
use Rattle.symple_face.specs.Source.{Source, stand_after}
use Rattle.symple_face.specs.State.{State}
use Rattle.work_laws.specs.Sound.{core_sound}
use Rattle.work_laws.proofs.Whole.{core_lawful}
use Rattle.cluster_run.proofs.Worlds.{it_stands}
use Rattle.round_laws.proofs.FoldScanHeld.{found_holds}
use Rattle.schedule_laws.specs.Runs.{IsSourceRun}
use Rattle.schedule_laws.specs.Layout.{event_lines, gone_lines, judged_lines, lines_of, round_lines, table_of, taken_in, text_of, told_in}
use Rattle.schedule_laws.specs.OutputText.{ended_lines, ideal_taken, lines_at, next_by, output_text, played_lines, run_of, schedule_lines, standing_lines}
use Rattle.schedule_laws.specs.Texts.{no_lines, text_of_run, told_lines}
use Rattle.schedule_laws.proofs.Follows.{Follows, few}
use Rattle.schedule_laws.proofs.Printed.{judge_says, to_come}
use Rattle.schedule_laws.proofs.Printing.{all_print, next_follows}
use Rattle.schedule_laws.proofs.RunLaws.{rest, run_at}
use Rattle.state_laws.proofs.Options.{some_of}
use Rattle.cluster_run.proofs.ReachedWorldLaws.{some_site}

-- ---- where no lines are asked for
quiet_told : (b : Bool) (t : Told) → (if b then told_lines no_lines t else []) ≡ []
quiet_told true t = refl
quiet_told false t = refl

quiet_spot : (w : World) (s : State) (spot : Spot) → judged_lines core_work no_lines w s spot ≡ []
quiet_spot w s Tell = refl
quiet_spot w s (Judge r) =
    quiet_told (nat_le 1 r)
    (told_in false core_work (step core_work w (Go 0)) (core_work.report (core_work.go s)))
quiet_spot w s (Begin r) = refl
quiet_spot w s (Scan r step h) = refl
quiet_spot w s (Close r dense) = refl
quiet_spot w s Over = refl

quiet_gone : (w : World) (o : Option State) → gone_lines core_work no_lines w o ≡ []
quiet_gone w None = refl
quiet_gone w (Some s) = quiet_spot w s s.at.spot

quiet_either : (b : Bool) (text : List ℕ) → text ≡ [] → (if b then text else []) ≡ []
quiet_either true text none = none
quiet_either false text none = refl

quiet_event : (w : World) (e : Event) → round_lines core_work no_lines w e ≡ []
quiet_event w (Go m) =
    quiet_either (m == 0) (gone_lines core_work no_lines w (slice_get w.sites 0)) (quiet_gone w (slice_get w.sites 0))
quiet_event w (Take x) = refl

quiet_lines : (w : World) (es : List Event) → lines_of core_work no_lines w es ≡ []
quiet_lines w [] = refl
quiet_lines w (e ∷ es) =
    ap (λ text. text ++ lines_of core_work no_lines (step core_work w e) es) (quiet_event w e)
    ∙ quiet_lines (step core_work w e) es

quiet_rest : (src : Source) (round : ℕ) →
    rest no_lines src round ≡ table_text src.job.program (run_at src round).last.rows
quiet_rest src round =
    let run : Run = run_at src round in
    ap (λ text. text ++ table_text src.job.program run.last.rows)
    (flat_map_none (told_lines no_lines) (rounds_told false run)
    (all_true (λ t. told_lines no_lines t ≡ []) (λ t. refl) (rounds_told false run)))

-- the run from the first round on
pub first_run : (src : Source) → run_at src src.base ≡ run_of src
first_run src =
    let none : src.base - src.base ≡ 0 = omega arith in
    ap (λ n. resumed_run src.job src.base (stand_after src n)) none

module _ (lines : Lines) (src : Source) (parts : List PlainPart) (one : IsOneRun parts) (run : IsSourceRun src)
    (same_ends : src.job.graph.ends ≡ one.ends) where
  module _ (w : World) (k : Skeleton) (f : Follows src parts w k) where
    says_at : (s : State) → slice_get w.sites 0 ≡ Some s → can_act (Some s) ≡ true → (q : Spot) → s.at.spot ≡ q →
        judged_lines core_work lines w s q ≡ lines_at lines src q
    says_at s at ready Tell spot = refl
    says_at s at ready (Judge r) spot =
        judge_says lines src parts one run same_ends w k f s at ready r spot
    says_at s at ready (Begin r) spot = refl
    says_at s at ready (Scan r step h) spot = refl
    says_at s at ready (Close r dense) spot = refl
    says_at s at ready Over spot = refl

    -- the lines of the round that an event ends
    zero_says : possible w (Go 0) ≡ true → round_lines core_work lines w (Go 0) ≡ ended_lines lines src k (Go 0)
    zero_says can =
        let s = some_site (slice_get w.sites 0) can in
        ap (gone_lines core_work lines w) s.1
        ∙ says_at s.0 s.1 (subst (λ o. can_act o ≡ true) s.1 can) s.0.at.spot refl
        ∙ sym (ap (standing_lines lines src)
        (it_stands core_work core_sound core_lawful src.split parts
        (few src parts one run same_ends) w k f.alike f.reached 0 s.0 s.1))

    pub ended_says : (e : Event) → possible w e ≡ true → round_lines core_work lines w e ≡ ended_lines lines src k e
    ended_says (Go m) can =
        ⊎_elim
        (λ (first : m ≡ 0).
        subst (λ n. possible w (Go n) ≡ true → round_lines core_work lines w (Go n) ≡ ended_lines lines src k (Go n))
        (sym first) zero_says can)
        (λ (apart : m ≢ 0).
        ap (λ b. if b then gone_lines core_work lines w (slice_get w.sites 0) else []) (ne_eqb m 0 apart)
        ∙ sym (ap (λ b. if b then standing_lines lines src (slice_get k.standings 0) else []) (ne_eqb m 0 apart)))
        (cases_eq m 0)
    ended_says (Take x) can = refl

    -- the message that it takes
    pub taken_says : (e : Event) → possible w e ≡ true → taken_in w e ≡ ideal_taken src e
    taken_says (Go m) can = refl
    taken_says (Take x) can =
        let l = some_of (found x w.under_way) can in
        let named : l.0.name ≡ x = found_name x w.under_way l.0 l.1 in
        let body : l.0.body ≡ ideal_body src x =
        ap body_of (sym l.1) ∙ found_holds (λ l. l.body ≡ ideal_body src l.name) x w.under_way f.letters can in
        l.1 ∙ (λ i. Some (record { name = named i; body = body i }))

    event_says : (e : Event) → possible w e ≡ true → event_lines core_work lines w e ≡ played_lines lines src k e
    event_says e can =
        ap (λ o. (if lines.log then event_line e o else []) ++ round_lines core_work lines w e) (taken_says e can)
        ∙ ap (λ text. (if lines.log then event_line e (ideal_taken src e) else []) ++ text) (ended_says e can)

  all_say : (w : World) (k : Skeleton) → Follows src parts w k → (es : List Event) →
      all_possible core_work w es ≡ true → lines_of core_work lines w es ≡ schedule_lines lines src k es
  all_say w k f [] can = refl
  all_say w k f (e ∷ es) can =
      let c = and_parts (possible w e) (all_possible core_work (step core_work w e) es) can in
      ap (λ text. text ++ lines_of core_work lines (step core_work w e) es) (event_says w k f e c.0)
      ∙ ap (λ text. played_lines lines src k e ++ text)
      (all_say (step core_work w e) (next_by src k e)
      (next_follows src parts one run same_ends w k f e c.0) es c.1)

  -- ---- the whole text, from a first world
  module _ (w : World) (k : Skeleton) (f : Follows src parts w k) (s : State) (at : slice_get w.sites 0 ≡ Some s)
      (first : to_come src s.at.round ≡ src.base) (es : List Event) (complete : is_complete core_work w es ≡ true)
    where
      can : all_possible core_work w es ≡ true
      can = (and_parts (all_possible core_work w es) (finished (after core_work w es)) complete).0

      ends : finished (after core_work w es) ≡ true
      ends = (and_parts (all_possible core_work w es) (finished (after core_work w es)) complete).1

      pub table_says : table_of core_work (after core_work w es) ≡ table_text src.job.program (run_of src).last.rows
      table_says =
          ap (λ text. text ++ table_of core_work (after core_work w es)) (sym (quiet_lines w es))
          ∙ all_print no_lines src parts one run same_ends refl w k f s at es can ends
          ∙ quiet_rest src (to_come src s.at.round)
          ∙ ap (λ round. table_text src.job.program (run_at src round).last.rows) first
          ∙ ap (λ (r : Run). table_text src.job.program r.last.rows) (first_run src)

      pub text_says : text_of core_work lines w es ≡ output_text lines src k es
      text_says =
          ap (λ text. text ++ table_of core_work (after core_work w es)) (all_say w k f es can)
          ∙ ap (λ text. schedule_lines lines src k es ++ text) table_says

      pub text_runs : lines.log ≡ false →
          text_of core_work lines w es ≡ text_of_run lines src.job.program (run_of src)
      text_runs none =
          all_print lines src parts one run same_ends none w k f s at es can ends
          ∙ ap (rest lines src) first
          ∙ ap (text_of_run lines src.job.program) (first_run src)
