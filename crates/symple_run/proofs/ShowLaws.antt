-- The demonstration: the rounds of its run as they are counted, and what it leaves.
use Rattle.std.proofs.Common.{◌≡◌, ℕ, ◌+◌, Bool, true, false, List, [], ◌∷◌, ◌++◌, length, Option, Some, None, Ok, Err, refl, sym, ap, subst, ◌∙◌, add-zero, add_assoc, zero-add, length-append, slice_get}
use Rattle.std.specs.Prelude.{◌==◌, ◌&&◌, if◌then◌else◌}
use Rattle.std.proofs.lemmas.Bool.{eqb-true, false≢true}
use Rattle.std.proofs.lemmas.List.Sums.{sum_by-append}
use Rattle.circulant_plan.specs.declared.spot.Spot.{Spot}
use Rattle.circulant_plan.specs.declared.spot.Spot.TheVariants.{Tell, Judge, Begin, Scan, Close, Over}
use Rattle.command_steps.specs.Leaves.{Gained, Leaves, NotPut, Ran}
use Rattle.command_steps.specs.Notes.{NoWrite}
use Rattle.command_steps.specs.Orders.{Course, Runs, Shown, follows}
use Rattle.command_steps.specs.States.{Held, Kept, Left, outside}
use Rattle.command_steps.specs.Walks.{HandsOn}
use Rattle.demo_parts.specs.DrawnGraphs.{drawn_graph}
use Rattle.demo_parts.specs.ShownTexts.{shown_text}
use Rattle.demo_program.specs.DemoText.{demo_text}
use Rattle.outside.specs.declared.sink.SinkFault.{SinkFault}
use Rattle.plain_run.specs.Told.{Told}
use Rattle.program_reader.specs.Accepted.{Says}
use Rattle.schedule_laws.specs.Layout.{table_of, told_in}
use Rattle.schedule_laws.specs.ToldRounds.{gone_round, judged_round, round_ended, rounds_ended}
use Rattle.sha2.specs.Sha256.{sha256}
use Rattle.symple_face.specs.Cluster.{IsPlainRun, World, after, finished, plain_of, step}
use Rattle.symple_face.specs.State.{State}
use Rattle.symple_face.specs.Work.{Work}
use Rattle.symple_run.specs.Played.{IsFirstWorld, IsPlayed, ends_round, is_late_judge, judges_late}
use Rattle.symple_run.specs.Shows.{IsShow, IsSourceShow, reads_in_all, shown_course}
use Rattle.symple_run.specs.ShowWalks.{CountsOn, HasPlayed, reported}
use Rattle.symple_run.specs.SourceRuns.{IsPrinted}
use Rattle.machine_runs.proofs.PlayLaws.{gone_report}
use Rattle.vert_base.specs.declared.message.Event.{Event}
use Rattle.vert_base.specs.declared.message.Event.TheVariants.{Go, Take}
use Rattle.vert_tree.specs.declared.program.Program.{Program}

-- ---- its course
pub show_printed : (work : Work) (seed machines : ℕ) (course : Course) → IsShow work seed machines course →
    IsPrinted course
show_printed work seed machines course is = subst IsPrinted (sym is.course_is) tt

pub source_show_printed : (seed machines : ℕ) (course : Course) → IsSourceShow seed machines course → IsPrinted course
source_show_printed seed machines course is = subst IsPrinted (sym is.course_is) tt

-- ---- what machine 0 reports behind an event is the round that the event ends
judge_reports : (work : Work) (w : World) (s : State) (spot : Spot) → is_late_judge spot ≡ true →
    told_in false work (step work w (Go 0)) (work.report (work.go s)) ∷ [] ≡ judged_round false work w s spot
judge_reports work w s Tell late = absurd (false≢true late)
judge_reports work w s (Judge r) late = sym (ap (λ (b : Bool). if b
    then told_in false work (step work w (Go 0)) (work.report (work.go s)) ∷ [] else []) late)
judge_reports work w s (Begin r) late = absurd (false≢true late)
judge_reports work w s (Scan r t h) late = absurd (false≢true late)
judge_reports work w s (Close r dense) late = absurd (false≢true late)
judge_reports work w s Over late = absurd (false≢true late)

none_reported : (work : Work) (w : World) (s : State) (spot : Spot) → is_late_judge spot ≡ false →
    [] ≡ judged_round false work w s spot
none_reported work w s Tell early = refl
none_reported work w s (Judge r) early = sym (ap (λ (b : Bool). if b
    then told_in false work (step work w (Go 0)) (work.report (work.go s)) ∷ [] else []) early)
none_reported work w s (Begin r) early = refl
none_reported work w s (Scan r t h) early = refl
none_reported work w s (Close r dense) early = refl
none_reported work w s Over early = refl

by_first : (work : Work) (w : World) (o : Option State) → slice_get w.sites 0 ≡ o → (b : Bool) → judges_late o ≡ b →
    reported b work (step work w (Go 0)) ≡ gone_round false work w o
by_first work w None at true late = absurd (false≢true late)
by_first work w None at false early = refl
by_first work w (Some s) at true late =
    ap (λ r. told_in false work (step work w (Go 0)) r ∷ []) (gone_report work w s at)
    ∙ judge_reports work w s s.at.spot late
by_first work w (Some s) at false early = none_reported work w s s.at.spot early

by_machine : (work : Work) (w : World) (m : ℕ) (b : Bool) → (m == 0) ≡ b →
    reported (b && judges_late (slice_get w.sites 0)) work (step work w (Go m))
    ≡ (if b then gone_round false work w (slice_get w.sites 0) else [])
by_machine work w m true is =
    ap (λ (k : ℕ). reported (judges_late (slice_get w.sites 0)) work (step work w (Go k))) (eqb-true m 0 is)
    ∙ by_first work w (slice_get w.sites 0) refl (judges_late (slice_get w.sites 0)) refl
by_machine work w m false is = refl

pub reported_is : (work : Work) (w : World) (e : Event) →
    reported (ends_round w e) work (step work w e) ≡ round_ended false work w e
reported_is work w (Go m) = by_machine work w m (m == 0) refl
reported_is work w (Take x) = refl

-- ---- rounds and reads so far
reads_append : (a b : List Told) → reads_in_all (a ++ b) ≡ reads_in_all a + reads_in_all b
reads_append a b = sum_by-append (λ (told : Told). told.read) a b

pub count_none : (work : Work) (w : World) → CountsOn work w w 0 0
count_none work w = λ behind plain. record {
  events = behind;
  plain = plain;
  same_end = refl;
  rounds_are = sym (zero-add (length (rounds_ended false work w behind)));
  reads_are = sym (zero-add (reads_in_all (rounds_ended false work w behind)));
}

-- one more event was played
module _ (work : Work) (w v u : World) (rounds reads more_rounds more_reads : ℕ) (e : Event) where
  pub count_more : CountsOn work w v rounds reads → finished v ≡ false → plain_of v ≡ Some e →
      u ≡ step work v e → more_rounds ≡ rounds + length (round_ended false work v e) →
      more_reads ≡ reads + reads_in_all (round_ended false work v e) → CountsOn work w u more_rounds more_reads
  count_more on going plain next rounds_is reads_is = λ behind plays.
      let through = on (e ∷ behind) (going, plain, subst (λ (x : World). IsPlainRun work x behind) next plays) in
      let one = round_ended false work v e in
      let rest = rounds_ended false work (step work v e) behind in
      let same : rounds_ended false work u behind ≡ rest = ap (λ (x : World). rounds_ended false work x behind)
      next in
      record {
        events = through.events;
        plain = through.plain;
        same_end = through.same_end ∙ sym (ap (λ (x : World). after work x behind) next);
        rounds_are =
            through.rounds_are ∙ ap (λ (n : ℕ). rounds + n) (length-append one rest)
            ∙ sym (add_assoc rounds (length one) (length rest)) ∙ ap (λ (n : ℕ). n + length rest) (sym rounds_is)
            ∙ ap (λ (told : List Told). more_rounds + length told) (sym same);
        reads_are =
            through.reads_are ∙ ap (λ (n : ℕ). reads + n) (reads_append one rest)
            ∙ sym (add_assoc reads (reads_in_all one) (reads_in_all rest))
            ∙ ap (λ (n : ℕ). n + reads_in_all rest) (sym reads_is)
            ∙ ap (λ (told : List Told). more_reads + reads_in_all told) (sym same);
      }

-- the last event was played
pub count_over : (work : Work) (w v : World) (rounds reads : ℕ) → CountsOn work w v rounds reads → finished v ≡ true →
    HasPlayed work w v rounds reads
count_over work w v rounds reads on over =
    let through = on [] over in record {
      events = through.events;
      plain = through.plain;
      world = sym through.same_end;
      rounds_are = through.rounds_are ∙ add-zero rounds;
      reads_are = through.reads_are ∙ add-zero reads;
    }

-- ---- the lines are put, or a part of them
module _ (work : Work) (seed machines : ℕ) (program : Program) (says : Says demo_text program) (first v : World)
    (is_first : IsFirstWorld work program (drawn_graph seed) machines 0 first) (rounds reads : ℕ)
    (played : HasPlayed work first v rounds reads) where
  abbrev table : List ℕ
  table = table_of work (after work first played.events)

  abbrev course : Course
  course = shown_course machines (rounds_ended false work first played.events) table

  is_show : IsShow work seed machines course
  is_show = record {
    program = program;
    says = says;
    first = first;
    is_first = is_first;
    events = played.events;
    plain = played.plain;
    course_is = refl;
  }

  told : (digest : List ℕ) → digest ≡ sha256 (table_of work v) →
      shown_text machines rounds reads digest
      ≡ shown_text machines (length (rounds_ended false work first played.events))
      (reads_in_all (rounds_ended false work first played.events)) (sha256 table)
  told digest is =
      ap (λ (n : ℕ). shown_text machines n reads digest) (sym played.rounds_are)
      ∙ ap (λ (n : ℕ). shown_text machines (length (rounds_ended false work first played.events)) n digest)
      (sym played.reads_are)
      ∙ ap (λ (bytes : List ℕ). shown_text machines (length (rounds_ended false work first played.events))
      (reads_in_all (rounds_ended false work first played.events)) bytes)
      (is ∙ ap (λ (u : World). sha256 (table_of work u)) played.world)

  pub show_goes : (digest : List ℕ) → digest ≡ sha256 (table_of work v) → (old new : Held) →
      HandsOn (shown_text machines rounds reads digest) old new (Ok tt) → (shelf : Kept) (input : Left) →
      Leaves (IsPlayed work) (Runs (Shown seed machines) follows) (outside shelf old input) (outside shelf new input)
      None
  show_goes digest is old new puts shelf input =
      let put = subst (λ (text : List ℕ). HandsOn text old new (Ok tt)) (told digest is) puts in
      Ran course is_show (Gained new.spare put.spared
      (record { same = ap (λ (h : Held). outside shelf h input) put.same; fine = refl }))

  pub show_stops : (digest : List ℕ) → digest ≡ sha256 (table_of work v) → (old new : Held) (fault : SinkFault) →
      HandsOn (shown_text machines rounds reads digest) old new (Err fault) → (shelf : Kept) (input : Left) →
      Leaves (IsPlayed work) (Runs (Shown seed machines) follows) (outside shelf old input) (outside shelf new input)
      (Some NoWrite)
  show_stops digest is old new fault puts shelf input =
      let part = subst (λ (text : List ℕ). HandsOn text old new (Err fault)) (told digest is) puts in
      Ran course is_show (NotPut part refl refl)
