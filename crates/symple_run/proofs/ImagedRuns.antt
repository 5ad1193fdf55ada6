-- Runs that leave images and runs that go on from one: what machines tell of them, and that for cores the source tells
-- it.
use Rattle.std.proofs.Common.{◌≡◌, ◌⊎◌, inl, inr, ℕ, zero, suc, ◌-◌, ◌<◌, Bool, true, false, nat_lt, List, [], ◌∷◌, ◌++◌, codes, length, Option, Some, None, refl, sym, ap, subst, ◌∙◌, arith, append_assoc, append-nil}
use Rattle.std.specs.Prelude.{◌%◌, decimal, if◌then◌else◌}
use Rattle.std.specs.List.{All, range_with_len}
use Rattle.std.proofs.lemmas.List.Elements.{All-from_recursion, All-map}
use Rattle.chunk_split.specs.Chunks.{vertices_of}
use Rattle.check_point.specs.Laws.{StartIsReady}
use Rattle.cluster_run.specs.Driven.{IsReached, again}
use Rattle.cluster_run.proofs.Restarted.{is_restarted}
use Rattle.delivery_log.specs.Choosers.{PlainRunsAreComplete}
use Rattle.command_steps.specs.Commands.{image_name}
use Rattle.command_steps.specs.Courses.{course_text}
use Rattle.command_steps.specs.Orders.{Course, Origin, Play}
use Rattle.edge_reader.specs.EdgeList.{Graph}
use Rattle.instrument.specs.declared.split.Split.{Split}
use Rattle.graph_table.proofs.FilterLaws.{all_true}
use Rattle.machine_runs.proofs.SourceFollows.{later_plain_told}
use Rattle.schedule_laws.specs.Laws.{later_run}
use Rattle.schedule_laws.specs.Layout.{lines_of, round_lines, table_of, text_of}
use Rattle.schedule_laws.specs.OutputText.{run_of}
use Rattle.schedule_laws.specs.Texts.{text_of_run}
use Rattle.schedule_laws.proofs.Parts.{parts_run}
use Rattle.schedule_laws.proofs.Whole.{every_later_log, every_later_schedule}
use Rattle.symple_face.specs.Cluster.{IsOneRun, IsPlainRun, World, after, is_complete, restarted_world, step}
use Rattle.symple_face.specs.CoreWork.{core_work}
use Rattle.symple_face.specs.Parts.{PlainPart}
use Rattle.symple_face.specs.PartsOf.{part_of}
use Rattle.symple_face.specs.Restarts.{IsRestartLawful, IsStart}
use Rattle.symple_face.specs.Source.{job_of}
use Rattle.symple_face.specs.State.{State}
use Rattle.symple_face.specs.Work.{PlainStart, Work}
use Rattle.symple_run.specs.KeptImages.{IsImagedPlay, StoresImages, imaged_as, imaged_from, key_for, start_behind, with_image}
use Rattle.machine_runs.specs.PlainPlays.{course_from, log_line}
use Rattle.symple_run.specs.Resumes.{IsResumedPlay, Tells, later_of}
use Rattle.machine_runs.specs.RunParts.{IsRunOf}
use Rattle.machine_runs.specs.SourceTellings.{by_source}
use Rattle.machine_runs.specs.Tellings.{Telling, by_worlds}
use Rattle.symple_run.specs.SourceImages.{begun_text, standing_of}
use Rattle.symple_run.specs.SourceRuns.{IsLoggedFrom, IsPrinted, IsSourceImaged}
use Rattle.symple_run.specs.SourceStores.{start_ended}
use Rattle.symple_run.specs.SourceTexts as sources
use Rattle.symple_words.specs.declared.line.Lines.{Lines}
use Rattle.vert_base.specs.declared.message.Event.{Event}
use Rattle.vert_eval.specs.SourceRun.{Job, resumed_run}
use Rattle.vert_tree.specs.declared.program.Program.{Program}
use Rattle.word_kinds.specs.Fits.{IsFitting}

-- ---- names
remainder : (k : ℕ) → k < 2 → (k ≡ 0) ⊎ (k ≡ 1)
remainder zero few = inl refl
remainder (suc zero) few = inr refl
remainder (suc (suc k)) few = absurd (omega (arith, few))

-- each name of an image is one of the two
image_names : (image : List ℕ) (round : ℕ) → (image_name image round ≡ image_name image 0)
    ⊎ (image_name image round ≡ image_name image 1)
image_names image round = elim (remainder (round % 2) (omega arith)) [
  | inl even ↦ inl (ap (λ (k : ℕ). image ++ codes "." ++ decimal k) even)
  | inr odd ↦ inr (ap (λ (k : ℕ). image ++ codes "." ++ decimal k) odd)
]

-- ---- the course of a run that leaves images
module _ (key image : List ℕ) where
  with_stores : (told : Option PlainStart) (rest : Course) → StoresImages image rest →
      StoresImages image (with_image key image told rest)
  with_stores None rest is = is
  with_stores (Some start) rest is = (image_names image (start.round - 1), is)

  with_text : (told : Option PlainStart) (rest : Course) →
      course_text (with_image key image told rest) ≡ course_text rest
  with_text None rest = refl
  with_text (Some start) rest = refl

  -- whoever tells it
  stores_as : {X : Type 0} (t : Telling X Event) (left : X → Event → Option PlainStart) (x : X) (es : List Event) →
      StoresImages image (imaged_as t left key image x es)
  stores_as t left x [] = tt
  stores_as t left x (e ∷ es) = with_stores (left x e) _ (stores_as t left (t.behind x e) es)

  -- its texts are those of the events, and then the table
  pub imaged_text : (work : Work) (lines : Lines) (w : World) (es : List Event) →
      course_text (imaged_from work lines key image w es) ≡ text_of work lines w es
  imaged_text work lines w [] = append-nil (table_of work w)
  imaged_text work lines w (e ∷ es) =
      let next = step work w e in
      let rest = text_of work lines next es in
      let round = round_lines work lines w e in
      ap (λ (text : List ℕ). log_line lines w e ++ (round ++ text))
      (with_text (start_behind work w e) (imaged_from work lines key image next es) ∙ imaged_text work lines next es)
      ∙ sym (append_assoc (log_line lines w e) round rest)
      ∙ sym (append_assoc (log_line lines w e ++ round) (lines_of work lines next es) (table_of work (after work next
      es)))

pub imaged_stores : (work : Work) (play : Play) (origin : Origin) (image : List ℕ) (course : Course) →
    IsImagedPlay work play origin image course → StoresImages image course
imaged_stores work play origin image course is =
    subst (StoresImages image) (sym is.course_is)
    (stores_as (key_for play origin) image (by_worlds work play.lines) (start_behind work) is.first is.events)

pub source_stores : (play : Play) (origin : Origin) (image : List ℕ) (course : Course) →
    IsSourceImaged play origin image course → StoresImages image course
source_stores play origin image course is =
    let src = sources.source_on play is.on in
    subst (StoresImages image) (sym is.course_is)
    (stores_as (key_for play origin) image (by_source play.lines src) (start_ended src)
    (sources.first_order play is.on) is.events)

-- ---- the course of a run that goes on
pub printed_from : (work : Work) (lines : Lines) (w : World) (es : List Event) → IsPrinted (course_from work lines w es)
printed_from work lines w [] = tt
printed_from work lines w (e ∷ es) = printed_from work lines (step work w e) es

pub resumed_printed : (work : Work) (play : Play) (origin : Origin) (even odd : Option (List ℕ)) (course : Course) →
    IsResumedPlay work play origin even odd course → IsPrinted course
resumed_printed work play origin even odd course is =
    subst IsPrinted (sym is.course_is) (printed_from work play.lines _ is.events)

-- a start that a file tells is one with which the run goes on
module _ (split : Split) (vertices : ℕ) (key : List ℕ) where
  pub told_ready : (file : Option (List ℕ)) (start : PlainStart) → Tells split vertices key file (Some start) →
      (whole : PlainPart) → vertices_of whole.ends ≡ vertices → StartIsReady → IsStart whole split start
  told_ready None start told whole same ready = cc
  told_ready (Some bytes) start told whole same ready =
      subst (λ (n : ℕ). Tells split n key (Some bytes) (Some start) → IsStart whole split start) same
      (λ here. subst (IsStart whole split) (sym here.1) (ready whole split key bytes here.0.own)) told

  pub later_ready :
      (even odd : Option (List ℕ)) (start : PlainStart) (whole : PlainPart) (first second : Option PlainStart) →
      Tells split vertices key even first → Tells split vertices key odd second →
      later_of first second ≡ Some start → vertices_of whole.ends ≡ vertices → StartIsReady →
      IsStart whole split start
  later_ready even odd start whole None second a b is same ready =
      told_ready odd start (subst (Tells split vertices key odd) is b) whole same ready
  later_ready even odd start whole (Some first) None a b is same ready =
      told_ready even start (subst (Tells split vertices key even) is a) whole same ready
  later_ready even odd start whole (Some first) (Some second) a b is same ready =
      either (nat_lt second.round first.round) is
    where
      either : (c : Bool) → (if c then Some first else Some second) ≡ Some start → IsStart whole split start
      either true here = told_ready even start (subst (Tells split vertices key even) here a) whole same ready
      either false here = told_ready odd start (subst (Tells split vertices key odd) here b) whole same ready

-- each part of a run has its ends
pub each_part : (parts : List PlainPart) (one : IsOneRun parts) (P : PlainPart → Type 0) →
    ((whole : PlainPart) → whole.ends ≡ one.ends → P whole) → All P parts
each_part parts one P holds =
    subst (All P) (sym one.parts_are)
    (All-map P (part_of one.ends one.draws one.edges) (range_with_len 0 (length one.ends))
    (All-from_recursion (λ m. P (part_of one.ends one.draws one.edges m)) (range_with_len 0 (length one.ends))
    (all_true (λ m. P (part_of one.ends one.draws one.edges m))
    (λ m. holds (part_of one.ends one.draws one.edges m) refl) (range_with_len 0 (length one.ends)))))

-- the later of the starts that two files tell is one for each part
module _ (machines draws : ℕ) (graph : Graph) (parts : List PlainPart)
    (of_graph : IsRunOf machines draws graph parts) (split : Split) (key : List ℕ) (even odd : Option (List ℕ))
    (first second : Option PlainStart) where
  pub parts_start : Tells split graph.vertices key even first → Tells split graph.vertices key odd second →
      StartIsReady → (start : PlainStart) → later_of first second ≡ Some start →
      All (λ part. IsStart part split start) parts
  parts_start a b ready start is =
      each_part parts of_graph.one (λ part. IsStart part split start) (λ whole ends.
      later_ready split graph.vertices key even odd start whole first second a b is
      (ap vertices_of ends ∙ of_graph.sized) ready)

-- ---- cores
module _ (sound : State → Type 0) (complete : PlainRunsAreComplete core_work sound)
    (restarts : IsRestartLawful core_work sound) (play : Play) (split : Split)
    (program_is : split.program.program ≡ play.program) (fits : IsFitting split.program.program)
    (parts : List PlainPart) (of_graph : IsRunOf play.machines play.draws play.graph parts)
    (job_same : job_of split of_graph.one.ends of_graph.one.draws of_graph.one.edges
    ≡ sources.job_of play.machines play.draws play.program play.graph) (start : PlainStart)
    (starts : All (λ part. IsStart part split start) parts) (es : List Event)
    (plain : IsPlainRun core_work (restarted_world core_work split parts start) es) where
  abbrev begun : World
  begun = restarted_world core_work split parts start

  reached : IsReached core_work sound begun
  reached = record {
    split = split;
    parts = parts;
    one_run = of_graph.one;
    can_run = parts_run split parts of_graph.one fits;
    first = begun;
    is_first = again start.round start.ruling (is_restarted core_work sound restarts split parts of_graph.one
        (parts_run split parts of_graph.one fits) start starts);
    events = [];
    were_possible = refl;
    here = refl;
  }

  ended : is_complete core_work begun es ≡ true
  ended = complete begun es reached plain

  pub later_text : play.lines.log ≡ false →
      text_of core_work play.lines begun es ≡ begun_text play (Some start)
  later_text quiet =
      every_later_schedule play.lines split parts of_graph.one start es fits starts ended quiet
      ∙ ap (λ (p : Program). text_of_run play.lines p (run_of (later_run split parts of_graph.one start))) program_is
      ∙ ap (λ (job : Job). text_of_run play.lines play.program
      (resumed_run job start.round (standing_of start))) job_same

  pub later_logged : IsLoggedFrom play start (text_of core_work play.lines begun es)
  later_logged = record {
    on = record { split = split; program_is = program_is; parts = parts; of_graph = of_graph };
    events = es;
    plain = later_plain_told split parts of_graph.one start fits starts es ended plain;
    is = every_later_log play.lines split parts of_graph.one start es fits starts ended;
  }
