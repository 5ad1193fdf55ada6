-- A run that cores play is told by the source's run.
use Rattle.std.proofs.Common.{Bool, List, None, Option, Some, [], ap, append-nil, append_assoc, false, length, nat_lt, refl, subst, sym, true, ℕ, ◌++◌, ◌+◌, ◌∙◌, ◌∷◌, ◌≡◌}
use Rattle.std.specs.Prelude.{if◌then◌else◌, option_map}
use Rattle.std.proofs.lemmas.Bool.{and_from, and_parts}
use Rattle.std.specs.List.{All}
use Rattle.check_point.specs.Laws.{StartIsReady}
use Rattle.circulant_plan.specs.Skeleton.{first_skeleton}
use Rattle.cluster_run.specs.declared.fault.EventFault.{EventFault}
use Rattle.cluster_run.specs.declared.fault.Missing.{Missing}
use Rattle.cluster_run.specs.Driven.{IsReached, anew}
use Rattle.cluster_run.specs.Faults.{fault_of, lacking, lacks}
use Rattle.cluster_run.proofs.WorldChoices.{not_refused}
use Rattle.cluster_run.specs.Laws.{StepsReach, UnfinishedGoesOn}
use Rattle.command_steps.specs.Notes.{LongSchedule}
use Rattle.delivery_log.specs.declared.form.Form.{Form}
use Rattle.delivery_log.specs.declared.form.Form.TheVariants.{Roundless}
use Rattle.delivery_log.specs.Choosers.{DrawnRunsAreComplete, IsDrawnRun, PlainRunsAreComplete, generator_of}
use Rattle.delivery_log.specs.ScheduleTexts.{event_lines, round_after, schedule_text}
use Rattle.edge_reader.specs.EdgeList.{Graph}
use Rattle.link_core.specs.LinkChoosers.{DrawnLinksArePossible}
use Rattle.schedule_laws.specs.Laws.{whole_run}
use Rattle.schedule_laws.specs.OutputText.{output_text}
use Rattle.schedule_laws.specs.Layout.{lines_of, round_lines, table_of, text_of}
use Rattle.schedule_laws.specs.Texts.{no_lines, text_of_run}
use Rattle.schedule_laws.proofs.Parts.{parts_run}
use Rattle.schedule_laws.proofs.ToldRounds.{every_round_is_told, every_table_is_told}
use Rattle.schedule_laws.proofs.Whole.{every_log, every_schedule}
use Rattle.symple_face.specs.Cluster.{IsPlainRun, World, after, all_possible, finished, first_world, is_complete, missing_of, possible, restarted_world, step}
use Rattle.schedule_laws.specs.ToldRounds.{rounds_ended}
use Rattle.array_text.specs.Tables.{table_text}
use Rattle.demo_parts.specs.DrawnGraphs.{drawn_graph}
use Rattle.plain_run.specs.Told.{Told, rounds_told}
use Rattle.symple_run.specs.Shows.{IsShow, IsSourceShow, shown_course, shown_run}
use Rattle.symple_face.specs.CoreWork.{core_work}
use Rattle.symple_face.specs.Source.{job_of}
use Rattle.symple_face.specs.State.{State}
use Rattle.symple_face.specs.Work.{PlainStart, Work}
use Rattle.command_steps.specs.Courses.{course_end, course_text}
use Rattle.command_steps.specs.Orders.{Course, Fails, Origin, Play}
use Rattle.symple_run.specs.Followed.{IsFollowedPlay}
use Rattle.symple_run.specs.Recorded.{IsDrawnPlay}
use Rattle.symple_run.specs.SourceSchedules.{IsSourceFollowed, IsSourceRecord, PutsSource}
use Rattle.symple_run.specs.SourceTexts.{HasParts, first_order, source_on}
use Rattle.machine_runs.proofs.SourceFollows.{drawn_told, followed_told, plain_told, recorded_told}
use Rattle.machine_runs.specs.SourceTellings.{IsPlainOrder}
use Rattle.machine_runs.specs.Tellings.{by_worlds, followed, lack_of, recorded, told_end, told_event, unless_lacking, unless_refused, why_of}
use Rattle.symple_face.specs.Restarts.{IsRestartLawful, IsStart}
use Rattle.symple_run.specs.SourceTexts as sources
use Rattle.symple_run.specs.Played.{IsFirstWorld, IsPlainPlay, course_from, log_line}
use Rattle.symple_run.specs.KeptImages.{IsImagedPlay, imaged_from, key_for}
use Rattle.symple_run.specs.Resumes.{IsResumedPlay, begun_world, later_of}
use Rattle.symple_run.specs.SourceImages.{begun_text, files_kept}
use Rattle.symple_run.specs.SourceRuns.{IsBegunLog, IsLoggedFrom, IsPrinted, IsSourceImaged, IsSourcePlay, IsSourceResumed}
use Rattle.symple_run.proofs.ImagedCourses.{course_told}
use Rattle.symple_run.proofs.ImagedRuns.{imaged_text, later_logged, later_text, parts_start, printed_from, resumed_printed}
use Rattle.symple_run.proofs.ImagesTold.{images_told}
use Rattle.symple_words.specs.declared.line.Lines.{Lines}
use Rattle.vert_base.specs.declared.graph.Edge.{Edge}
use Rattle.vert_base.specs.declared.limits.TheConstants.{SCHEDULE_BYTES}
use Rattle.vert_base.specs.declared.message.Event.{Event}
use Rattle.vert_eval.specs.SourceRun.{Job, source_run}
use Rattle.vert_tree.specs.declared.program.Program.{Program}
use Rattle.machine_runs.proofs.TextLaws.{text_behind}

pub plain_printed : (work : Work) (play : Play) (course : Course) → IsPlainPlay work play course → IsPrinted course
plain_printed work play course is = subst IsPrinted (sym is.course_is) (printed_from work play.lines _ is.events)

-- its texts are those of the events, and then the table
text_from : (work : Work) (lines : Lines) (w : World) (es : List Event) →
    course_text (course_from work lines w es) ≡ text_of work lines w es
text_from work lines w [] = append-nil (table_of work w)
text_from work lines w (e ∷ es) =
    text_behind work lines w e es (course_text (course_from work lines (step work w e) es))
    (text_from work lines (step work w e) es)

-- what is known of the runs of machines of a kind, whoever chooses their events
pub record ChosenWell (work : Work) (sound : State → Type 0) : Type 0 where
  pub plain : PlainRunsAreComplete work sound
  pub drawn : DrawnRunsAreComplete work sound
  pub linked : DrawnLinksArePossible work sound
  pub reach : StepsReach work sound
  pub goes : UnfinishedGoesOn work sound

pub none_lacks : (o : Option Event) → option_map lacks o ≡ None → o ≡ None
none_lacks None none = refl
none_lacks (Some e) none = cc

-- ---- cores
-- the job on these parts is the one on the graph
abbrev pub job_with : Program → ℕ → List ℕ → List Edge → ℕ → Job
job_with program n ends edges draws = record {
  program = program;
  graph = record { vertices = n; ends = ends; edges = edges };
  draws = draws;
}

module _ (p q : Program) (n k : ℕ) (ends others : List ℕ) (edges list : List Edge) (draws told : ℕ) where
  pub same_job : p ≡ q → n ≡ k → ends ≡ others → edges ≡ list → draws ≡ told →
      job_with p n ends edges draws ≡ job_with q k others list told
  same_job a b c d e =
      ap (λ (x : Program). job_with x n ends edges draws) a
      ∙ ap (λ (x : ℕ). job_with q x ends edges draws) b
      ∙ ap (λ (x : List ℕ). job_with q k x edges draws) c
      ∙ ap (λ (x : List Edge). job_with q k others x draws) d
      ∙ ap (λ (x : ℕ). job_with q k others list x) e

text_said : (lines : Lines) (program other : Program) (job same : Job) → program ≡ other → job ≡ same →
    text_of_run lines program (source_run job) ≡ text_of_run lines other (source_run same)
text_said lines program other job same p j =
    ap (λ (q : Program). text_of_run lines q (source_run job)) p
    ∙ ap (λ (k : Job). text_of_run lines other (source_run k)) j

-- the first world of the machines of a graph's parts is one of those that are reached
pub first_reached : (work : Work) (sound : State → Type 0) (program : Program) (graph : Graph) (machines draws : ℕ)
    (v : World) → IsFirstWorld work program graph machines draws v → IsReached work sound v
first_reached work sound program graph machines draws v first = record {
  split = first.split;
  parts = first.parts;
  one_run = first.of_graph.one;
  can_run = parts_run first.split first.parts first.of_graph.one first.fits;
  first = v;
  is_first = anew first.here;
  events = [];
  were_possible = refl;
  here = refl;
}

-- any complete run of cores from the first world of the machines of a graph
module _ (sound : State → Type 0) (lines : Lines) (program : Program) (graph : Graph) (machines draws : ℕ) (v : World)
    (first : IsFirstWorld core_work program graph machines draws v) where
  abbrev w : World
  w = first_world core_work first.split first.parts

  pub reached : IsReached core_work sound v
  reached = first_reached core_work sound program graph machines draws v first

  job_is : job_of first.split first.of_graph.one.ends first.of_graph.one.draws first.of_graph.one.edges
      ≡ sources.job_of machines draws program graph
  job_is = same_job first.split.program.program program _ graph.vertices first.of_graph.one.ends _
      first.of_graph.one.edges graph.list first.of_graph.one.draws draws first.program_is first.of_graph.sized
      first.of_graph.ends_are first.of_graph.edges_are first.of_graph.draws_are

  module _ (es : List Event) (ended : is_complete core_work v es ≡ true) where
    ended_there : is_complete core_work w es ≡ true
    ended_there = subst (λ (u : World). is_complete core_work u es ≡ true) first.here ended

    there : text_of core_work lines v es ≡ text_of core_work lines w es
    there = ap (λ (u : World). text_of core_work lines u es) first.here

    pub run_told : lines.log ≡ false →
        text_of core_work lines v es
        ≡ text_of_run lines program (source_run (sources.job_of machines draws program graph))
    run_told quiet =
        there
        ∙ every_schedule lines first.split first.parts first.of_graph.one es first.fits ended_there quiet
        ∙ text_said lines first.split.program.program program _ _ first.program_is job_is

    pub log_told : text_of core_work lines v es
        ≡ output_text lines (whole_run first.split first.parts first.of_graph.one) (first_skeleton
        (length first.parts)) es
    log_told = there ∙ every_log lines first.split first.parts first.of_graph.one es first.fits ended_there

    pub rounds_are_told : rounds_ended false core_work v es
        ≡ rounds_told false (source_run (sources.job_of machines draws program graph))
    rounds_are_told =
        ap (λ (u : World). rounds_ended false core_work u es) first.here
        ∙ every_round_is_told false first.split first.parts first.of_graph.one es first.fits ended_there
        ∙ ap (λ (k : Job). rounds_told false (source_run k)) job_is

    pub table_is_told : table_of core_work (after core_work v es)
        ≡ table_text program (source_run (sources.job_of machines draws program graph)).last.rows
    table_is_told =
        ap (λ (u : World). table_of core_work (after core_work u es)) first.here
        ∙ every_table_is_told first.split first.parts first.of_graph.one es first.fits ended_there
        ∙ ap (λ (k : Job). table_text first.split.program.program (source_run k).last.rows) job_is
        ∙ ap (λ (p : Program). table_text p (source_run (sources.job_of machines draws program graph)).last.rows)
        first.program_is

-- the parts of a first world
abbrev pub parts_on : (play : Play) (v : World) → IsFirstWorld core_work play.program play.graph play.machines
    play.draws v →
    HasParts play
parts_on play v first = record {
  split = first.split;
  program_is = first.program_is;
  parts = first.parts;
  of_graph = first.of_graph;
}

-- its plain events are those of the order of events
plain_on : (sound : State → Type 0) (play : Play) (v : World)
    (first : IsFirstWorld core_work play.program play.graph play.machines play.draws v) (es : List Event) →
    is_complete core_work v es ≡ true → IsPlainRun core_work v es →
    IsPlainOrder (source_on play (parts_on play v first)) (first_order play (parts_on play v first)) es
plain_on sound play v first es complete plain =
    plain_told first.split first.parts first.of_graph.one first.fits es
    (subst (λ (u : World). is_complete core_work u es ≡ true) first.here complete)
    (subst (λ (u : World). IsPlainRun core_work u es) first.here plain)

module _ (sound : State → Type 0) (complete : PlainRunsAreComplete core_work sound) (play : Play) (course : Course)
    (is : IsPlainPlay core_work play course) where
  ended : is_complete core_work is.first is.events ≡ true
  ended = complete is.first is.events
      (reached sound play.lines play.program play.graph play.machines play.draws is.first is.is_first) is.plain

  text_is : course_text course ≡ text_of core_work play.lines is.first is.events
  text_is = ap course_text is.course_is ∙ text_from core_work play.lines is.first is.events

  pub plain_source : IsSourcePlay play course
  plain_source = record {
    printed = plain_printed core_work play course is;
    text = λ quiet. text_is ∙ run_told sound play.lines play.program play.graph play.machines play.draws is.first
        is.is_first is.events ended quiet;
    logged = record {
      on = parts_on play is.first is.is_first;
      events = is.events;
      plain = plain_on sound play is.first is.is_first is.events ended is.plain;
      is = text_is ∙ log_told sound play.lines play.program play.graph play.machines play.draws is.first is.is_first
          is.events ended;
    };
  }

-- ---- recorded and followed runs
module _ (work : Work) (lines : Lines) where
  recorded_behind : (w : World) (e : Event) (es : List Event) (long : Bool) (rest : Course) →
      (course_end rest ≡ None → course_text rest ≡ text_of work lines (step work w e) es) →
      course_end (if long then Fails LongSchedule else told_event (by_worlds work lines) w e rest) ≡ None →
      course_text (if long then Fails LongSchedule else told_event (by_worlds work lines) w e rest)
      ≡ text_of work lines w (e ∷ es)
  recorded_behind w e es true rest text ends = cc
  recorded_behind w e es false rest text ends = text_behind work lines w e es (course_text rest) (text ends)

  -- a recording that comes to its end puts the texts of its events, and then the table
  recorded_text : (name : List ℕ) (machines : ℕ) (added : List Event) (w : World) (es : List Event) →
      course_end (recorded (by_worlds work lines) name machines added w es) ≡ None →
      course_text (recorded (by_worlds work lines) name machines added w es) ≡ text_of work lines w es
  recorded_text name machines added w [] ends = append-nil (table_of work w)
  recorded_text name machines added w (e ∷ es) ends =
      recorded_behind w e es (nat_lt SCHEDULE_BYTES (length (schedule_text Roundless machines (added ++ e ∷ []))))
      (recorded (by_worlds work lines) name machines (added ++ e ∷ []) (step work w e) es)
      (recorded_text name machines (added ++ e ∷ []) (step work w e) es) ends

  -- a followed run that comes to its end is complete, and puts the same
  record ComesToEnd (w : World) (es : List Event) (course : Course) : Type 0 where
    can : all_possible work w es ≡ true
    lacks : lacking (after work w es) ≡ None
    text : course_text course ≡ text_of work lines w es

  at_last : (w : World) (o : Option Missing) → lacking w ≡ o →
      course_end (unless_lacking (option_map lack_of o) (told_end (by_worlds work lines) w)) ≡ None →
      ComesToEnd w [] (unless_lacking (option_map lack_of o) (told_end (by_worlds work lines) w))
  at_last w None is fine = record { can = refl; lacks = is; text = append-nil (table_of work w) }
  at_last w (Some what) is fine = absurd (cc)

  module _ (w : World) (e : Event) (es : List Event) (line : ℕ) (rest : Course) where
    at_event : (course_end rest ≡ None → ComesToEnd (step work w e) es rest) → (o : Option EventFault) →
        fault_of w e ≡ o →
        course_end (unless_refused (option_map (why_of e) o) line (told_event (by_worlds work lines) w e rest))
        ≡ None →
        ComesToEnd w (e ∷ es) (unless_refused (option_map (why_of e) o) line (told_event (by_worlds work lines)
        w e rest))
    at_event more None is fine =
        let behind = more fine in record {
          can = and_from (possible w e) (all_possible work (step work w e) es) (not_refused w e is) behind.can;
          lacks = behind.lacks;
          text = text_behind work lines w e es (course_text rest) behind.text;
        }
    at_event more (Some why) is fine = absurd (cc)

  followed_text : (form : Form) (held count : ℕ) (w : World) (es : List Event) →
      course_end (followed (by_worlds work lines) form held count w es) ≡ None →
      ComesToEnd w es (followed (by_worlds work lines) form held count w es)
  followed_text form held count w [] ends = at_last w (lacking w) refl ends
  followed_text form held count w (e ∷ es) ends =
      at_event w e es (count + length (event_lines form held e))
      (followed (by_worlds work lines) form (round_after held e) (count + length (event_lines form held e))
      (step work w e) es)
      (followed_text form (round_after held e) (count + length (event_lines form held e)) (step work w e) es)
      (fault_of w e) refl ends

-- complete runs of cores that end tell the source
module _ (sound : State → Type 0) (play : Play) (first : World)
    (is_first : IsFirstWorld core_work play.program play.graph play.machines play.draws first) (es : List Event)
    (course : Course) where
  pub puts_source : (course_end course ≡ None → is_complete core_work first es ≡ true) →
      (course_end course ≡ None → course_text course ≡ text_of core_work play.lines first es) →
      PutsSource play course
  puts_source complete told = λ ends quiet.
      told ends
      ∙ run_told sound play.lines play.program play.graph play.machines play.draws first is_first es (complete ends)
      quiet

module _ (sound : State → Type 0) (laws : ChosenWell core_work sound) where
  pub drawn_source : (play : Play) (seed : ℕ) (name : List ℕ) (course : Course) →
      IsDrawnPlay core_work play seed name course → IsSourceRecord play seed name course
  drawn_source play seed name course is =
      let complete = laws.drawn is.first (generator_of seed) is.events
      (reached sound play.lines play.program play.graph play.machines play.draws is.first is.is_first) is.drawn in
      let there = subst (λ (u : World). is_complete core_work u is.events ≡ true) is.is_first.here complete in
      record {
        on = parts_on play is.first is.is_first;
        events = is.events;
        drawn = drawn_told is.is_first.split is.is_first.parts is.is_first.of_graph.one is.is_first.fits
            (generator_of seed) is.events there
            (subst (λ (u : World). IsDrawnRun core_work u (generator_of seed) is.events) is.is_first.here is.drawn);
        course_is = is.course_is
            ∙ ap (λ (u : World). recorded (by_worlds core_work play.lines) name play.machines [] u is.events)
            is.is_first.here
            ∙ recorded_told is.is_first.split is.is_first.parts is.is_first.of_graph.one is.is_first.fits play.lines
            name
            play.machines is.events there;
        text = puts_source sound play is.first is.is_first is.events course (λ ends. complete)
            (λ ends. ap course_text is.course_is
            ∙ recorded_text core_work play.lines name play.machines [] is.first is.events
            (ap course_end (sym is.course_is) ∙ ends));
      }

  -- the world behind possible events is reached
  pub reached_behind : (w : World) (es : List Event) → IsReached core_work sound w → all_possible core_work w es
      ≡ true →
      IsReached core_work sound (after core_work w es)
  reached_behind w [] r can = r
  reached_behind w (e ∷ es) r can =
      let c = and_parts (possible w e) (all_possible core_work (step core_work w e) es) can in
      reached_behind (step core_work w e) es (laws.reach w e r c.0) c.1

  pub following_source : (play : Play) (form : Form) (events : List Event) (course : Course) →
      IsFollowedPlay core_work play form events course → IsSourceFollowed play form events course
  following_source play form events course is =
      let ended = λ (ends : course_end course ≡ None).
      followed_text core_work play.lines form 0 1 is.first events (ap course_end (sym is.course_is) ∙ ends) in
      record {
        on = parts_on play is.first is.is_first;
        course_is = is.course_is
            ∙ ap (λ (u : World). followed (by_worlds core_work play.lines) form 0 1 u events) is.is_first.here
            ∙ followed_told is.is_first.split is.is_first.parts is.is_first.of_graph.one is.is_first.fits play.lines
            form
            events;
        text = puts_source sound play is.first is.is_first events course
            (λ ends.
            let f = ended ends in
            let r = reached sound play.lines play.program play.graph play.machines play.draws is.first is.is_first in
            and_from (all_possible core_work is.first events) (finished (after core_work is.first events)) f.can
            ((laws.goes (after core_work is.first events) (reached_behind is.first events r f.can)).missing.0
            (none_lacks (missing_of (after core_work is.first events)) f.lacks)))
            (λ ends. ap course_text is.course_is ∙ (ended ends).text);
      }

-- what cores show is what the source's run tells
module _ (sound : State → Type 0) (complete : PlainRunsAreComplete core_work sound) (seed machines : ℕ)
    (course : Course) (is : IsShow core_work seed machines course) where
  shown_ended : is_complete core_work is.first is.events ≡ true
  shown_ended = complete is.first is.events
      (reached sound no_lines is.program (drawn_graph seed) machines 0 is.first is.is_first) is.plain

  pub shown_source : IsSourceShow seed machines course
  shown_source = record {
    program = is.program;
    says = is.says;
    course_is =
        is.course_is
        ∙ ap (λ (rounds : List Told). shown_course machines rounds
        (table_of core_work (after core_work is.first is.events)))
        (rounds_are_told sound no_lines is.program (drawn_graph seed) machines 0 is.first is.is_first is.events
        shown_ended)
        ∙ ap (shown_course machines (rounds_told false (shown_run seed machines is.program)))
        (table_is_told sound no_lines is.program (drawn_graph seed) machines 0 is.first is.is_first is.events
        shown_ended);
  }

-- a run that leaves images
module _ (sound : State → Type 0) (complete : PlainRunsAreComplete core_work sound) (play : Play) (origin : Origin)
    (image : List ℕ) (course : Course) (is : IsImagedPlay core_work play origin image course) where
  imaged_ended : is_complete core_work is.first is.events ≡ true
  imaged_ended = complete is.first is.events
      (reached sound play.lines play.program play.graph play.machines play.draws is.first is.is_first) is.plain

  pub imaged_told : IsSourceImaged play origin image course
  imaged_told =
      let first = is.is_first in
      record {
        on = parts_on play is.first first;
        fits = first.fits;
        events = is.events;
        plain = plain_on sound play is.first first is.events imaged_ended is.plain;
        course_is = is.course_is
            ∙ ap (λ (u : World). imaged_from core_work play.lines (key_for play origin) image u is.events) first.here
            ∙ course_told first.split first.parts first.of_graph.one first.fits play.lines (key_for play origin) image
            is.events (subst (λ (u : World). is_complete core_work u is.events ≡ true) first.here imaged_ended);
        text = λ quiet. ap course_text is.course_is
            ∙ imaged_text (key_for play origin) image core_work play.lines is.first is.events
            ∙ run_told sound play.lines play.program play.graph play.machines play.draws is.first first is.events
            imaged_ended quiet;
        images = ap files_kept is.course_is
            ∙ images_told play.lines (key_for play origin) image play.program play.graph play.machines play.draws
            is.first first
            (job_is sound play.lines play.program play.graph play.machines play.draws is.first first) is.events
            imaged_ended;
      }

-- a run that goes on from the later of two images
module _ (sound : State → Type 0) (complete : PlainRunsAreComplete core_work sound)
    (restarts : IsRestartLawful core_work sound) (ready : StartIsReady) (play : Play) (origin : Origin)
    (even odd : Option (List ℕ)) (course : Course) (is : IsResumedPlay core_work play origin even odd course) where
  abbrev fresh : IsFirstWorld core_work play.program play.graph play.machines play.draws
      (first_world core_work is.split is.parts)
  fresh = record {
    split = is.split;
    program_is = is.program_is;
    fits = is.fits;
    parts = is.parts;
    of_graph = is.of_graph;
    here = refl;
  }

  begun_told : (found : Option PlainStart) →
      ((start : PlainStart) → found ≡ Some start → All (λ part. IsStart part is.split start) is.parts) →
      (es : List Event) → IsPlainRun core_work (begun_world core_work is.split is.parts found) es →
      (play.lines.log ≡ false →
      course_text (course_from core_work play.lines (begun_world core_work is.split is.parts found) es)
      ≡ begun_text play found) × IsBegunLog play found
      (course_text (course_from core_work play.lines (begun_world core_work is.split is.parts found) es))
  begun_told None starts es plain =
      let whole = plain_source sound complete play
      (course_from core_work play.lines (first_world core_work is.split is.parts) es) (record {
        first = first_world core_work is.split is.parts;
        is_first = fresh;
        events = es;
        plain = plain;
        course_is = refl;
      }) in
      (whole.text, whole.logged)
  begun_told (Some start) starts es plain =
      let text = text_from core_work play.lines (restarted_world core_work is.split is.parts start) es in
      let same = job_is sound play.lines play.program play.graph play.machines play.draws
      (first_world core_work is.split is.parts) fresh in (
        λ quiet. text ∙ later_text sound complete restarts play is.split is.program_is is.fits is.parts is.of_graph same
            start (starts start refl) es plain quiet,
        subst (IsLoggedFrom play start) (sym text) (later_logged sound complete restarts play is.split is.program_is
            is.fits is.parts is.of_graph same start (starts start refl) es plain),
      )

  pub resumed_told : IsSourceResumed play origin even odd course
  resumed_told =
      let found = later_of is.first is.second in
      let told = begun_told found (λ start here. parts_start play.machines play.draws play.graph is.parts is.of_graph
      is.split (key_for play origin) even odd is.first is.second is.first_told is.second_told ready start here)
      is.events is.plain in
      let P : Course → Type 0 = λ c. (play.lines.log ≡ false → course_text c ≡ begun_text play found)
      × IsBegunLog play found (course_text c) in
      let here = subst P (sym is.course_is) told in
      record {
        printed = resumed_printed core_work play origin even odd course is;
        split = is.split;
        program_is = is.program_is;
        first = is.first;
        first_told = is.first_told;
        second = is.second;
        second_told = is.second_told;
        text = here.0;
        logged = here.1;
      }
