-- What the order of each line stores, and how it comes out, by what is known of the courses of its tasks.
use Rattle.std.proofs.Common.{◌≡◌, ◌⊎◌, inl, inr, ℕ, Bool, true, false, List, [], Option, Some, None, Result, Ok, Err, length, nat_lt, refl, ◌∙◌, subst, arith}
use Rattle.std.specs.Prelude.{MatchBool}
use Rattle.command_steps.specs.Commands.{asked, asked_by, followed_order, graph_of, image_name, names_of, names_stored, of_graph, order_of, origin_of, part_play, play_of, stored_by, stored_if, with_both, with_graph, with_program}
use Rattle.command_steps.specs.Comes.{ByFile, Comes, Fits}
use Rattle.command_steps.specs.Courses.{TakesNothing, course_end}
use Rattle.command_steps.specs.Leaves.{Leaves}
use Rattle.command_steps.specs.Notes.{BadPart, Fault, LongSchedule, NoLoad}
use Rattle.command_steps.specs.Orders.{Course, Drawn, DrawnLossy, Ends, Fails, Followed, Imaged, IsOver, Keeps, Order, Parted, Plain, Prints, Puts, Renewed, Resumed, Runs, Served, Shown, Takes, Task, Tries, follows}
use Rattle.command_steps.specs.Outputs.{free_text, plan_text}
use Rattle.command_steps.specs.Quiet.{IsNoneOf, IsQuiet, KeepsOthers, Spares}
use Rattle.command_steps.specs.States.{Outside}
use Rattle.command_steps.proofs.ComesLaws.{IsOrWants, IsSafe, Must, must_come}
use Rattle.command_steps.proofs.LeavesLaws.{quiet_leaves, spared_stays}
use Rattle.edge_reader.specs.declared.fault.EdgeFault.{EdgeFault}
use Rattle.edge_reader.specs.EdgeList.{Graph}
use Rattle.instrument.specs.Shown.{shown}
use Rattle.outside.specs.Causes.{Rose}
use Rattle.outside.specs.Files.{File, file_named}
use Rattle.symple_words.specs.declared.line.GraphForm.{GraphForm}
use Rattle.symple_words.specs.Lines as words
use Rattle.vert_base.specs.declared.limits.TheConstants.{GRAPH_BYTES, IMAGE_BYTES, SCHEDULE_BYTES}
use Rattle.vert_tree.specs.declared.program.Program.{Program}

-- what is known of each course that a task may take
pub record AreCourses (courses : Task → Course → Type 0) : Type 0 where
  -- where the task comes out so, each of them does
  pub must : (task : Task) (files : List File) (input : Option (List ℕ)) (outcome : Option Fault) →
      Comes courses (Runs task follows) files input outcome → Must courses (Runs task follows) files input outcome
  -- it stores under the names of its task alone
  pub spares : (task : Task) (course : Course) → courses task course → (name : List ℕ) →
      IsNoneOf name (names_of task) → Spares courses name (follows course)
  -- and where there are none, it leaves the input alone too
  pub quiet : (task : Task) (course : Course) → courses task course → names_of task ≡ [] →
      IsQuiet courses (follows course)

-- ---- the steps of `resume` behind its graph
module _ (job : words.PlainJob) (image : List ℕ) (machines : ℕ) (text : List ℕ) (program : Program) (bytes : List ℕ)
    (graph : Graph) where
  abbrev resumed : Option (List ℕ) → Option (List ℕ) → Order
  resumed even odd = Runs (Resumed (play_of job machines program graph) (origin_of job text bytes) even odd) follows

  abbrev odd_try : Option (List ℕ) → Order
  odd_try even = Tries (image_name image 1) IMAGE_BYTES (resumed even)

  abbrev resume_tries : Order
  resume_tries = Tries (image_name image 0) IMAGE_BYTES odd_try

-- ---- courses that leave the input alone
module _ (courses : Task → Course → Type 0) (files : List File) (input : Option (List ℕ)) (outcome : Option Fault)
  where
    comes_to : (course : Course) → TakesNothing course → (fs : List File) →
        Comes courses (follows course) fs input outcome → outcome ≡ course_end course
    comes_to IsOver calm fs comes = comes
    comes_to (Fails fault) calm fs comes = comes
    comes_to (Prints text rest) calm fs comes = comes_to rest calm fs comes
    comes_to (Keeps name bytes rest) calm fs comes = comes_to rest calm _ comes
    comes_to (Takes used text rest) calm fs comes = absurd calm

    must_come_to : (course : Course) → TakesNothing course → (fs : List File) → outcome ≡ course_end course →
        Must courses (follows course) fs input outcome
    must_come_to IsOver calm fs is = is
    must_come_to (Fails fault) calm fs is = is
    must_come_to (Prints text rest) calm fs is = must_come_to rest calm fs is
    must_come_to (Keeps name bytes rest) calm fs is = must_come_to rest calm _ is
    must_come_to (Takes used text rest) calm fs is = absurd calm

    -- a course that comes out so must
    pub course_must : (course : Course) (fs : List File) (given : Option (List ℕ)) →
        Comes courses (follows course) fs given outcome → Must courses (follows course) fs given outcome
    course_must IsOver fs given comes = comes
    course_must (Fails fault) fs given comes = comes
    course_must (Prints text rest) fs given comes = course_must rest fs given comes
    course_must (Keeps name bytes rest) fs given comes = course_must rest _ given comes
    course_must (Takes used text rest) fs None comes = comes
    course_must (Takes used text rest) fs (Some bytes) comes = course_must (rest bytes) fs _ comes

    -- two of them that end alike come out alike
    pub ends_alike : (course other : Course) → TakesNothing course → TakesNothing other →
        course_end course ≡ course_end other → Comes courses (follows course) files input outcome →
        Must courses (follows other) files input outcome
    ends_alike course other calm quiet same comes = must_come_to other quiet files (comes_to course calm files comes
        ∙ same)

module _ (courses : Task → Course → Type 0) (are : AreCourses courses) where
  -- ---- what a line stores

  graph_spares : (name : List ℕ) (read : Result Graph EdgeFault) (next : Graph → Order) →
      ((graph : Graph) → Spares courses name (next graph)) → Spares courses name (of_graph read next)
  graph_spares name (Ok graph) next spares = spares graph
  graph_spares name (Err fault) next spares = tt

  line_spares : (line : words.PlainLine) (name : List ℕ) → IsNoneOf name (stored_by line) →
      Spares courses name (asked line)
  line_spares (words.RunOf job machines None) name none = λ text program says bytes.
      graph_spares name (graph_of job.form bytes) (λ graph. Runs (Plain (play_of job machines program graph)) follows)
      (λ graph course is. are.spares (Plain (play_of job machines program graph)) course is name tt)
  line_spares (words.RunOf job machines (Some image)) name none = λ text program says bytes.
      graph_spares name (graph_of job.form bytes) (λ graph.
      Runs (Imaged (play_of job machines program graph) (origin_of job text bytes) image) follows)
      (λ graph course is.
      are.spares (Imaged (play_of job machines program graph) (origin_of job text bytes) image) course is name none)
  line_spares (words.ShowOf program) name none = λ text p says. tt
  line_spares (words.FreeOf program) name none = λ text p says. tt
  line_spares (words.PlanOf of form machines) name none = λ bytes.
      graph_spares name (graph_of form bytes) (λ graph. Puts (plan_text machines graph) Ends) (λ graph. tt)
  line_spares (words.RecordOf job schedule machines seed false) name none = λ text program says bytes.
      graph_spares name (graph_of job.form bytes)
      (λ graph. Runs (Drawn (play_of job machines program graph) seed schedule) follows)
      (λ graph course is. are.spares (Drawn (play_of job machines program graph) seed schedule) course is name none)
  line_spares (words.RecordOf job schedule machines seed true) name none = λ text program says bytes.
      graph_spares name (graph_of job.form bytes)
      (λ graph. Runs (DrawnLossy (play_of job machines program graph) seed schedule) follows)
      (λ graph course is.
      are.spares (DrawnLossy (play_of job machines program graph) seed schedule) course is name none)
  line_spares (words.ReplayOf job schedule) name none = λ text program says bytes.
      graph_spares name (graph_of job.form bytes)
      (λ graph. followed_order (λ count. play_of job count program graph) schedule)
      (λ graph events course is. are.spares (Followed (λ count. play_of job count program graph) events) course is name
      tt)
  line_spares (words.ResumeOf job image machines) name none = λ text program says bytes.
      graph_spares name (graph_of job.form bytes) (resume_tries job image machines text program bytes)
      (λ graph even odd course is.
      are.spares (Resumed (play_of job machines program graph) (origin_of job text bytes) even odd) course is name tt)
  line_spares (words.DemoOf seed machines) name none = λ course is. are.spares (Shown seed machines) course is name tt
  line_spares (words.RenewOf schedule target) name none = λ events course is.
      are.spares (Renewed events target) course is name none
  line_spares (words.SplitOf program graph prefix form machines draws) name none = λ text p says bytes.
      graph_spares name (graph_of form bytes)
      (λ edges. Runs (Parted (part_play machines draws p edges) text prefix) follows)
      (λ edges course is. are.spares (Parted (part_play machines draws p edges) text prefix) course is name none)
  line_spares (words.WorkerOf part rows) name none = λ bytes course is.
      are.spares (Served bytes rows) course is name none

  words_spare : (line : Result words.PlainLine words.LineFault) (name : List ℕ) → IsNoneOf name (stored_if line) →
      Spares courses name (asked_by line)
  words_spare (Ok line) name none = line_spares line name none
  words_spare (Err words.NoCommand) name none = tt
  words_spare (Err words.BadWords) name none = tt

  -- what stands under a name that the words let nothing be stored under is the same
  pub others_stay : (texts : List (List ℕ)) (w new : Outside) (outcome : Option Fault) →
      Leaves courses (order_of texts) w new outcome → KeepsOthers (names_stored texts) w.shelf.files new.shelf.files
  others_stay texts w new outcome leaves = λ name none.
      spared_stays courses name (order_of texts) (words_spare (words.line_of texts) name none) w new outcome leaves

  graph_quiet : (read : Result Graph EdgeFault) (next : Graph → Order) →
      ((graph : Graph) → IsQuiet courses (next graph)) → IsQuiet courses (of_graph read next)
  graph_quiet (Ok graph) next quiet = quiet graph
  graph_quiet (Err fault) next quiet = tt

  line_quiet : (line : words.PlainLine) → stored_by line ≡ [] → IsQuiet courses (asked line)
  line_quiet (words.RunOf job machines None) none = λ text program says bytes.
      graph_quiet (graph_of job.form bytes) (λ graph. Runs (Plain (play_of job machines program graph)) follows)
      (λ graph course is. are.quiet (Plain (play_of job machines program graph)) course is refl)
  line_quiet (words.RunOf job machines (Some image)) none = cc
  line_quiet (words.ShowOf program) none = λ text p says. tt
  line_quiet (words.FreeOf program) none = λ text p says. tt
  line_quiet (words.PlanOf name form machines) none = λ bytes.
      graph_quiet (graph_of form bytes) (λ graph. Puts (plan_text machines graph) Ends) (λ graph. tt)
  line_quiet (words.RecordOf job schedule machines seed false) none = absurd (cc)
  line_quiet (words.RecordOf job schedule machines seed true) none = absurd (cc)
  line_quiet (words.ReplayOf job schedule) none = λ text program says bytes.
      graph_quiet (graph_of job.form bytes)
      (λ graph. followed_order (λ count. play_of job count program graph) schedule)
      (λ graph events course is. are.quiet (Followed (λ count. play_of job count program graph) events) course is refl)
  line_quiet (words.ResumeOf job image machines) none = λ text program says bytes.
      graph_quiet (graph_of job.form bytes) (resume_tries job image machines text program bytes)
      (λ graph even odd course is.
      are.quiet (Resumed (play_of job machines program graph) (origin_of job text bytes) even odd) course is refl)
  line_quiet (words.DemoOf seed machines) none = λ course is. are.quiet (Shown seed machines) course is refl
  line_quiet (words.RenewOf schedule target) none = absurd (cc)
  line_quiet (words.SplitOf program graph prefix form machines draws) none = λ text p says bytes.
      graph_quiet (graph_of form bytes)
      (λ edges. Runs (Parted (part_play machines draws p edges) text prefix) follows)
      (λ edges course is. are.quiet (Parted (part_play machines draws p edges) text prefix) course is none)
  line_quiet (words.WorkerOf part rows) none = absurd (cc)

  words_quiet : (line : Result words.PlainLine words.LineFault) → stored_if line ≡ [] → IsQuiet courses (asked_by line)
  words_quiet (Ok line) none = line_quiet line none
  words_quiet (Err words.NoCommand) none = tt
  words_quiet (Err words.BadWords) none = tt

  -- where the words let nothing be stored, no file and no count of stores changes
  pub nothing_stored : (texts : List (List ℕ)) (w new : Outside) (outcome : Option Fault) →
      Leaves courses (order_of texts) w new outcome → names_stored texts ≡ [] →
      (new.shelf.files ≡ w.shelf.files) × (new.shelf.stores ≡ w.shelf.stores)
  nothing_stored texts w new outcome leaves none =
      let b = quiet_leaves courses (order_of texts) (words_quiet (words.line_of texts) none) w new outcome leaves in
      (b.files, b.stores)

  -- ---- an order that may come out so must

  by_bool : (b : Bool) (long within more : Type 0) → (within → more) → MatchBool b long within → MatchBool b long more
  by_bool true long within more step fact = fact
  by_bool false long within more step fact = step fact

  -- of a file within the limit another fact follows
  by_file : (limit : ℕ) (file : Option (List ℕ)) (lacks long : Type 0) (within more : List ℕ → Type 0) →
      ((bytes : List ℕ) → within bytes → more bytes) →
      ByFile limit file lacks long within → ByFile limit file lacks long more
  by_file limit None lacks long within more step fact = fact
  by_file limit (Some bytes) lacks long within more step fact = by_bool (nat_lt limit (length bytes)) long
      (within bytes) (more bytes) (step bytes) fact

  both_bool : (b : Bool) (long other within more : Type 0) → (long → other) → (within → more) →
      MatchBool b long within → MatchBool b other more
  both_bool true long other within more first second fact = first fact
  both_bool false long other within more first second fact = second fact

  -- of a file, or of none, another fact follows
  by_tried : (limit : ℕ) (file : Option (List ℕ)) (P Q : Option (List ℕ) → Type 0) →
      ((file : Option (List ℕ)) → P file → Q file) → ByFile limit file (P None) (P None) (λ bytes. P (Some bytes)) →
      ByFile limit file (Q None) (Q None) (λ bytes. Q (Some bytes))
  by_tried limit None P Q step fact = step None fact
  by_tried limit (Some bytes) P Q step fact = both_bool (nat_lt limit (length bytes)) (P None) (Q None)
      (P (Some bytes)) (Q (Some bytes)) (step None) (step (Some bytes)) fact

  module _ (files : List File) (input : Option (List ℕ)) (outcome : Option Fault) where
    abbrev May : Order → Type 0
    May order = Comes courses order files input outcome

    abbrev Has : Order → Type 0
    Has order = Must courses order files input outcome

    file_must : (name : List ℕ) (limit : ℕ) (too_long : Fault) (next : List ℕ → Order) →
        ((bytes : List ℕ) → May (next bytes) → Has (next bytes)) → ByFile limit (file_named name files)
        (outcome ≡ Some (NoLoad name)) (outcome ≡ Some too_long) (λ bytes. May (next bytes)) →
        ByFile limit (file_named name files)
        (outcome ≡ Some (NoLoad name)) (outcome ≡ Some too_long) (λ bytes. Has (next bytes))
    file_must name limit too_long next step may =
        by_file limit (file_named name files) (outcome ≡ Some (NoLoad name)) (outcome ≡ Some too_long)
        (λ bytes. May (next bytes)) (λ bytes. Has (next bytes)) step may

    program_must : (name : List ℕ) (next : List ℕ → Program → Order) →
        ((text : List ℕ) (p : Program) → May (next text p) → Has (next text p)) →
        May (with_program name next) → Has (with_program name next)
    program_must name next step may =
        by_file 65536 (file_named name files) (outcome ≡ Some (NoLoad name)) _ _ _ (λ text judged.
        (judged.0, λ program says. step text program (judged.1 program says))) may

    graph_either : (read : Result Graph EdgeFault) (next : Graph → Order) →
        ((graph : Graph) → May (next graph) → Has (next graph)) → May (of_graph read next) → Has (of_graph read next)
    graph_either (Ok graph) next step may = step graph may
    graph_either (Err fault) next step may = may

    graph_must : (form : GraphForm) (name : List ℕ) (next : List ℕ → Graph → Order) →
        ((bytes : List ℕ) (graph : Graph) → May (next bytes graph) → Has (next bytes graph)) →
        May (with_graph form name next) → Has (with_graph form name next)
    graph_must form name next step may =
        by_file 268435456 (file_named name files) (outcome ≡ Some (NoLoad name)) _ _ _ (λ bytes.
        graph_either (graph_of form bytes) (next bytes) (step bytes)) may

    both_must : (name : List ℕ) (form : GraphForm) (of : List ℕ) (next : List ℕ → Program → List ℕ → Graph → Order) →
        ((text : List ℕ) (p : Program) (bytes : List ℕ) (graph : Graph) → May (next text p bytes graph) →
        Has (next text p bytes graph)) → May (with_both name form of next) → Has (with_both name form of next)
    both_must name form of next step may =
        program_must name (λ text program. with_graph form of (λ bytes graph. next text program bytes graph))
        (λ text program. graph_must form of (next text program) (step text program)) may

    try_must : (name : List ℕ) (limit : ℕ) (next : Option (List ℕ) → Order) →
        ((file : Option (List ℕ)) → May (next file) → Has (next file)) → May (Tries name limit next) →
        Has (Tries name limit next)
    try_must name limit next step may = by_tried limit (file_named name files) (λ file. May (next file))
        (λ file. Has (next file)) step may

    task_must : (task : Task) → May (Runs task follows) → Has (Runs task follows)
    task_must task may = are.must task files input outcome may

    line_must : (line : words.PlainLine) → May (asked line) → Has (asked line)
    line_must (words.RunOf job machines None) may =
        both_must job.program job.form job.graph (λ text program bytes graph.
        Runs (Plain (play_of job machines program graph)) follows)
        (λ text program bytes graph. task_must (Plain (play_of job machines program graph))) may
    line_must (words.RunOf job machines (Some image)) may =
        both_must job.program job.form job.graph (λ text program bytes graph.
        Runs (Imaged (play_of job machines program graph) (origin_of job text bytes) image) follows)
        (λ text program bytes graph.
        task_must (Imaged (play_of job machines program graph) (origin_of job text bytes) image)) may
    line_must (words.ShowOf name) may = program_must name (λ text program. Puts (shown program) Ends)
        (λ text p fine. fine) may
    line_must (words.FreeOf name) may = program_must name (λ text program. Puts (free_text program) Ends)
        (λ text p fine. fine) may
    line_must (words.PlanOf name form machines) may = graph_must form name (λ bytes graph.
        Puts (plan_text machines graph) Ends) (λ bytes graph fine. fine) may
    line_must (words.RecordOf job schedule machines seed false) may =
        both_must job.program job.form job.graph (λ text program bytes graph.
        Runs (Drawn (play_of job machines program graph) seed schedule) follows)
        (λ text program bytes graph. task_must (Drawn (play_of job machines program graph) seed schedule)) may
    line_must (words.RecordOf job schedule machines seed true) may =
        both_must job.program job.form job.graph (λ text program bytes graph.
        Runs (DrawnLossy (play_of job machines program graph) seed schedule) follows)
        (λ text program bytes graph. task_must (DrawnLossy (play_of job machines program graph) seed schedule)) may
    line_must (words.ReplayOf job schedule) may =
        both_must job.program job.form job.graph (λ text program bytes graph.
        followed_order (λ count. play_of job count program graph) schedule)
        (λ text program bytes graph. file_must schedule SCHEDULE_BYTES LongSchedule
        (λ events. Runs (Followed (λ count. play_of job count program graph) events) follows)
        (λ events. task_must (Followed (λ count. play_of job count program graph) events))) may
    line_must (words.ResumeOf job image machines) may =
        both_must job.program job.form job.graph (resume_tries job image machines)
        (λ text program bytes graph. try_must (image_name image 0) IMAGE_BYTES (odd_try job image machines text program
        bytes graph) (λ even. try_must (image_name image 1) IMAGE_BYTES
        (resumed job image machines text program bytes graph even) (λ odd.
        task_must (Resumed (play_of job machines program graph) (origin_of job text bytes) even odd)))) may
    line_must (words.DemoOf seed machines) may = task_must (Shown seed machines) may
    line_must (words.RenewOf schedule target) may = file_must schedule SCHEDULE_BYTES LongSchedule
        (λ events. Runs (Renewed events target) follows) (λ events. task_must (Renewed events target)) may
    line_must (words.SplitOf program graph prefix form machines draws) may =
        both_must program form graph (λ text p bytes edges.
        Runs (Parted (part_play machines draws p edges) text prefix) follows)
        (λ text p bytes edges. task_must (Parted (part_play machines draws p edges) text prefix)) may
    line_must (words.WorkerOf part rows) may = file_must part GRAPH_BYTES (BadPart 2)
        (λ bytes. Runs (Served bytes rows) follows) (λ bytes. task_must (Served bytes rows)) may

    order_must : (line : Result words.PlainLine words.LineFault) → May (asked_by line) → Has (asked_by line)
    order_must (Ok line) may = line_must line may
    order_must (Err words.NoCommand) may = may
    order_must (Err words.BadWords) may = may

  -- no put fails where none was counted, or the sink is sure of the texts
  safe : (order : Order) (files : List File) (input : Option (List ℕ)) (faults after spare : ℕ) →
      (Rose faults after → ⊥) ⊎ Fits courses order files input spare →
      IsSafe courses order files input faults after spare
  safe order files input faults after spare (inl calm) = inl calm
  safe order files input faults after spare (inr fits) = inr (spare, fits, omega arith)

  -- where the order of the words comes out so over told files and nothing fails, it ended so, or memory was wanting
  pub comes_or_wants :
      (texts : List (List ℕ)) (w after : Outside) (outcome : Option Fault) →
      Leaves courses (order_of texts) w after outcome → (files : List File) (expected : Option Fault) →
      w.shelf.files ≡ Some files → Comes courses (order_of texts) files w.input.bytes expected →
      (Rose w.shelf.loads after.shelf.loads → ⊥) → (Rose w.shelf.stores after.shelf.stores → ⊥) →
      (Rose w.input.faults after.input.faults → ⊥) →
      (Rose w.out.faults after.out.faults → ⊥) ⊎ Fits courses (order_of texts) files w.input.bytes w.out.spare →
      IsOrWants outcome expected
  comes_or_wants texts w after outcome leaves files expected told comes no_load no_store no_take no_put =
      let P : Option (List File) → Type 0 = λ fs.
      Leaves courses (order_of texts)
      (record {
        shelf = record { files = fs; loads = w.shelf.loads; stores = w.shelf.stores };
        out = w.out;
        input = record { bytes = w.input.bytes; faults = w.input.faults };
      }) after outcome in
      must_come courses after outcome expected (order_of texts) files w.shelf.loads w.shelf.stores w.out
      w.input.bytes w.input.faults
      (order_must files w.input.bytes expected (words.line_of texts) comes)
      (record { no_load = no_load; no_store = no_store; no_take = no_take })
      (safe (order_of texts) files w.input.bytes w.out.faults after.out.faults w.out.spare no_put)
      (subst P told leaves)
