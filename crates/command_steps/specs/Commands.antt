-- What each command does: the order of its steps, by the line that its words are.
use Rattle.std.specs.Prelude.{◌%◌, ◌++◌, ℕ, Bool, true, false, List, [], ◌∷◌, Some, None, Result, Ok, Err, codes, decimal, if◌then◌else◌, map}
use Rattle.std.specs.List.{range_with_len}
use Rattle.edge_reader.specs.declared.fault.EdgeFault.{EdgeFault}
use Rattle.edge_reader.specs.declared.fault.EdgeFault.TheVariants.{Line as AtLine, Byte as AtByte, Want as EdgeWant}
use Rattle.edge_reader.specs.EdgeList.{Graph}
use Rattle.edge_reader.specs.EdgePairs.{reading_of_pairs}
use Rattle.edge_reader.specs.EdgeText.{reading_of_text}
use Rattle.instrument.specs.Shown.{shown}
use Rattle.program_reader.specs.declared.refusal.Stage.TheVariants.{Tokens}
use Rattle.command_steps.specs.Notes.{BadByte, BadLine, BadPart, BadProgram, BadWords, Fault, LongSchedule, NoCommand, NoMemory}
use Rattle.command_steps.specs.Orders.{Drawn, DrawnLossy, Ends, Followed, Imaged, Judges, Loads, Order, Origin, Parted, Plain, Play, Puts, Refuses, Renewed, Resumed, Runs, Served, Shown, Task, Tries, follows}
use Rattle.command_steps.specs.Outputs.{free_text, plan_text}
use Rattle.symple_words.specs.declared.line.GraphForm.{GraphForm}
use Rattle.symple_words.specs.Lines as words
use Rattle.vert_base.specs.declared.limits.TheConstants.{GRAPH_BYTES, IMAGE_BYTES, PROGRAM_BYTES, SCHEDULE_BYTES}
use Rattle.vert_lex.specs.Text.{origin}
use Rattle.vert_tree.specs.declared.program.Program.{Program}

-- ---- a program and a graph

abbrev pub too_long_program : Fault
too_long_program = BadProgram (record { stage = Tokens; number = 3; span = origin })

-- a program is loaded and judged
abbrev pub with_program : List ℕ → (List ℕ → Program → Order) → Order
with_program name next = Loads name PROGRAM_BYTES too_long_program (λ text. Judges text (next text))

abbrev pub too_long_graph : Fault
too_long_graph = BadByte 7 GRAPH_BYTES

abbrev pub edge_fault : EdgeFault → Fault
edge_fault (AtLine code line) = BadLine code line
edge_fault (AtByte code at) = BadByte code at
edge_fault EdgeWant = NoMemory

-- the graph that some bytes say, or their first fault
abbrev pub graph_of : GraphForm → List ℕ → Result Graph EdgeFault
graph_of form bytes =
    if form.binary then reading_of_pairs form.weighted form.both bytes
    else reading_of_text form.vertices form.both bytes

abbrev pub of_graph : Result Graph EdgeFault → (Graph → Order) → Order
of_graph (Ok graph) next = next graph
of_graph (Err fault) next = Refuses (edge_fault fault)

-- a graph is loaded and judged
abbrev pub with_graph : GraphForm → List ℕ → (List ℕ → Graph → Order) → Order
with_graph form name next =
    Loads name GRAPH_BYTES too_long_graph (λ bytes. of_graph (graph_of form bytes) (next bytes))

-- both are
abbrev pub with_both : List ℕ → GraphForm → List ℕ → (List ℕ → Program → List ℕ → Graph → Order) → Order
with_both program form graph next =
    with_program program (λ text read. with_graph form graph (λ bytes edges. next text read bytes edges))

-- ---- names of files

-- the image of a round: one name for even rounds, and one for odd ones
abbrev pub image_name : List ℕ → ℕ → List ℕ
image_name name round = name ++ codes "." ++ decimal (round % 2)

abbrev pub part_name : List ℕ → ℕ → List ℕ
part_name prefix machine = prefix ++ codes "." ++ decimal machine

abbrev pub part_names : List ℕ → ℕ → List (List ℕ)
part_names prefix machines = map (part_name prefix) (range_with_len 0 machines)

-- the names under which a task may store
abbrev pub names_of : Task → List (List ℕ)
names_of (Plain play) = []
names_of (Imaged play files image) = image_name image 0 ∷ image_name image 1 ∷ []
names_of (Resumed play files even odd) = []
names_of (Drawn play seed schedule) = schedule ∷ []
names_of (DrawnLossy play seed schedule) = schedule ∷ []
names_of (Followed play schedule) = []
names_of (Shown seed machines) = []
names_of (Renewed schedule target) = target ∷ []
names_of (Parted play program prefix) = part_names prefix play.machines
names_of (Served part rows) = rows ∷ []

-- ---- the commands

abbrev pub play_of : words.PlainJob → ℕ → Program → Graph → Play
play_of job machines program graph = record {
  program = program;
  graph = graph;
  machines = machines;
  draws = job.draws;
  lines = job.lines;
}

abbrev pub run_order : words.PlainJob → ℕ → Order
run_order job machines = with_both job.program job.form job.graph (λ text program bytes graph.
    Runs (Plain (play_of job machines program graph)) follows)

abbrev pub origin_of : words.PlainJob → List ℕ → List ℕ → Origin
origin_of job text bytes = record { program = text; graph = bytes; form = job.form }

abbrev pub image_order : words.PlainJob → ℕ → List ℕ → Order
image_order job machines image = with_both job.program job.form job.graph (λ text program bytes graph.
    Runs (Imaged (play_of job machines program graph) (origin_of job text bytes) image) follows)

abbrev pub resume_order : words.PlainJob → List ℕ → ℕ → Order
resume_order job image machines = with_both job.program job.form job.graph (λ text program bytes graph.
    Tries (image_name image 0) IMAGE_BYTES (λ even. Tries (image_name image 1) IMAGE_BYTES (λ odd.
    Runs (Resumed (play_of job machines program graph) (origin_of job text bytes) even odd) follows)))

abbrev pub record_order : words.PlainJob → List ℕ → ℕ → ℕ → Order
record_order job schedule machines seed = with_both job.program job.form job.graph (λ text program bytes graph.
    Runs (Drawn (play_of job machines program graph) seed schedule) follows)

abbrev pub lossy_order : words.PlainJob → List ℕ → ℕ → ℕ → Order
lossy_order job schedule machines seed = with_both job.program job.form job.graph (λ text program bytes graph.
    Runs (DrawnLossy (play_of job machines program graph) seed schedule) follows)

-- a schedule is loaded, and its events are played
abbrev pub followed_order : (ℕ → Play) → List ℕ → Order
followed_order play schedule =
    Loads schedule SCHEDULE_BYTES LongSchedule (λ events. Runs (Followed play events) follows)

abbrev pub replay_order : words.PlainJob → List ℕ → Order
replay_order job schedule = with_both job.program job.form job.graph (λ text program bytes graph.
    followed_order (λ machines. play_of job machines program graph) schedule)

abbrev pub demo_order : ℕ → ℕ → Order
demo_order seed machines = Runs (Shown seed machines) follows

abbrev pub renew_order : List ℕ → List ℕ → Order
renew_order schedule target =
    Loads schedule SCHEDULE_BYTES LongSchedule (λ events. Runs (Renewed events target) follows)

abbrev pub part_play : ℕ → ℕ → Program → Graph → Play
part_play machines draws program graph = record {
  program = program;
  graph = graph;
  machines = machines;
  draws = draws;
  lines = record { rounds = false; reads = false; log = false };
}

abbrev pub split_order : List ℕ → List ℕ → List ℕ → GraphForm → ℕ → ℕ → Order
split_order program graph prefix form machines draws = with_both program form graph (λ text read bytes edges.
    Runs (Parted (part_play machines draws read edges) text prefix) follows)

abbrev pub worker_order : List ℕ → List ℕ → Order
worker_order part rows = Loads part GRAPH_BYTES (BadPart 2) (λ bytes. Runs (Served bytes rows) follows)

abbrev pub show_order : List ℕ → Order
show_order name = with_program name (λ text program. Puts (shown program) Ends)

abbrev pub free_order : List ℕ → Order
free_order name = with_program name (λ text program. Puts (free_text program) Ends)

abbrev pub plan_order : List ℕ → GraphForm → ℕ → Order
plan_order name form machines = with_graph form name (λ bytes graph. Puts (plan_text machines graph) Ends)

-- the order of a line
abbrev pub asked : words.PlainLine → Order
asked (words.RunOf job machines None) = run_order job machines
asked (words.RunOf job machines (Some image)) = image_order job machines image
asked (words.ShowOf program) = show_order program
asked (words.FreeOf program) = free_order program
asked (words.PlanOf graph form machines) = plan_order graph form machines
asked (words.RecordOf job schedule machines seed false) = record_order job schedule machines seed
asked (words.RecordOf job schedule machines seed true) = lossy_order job schedule machines seed
asked (words.ReplayOf job schedule) = replay_order job schedule
asked (words.ResumeOf job image machines) = resume_order job image machines
asked (words.DemoOf seed machines) = demo_order seed machines
asked (words.RenewOf schedule target) = renew_order schedule target
asked (words.SplitOf program graph prefix form machines draws) = split_order program graph prefix form machines draws
asked (words.WorkerOf part rows) = worker_order part rows

-- the names under which a line may store
abbrev pub stored_by : words.PlainLine → List (List ℕ)
stored_by (words.RunOf job machines None) = []
stored_by (words.RunOf job machines (Some image)) = image_name image 0 ∷ image_name image 1 ∷ []
stored_by (words.ShowOf program) = []
stored_by (words.FreeOf program) = []
stored_by (words.PlanOf graph form machines) = []
stored_by (words.RecordOf job schedule machines seed lossy) = schedule ∷ []
stored_by (words.ReplayOf job schedule) = []
stored_by (words.ResumeOf job image machines) = []
stored_by (words.DemoOf seed machines) = []
stored_by (words.RenewOf schedule target) = target ∷ []
stored_by (words.SplitOf program graph prefix form machines draws) = part_names prefix machines
stored_by (words.WorkerOf part rows) = rows ∷ []

abbrev pub stored_if : Result words.PlainLine words.LineFault → List (List ℕ)
stored_if (Ok line) = stored_by line
stored_if (Err fault) = []

abbrev pub asked_by : Result words.PlainLine words.LineFault → Order
asked_by (Ok line) = asked line
asked_by (Err words.NoCommand) = Refuses NoCommand
asked_by (Err words.BadWords) = Refuses BadWords

-- a worker alone takes from the input
abbrev pub is_worker : words.PlainLine → Bool
is_worker (words.RunOf job machines image) = false
is_worker (words.ShowOf program) = false
is_worker (words.FreeOf program) = false
is_worker (words.PlanOf graph form machines) = false
is_worker (words.RecordOf job schedule machines seed lossy) = false
is_worker (words.ReplayOf job schedule) = false
is_worker (words.ResumeOf job image machines) = false
is_worker (words.DemoOf seed machines) = false
is_worker (words.RenewOf schedule target) = false
is_worker (words.SplitOf program graph prefix form machines draws) = false
is_worker (words.WorkerOf part rows) = true

abbrev pub is_worker_if : Result words.PlainLine words.LineFault → Bool
is_worker_if (Ok line) = is_worker line
is_worker_if (Err fault) = false

-- whether the words let the input be taken from
abbrev pub takes_input : List (List ℕ) → Bool
takes_input texts = is_worker_if (words.line_of texts)

-- the order of the words behind the program's own name
abbrev pub order_of : List (List ℕ) → Order
order_of texts = asked_by (words.line_of texts)

-- the names under which the words let something be stored
abbrev pub names_stored : List (List ℕ) → List (List ℕ)
names_stored texts = stored_if (words.line_of texts)
