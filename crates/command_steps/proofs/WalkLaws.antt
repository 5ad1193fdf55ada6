-- How the parts of a command make its order.
use Rattle.std.proofs.Common.{◌≡◌, ℕ, true, false, List, Option, Some, None, Result, Ok, Err, refl, sym, ap, subst}
use Rattle.edge_reader.specs.declared.fault.EdgeFault.{EdgeFault}
use Rattle.edge_reader.specs.EdgeList.{Graph}
use Rattle.command_steps.specs.declared.failure.Failure.{Failure}
use Rattle.command_steps.specs.declared.failure.Failure.TheVariants as failure
use Rattle.command_steps.specs.Commands.{asked, asked_by, of_graph, order_of, with_both, with_graph, with_program}
use Rattle.command_steps.specs.Faults.{failure_for, fault_of}
use Rattle.command_steps.specs.Leaves.{Gained, IsProgram, IsRefused, Leaves, Loaded, NotLoaded, NotPut, Refused, Wants, WantsAtLoad, WantsAtPut, WantsAtRefusal, WantsAtRun}
use Rattle.command_steps.specs.Notes.{Fault, NoMemory}
use Rattle.command_steps.specs.Orders.{Course, Ends, Order, Task, Puts, Refuses}
use Rattle.command_steps.specs.States.{Held, Kept, Left, Outside, outside}
use Rattle.command_steps.specs.Walks.{BadFile, BadText, HasBoth, HasGraph, HasProgram, LacksGraph, LacksProgram, NoBoth, NoFile, NoGraph, NoProgram, NoText, Plays, WantsForFile, WantsForText, fault_after}
use Rattle.symple_words.specs.Answers.{Faults}
use Rattle.symple_words.specs.declared.fault.WordFault.{WordFault}
use Rattle.symple_words.specs.declared.fault.WordFault.TheVariants as word
use Rattle.symple_words.specs.declared.line.GraphForm.{GraphForm}
use Rattle.symple_words.specs.Lines as words
use Rattle.vert_tree.specs.declared.program.Program.{Program}
use Rattle.vert_tree.specs.declared.typed.Typed.{Typed}

-- the shelf alone is as before
same_shelf : (old new : Kept) (out : Held) (input : Left) → new ≡ old → outside new out input ≡ outside old out input
same_shelf old new out input same = ap (λ (k : Kept). outside k out input) same

module _ (courses : Task → Course → Type 0) where
  -- ---- loads

  -- the program was loaded and read, and then the rest came
  pub program_goes :
      (old new : Kept) (name : List ℕ) (typed : Typed) (has : HasProgram old new name typed)
      (next : List ℕ → Program → Order) (out : Held) (input : Left) (after : Outside) (outcome : Option Fault) →
      Leaves courses (next has.text typed.program) (outside new out input) after outcome →
      Leaves courses (with_program name next) (outside old out input) after outcome
  program_goes old new name typed has next out input after outcome rest =
      let P : Kept → Type 0 = λ k. Leaves courses (next has.text typed.program) (outside k out input) after outcome in
      Loaded has.text has.under has.within (IsProgram typed.program has.says (subst P has.same rest))

  -- there is no program, and the command ended
  pub program_stops :
      (old new : Kept) (name : List ℕ) (fault : Fault) → NoProgram old new name fault →
      (next : List ℕ → Program → Order) (out : Held) (input : Left) →
      Leaves courses (with_program name next) (outside old out input) (outside new out input) (Some fault)
  program_stops old new name fault (NoText why) next out input = NotLoaded fault why refl refl
  program_stops old new name fault (BadText text under within refusal refuses same is) next out input =
      Loaded text under within (IsRefused refusal refuses
      (record { same = same_shelf old new out input same; fault_is = ap Some is }))
  program_stops old new name fault (WantsForText same is) next out input = WantsAtLoad
      (record { same = same_shelf old new out input same; memory = ap Some is })

  pub graph_goes :
      (old new : Kept) (form : GraphForm) (name : List ℕ) (graph : Graph) (has : HasGraph old new form name graph)
      (next : List ℕ → Graph → Order) (out : Held) (input : Left) (after : Outside) (outcome : Option Fault) →
      Leaves courses (next has.bytes graph) (outside new out input) after outcome →
      Leaves courses (with_graph form name next) (outside old out input) after outcome
  graph_goes old new form name graph has next out input after outcome rest =
      let P : Kept → Type 0 = λ k. Leaves courses (next has.bytes graph) (outside k out input) after outcome in
      let Q : Result Graph EdgeFault → Type 0 = λ read.
      Leaves courses (of_graph read (next has.bytes)) (outside old out input) after outcome in
      Loaded has.bytes has.under has.within (subst Q (sym has.reads) (subst P has.same rest))

  pub graph_stops :
      (old new : Kept) (form : GraphForm) (name : List ℕ) (fault : Fault) → NoGraph old new form name fault →
      (next : List ℕ → Graph → Order) (out : Held) (input : Left) →
      Leaves courses (with_graph form name next) (outside old out input) (outside new out input) (Some fault)
  graph_stops old new form name fault (NoFile why) next out input = NotLoaded fault why refl refl
  graph_stops old new form name fault (BadFile bytes under within why reads same is) next out input =
      let Q : Result Graph EdgeFault → Type 0 = λ read.
      Leaves courses (of_graph read (next bytes)) (outside old out input) (outside new out input) (Some fault) in
      Loaded bytes under within (subst Q (sym reads)
      (Refused (record { same = same_shelf old new out input same; fault_is = ap Some is })))
  graph_stops old new form name fault (WantsForFile same is) next out input = WantsAtLoad
      (record { same = same_shelf old new out input same; memory = ap Some is })

  -- both were loaded and read, and then the rest came; or one was not, and the command ended
  pub both_go :
      (old new : Kept) (name : List ℕ) (form : GraphForm) (of : List ℕ) (typed : Typed) (graph : Graph)
      (has : HasBoth old new name form of typed graph)
      (next : List ℕ → Program → List ℕ → Graph → Order) (out : Held) (input : Left) (after : Outside)
      (outcome : Option Fault) →
      Leaves courses (next has.has_program.text typed.program has.has_graph.bytes graph) (outside new out input) after
      outcome →
      Leaves courses (with_both name form of next) (outside old out input) after outcome
  both_go old new name form of typed graph has next out input after outcome rest =
      program_goes old old name typed has.has_program
      (λ text program. with_graph form of (λ bytes edges. next text program bytes edges)) out input after outcome
      (graph_goes old new form of graph has.has_graph (next has.has_program.text typed.program) out input after
      outcome rest)

  pub both_stop :
      (old new : Kept) (name : List ℕ) (form : GraphForm) (of : List ℕ) (fault : Fault) →
      NoBoth old new name form of fault →
      (next : List ℕ → Program → List ℕ → Graph → Order) (out : Held) (input : Left) →
      Leaves courses (with_both name form of next) (outside old out input) (outside new out input) (Some fault)
  both_stop old new name form of fault (LacksProgram none) next out input =
      program_stops old new name fault none
      (λ text program. with_graph form of (λ bytes edges. next text program bytes edges)) out input
  both_stop old new name form of fault (LacksGraph typed has none) next out input =
      program_goes old old name typed has
      (λ text program. with_graph form of (λ bytes edges. next text program bytes edges)) out input
      (outside new out input) (Some fault)
      (graph_stops old new form of fault none (next has.text typed.program) out input)

  -- ---- a text, and the end

  pub put_ends :
      (text : List ℕ) (old new : Held) (result : Result (Unit {0}) Failure) → Plays text old new result →
      (shelf : Kept) (input : Left) →
      Leaves courses (Puts text Ends) (outside shelf old input) (outside shelf new input) (fault_after result)
  put_ends text old new (Ok done) plays shelf input = Gained new.spare plays.spared
      (record { same = ap (λ (h : Held). outside shelf h input) plays.same; fine = refl })
  put_ends text old new (Err failure.Write) plays shelf input = NotPut plays refl refl
  put_ends text old new (Err failure.Memory) plays shelf input = WantsAtPut
      (record { same = ap (λ (h : Held). outside shelf h input) plays; memory = refl })
  put_ends text old new (Err failure.Command) plays shelf input = absurd plays
  put_ends text old new (Err failure.Words) plays shelf input = absurd plays
  put_ends text old new (Err (failure.Load name)) plays shelf input = absurd plays
  put_ends text old new (Err (failure.Program refusal)) plays shelf input = absurd plays
  put_ends text old new (Err (failure.GraphLine code line)) plays shelf input = absurd plays
  put_ends text old new (Err (failure.GraphByte code at)) plays shelf input = absurd plays
  put_ends text old new (Err failure.ScheduleHeader) plays shelf input = absurd plays
  put_ends text old new (Err (failure.ScheduleLine line)) plays shelf input = absurd plays
  put_ends text old new (Err failure.LongSchedule) plays shelf input = absurd plays
  put_ends text old new (Err (failure.Event line why)) plays shelf input = absurd plays
  put_ends text old new (Err (failure.NotTaken name)) plays shelf input = absurd plays
  put_ends text old new (Err (failure.NotGone machine)) plays shelf input = absurd plays
  put_ends text old new (Err (failure.Part code)) plays shelf input = absurd plays
  put_ends text old new (Err (failure.Message code at)) plays shelf input = absurd plays
  put_ends text old new (Err (failure.EndsEarly name)) plays shelf input = absurd plays
  put_ends text old new (Err failure.Input) plays shelf input = absurd plays

  -- ---- words

  -- what an order leaves, another leaves that is the same
  pub as_order : (first second : Order) (w after : Outside) (outcome : Option Fault) → first ≡ second →
      Leaves courses first w after outcome → Leaves courses second w after outcome
  as_order first second w after outcome same leaves = let P : Order → Type 0 = λ o. Leaves courses o w after outcome
      in subst P same leaves

  -- a line that isn't performed
  pub refuses : (fault : Fault) (w : Outside) → Leaves courses (Refuses fault) w w (Some fault)
  refuses fault w = Refused (record { same = refl; fault_is = refl })

  no_memory : (w : Outside) → Wants w w (Some NoMemory)
  no_memory w = record { same = refl; memory = refl }

  -- memory may want before anything of a line is done
  asked_wants : (line : words.PlainLine) (w : Outside) → Leaves courses (asked line) w w (Some NoMemory)
  asked_wants (words.RunOf job machines None) w = WantsAtLoad (no_memory w)
  asked_wants (words.RunOf job machines (Some image)) w = WantsAtLoad (no_memory w)
  asked_wants (words.ShowOf program) w = WantsAtLoad (no_memory w)
  asked_wants (words.FreeOf program) w = WantsAtLoad (no_memory w)
  asked_wants (words.PlanOf graph form machines) w = WantsAtLoad (no_memory w)
  asked_wants (words.RecordOf job schedule machines seed false) w = WantsAtLoad (no_memory w)
  asked_wants (words.RecordOf job schedule machines seed true) w = WantsAtLoad (no_memory w)
  asked_wants (words.ReplayOf job schedule) w = WantsAtLoad (no_memory w)
  asked_wants (words.ResumeOf job image machines) w = WantsAtLoad (no_memory w)
  asked_wants (words.DemoOf seed machines) w = WantsAtRun (no_memory w)
  asked_wants (words.RenewOf schedule target) w = WantsAtLoad (no_memory w)
  asked_wants (words.SplitOf program graph prefix form machines draws) w = WantsAtLoad (no_memory w)
  asked_wants (words.WorkerOf part rows) w = WantsAtLoad (no_memory w)

  asked_by_wants : (line : Result words.PlainLine words.LineFault) (w : Outside) →
      Leaves courses (asked_by line) w w (Some NoMemory)
  asked_by_wants (Ok line) w = asked_wants line w
  asked_by_wants (Err words.NoCommand) w = WantsAtRefusal (no_memory w)
  asked_by_wants (Err words.BadWords) w = WantsAtRefusal (no_memory w)

  -- the words were no line
  words_stop : (texts : List (List ℕ)) (w : Outside) (why : WordFault) → Faults (words.line_of texts) why →
      Leaves courses (order_of texts) w w (Some (fault_of (failure_for why)))
  words_stop texts w word.Command is =
      let P : Result words.PlainLine words.LineFault → Type 0 = λ r.
      Leaves courses (asked_by r) w w (Some (fault_of failure.Command)) in
      subst P (sym is) (refuses (fault_of failure.Command) w)
  words_stop texts w word.Words is =
      let P : Result words.PlainLine words.LineFault → Type 0 = λ r.
      Leaves courses (asked_by r) w w (Some (fault_of failure.Words)) in
      subst P (sym is) (refuses (fault_of failure.Words) w)
  words_stop texts w word.Want is = asked_by_wants (words.line_of texts) w

  pub words_refused :
      (texts : List (List ℕ)) (w : Outside) (why : WordFault) → Faults (words.line_of texts) why → (f : Failure) →
      f ≡ failure_for why → Leaves courses (order_of texts) w w (Some (fault_of f))
  words_refused texts w why faults f is =
      let P : Failure → Type 0 = λ g. Leaves courses (order_of texts) w w (Some (fault_of g)) in
      subst P (sym is) (words_stop texts w why faults)

  -- the words were a line, and it was performed
  pub line_obeyed :
      (texts : List (List ℕ)) (line : words.PlainLine) (w after : Outside) (outcome : Option Fault) →
      words.line_of texts ≡ Ok line → Leaves courses (asked line) w after outcome →
      Leaves courses (order_of texts) w after outcome
  line_obeyed texts line w after outcome is leaves =
      let P : Result words.PlainLine words.LineFault → Type 0 = λ r. Leaves courses (asked_by r) w after outcome in
      subst P (sym is) leaves
