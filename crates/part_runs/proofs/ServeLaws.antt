-- What serving an input leaves of the outside, up to the lines that are kept.
use Rattle.std.proofs.Common.{◌≡◌, ◌≢◌, ℕ, List, Option, Some, None, Result, Ok, Err, refl, sym, ap, subst, ◌∙◌, true}
use Rattle.std.specs.Prelude.{IfSome, drop, option_map}
use Rattle.outside.specs.Bytes.{gained}
use Rattle.command_steps.specs.declared.failure.Failure.{Failure}
use Rattle.command_steps.specs.Faults.{fault_of}
use Rattle.command_steps.specs.FileWalks.{HasBytes, StoresFile}
use Rattle.command_steps.specs.Leaves.{Leaves, NotServed, PutFailed, Ran, Refused, Served, TakeFailed, WantsAtRun, WantsToServe}
use Rattle.command_steps.specs.Commands.{worker_order}
use Rattle.command_steps.specs.Notes.{BadPart, Fault}
use Rattle.command_steps.specs.Orders.{Course, Ends, Fails, IsOver, Keeps, NoTask, Runs, Stores, Task, follows}
use Rattle.command_steps.specs.Orders as order
use Rattle.command_steps.specs.States.{Held, Kept, Left, Outside, outside}
use Rattle.command_steps.specs.Walks.{fault_after}
use Rattle.command_steps.proofs.FileLaws.{bytes_go, bytes_stop, store_goes, store_stops}
use Rattle.command_steps.proofs.LeavesLaws.{unplayed}
use Rattle.instrument.specs.declared.split.Split.{Split}
use Rattle.part_runs.specs.PartWalks.{EndsBy, GivesPart, HasPart, IsPartRun, JudgesPart, LacksPart, NoPart, NotLoaded, NotRead, failure_for}
use Rattle.part_runs.specs.Serving.{IsPart, IsPartFile, IsRefused, course_after, part_fault, rows_file, serving}
use Rattle.symple_face.specs.declared.part.Part.{Part}
use Rattle.symple_face.specs.Parts.{PlainPart}
use Rattle.symple_face.specs.PartViews.{plain_of}
use Rattle.symple_face.specs.State.{State}
use Rattle.symple_face.specs.Work.{Work}
use Rattle.vert_base.specs.declared.limits.TheConstants.{GRAPH_BYTES}
use Rattle.word_kinds.specs.Fits.{literals_fit}
use Rattle.worker_stream.specs.Answers.{ReadsPart}
use Rattle.worker_stream.specs.declared.fault.PartFault.{PartFault}
use Rattle.worker_stream.specs.declared.fault.PartFault.TheVariants.{Magic, Length, Number, Text, Want}
use Rattle.worker_stream.specs.declared.fault.ServeFault.{ServeFault}
use Rattle.worker_stream.specs.declared.fault.ServeFault.TheVariants as serve
use Rattle.worker_stream.specs.Serving.{IsServed, Serves, Streams}
use Rattle.worker_stream.specs.Worker as worked
use Rattle.worker_stream.specs.Worker.{worker}

-- the sink and the input of two streams
abbrev pub sink_of : Streams → Held
sink_of s = record { bytes = s.held; faults = s.puts; spare = s.spare }

abbrev pub input_of : Streams → Left
input_of s = record { bytes = s.left; faults = s.takes }

abbrev pub between : Kept → Streams → Outside
between shelf s = outside shelf (sink_of s) (input_of s)

-- what stands behind an input that was served
abbrev behind : Kept → worked.Served → Streams → ℕ → Outside
behind shelf w old spare = outside shelf
    (record { bytes = gained old.held w.text; faults = old.puts; spare = spare })
    (record { bytes = option_map (drop w.used) old.left; faults = old.takes })

served_is : (shelf : Kept) (w : worked.Served) (old new : Streams) → IsServed w old new →
    between shelf new ≡ behind shelf w old new.spare
served_is shelf w old new is =
    ap (λ (h : Option (List ℕ)). outside shelf (record { bytes = h; faults = new.puts; spare = new.spare })
    (input_of new)) is.held
    ∙ ap (λ (n : ℕ). outside shelf (record { bytes = gained old.held w.text; faults = n; spare = new.spare })
    (input_of new)) is.puts
    ∙ ap (λ (l : Option (List ℕ)). outside shelf
    (record { bytes = gained old.held w.text; faults = old.puts; spare = new.spare })
    (record { bytes = l; faults = new.takes })) is.left
    ∙ ap (λ (n : ℕ). outside shelf
    (record { bytes = gained old.held w.text; faults = old.puts; spare = new.spare })
    (record { bytes = option_map (drop w.used) old.left; faults = n })) is.takes

module _ (work : Work) (part : PlainPart) (split : Split) (rows : List ℕ)
    (shelf : Kept) (old new : Streams) (bytes : List ℕ) (are : IfSome old.left (λ l. l ≡ bytes)) where
  abbrev does : worked.Served
  does = worker work part split bytes

  -- the whole input was served, and then the rest came
  goes_behind : IsServed does old new → (after : Outside) (outcome : Option Fault) →
      Leaves NoTask (follows (course_after work rows does.end)) (between shelf new) after outcome →
      Leaves NoTask (follows (serving work part split rows)) (between shelf old) after outcome
  goes_behind is after outcome rest =
      Served bytes are new.spare is.spared
      (subst (λ (o : Outside). Leaves NoTask (follows (course_after work rows does.end)) o after outcome)
      (served_is shelf does old new is) rest)

  refused_behind : IsServed does old new → (fault : Fault) → course_after work rows does.end ≡ Fails fault →
      Leaves NoTask (follows (serving work part split rows)) (between shelf old) (between shelf new) (Some fault)
  refused_behind is fault ends = goes_behind is (between shelf new) (Some fault)
      (subst (λ (c : Course). Leaves NoTask (follows c) (between shelf new) (between shelf new) (Some fault)) (sym ends)
      (Refused (record { same = refl; fault_is = refl })))

  -- serving ended early, by this fault
  pub serve_stops : {S : Type 0} (state : S → State) (why : ServeFault) → Serves state does old new (Err why) →
      Leaves NoTask (follows (serving work part split rows)) (between shelf old) (between shelf new)
      (Some (fault_of (failure_for why)))
  serve_stops state (serve.Message code at) (ends, is) = refused_behind is _ (ap (course_after work rows) ends)
  serve_stops state (serve.Ended name) (ends, is) = refused_behind is _ (ap (course_after work rows) ends)
  serve_stops state serve.Source (is, rose, calm) =
      NotServed bytes are
      (record { size = is.size; within = is.within; lost = is.lost; part = is.part; shelf = refl })
      (TakeFailed rose calm refl)
  serve_stops state serve.Sink (is, rose, sure, calm) =
      NotServed bytes are
      (record { size = is.size; within = is.within; lost = is.lost; part = is.part; shelf = refl })
      (PutFailed rose sure calm refl)
  serve_stops state serve.Want (is, takes, puts) =
      NotServed bytes are
      (record { size = is.size; within = is.within; lost = is.lost; part = is.part; shelf = refl })
      (WantsToServe puts takes refl)

  pub serve_ends : {S : Type 0} (state : S → State) (why : Failure) → EndsBy state does old new why →
      Leaves NoTask (follows (serving work part split rows)) (between shelf old) (between shelf new)
      (Some (fault_of why))
  serve_ends state why by =
      subst (λ (f : Failure). Leaves NoTask (follows (serving work part split rows)) (between shelf old)
      (between shelf new) (Some (fault_of f))) (sym by.why_is) (serve_stops state by.fault by.serves)

  -- the machine is over, and its lines were stored, or could not be
  keeps : (last : State) (kept : Kept) (result : Result (Unit {0}) Failure) →
      StoresFile rows (rows_file work last) shelf kept result →
      Leaves NoTask (Stores rows (rows_file work last) Ends) (between shelf new) (between kept new) (fault_after result)
  keeps last kept (Ok done) stored = store_goes NoTask rows (rows_file work last) shelf kept stored Ends (sink_of new)
      (input_of new) (between kept new) None (record { same = refl; fine = refl })
  keeps last kept (Err why) stops = store_stops NoTask rows (rows_file work last) shelf kept (fault_of why) stops Ends
      (sink_of new) (input_of new)

  pub serve_keeps : {S : Type 0} (state : S → State) (site : S) → Serves state does old new (Ok site) →
      (kept : Kept) (result : Result (Unit {0}) Failure) →
      StoresFile rows (rows_file work (state site)) shelf kept result →
      Leaves NoTask (follows (serving work part split rows)) (between shelf old) (between kept new) (fault_after result)
  serve_keeps state site (ends, is) kept result stored =
      goes_behind is (between kept new) (fault_after result)
      (subst (λ (e : worked.End). Leaves NoTask (follows (course_after work rows e)) (between shelf new)
      (between kept new) (fault_after result)) (sym ends) (keeps (state site) kept result stored))

-- ---- the part file

module _ (work : Work) (rows : List ℕ) where
  abbrev courses : Task → Course → Type 0
  courses = IsPartRun work

  -- a file that is refused
  refused : (bytes : List ℕ) (w : Outside) (why : PartFault) → why ≢ Want → ReadsPart bytes (Err why) →
      Leaves courses (Runs (order.Served bytes rows) follows) w w (Some (part_fault why))
  refused bytes w why real reads =
      Ran (Fails (part_fault why)) (IsRefused why real reads refl)
      (Refused (record { same = refl; fault_is = refl }))

  unread : (bytes : List ℕ) (w : Outside) (why : PartFault) → ReadsPart bytes (Err why) →
      Leaves courses (Runs (order.Served bytes rows) follows) w w (Some (part_fault why))
  unread bytes w Magic reads = refused bytes w Magic (λ e. cc) reads
  unread bytes w Length reads = refused bytes w Length (λ e. cc) reads
  unread bytes w Number reads = refused bytes w Number (λ e. cc) reads
  unread bytes w Text reads = refused bytes w Text (λ e. cc) reads
  unread bytes w Want reads = WantsAtRun (record { same = refl; memory = refl })

  -- there is no part, and the command ended
  pub part_stops : (name : List ℕ) (old new : Kept) (fault : Fault) → LacksPart old new name fault → (out : Held)
      (input : Left) → Leaves courses (worker_order name rows) (outside old out input) (outside new out input)
      (Some fault)
  part_stops name old new fault (NotLoaded none) out input =
      bytes_stop courses old new name GRAPH_BYTES (BadPart 2) fault none
      (λ bytes. Runs (order.Served bytes rows) follows) out input
  part_stops name old new fault (NotRead bytes has none) out input =
      bytes_go courses old new name GRAPH_BYTES (BadPart 2) bytes has
      (λ bytes. Runs (order.Served bytes rows) follows) out input (outside new out input) (Some fault)
      (subst (λ (f : Fault). Leaves courses (Runs (order.Served bytes rows) follows) (outside new out input)
      (outside new out input) (Some f)) (sym none.fault_is)
      (unread bytes (outside new out input) none.why none.reads))

  -- the part was read, and its machine served
  module _ (name : List ℕ) (old new : Kept) (part : Part) where
    pub part_serves : HasPart old new name part →
        (out : Held) (input : Left) (after : Outside) (outcome : Option Fault) →
        Leaves NoTask (follows (serving work (plain_of part) part.split.value rows)) (outside new out input)
        after outcome → Leaves courses (worker_order name rows) (outside old out input) after outcome
    part_serves has out input after outcome leaves =
        bytes_go courses old new name GRAPH_BYTES (BadPart 2) has.bytes has.has
        (λ bytes. Runs (order.Served bytes rows) follows) out input after outcome
        (Ran (serving work (plain_of part) part.split.value rows)
        (IsPart (plain_of part) part.split.value has.is refl)
        (unplayed courses (follows (serving work (plain_of part) part.split.value rows)) (outside new out input) after
        outcome
        leaves))

-- what a file answers that was loaded
module _ (old new : Kept) (name bytes : List ℕ) where
  pub judged_here : HasBytes old new name GRAPH_BYTES bytes → (read : List ℕ) → read ≡ bytes →
      (result : Result Part Failure) → JudgesPart read result → GivesPart old new name result
  judged_here has read same (Ok part) is = record {
    bytes = bytes;
    has = has;
    is = subst (λ (b : List ℕ). IsPartFile b (plain_of part) part.split.value) same is;
  }
  judged_here has read same (Err why) none =
      NotRead bytes has (subst (λ (b : List ℕ). NoPart b (fault_of why)) same none)

-- what judging bytes answers
pub judged_by : (bytes : List ℕ) (part : Part) → ReadsPart bytes (Ok part) →
    literals_fit part.split.value.program.program ≡ true → IsPartFile bytes (plain_of part) part.split.value
judged_by bytes part (begins, (sections, cut, (sound, is, says))) fit = record {
  begins = begins;
  sections = sections;
  cut = cut;
  sound = sound;
  part_is = is;
  says = says;
  fits = record { typed = part.split.value.program.typed; fits = fit };
}
