-- What a command does with the outside, step by step.
use Rattle.std.specs.Prelude.{ℕ, List, Option}
use Rattle.command_steps.specs.Notes.{Fault}
use Rattle.edge_reader.specs.EdgeList as edges
use Rattle.symple_words.specs.declared.line.GraphForm.{GraphForm}
use Rattle.symple_words.specs.declared.line.Lines.{Lines}
use Rattle.vert_tree.specs.declared.program.Program.{Program}

-- a run to play: a program on a graph that is cut for so many machines, and the lines that are asked for
pub record Play : Type 0 where
  pub program : Program
  pub graph : edges.Graph
  pub machines : ℕ
  pub draws : ℕ
  pub lines : Lines

-- the bytes of the two files of a run, and how the graph was read
pub record Origin : Type 0 where
  pub program : List ℕ
  pub graph : List ℕ
  pub form : GraphForm

-- What is done by machines, or with their texts. How such a task may go is told where machines are known.
pub data Task : Type 0 where
  -- the plain events
  Plain : (play : Play) → Task
  -- the plain events, and behind each round that another follows an image under this name
  Imaged : (play : Play) (origin : Origin) (image : List ℕ) → Task
  -- the plain events from the later of two images on, as far as they are there
  Resumed : (play : Play) (origin : Origin) (even odd : Option (List ℕ)) → Task
  -- the events that a seed draws, and their text under this name
  Drawn : (play : Play) (seed : ℕ) (schedule : List ℕ) → Task
  -- the same over links that lose and repeat
  DrawnLossy : (play : Play) (seed : ℕ) (schedule : List ℕ) → Task
  -- the events that a text tells, for as many machines as it says
  Followed : (play : ℕ → Play) (schedule : List ℕ) → Task
  -- the plain events on a drawn graph, told in three lines
  Shown : (seed machines : ℕ) → Task
  -- the events that a text tells, in form 2 under this name
  Renewed : (schedule target : List ℕ) → Task
  -- the part of each machine under a name of its own
  Parted : (play : Play) (program prefix : List ℕ) → Task
  -- one machine, by the bytes of its part, whose rows are kept under this name
  Served : (part rows : List ℕ) → Task

-- How a task went: the texts that it puts and the files that it stores, in turn, and then its end or its
-- refusal.
pub data Course : Type 0 where
  IsOver : Course
  Fails : (fault : Fault) → Course
  Prints : (text : List ℕ) (rest : Course) → Course
  Keeps : (name bytes : List ℕ) (rest : Course) → Course
  -- by the bytes of the input so many of them are used, this text is put, and what comes then
  Takes : (used : List ℕ → ℕ) (text : List ℕ → List ℕ) (rest : List ℕ → Course) → Course

-- The order of the steps of a command. What comes behind a load, a judgement or a task is a function of
-- what it gave.
pub data Order : Type 0 where
  -- all is done
  Ends : Order
  -- nothing more is put, and the command ends with this fault
  Refuses : (fault : Fault) → Order
  -- a file that must be there
  Loads : (name : List ℕ) (limit : ℕ) (too_long : Fault) (next : List ℕ → Order) → Order
  -- a file that may lack or be too long
  Tries : (name : List ℕ) (limit : ℕ) (next : Option (List ℕ) → Order) → Order
  -- a text that must say a program
  Judges : (text : List ℕ) (next : Program → Order) → Order
  Runs : (task : Task) (next : Course → Order) → Order
  Puts : (text : List ℕ) (next : Order) → Order
  Stores : (name bytes : List ℕ) (next : Order) → Order
  -- the input is served: by its bytes so many of them are used, this text is put, and what comes then
  Serves : (used : List ℕ → ℕ) (text : List ℕ → List ℕ) (next : List ℕ → Order) → Order

-- what a task does that went so
abbrev pub follows : Course → Order
follows IsOver = Ends
follows (Fails fault) = Refuses fault
follows (Prints text rest) = Puts text (follows rest)
follows (Keeps name bytes rest) = Stores name bytes (follows rest)
follows (Takes used text rest) = Serves used text (λ bytes. follows (rest bytes))

-- no task is done
abbrev pub NoTask : Task → Course → Type 0
NoTask task course = ⊥
