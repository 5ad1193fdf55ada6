-- The courses of runs that leave images.
use Rattle.std.specs.Prelude.{◌≡◌, ◌≢◌, ◌⊎◌, ◌≤◌, ◌+◌, ◌-◌, ℕ, List, [], ◌∷◌, Option, None, Some, Result, Ok, Err, if◌then◌else◌}
use Rattle.check_point.specs.Images.{image_bytes}
use Rattle.check_point.specs.Keys.{key_of}
use Rattle.command_steps.specs.declared.failure.Failure.{Failure}
use Rattle.command_steps.specs.Commands.{image_name}
use Rattle.command_steps.specs.FileWalks.{StoresFile}
use Rattle.command_steps.specs.Leaves.{Leaves}
use Rattle.command_steps.specs.Notes.{Fault}
use Rattle.command_steps.specs.Orders.{Course, Fails, IsOver, Keeps, NoTask, Origin, Play, Prints, Takes, follows}
use Rattle.command_steps.specs.States.{Held, Kept, Left, outside}
use Rattle.schedule_laws.specs.Starts.{start_told}
use Rattle.symple_face.specs.Cluster.{IsPlainRun, World, step}
use Rattle.symple_face.specs.Work.{PlainStart, Work}
use Rattle.machine_runs.specs.PlainPlays.{IsFirstWorld, ends_round}
use Rattle.machine_runs.specs.Tellings.{Telling, by_worlds, told_end, told_event}
use Rattle.symple_words.specs.declared.line.GraphForm.{GraphForm}
use Rattle.symple_words.specs.declared.line.Lines.{Lines}
use Rattle.vert_base.specs.declared.message.Event.{Event}
use Rattle.vert_base.specs.declared.value.Ruling.TheVariants.{Stop}

-- ---- the key
-- how a graph is read, as a number
abbrev pub flags_of : GraphForm → ℕ
flags_of form =
    (if form.both then 1 else 0) + ((if form.binary then 2 else 0) + (if form.weighted then 4 else 0))

abbrev pub key_for : Play → Origin → List ℕ
key_for play origin =
    key_of origin.program origin.graph origin.form.vertices (flags_of origin.form) play.machines play.draws

-- ---- the course
-- the start that the machines tell behind an event that ends a round, where another one follows
abbrev pub start_behind : Work → World → Event → Option PlainStart
start_behind work w e = if ends_round w e then start_told work (step work w e) else None

-- the image of a start is stored under the name of the round that ended
abbrev pub with_image : List ℕ → List ℕ → Option PlainStart → Course → Course
with_image key image None rest = rest
with_image key image (Some start) rest =
    Keeps (image_name image (start.round - 1)) (image_bytes key start) rest

-- As a telling has it, the lines of the events, an image behind those of each event that leaves a start, and then the
-- table.
abbrev pub imaged_as : {X : Type 0} → Telling X Event → (X → Event → Option PlainStart) → List ℕ → List ℕ → X →
    List Event → Course
imaged_as t left key image x [] = told_end t x
imaged_as t left key image x (e ∷ es) =
    told_event t x e (with_image key image (left x e) (imaged_as t left key image (t.behind x e) es))

-- as machines tell it by their states, from a world on
abbrev pub imaged_from : Work → Lines → List ℕ → List ℕ → World → List Event → Course
imaged_from work lines key image w es = imaged_as (by_worlds work lines) (start_behind work) key image w es

-- The run is the plain one of machines of a kind, and its images are made of what their states tell.
pub record IsImagedPlay (work : Work) (play : Play) (origin : Origin) (image : List ℕ) (course : Course) : Type 0 where
  pub first : World
  pub is_first : IsFirstWorld work play.program play.graph play.machines play.draws first
  pub events : List Event
  pub plain : IsPlainRun work first events
  pub course_is : course ≡ imaged_from work play.lines (key_for play origin) image first events

-- the course puts texts and stores under the two names of images, and then it is over
abbrev pub StoresImages : List ℕ → Course → Type 0
StoresImages image IsOver = Unit {0}
StoresImages image (Fails fault) = ⊥
StoresImages image (Prints text rest) = StoresImages image rest
StoresImages image (Keeps name bytes rest) =
    ((name ≡ image_name image 0) ⊎ (name ≡ image_name image 1)) × StoresImages image rest
StoresImages image (Takes used text rest) = ⊥

-- ---- what playing it leaves
-- a start of which an image can be written
abbrev pub CanBeKept : Option PlainStart → Type 0
CanBeKept None = Unit {0}
CanBeKept (Some start) = (1 ≤ start.round) × (start.ruling ≢ Stop)

-- the image of a start was stored, where there is one
abbrev pub KeepsImage : List ℕ → List ℕ → Option PlainStart → Kept → Kept → Result (Unit {0}) Failure → Type 0
KeepsImage key image None old new (Ok done) = new ≡ old
KeepsImage key image None old new (Err failure) = ⊥
KeepsImage key image (Some start) old new result =
    StoresFile (image_name image (start.round - 1)) (image_bytes key start) old new result

-- what a run leaves of a shelf and a sink from a world on, and how it ends, whatever the input
pub record LeavesImages (work : Work) (lines : Lines) (key image : List ℕ) (w : World) (shelf shelf_after : Kept)
    (old new : Held) (outcome : Option Fault) : Type 0 where
  pub events : List Event
  pub plain : IsPlainRun work w events
  pub leaves : (input : Left) → Leaves NoTask (follows (imaged_from work lines key image w events))
      (outside shelf old input) (outside shelf_after new input) outcome

-- a run that goes on behind some events is one that goes on from before them
abbrev pub LeadsOnImaged : Work → Lines → List ℕ → List ℕ → World → Kept → Held → World → Kept → Held → Type 0
LeadsOnImaged work lines key image w shelf old v other new =
    (shelf_after : Kept) (after : Held) (outcome : Option Fault) →
    LeavesImages work lines key image v other shelf_after new after outcome →
    LeavesImages work lines key image w shelf shelf_after old after outcome
