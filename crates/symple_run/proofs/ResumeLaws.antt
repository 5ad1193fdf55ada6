-- What a run leaves that goes on from an image.
use Rattle.std.proofs.Common.{◌≡◌, ◌≤◌, ℕ, List, ◌++◌, codes, get_or, map, Option, Some, None, Ok, refl, sym, ap, subst, ◌∙◌, arith}
use Rattle.std.specs.Prelude.{◌%◌, decimal, option_map}
use Rattle.std.specs.List.{All}
use Rattle.std.proofs.lemmas.List.{get_or-map, length-map}
use Rattle.chunk_split.specs.Chunks.{vertices_of}
use Rattle.check_point.specs.Judgement.{Reads}
use Rattle.check_point.specs.Laws.{StartIsReady}
use Rattle.command_steps.specs.Commands.{image_name, part_name}
use Rattle.command_steps.specs.FileWalks.{HasTried}
use Rattle.command_steps.specs.Leaves.{Leaves, Ran}
use Rattle.command_steps.specs.Notes.{Fault}
use Rattle.command_steps.specs.Orders.{Course, Order, Origin, Play, Resumed, Runs, Task, Tries, follows}
use Rattle.command_steps.specs.States.{Held, Kept, Left, Outside, outside}
use Rattle.command_steps.proofs.FileLaws.{try_none, try_there}
use Rattle.command_steps.proofs.LeavesLaws.{unplayed}
use Rattle.edge_reader.specs.EdgeList.{Graph}
use Rattle.instrument.specs.declared.split.Split.{Split}
use Rattle.symple_face.specs.Cluster.{World}
use Rattle.symple_face.specs.declared.part.Part.{Part}
use Rattle.symple_face.specs.Parts.{PlainPart}
use Rattle.symple_face.specs.PartViews.{plain_of}
use Rattle.symple_face.specs.Restarts.{IsStart}
use Rattle.symple_face.specs.declared.start.Start.{Start}
use Rattle.symple_face.specs.Work.{PlainStart, Work, plain_start}
use Rattle.symple_run.specs.KeptImages.{key_for}
use Rattle.machine_runs.specs.PlainPlays.{GoesOn, course_from}
use Rattle.symple_run.specs.Played.{IsPlayed}
use Rattle.symple_run.specs.Resumes.{Found, HasFile, IsImage, IsReady, Tells, begun_world, later_of}
use Rattle.machine_runs.specs.RunParts.{IsRunOf}
use Rattle.symple_run.proofs.ImagedRuns.{each_part, later_ready, told_ready}
use Rattle.vert_base.specs.declared.limits.TheConstants.{IMAGE_BYTES}
use Rattle.word_kinds.specs.Fits.{IsFitting}

-- ---- files
pub name_is : (image : List ℕ) (number : ℕ) → number ≤ 1 → part_name image number ≡ image_name image number
name_is image number few =
    let same : number ≡ number % 2 = omega (arith, few) in
    ap (λ (k : ℕ). image ++ codes "." ++ decimal k) same

-- a file was tried, and then the rest came
module _ (courses : Task → Course → Type 0) (old new : Kept) (name : List ℕ) where
  pub found_goes : (file : Option (List ℕ)) → HasFile old new name file →
      (next : Option (List ℕ) → Order) (out : Held) (input : Left) (after : Outside) (outcome : Option Fault) →
      Leaves courses (next file) (outside new out input) after outcome →
      Leaves courses (Tries name IMAGE_BYTES next) (outside old out input) after outcome
  found_goes None tried next out input after outcome rest =
      try_none courses old new name IMAGE_BYTES tried next out input after outcome rest
  found_goes (Some bytes) tried next out input after outcome rest =
      try_there courses old new name IMAGE_BYTES bytes tried next out input after outcome rest

module _ (split : Split) (vertices : ℕ) (key name : List ℕ) (old new : Kept) (bytes : List ℕ)
    (tried : HasTried old new name IMAGE_BYTES bytes) where
  -- the file is an image of this run
  pub found_image : (start : Start) → Reads split vertices key bytes (Ok start) → StartIsReady →
      Found split vertices key name old new (Some start)
  found_image start reads ready =
      let tells : Tells split vertices key (Some bytes) (Some (plain_start start)) =
      (record { whole = reads.0; own = reads.1 }, reads.2) in
      record {
        file = Some bytes;
        tried = tried;
        tells = tells;
        ready = λ whole same. told_ready split vertices key (Some bytes) (plain_start start) tells whole same ready;
      }

  -- or it is none
  pub found_none : ¬ (IsImage split vertices key bytes) → Found split vertices key name old new None
  found_none not = record { file = Some bytes; tried = tried; tells = not; ready = tt }

-- a run goes on with the later of the starts that were found
module _ (split : Split) (vertices : ℕ) (key : List ℕ) (even odd : Option (List ℕ))
    (first second : Option PlainStart) where
  pub ready_by : Tells split vertices key even first → Tells split vertices key odd second → StartIsReady →
      (start : Option Start) → option_map plain_start start ≡ later_of first second →
      IsReady split vertices start
  ready_by a b ready None is = tt
  ready_by a b ready (Some start) is = λ whole same.
      later_ready split vertices key even odd (plain_start start) whole first second a b (sym is) same ready

-- ---- parts
-- a start that is ready for the graph is one for each part
module _ (machines draws : ℕ) (graph : Graph) (parts : List Part)
    (of_graph : IsRunOf machines draws graph (map plain_of parts)) (split : Split) where
  pub parts_ready : All (λ part. part.split.value ≡ split) parts → (start : PlainStart) →
      ((whole : PlainPart) → vertices_of whole.ends ≡ graph.vertices → IsStart whole split start) →
      All (λ part. IsStart (plain_of part) part.split.value start) parts
  parts_ready splits start ready = λ i d lt.
      let part = get_or parts i d in
      let all : All (λ (p : PlainPart). p.ends ≡ of_graph.one.ends) (map plain_of parts) =
      each_part (map plain_of parts) of_graph.one (λ p. p.ends ≡ of_graph.one.ends) (λ whole same. same) in
      let ends : (plain_of part).ends ≡ of_graph.one.ends =
      subst (λ (p : PlainPart). p.ends ≡ of_graph.one.ends) (get_or-map plain_of parts i d (plain_of d) lt)
      (all i (plain_of d) (omega (arith, length-map parts plain_of, lt))) in
      subst (λ (s : Split). IsStart (plain_of part) s start) (sym (splits i d lt))
      (ready (plain_of part) (ap vertices_of ends ∙ of_graph.sized))

-- a run from the later of the starts that two files tell
pub resumed_plays :
    (work : Work) (play : Play) (origin : Origin) (even odd : Option (List ℕ)) (split : Split) →
    split.program.program ≡ play.program → IsFitting split.program.program → (parts : List PlainPart) →
    IsRunOf play.machines play.draws play.graph parts → (first second : Option PlainStart) →
    Tells split play.graph.vertices (key_for play origin) even first →
    Tells split play.graph.vertices (key_for play origin) odd second → (found : Option PlainStart) →
    found ≡ later_of first second → (w : World) → w ≡ begun_world work split parts found → (old new : Held)
    (outcome : Option Fault) → GoesOn work play.lines w old new outcome → (shelf : Kept) (input : Left) →
    Leaves (IsPlayed work) (Runs (Resumed play origin even odd) follows) (outside shelf old input)
    (outside shelf new input) outcome
resumed_plays work play origin even odd split program_is fits parts of_graph first second a b found is w here old new
    outcome goes shelf input =
    let on = subst (λ (u : World). GoesOn work play.lines u old new outcome)
    (here ∙ ap (begun_world work split parts) is) goes in
    let course = course_from work play.lines (begun_world work split parts (later_of first second)) on.events in
    Ran course (record {
      split = split;
      program_is = program_is;
      fits = fits;
      parts = parts;
      of_graph = of_graph;
      first = first;
      first_told = a;
      second = second;
      second_told = b;
      events = on.events;
      plain = on.plain;
      course_is = refl;
    }) (unplayed (IsPlayed work) (follows course) _ _ outcome (on.leaves shelf input))
