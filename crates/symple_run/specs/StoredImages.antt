-- What a run stored is read by the one that goes on from it.
use Rattle.std.specs.Prelude.{◌≡◌, ◌-◌, ℕ, List, [], ◌∷◌, ◌++◌, Some}
use Rattle.check_point.specs.Images.{image_bytes}
use Rattle.command_steps.specs.Commands.{image_name}
use Rattle.command_steps.specs.Orders.{Course, Origin, Play}
use Rattle.instrument.specs.declared.split.Split.{Split}
use Rattle.outside.specs.Files.{File}
use Rattle.symple_face.specs.Work.{PlainStart}
use Rattle.symple_run.specs.Continued.{LeavesStart, run_played}
use Rattle.symple_run.specs.Interrupted.{Store, stores_in}
use Rattle.symple_run.specs.KeptImages.{key_for}
use Rattle.symple_run.specs.Resumes.{Tells}
use Rattle.symple_run.specs.SourceRuns.{IsSourceImaged}

-- The file is the image of what stands before a round of the run but the first, under the name of the round that ended,
-- and a run of the same program and graph reads it as that start.
pub record IsReadAsStart (play : Play) (origin : Origin) (image : List ℕ) (file : File) : Type 0 where
  pub start : PlainStart
  pub leaves : LeavesStart (run_played play) start
  pub name_is : file.name ≡ image_name image (start.round - 1)
  pub bytes_are : file.bytes ≡ image_bytes (key_for play origin) start
  pub read : (split : Split) → split.program.program ≡ play.program →
      Tells split play.graph.vertices (key_for play origin) (Some file.bytes) (Some start)

-- Each file that a run stores is one, whatever comes before and behind its turn.
abbrev pub EveryStoredImageIsRead : Type 0
EveryStoredImageIsRead =
    (play : Play) (origin : Origin) (image : List ℕ) (course : Course) → IsSourceImaged play origin image course →
    (before : List Store) (store : Store) (behind : List Store) → stores_in [] course ≡ before ++ store ∷ behind →
    IsReadAsStart play origin image store.file
