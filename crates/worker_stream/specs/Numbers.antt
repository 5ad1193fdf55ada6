-- The numbers of a part file as the part that they are.
use Rattle.std.specs.Prelude.{◌≡◌}
use Rattle.symple_face.specs.Parts.{PlainPart, lists_of}
use Rattle.worker_stream.specs.declared.part_numbers.Frame.{Frame}
use Rattle.worker_stream.specs.declared.part_numbers.Numbers.{Numbers}
use Rattle.worker_stream.specs.declared.sections.Sections.{Sections as Slices}
use Rattle.worker_stream.specs.PartFiles.{PartFile}
use Rattle.worker_stream.specs.Sections.{Sections}

abbrev pub plain_sections : Slices → Sections
plain_sections s = record {
  head = s.head.now;
  ends = s.ends.now;
  program = s.program.now;
  scan = s.scan.now;
  push = s.push.now;
  degrees = s.degrees.now;
}

-- the numbers that stand once are those of the file
pub record IsFrameOf (f : PartFile) (frame : Frame) : Type 0 where
  pub at : frame.at ≡ record { machine = f.machine; machines = f.machines }
  pub cuts : frame.cuts ≡ f.ends
  pub edges : frame.edges ≡ f.edges
  pub draws : frame.draws ≡ f.draws

abbrev pub plain_numbers : Numbers → PlainPart
plain_numbers n = record {
  at = n.frame.at;
  ends = n.frame.cuts;
  edges = n.frame.edges;
  draws = n.frame.draws;
  scan = n.scan.items;
  push = n.push.items;
  degrees = n.degrees.items;
  refresh_to = lists_of n.inward.refresh.items;
  refresh_of = lists_of n.onward.refresh.items;
  push_to = lists_of n.onward.push.items;
  push_of = lists_of n.inward.push.items;
}
