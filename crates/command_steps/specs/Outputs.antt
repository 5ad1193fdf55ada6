-- What the commands put that run no machine.
use Rattle.std.specs.Prelude.{ℕ, List, [], ◌++◌, Option, None, Some, codes, decimal, flat_map, length, slice_get, slice_index}
use Rattle.std.specs.List.{range_with_len}
use Rattle.array_text.specs.Tables.{bytes_of}
use Rattle.circulant_plan.specs.Ring.{chunk_of}
use Rattle.chunk_split.specs.Bounds.{ends_of}
use Rattle.vert_base.specs.Ends.{start_of}
use Rattle.edge_reader.specs.EdgeList as edges
use Rattle.order_free.specs.declared.freedom.Freedom.{Freedom}
use Rattle.order_free.specs.declared.freedom.Freedom.TheVariants.{NoLoop, Reductions, FoundOne, ReachACount, FirstSlot, OtherLoop}
use Rattle.order_free.specs.Free.{freedom_of}
use Rattle.vert_tree.specs.declared.program.Program.{Program}
use Rattle.vert_tree.specs.declared.program.SlotDecl.{SlotDecl}

abbrev pub chunk_text : ℕ → ℕ → ℕ → List ℕ
chunk_text chunk start end = codes "chunk " ++ decimal chunk ++ codes " " ++ decimal start ++ codes " " ++ decimal end
    ++ codes "\n"

-- the line of each chunk, by their ends
abbrev pub chunk_line : List ℕ → ℕ → List ℕ
chunk_line ends chunk = chunk_text chunk (start_of ends chunk) (slice_index ends chunk)

abbrev pub chunks_text : List ℕ → List ℕ
chunks_text ends = flat_map (chunk_line ends) (range_with_len 0 (length ends))

-- in a step a machine works on a chunk, by the circulant plan
abbrev pub step_text : ℕ → ℕ → ℕ → List ℕ
step_text machines step machine =
    codes "step " ++ decimal step ++ codes " machine " ++ decimal machine ++ codes " chunk "
    ++ decimal (chunk_of machine step machines) ++ codes "\n"

-- the lines of a step, for each machine
abbrev pub machines_text : ℕ → ℕ → List ℕ
machines_text machines step = flat_map (step_text machines step) (range_with_len 0 machines)

abbrev pub steps_text : ℕ → List ℕ
steps_text machines = flat_map (machines_text machines) (range_with_len 0 machines)

-- the chunks, and then the steps
abbrev pub plan_lines : List ℕ → List ℕ
plan_lines ends = chunks_text ends ++ steps_text (length ends)

abbrev pub plan_text : ℕ → edges.Graph → List ℕ
plan_text machines graph = plan_lines (ends_of machines graph.vertices graph.list)

-- the name of a slot, where there is one
abbrev pub slot_name : Program → Option SlotDecl → List ℕ
slot_name p None = []
slot_name p (Some slot) = bytes_of (slice_get p.names.items slot.name.name)

-- what `free` tells of a program for which it gives this answer
abbrev pub freedom_text : Program → Freedom → List ℕ
freedom_text p NoLoop = codes "free no-loop\n"
freedom_text p Reductions = codes "free reductions\n"
freedom_text p FoundOne = codes "free found-one\n"
freedom_text p ReachACount = codes "free reach-a-count\n"
freedom_text p (FirstSlot slot) = codes "not free: first slot "
    ++ (slot_name p (slice_get p.slots.items slot) ++ codes "\n")
freedom_text p OtherLoop = codes "not free: loop\n"

abbrev pub free_text : Program → List ℕ
free_text p = freedom_text p (freedom_of p)
