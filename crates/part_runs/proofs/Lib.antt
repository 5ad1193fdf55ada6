-- The commands of parts do to the outside what their orders say.
--
-- The claim: `split` keeps the part file of each machine in turn (PartLaws), and `worker` refuses a
-- part file, or serves the input as its machine does and keeps its lines (ServeLaws, over the law
-- of serving in `worker_stream`).
--
-- The invariant of each loop: what stands in the shelf, or went out, is that of the parts or
-- vertices so far, and what is left of the order is left from there on (`StoresTo`, in PartLaws).
--
-- The chain. The lines of a chunk that are put one by one are those by definition: RowLaws. What is
-- known of the courses of the two tasks, whatever allows them, is CourseLaws. A machine's part file
-- is read as its part: PartBack. So its course at a core over what the machine took in a run is
-- known: CoreServing, over the laws of `worker_laws`.
pub mod CoreServing
pub mod CourseLaws
pub mod PartBack
pub mod PartLaws
pub mod RowLaws
pub mod ServeLaws
