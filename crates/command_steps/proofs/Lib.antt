-- What a command does with the outside is what its order says.
--
-- The claim, of every order of words (`order_of`, in specs/Commands) and by what is known of the
-- courses that its tasks may take (`AreCourses`, a premise that the crate which runs machines
-- meets). It stores under its own names alone (`others_stay`), and where it stores nothing files
-- and the count of their faults are as before (`nothing_stored`). Where files are told, no count of
-- faults of files and input rises, and the sink takes all, it comes out as its order does over
-- these files, or memory was wanting (`comes_or_wants`, over `must_come` of ComesLaws). All three
-- are in OrderLaws.
--
-- The invariant. Each function of a command leaves what its order leaves (`Performs`, in
-- specs/Walks). A step that went leaves the rest of the order to be left from there, and one that
-- stopped ends the order (`program_goes`, `program_stops` and their like, in WalkLaws).
--
-- The chain. One step: LoadLaws (what a load tells of a file), FileLaws (loads, tries and stores as
-- parts of an order) and FlushLaws (a text that is put and then handed on). WalkLaws joins them: a
-- program and a graph that are read, or where that stops (`both_go`, `both_stop`), words that are
-- refused and a line that is obeyed (`line_obeyed`). LeavesLaws: what every order leaves of files,
-- input and texts, by induction over it (`weaker`, `quiet_leaves`, `spared_stays`); CourseLaws:
-- what stands of a run that stopped (`course_stands`). Texts that are put piece by piece are the
-- texts by definition: LineLaws, TextLaws.
pub mod ComesLaws
pub mod CourseLaws
pub mod FileLaws
pub mod FlushLaws
pub mod LeavesLaws
pub mod LineLaws
pub mod LoadLaws
pub mod OrderLaws
pub mod TextLaws
pub mod WalkLaws
