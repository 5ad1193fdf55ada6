-- A part is read back from its file, and its machine does alone what its bytes say.
--
-- Part files. The claim: unless memory is wanting, `read_part` refuses a file by its first fault,
-- exactly where it has one, and answers else the part that the file says; the part that was written
-- is read back (`read_back`, in BackLaws). The sections are cut by their counts (CutLaws), and the
-- spelling is cut into them again (SpelledLaws). The numbers are sound exactly where each has its
-- form (`sound_from_forms`, in SoundLaws): each test reads an edge or a degree once, and decides
-- whether they have the order and the chunk of a part (`in_place`, `in_place_passes`, in
-- EdgeOrderLaws) and whether the degrees are those of its vertices (`known_says`, `counted_says`,
-- in DegreeLaws). The lists of vertices follow from the edges, so the part made step by step is the
-- one that the file says (`part_is`, in PartMaking). SectionAnswers, FewDegrees, UnitLaws and
-- TestLaws: answers handed on, few degrees, and loops over units and tests.
--
-- One machine over a stream. The claim: `serve` writes, uses and answers what `worker`
-- (specs/Worker) makes of the part and of the bytes that came, however they were cut. It ends over,
-- or refuses a message by the first of M1 to M6. After a fault of the outside the input lost a
-- front of what is used, and a first part of the text went out. It ends whatever the input says
-- (`more_change_nothing`, in WorkerLaws). A machine that acted in a complete run before it took
-- does alone what it did there, and in the plain run each machine acts so (`prompt_law`,
-- `plain_law`, in PromptLaws).
--
-- The invariant (`IsAlong`, in specs/Steps). Some bytes were read and some text was written;
-- whatever stands behind these bytes, all that the machine does is that text and then what it does
-- from here. It stands rightly (`Stands`, in specs/Walks): its spot is in its list of actions by
-- the ruling that it knows, and the names held are those that it has taken in its round. Each step
-- lessens `chances`: an action shortens the way that is left, and a round has at most 768 messages
-- to take.
--
-- The chain. WalkLaws: an action gets on in the list, and no message lengthens the way (`walks_on`,
-- `walks_ruled`, over standings alone); StateWalks says it of every lawful kind of machine
-- (`go_walks`, `take_walks`). StandLaws adds the names taken (`go_stands`, `take_stands`,
-- `few_names`). WorkerLaws: what a machine does by cases of its action (`at_end`, `at_action`,
-- `at_message`). FrontLaws, FillLaws: a message read piece by piece is the one at the front.
-- SentLaws: messages written one after another; ShortLaws: a header can tell the length of each
-- body (`forms_short`). ServeLaws: one step by its outcome (`acted`, `took`, `refused`), and the
-- steps together (`along_goes`, `along_fails`, `along_ends`).
pub mod CutLaws
pub mod UnitLaws
pub mod TestLaws
pub mod EdgeOrderLaws
pub mod DegreeLaws
pub mod SoundLaws
pub mod PartMaking
pub mod FewDegrees
pub mod SectionAnswers
pub mod SpelledLaws
pub mod BackLaws
pub mod FillLaws
pub mod FrontLaws
pub mod SentLaws
pub mod WalkLaws
pub mod StateWalks
pub mod WorkerLaws
pub mod StandLaws
pub mod ServeLaws
pub mod ShortLaws
pub mod PromptLaws
