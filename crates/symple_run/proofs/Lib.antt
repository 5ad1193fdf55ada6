-- What `symple` prints, stores, takes and answers is what the order of its words says.
--
-- The claim is the contract of `symple`: of each status, each text and each file, by one definition
-- a command. Each of its tasks takes a course, and there are two sets of courses: those of machines
-- of any kind (`IsPlayed`) and those that the source's run tells (`IsSourceRun`). For cores each
-- course of the first is one of the second (`core_runs`, in CoreTasks), so all that is said of the
-- first carries over. Where files are told and no count of faults rises, a command comes out
-- (`completes`, in HeadLaws, over the laws of orders in command_steps). What a recorded run kept is
-- replayed to the same bytes (`replays_gain_the_same`, in ReplayLaws; over links LinkReplayLaws), a
-- run leaves images as its course says (`tells_images`, in LeftImages), and a run that was stopped
-- goes on with the rest of the whole (`every_stop_goes_on`, in ContinuedLaws).
--
-- The invariant of each loop over events: with what was put and kept so far, what the events from
-- here on leave of the outside is what all of them leave from the first state on (`RecordsTo`, in
-- specs/RecordWalks, and its like for runs that follow a text or are counted). The laws of a run
-- that puts, event by event, are those of machine_runs; RecordLaws, FollowLaws, ImageLaws and
-- ResumeLaws have those of a recording, a followed text, a run that stores images and one that goes
-- on from an image, RenewLaws that of a text kept anew.
--
-- The chain. What is known of the courses of each task, by whomever they are told: TaskLaws
-- (`played_are`, `told_are`), over CourseShapes, PartTasks, SourceTasks, and TextTasks, by which a
-- text settles its machines and events; over links, and of texts of any form, FormTasks and
-- LinkedTasks. That for cores they are the source's: CoreRuns, and over links LinkedCores. ShowLaws:
-- the rounds that the demonstration counts, and its lines. RowsTold: the rows of all vertices,
-- gathered. Images: what machines tell of such runs (ImagedRuns), that cores take the source's course
-- (`course_told`, in ImagedCourses) and tell its images (`images_told`, in ImagesTold), that each is
-- read as a start of the run (`every_stored_image_is_read`, in StoredLaws, over StartLaws), how far a
-- run comes that was cut off (`came_to`, in InterruptedLaws). HeadLaws takes the status, the note and
-- the answer of `free` from what the order leaves; ResultLaws hands facts of results on. SpelledEvents: each event
-- that is possible has a name by the plan, with numbers that fit, so a text can tell it (`events_told`, and over
-- links `links_told`); ReplayLaws and LinkReplayLaws rest on it.
pub mod ContinuedLaws
pub mod CoreRuns
pub mod CoreTasks
pub mod CourseShapes
pub mod FollowLaws
pub mod FormTasks
pub mod HeadLaws
pub mod ImageLaws
pub mod ImagedCourses
pub mod ImagedRuns
pub mod ImagesTold
pub mod InterruptedLaws
pub mod LeftImages
pub mod LinkReplayLaws
pub mod LinkedCores
pub mod LinkedTasks
pub mod PartTasks
pub mod RecordLaws
pub mod RenewLaws
pub mod ReplayLaws
pub mod ResultLaws
pub mod ResumeLaws
pub mod ShowLaws
pub mod RowsTold
pub mod SourceTasks
pub mod StartLaws
pub mod StoredLaws
pub mod SpelledEvents
pub mod TaskLaws
pub mod TextTasks
