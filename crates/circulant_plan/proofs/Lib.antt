-- Who works on which chunk when, and which message goes from where to where.
--
-- The ring. Step by step each machine works on each chunk once, and on its own last (`each_ring_turns`, in
-- CircleLaws). The members of a vertex with the machines of its chunk, step by step, are its neighbours in the
-- order of its loop (`reads_in_turn`, in ReadingLaws, over the spans of SpanLaws); those of the first steps are
-- the first ones (EarlyLaws).
--
-- The table of actions. What a spot needs was sent at an earlier spot of another machine (`needed_is_sent`, in
-- NeedLaws), and what a spot sends is needed at a later one (`sent_is_needed`, in GiftLaws). An action leads on in
-- the list of its machine and passes no other spot (`course_by`, in ActionLaws; `actions_lead_on`, in
-- StandingLaws; `rounds_lead_on`, in RoundLaws). SendingLaws has both places of a message, whatever the mode.
--
-- Counts. A round has as many actions and messages as CountLaws says (`rounds_are_counted`); a machine sends few
-- at a time, and none twice (GiftLists). NameLaws has the names of a whole run, NameLists and Members lists of
-- names, SkeletonRows small runs worked out by hand. TableLaws has the k-th element of each list, as the code finds it;
-- Choices and Rise names under a test, and numbers that rise.
pub mod ActionLaws
pub mod Choices
pub mod CircleLaws
pub mod CountLaws
pub mod EarlyLaws
pub mod GiftLaws
pub mod GiftLists
pub mod Members
pub mod NameLaws
pub mod NameLists
pub mod NeedLaws
pub mod ReadingLaws
pub mod Rise
pub mod RoundLaws
pub mod SendingLaws
pub mod SkeletonRows
pub mod SpanLaws
pub mod StandingLaws
pub mod TableLaws
