-- A text of a schedule stands for one list of machines and events, and chosen events lead to the
-- end.
--
-- The claims. `read_schedule` answers the machines and the events of which the text is the spelling
-- in form 1 or 2, or the first fault: too long, no first line, or the number of the first line at
-- which no event stands (`Gives`, in specs/Says). A recorder holds the text of form 2 of what was
-- added. A text stands for one pair of machines and events, a pair has one text of each form that
-- has so many machines, if it isn't too long, what is written is read back, and a text that says
-- none has one fault (`schedules_read_back`). The drawn events, and the plain ones, are possible in
-- turn, lead to the end, and can be told in a text (`chosen_runs_are_complete`; the clauses of
-- `plain` and of `Chooser`).
--
-- What carries it. A line has no line feed within, so the first line of a text and what stands
-- behind it are settled (`same_line`, in LineLaws). A line settles what it says: the words at the
-- front tell the kind of line and of message, numbers have one spelling, and in form 2 the round is
-- that of the line before or the one that is held. The round held is a function of the events so
-- far (`last_round`), so behind the same events two readings hold the same round. As the reader
-- goes on, the text is the spelling of the events so far and of the rest, the line number is one
-- more than their lines, and the rest gets shorter.
--
-- The chain. PlainLaws: the four kinds of lines have no line feed. LineLaws: where the first line
-- ends, and what stands behind a word. TakeLaws: the one or two lines of a take at the front of a
-- text, and when no event stands there (`take_cases`, `no_event`); by these the readers of lines in
-- src/line.rt find an event exactly where one is. OneLaws: lines at the front settle the event and
-- what stands behind (`one_event`). PairLaws: so two spellings of a text go alike up to the end of
-- one of them (`front_of`, `two_texts`), and the laws of `schedules_read_back`. ReadLaws: one event
-- more, for the loop of the reader. RecordLaws: one event more, for the recorder.
--
-- DrawnLaws has the events that are chosen, from the laws of worlds and choices of cluster_run:
-- some event is drawn while the run isn't finished and each lessens what is left, so they end
-- (`drawn_ends`); they are one list (`drawn_is_one`), and complete (`drawn_is_complete`,
-- `plain_is_complete`).
pub mod DrawnLaws
pub mod LineLaws
pub mod OneLaws
pub mod PairLaws
pub mod PlainLaws
pub mod ReadLaws
pub mod RecordLaws
pub mod TakeLaws
