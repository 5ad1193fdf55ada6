-- Bodies of ring states: each list of states has one spelling, and each spelling is read as one
-- list.
--
-- The claim. `pack` makes the spelling of states: two bits of each vertex, then the words of those
-- that are started (`spelled`, in specs/Spelling). `unpack` answers the states of which a body is
-- the spelling, or its first fault (`refusal_of`, in specs/Judgement), before memory is asked for;
-- `fits_ring` and `are_typed` judge without reading. What isn't refused spells states, what spells
-- states isn't refused, no body spells two lists, and what is spelled is read back
-- (`one_spelling`).
--
-- What carries it. A mark and two bits that aren't 3 tell each other, four of them make a byte, and
-- behind the last mark all bits are 0. A word and eight bytes tell each other. How many words
-- follow is settled by the marks: so many as there are started vertices, times the width; a vertex
-- that isn't started has zeros. So the two parts of a body are cut at a place that the number of
-- vertices gives, and the words of each vertex stand behind those of the vertices before it.
--
-- The chain. MarkLaws: the pairs of the bytes of marks are those of the marks, and then zeros
-- (`pairs-mark_bytes`), and back (`mark_bytes-pairs`). WordLaws: `word_again` and `eight_bytes`,
-- and so lists of words (`words_again`, `bytes-words_in`). StateLaws: states are read from what
-- they send (`states_again`), and what is read sends the bytes that were read (`bytes-states_in`).
-- SpellingLaws: the test of a body is its facts, both ways (`sound_parts`, `accepted_parts`), a
-- body that spells states is read as these (`read_again`), one that isn't refused spells what it is
-- read as (`accepted_spells`), and the four laws (`accepted_law`, `spelled_law`, `once_law`,
-- `back_law`). LoopLaws: one vertex or one word more in a loop; what was written or read so far,
-- with what is left, is the whole (`sent_step`, `state_step`, `room_for`).
pub mod MarkLaws
pub mod WordLaws
pub mod StateLaws
pub mod SpellingLaws
pub mod LoopLaws
