-- A core that is served alone what its machine took in a complete run writes what the machine sent
-- there.
--
-- The claim: whatever the order of the run's events is, also where a machine takes before it acts.
-- Alone the core acts as soon as it can, so beside the machine of the run it is ahead by some
-- actions.
--
-- The way. Ahead: where a machine gets by acting on, by the rulings of a run; a spot whose need
-- wasn't taken isn't passed. BySource: a core that holds what the source's run says acts by its
-- rulings and sends ideal messages; so the core's states needn't be those of the run. Along: the
-- core that is ahead of the run's machine, and its acts. Taking: a message that the machine takes
-- can be taken by the core, in its turn, so both go on by it. Serving: from a world on, over all
-- events; what the core has sent ahead, and then its text, are what the machine sends. Bytes: the
-- messages taken are bytes. Rows: the rows at the end are the last of the source's run. Whole: from
-- the first world. ChunkTexts: the lines of all chunks are those of the table.
pub mod Ahead
pub mod Along
pub mod BySource
pub mod Bytes
pub mod ChunkTexts
pub mod Rows
pub mod Serving
pub mod Taking
pub mod Whole
