-- The reader of programs and the grammar of programs say the same.
--
-- The claim (Readings, Refusals): what is read is a program within the limits (`reads_soundly`), such a program is
-- read (`reads_fully`), where reading stops is the first fault (`stops_at_fault`), and tokens are refused once and
-- are no program then (`refused_once`, `refuses_no_program`).
--
-- It goes as for expressions, by readers with their notions (`grammar_laws`), joined to chains by Parts. From small
-- to large: Words (single tokens), Simple (statements other than `if`), Blocks and Statements (an induction over
-- how many statements may be nested), Declarations, Versions (what version 2 alone has), Sections (the blocks of a
-- program), Programs (`program_reader`). Enough has limits that are wide enough for a given program.
pub mod Parts
pub mod Words
pub mod Simple
pub mod Blocks
pub mod Statements
pub mod Declarations
pub mod Sections
pub mod Versions
pub mod Programs
pub mod Enough
pub mod Refusals
pub mod Readings
