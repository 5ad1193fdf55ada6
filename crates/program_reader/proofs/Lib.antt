-- A text says one program, or has one refusal.
--
-- The claim. `read_program` answers a program that the text says, or its first refusal: by its
-- tokens, else by the grammar, else by the rules of typing (`ReadsProgram`, in specs/Answers). The
-- programs that a text says have one tree and one list of names, a text has one refusal at most,
-- never both, and always one of the two; and each text that is accepted is said by some program
-- (`accepted_once`).
--
-- What carries it. Each of the three readers below is settled by its own definition: tokens by the
-- rule of the longest one, trees by the grammar (program_laws), faults of typing as the first of a
-- list. So a text settles its tokens, these settle a tree or a first fault, and the tree settles
-- its first fault of typing.
--
-- The chain. What the readers answer is what the text says: SmallTokens (tokens have no number
-- above the greatest, a text without tokens is refused), NameLaws and ParsedLaws (a reading with
-- its names numbered is a program as the checks want it: `is_parsed`), and ReaderLaws joins them
-- (`no_program`, `untyped`, `says`). That there is one answer: AcceptLaws (`says_one_tree`,
-- `has_one_refusal`, `accepted_is_unrefused`, `is_decided`).
--
-- The other way, from an accepted text to a program that it says (`is_said`, in SaidLaws): the
-- value in memory is made of the tree, each name with its place and what it stands for
-- (`make_program`, in Made), and it tells that tree and is filled (`program_made`, in MadePrograms,
-- over MadeLaws). For that the names of a program are among its tokens (SpelledNames), these are
-- plain and few (`tokens_plain`, in PlainTokens), so each is a String with one place
-- (`make_strings`, `stands`, in Strings), and none stands twice (`apart`, in Apart).
pub mod SmallTokens
pub mod NameLaws
pub mod Apart
pub mod ParsedLaws
pub mod ReaderLaws
pub mod AcceptLaws
pub mod Made
pub mod MadeLaws
pub mod MadePrograms
pub mod SpelledNames
pub mod Strings
pub mod PlainTokens
pub mod SaidLaws
