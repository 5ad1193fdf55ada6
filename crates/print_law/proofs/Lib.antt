-- A printed program reads again as the same program (`prints_again`, in Reread).
--
-- The chain. The text that is printed is that of the program's tokens, laid out (`lays_program`, in Lays). Tokens
-- laid out are lexed again: a space or a line end ends each (Gaps), and the text of a token is read as that token
-- (Texts), so they come again with their kinds (`lexed_again`, in Lexing). The kinds of a program's tokens are those
-- that it is spelled with (`spells_program`, in Spelled), and tokens of these kinds are the same program, wherever
-- they stand (`program_again`, in Again, over forms that are found by kinds, in Found). The limits of a program are
-- those of its plain tree (Smallness), so it is read and not refused.
pub mod Again
pub mod Found
pub mod Gaps
pub mod Lays
pub mod Lexing
pub mod Reread
pub mod Smallness
pub mod Spelled
pub mod Texts
