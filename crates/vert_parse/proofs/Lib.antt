-- The names of a program are numbered in order of first appearance, and its tree stays as it was
-- read.
--
-- The claim (`parse`, in src/parsing.rt). What is answered is what reading the tokens gives, to the
-- end, or where and why reading stopped (`ParsesAs`, in specs/Parsing); and the program's names
-- have each text once, in order of first appearance, and each name in it has a number among them
-- (`IsNamed`).
--
-- What carries it. The names are numbered twice. First each name among the tokens gets a number of
-- its own, so that the reader of trees needs no texts: the signs so far are the tokens so far,
-- whatever names are added later (`AreNumbered`, in Counting). Then the program is walked, and each
-- text that isn't there yet is entered: the texts entered so far, and those of what is left, make
-- those of the whole (`enter_all`). At last each name gets the place of its text among those
-- entered; so its text is the same as before, and the tree that is told by the new names is the one
-- that was told by the old ones.
--
-- The chain. Counting: one token more (`numbered_more`, `all_numbered`). Adding: texts that are
-- entered one after another (`enter_old`, `enter_new`, `inserted`), and what was entered is there
-- (`all_entered`). Turns: the walk over statements and lists (`block_turn`, `list_turn`,
-- `if_turn`). Within: a test of the texts of a program's names is a test of its names
-- (`program_within`), so each has a place. Renames: names with new numbers tell the same, in lists
-- and blocks (`same_with`, `block_whole`, `if_same`). Named: the whole program (`have_places`,
-- `same_program`, `is_named`).
pub mod Counting
pub mod Adding
pub mod Turns
pub mod Renames
pub mod Within
pub mod Named
