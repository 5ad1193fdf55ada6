-- The code reads of numbered tokens what the reader of the definitions reads.
--
-- The claim. `all` of `Reader` answers the tree that `all_of` (vert_grammar) gives of the tokens
-- with their names, or stops for the same cause at the same token; in its stead memory may be
-- wanting (`Gives`, in specs/Signs). Each function of the crate says so of the part that it reads,
-- with the tokens that are left behind it.
--
-- The invariant. Seen through the texts of the names, the code's tokens are those of the
-- definitions (`plain`), and what it has read is their tree. Depth is bounded as in the
-- definitions: a part that is read where so many nodes may be nested is read with one less within.
-- In a loop over items, the items so far and what the definition still reads make the whole that it
-- reads (`with_front`, in Loops). A chain of operators holds its left operand in the same way
-- (`IsChain`, in Steps).
--
-- The chain. Steps: one step of each reader of expressions is one of its definition, outcome by
-- outcome (`unary_step`, `choice_step`, `chain_goes_on`, `chain_done`, `choice_read`). AtomLaws:
-- expressions that no other is part of. Blocks: the same steps for statements (`statement_step`,
-- `branch_step`). Loops: items up to a number (`goes_on`, `is_full`, `is_over`), and any number of
-- them (`IsMany`, `many_goes_on`, `many_over`). Shrinks: what is read is taken from the front, and
-- a statement takes a token at least (`tree_shrinks`, `statement_shrinks`), so that a loop over
-- them ends. Parted: a dense block in the parts in which the code reads it (`dense_step`). Ends:
-- tokens that are left over stop the whole (`left_over`).
pub mod AtomLaws
pub mod Steps
pub mod Blocks
pub mod Shrinks
pub mod Loops
pub mod Ends
pub mod Parted
