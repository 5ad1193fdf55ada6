-- The words of a command line are read as their spelling says, by clap.
--
-- The claim (FormLaws, `reads_as`): a line of words is accepted exactly where it is spelled as the form of its command
-- says, and then each name has the value that the spelling gives it; numbers are in their ranges (RangeLaws,
-- NumberLaws).
--
-- The chain. What clap finds in the command of a form, once it is built (BuildLaws, TableLaws). A word that the
-- spelling allows is a word that clap takes, and both hold the same afterwards (`Stands`, the invariant, in
-- StepLaws); so by induction over the words (WalkLaws), up to their end (EndLaws). TallyLaws counts the names that
-- were read, TextLaws says that both ways to take an option from a word agree.
pub mod TextLaws
pub mod NumberLaws
pub mod BuildLaws
pub mod TallyLaws
pub mod TableLaws
pub mod StepLaws
pub mod WalkLaws
pub mod EndLaws
pub mod FormLaws
pub mod RangeLaws
