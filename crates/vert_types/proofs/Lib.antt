-- The check of a program finds its first fault, or leaves a typed program.
--
-- The claim (CheckLaws, ProgramLaws): the fault that `check` answers is the first by the definition, and a program in
-- which there is none is filled with places so that it is typed and tells the same as before.
--
-- Names. The declarations of a program in memory are those of its trees (DeclaredLaws), each is declared once and
-- known (NameLaws), and the table that the checker holds says of each name what the dictionary of texts says
-- (Definitions, Dictionaries, TableLaws, TellLaws).
-- Faults. Those of an expression are found part by part (Firsts, Starts, StatementLaws). Without one an expression
-- has its places, its words and its type (GoodLaws), and so a statement (FineLaws, an induction over statements),
-- a declaration and a block (PartLaws), and the whole (ProgramLaws). FillLaws says what filling keeps, SameLaws that
-- programs that tell the same keep the limits, Rules by which laws the contracts are met.
pub mod Dictionaries
pub mod Firsts
pub mod Starts
pub mod Rules
pub mod StatementLaws
pub mod FillLaws
pub mod TableLaws
pub mod Definitions
pub mod GoodLaws
pub mod FineLaws
pub mod PartLaws
pub mod SameLaws
pub mod DeclaredLaws
pub mod NameLaws
pub mod TellLaws
pub mod ProgramLaws
pub mod CheckLaws
