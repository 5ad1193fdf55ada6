-- The stack code of a program does what its blocks do.
--
-- The claim (Programs): the lists of a typed program are code, they name only what there is, and a run of each does
-- what its block does, in every environment.
--
-- The invariant (`Rest`, in Works): code before any rest of a list does what its tree does and goes on with the
-- rest. Works has it piece by piece (`works_chain`, `works_choice`, `works_only_if`), Sound by an induction over
-- expressions and statements, together with how high the stack rises (Levels) and what is named (NameLaws). Patch
-- says that a jump that is written once its target is known is the jump of the definition.
pub mod Levels
pub mod NameLaws
pub mod Patch
pub mod Programs
pub mod Sound
pub mod Works
