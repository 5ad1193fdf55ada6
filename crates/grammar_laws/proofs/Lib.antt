-- The reader of expressions and the grammar of expressions say the same.
--
-- The claim (ExpressionLaws): what the reader reads is of the grammar, what is of the grammar it reads, a fault
-- that it meets is the first, and no tokens are two expressions.
--
-- A reader with its notion, the form that it reads, is sound, complete and finds the first fault: `IsReader`, which
-- is the invariant. Laws puts readers of parts together to readers of wholes (`both_by_reader`, `up_to_reader`,
-- `many_reader`); Signs has the readers of one token, Either choices by the first token, Lists and Many lists.
-- Of expressions, from the tightest on: Atoms, Parentheses, Unary, Chains (operators group to the left), Choices;
-- Exprs puts them together by induction over depth and layer (`tree_reader`). Trees says what may follow an expression,
-- Operators which marks go on with one, Readers carries faults from a part to the whole, and Refusals says that a
-- fault of a reader is a refusal by the grammar, for readers of any notion (`fault_refuses`).
pub mod Readers
pub mod Signs
pub mod Lists
pub mod Many
pub mod Laws
pub mod Either
pub mod Operators
pub mod Trees
pub mod Atoms
pub mod Parentheses
pub mod Unary
pub mod Chains
pub mod Choices
pub mod Exprs
pub mod Refusals
pub mod ExpressionLaws
