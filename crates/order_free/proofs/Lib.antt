-- A program of which `free` gives one of its first four answers is order-free (`free_is_order_free`),
-- so by `order_laws` its runs are alike over every two lists of ends. The loop is shown to agree over
-- every order of its members, form by form:
--   Reductions       FreeLaws, by Fits (`body_fits`: each use of a let is the one that its class tells),
--                    Changes (`changes_permuted`: such changes may come in any order) and Reduces
--                    (`reduced`: a body leaves a trace of changes and emissions, and so does the loop)
--   Found one        FormLaws (`found_agrees`), by Counted (`counted`: a loop that does the same at each
--                    member that passes a test only counts them)
--   Reach a count    FormLaws (`count_agrees`), by Counted too
-- Below them: Statements (the induction over statements, `Closed`), Keeps and Blind (what a body leaves
-- alone), Values, Uses and ClassLaws (uses of lets and their classes), TypedParts.
-- Beside them: NoFirst (`program_spares`: no neighbour emits to a slot of kind `first`) and Apart
-- (`forms_apart`: a body has one form at most).
mod Values
mod Uses
mod Blind
mod TypedParts
mod Statements
mod Keeps
mod Counted
mod ClassLaws
mod FormLaws
mod Fits
mod Changes
mod Reduces
mod NoFirst
mod FreeLaws
mod Apart
