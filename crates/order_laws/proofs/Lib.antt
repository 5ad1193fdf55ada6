-- Runs over every two lists of ends are alike, where the loop agrees over every order of its members and
-- no neighbour emits to a slot of kind `first` (`runs_alike` in Rounds, by induction over rounds).
--   Blindness    what isn't read doesn't matter: `node_same` for expressions, `run_same` for statements,
--                for any relation of environments that is `IsBlind`; `run_blind` at any other neighbour
--   Members      the members of a vertex over two lists of ends are the same ones in another order
--   Emissions    slots without `first` have one value for each order of what was emitted
--   Loops        from two members that change places to every order (`order_free_loops`)
--   Rounds       rows, totals and rulings of a round, and then of a run
pub mod Blindness
pub mod Emissions
pub mod Loops
pub mod Members
pub mod Rounds
