pub mod CoreState
