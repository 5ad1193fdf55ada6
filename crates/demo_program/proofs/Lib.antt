-- The text of the demonstration is a program.
--
-- Its tokens, its tree and its types are computed once (Computed). Since the longest token is looked for from the
-- end of a text on, the tokens are computed by the length of the run at the front (FrontTokens).
pub mod FrontTokens
pub mod Computed
