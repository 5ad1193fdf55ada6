-- PartsFrom: the parts of a graph are those of one run, and what follows where all is well. StartsAt: a start that is
-- ready for a graph is one for each part.
pub mod PartsFrom
pub mod StartsAt
