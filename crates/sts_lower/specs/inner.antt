-- What only the clauses of private functions speak of: the work list of the code, and what it needs of a tree. No claim
-- rests on it.
pub mod Works
pub mod Fitting
pub mod Shown
