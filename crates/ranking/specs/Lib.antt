-- The ranking of the pages. Read Outranks, Ranks and Defaults; what is proved of them stands in Different and in proofs/.
--     Outranks   which of two pages outranks the other
--     Defaults   the default priorities, by their formula
--     Ranks      the numbers of a run that rank its pages
--     Key        one number that orders as the ranking does
--     Different  no two default priorities are equal; the entries that document 01 names
pub mod Outranks
pub mod Ranks
pub mod Defaults
pub mod Key
pub mod Different
