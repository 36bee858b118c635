-- Laws that the proofs share. Assumes nothing.
--     Places        a loop that writes the places of a list's entries into a table
--     RefusalLaws   the refusals of a list and of a start, as the code finds them
--     Lists         tests and tables of a list by the library's functions of lists
pub mod Places
pub mod RefusalLaws
pub mod Lists
