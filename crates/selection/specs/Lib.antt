-- The plain selection. Its meaning is `chosen` of `paging`; here it stands as a table of marks. Assumes nothing.
--     Marks   sets of pages as arrays of marks
--     Laws    what is read out of marks, and that only the pages below N matter
pub mod Marks
pub mod Laws
