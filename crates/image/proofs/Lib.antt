-- Laws of the layout, and what the proofs share. Assumes nothing.
--     Laws       mark bytes, the header's refusals
--     Theorems   what is written reads back, and only the exact layout does
--     Bits       a mark byte by shifts and masks
--     Sections   a part of an image, entry by entry
--     Seats      a loop that marks the pages in the slots
--     Stores     bytes, numbers and sections written one after the other
pub mod Bits
pub mod Sections
pub mod Seats
pub mod Stores
pub mod Laws
pub mod Theorems
