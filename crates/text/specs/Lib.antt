-- What the trace program prints, and laws of it. Assumes nothing.
--     Text      the lines
--     Told      what is told of text
--     Laws      laws of the lines
--     Telling   text told a piece behind another
pub mod Text
pub mod Told
pub mod Laws
pub mod Telling
