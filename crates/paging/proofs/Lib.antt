-- What is proved of the definitions of specs/:
--     Theorems      the main theorems
--     Examples      trace A, P5 and P7, computed over the definitions
-- about layers:
--     Moves         a request's move as one law, and that layers stay layered
--     LayerSets     the layers after a request, set by set
-- about the selection:
--     Chosen        the selection is justified
--     Replace       one page for another, in layers that sink
--     Update        a request: hit and miss keep the certificate
--     Found         the victim is found, and is the right one
-- about the fewest loads:
--     Lower         no schedule has fewer than best
--     Upper         each set with room in every layer is the end of a schedule with exactly best
--     Begin         the starts
--     FullRuns      runs with no free slot, and one request more
-- Assumes nothing.
pub mod Begin
pub mod Chosen
pub mod Examples
pub mod Found
pub mod FullRuns
pub mod LayerSets
pub mod Lower
pub mod Moves
pub mod Replace
pub mod Theorems
pub mod Update
pub mod Upper
