-- The mathematics of paging. First what must be believed, in document 01's words:
--     Sets          sets of pages, and words for them: how many, each, some, the first, the lowest-ranking
--     Ranking       what a ranking of the pages is
--     Layers        the layers of a start, and after a request; what holds of layers at all times
--     Selection     the cached set that the layers and a ranking choose
--     Victim        which cached page makes room
--     Schedule      schedules, their loads, the fewest loads
--     Best          what the requests make of the layers and of best
--     LayerSets     what document 01 says of the layers after a request, set by set
-- Then facts about words:
--     Tests         Booleans and comparisons
--     Count         sizes of sets
--     Words         each, any, first, lowest, only
--     Tables        lists and tables of values, entry by entry
-- about layers:
--     Moves         the first layer that sinks
-- about the selection:
--     Certificate   what justifies a cached set
--     Rank          the highest-ranking page of a set
--     Top           the j highest-ranking pages of a set
--     Unique        at most one set is justified
-- about the fewest loads:
--     Choice        the sets with room in every layer
-- The theorems stand in proofs/, with what they need of each other.
-- Assumes nothing.
pub mod Sets
pub mod Ranking
pub mod Layers
pub mod Selection
pub mod Victim
pub mod Schedule
pub mod Best
pub mod Tests
pub mod Count
pub mod Words
pub mod Tables
pub mod Moves
pub mod Certificate
pub mod Rank
pub mod Top
pub mod Unique
pub mod Choice
pub mod LayerSets
