-- What is proved of the ranking. Assumes nothing.
--     Order      the ranking is an order: the theory's three laws
--     KeyLaws    keys order as the ranking does
pub mod Order
pub mod KeyLaws
