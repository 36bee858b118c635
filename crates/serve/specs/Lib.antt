-- One request of a sound run over its arrays. Read Event and Step; the others prove that the step gives that.
--     Event      the numbers and values of each event
--     Step       the event, the slots after a request; what the step needs and leaves
--     Searches   the searches over the slots find what the rule over the pages says
--     After      the tables by slots after a request
--     Steps      hit and miss
-- Assumes nothing.
pub mod Event
pub mod Step
pub mod Searches
pub mod After
pub mod Steps
