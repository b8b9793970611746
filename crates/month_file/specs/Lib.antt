-- docs/EVENTS.md: the event file as a whole.
pub mod Inputs
pub mod File
pub mod Grammar
pub mod Refusals
