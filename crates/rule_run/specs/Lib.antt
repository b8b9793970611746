-- The rules: the calls, the table of status words, what each call is answered, and what runs of calls are made of. Every engine is proved
-- equal to `step`; the demands are statements about it.
pub mod Calls
pub mod Table
pub mod Step
pub mod Statements
pub mod Runs
pub mod Inputs
pub mod Samples
pub mod Notified
