-- 02, request 2026-06, "that interface with its own reader": the policy update of an operator's domain.
pub mod Field
pub mod Reading
pub mod Grammar
pub mod Words
