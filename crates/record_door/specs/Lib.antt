-- The engine over the record: its door.
pub mod Door
