-- Byte strings: what their bytes, numbers and parts are, and what writing them leaves in a buffer.
pub mod Bytes
pub mod Put
