-- Document 01, 'Reading a command', 'Create'.
pub mod Parameters
pub mod Install
pub mod Grammar
