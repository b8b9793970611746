-- Document 01, 'Reading a command': the data fields of STORE DATA, DELETE and GET STATUS.
pub mod Found
pub mod StoreData
pub mod Delete
pub mod GetStatus
pub mod Places
pub mod Grammar
