-- Document 01, 'Reading a command': the TLV forms.
pub mod Tlv
pub mod Lists
pub mod Filled
pub mod Encoding
pub mod Grammar
