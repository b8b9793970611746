-- How long a fault's text is; that nothing is cut, and the calls of worked lines; and the theorem `asked-once`.
pub mod FaultLengths
pub mod Room
pub mod Examples
pub mod Asked
