-- Document 01, 'Responses': what each command writes for its caller.
pub mod Responses
pub mod Worked
