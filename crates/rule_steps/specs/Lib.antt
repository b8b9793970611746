-- Document 01, 'Steps': what each call asks of a card once it is read, when the table refuses it, and what it then does.
pub mod Asked
pub mod Conditions
pub mod Steps
pub mod Laws
