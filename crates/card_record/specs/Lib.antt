-- Document 01, 'The card' and the parts of 'Steps' that know no command.
pub mod Cards
pub mod Deletions
pub mod Sound
pub mod Clock
pub mod Numbers
pub mod Free
pub mod Ticks
pub mod Notifications
pub mod Steps
pub mod Noticed
pub mod Answers
pub mod Fresh
pub mod Policies
pub mod Clauses
