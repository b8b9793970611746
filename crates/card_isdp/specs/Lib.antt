-- Document 01, 'Sizes' and 'The card': the numbers of the papers, and one ISD-P by itself.
pub mod Sizes
pub mod Aids
pub mod Policy
pub mod Profile
pub mod LifeCycle
pub mod Provisioning
pub mod Place
pub mod Clauses
