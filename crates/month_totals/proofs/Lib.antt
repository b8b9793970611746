-- The proofs of the statements in specs/.
pub mod Reports
pub mod RollBack
pub mod WrongReports
pub mod Written
pub mod Logged
pub mod Printed
