-- Document 02, 2026-01: the report without the program's table, what is printed of it, wrong reports refuted, and the months that show them.
pub mod Reports
pub mod Examples
pub mod RollBack
pub mod WrongReports
pub mod Written
pub mod Logged
pub mod Printed
