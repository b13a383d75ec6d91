-- How many pages a value takes (`Totals`) and what each of them holds (`Layout`); value pages and cells as bytes (`ValuePages`, `Cells`);
-- reading and deleting (`Reading`), and the parts of the work (`Steps`), which only functions below the operations cite; a value as it is
-- kept (`Kept`), and what is shown of it (`Theorems`).
pub mod Totals
pub mod Layout
pub mod ValuePages
pub mod Cells
pub mod Reading
pub mod Steps
pub mod Kept
pub mod Theorems
