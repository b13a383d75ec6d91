-- The finished save (`Finish`), the code's answer (`Answers`), the finish's work in parts (`Steps`), which only
-- private functions cite, and what is shown of finished saves (`Theorems`).
pub mod Finish
pub mod Answers
pub mod Steps
pub mod Theorems
