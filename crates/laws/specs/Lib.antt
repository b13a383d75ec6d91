-- How often a number occurs (`Counting`).
pub mod Counting
