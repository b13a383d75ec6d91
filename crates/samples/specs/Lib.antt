-- Document 01's marked samples, the panel's limits and totals, and columns of three rows.
pub mod Samples
pub mod Panel
pub mod Recordings
