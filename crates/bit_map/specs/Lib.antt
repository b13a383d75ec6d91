-- A bit map as a set of numbers (`BitMap`), and marking numbers one after another (`Marking`).
pub mod BitMap
pub mod Marking
