-- Numbers in decimal (`Decimal`), the lines of an input (`Lines`), the text printed for them (`Text`); and what the code works with: what
-- is accumulated of a line (`Accumulated`), what is printed for a part of the input (`Read`), and bytes put at a place of a buffer (`Put`).
pub mod Decimal
pub mod Lines
pub mod Text
pub mod Accumulated
pub mod Read
pub mod Put
