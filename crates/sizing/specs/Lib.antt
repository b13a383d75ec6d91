-- What a printer has printed.
pub mod Print
