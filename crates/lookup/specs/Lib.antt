-- Where a page lies, and its bytes (`Lookup`).
pub mod Lookup
