-- List pages as bytes (`ListPages`), the shape of a list (`Shape`), a list that stands in a store (`StoredList`), reading a list
-- (`Reading`), what is shown of it (`Theorems`), and the parts of the reader's work (`Steps`), which only its private functions cite.
pub mod ListPages
pub mod Shape
pub mod StoredList
pub mod Reading
pub mod Theorems
pub mod Steps
