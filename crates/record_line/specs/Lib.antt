pub mod Fields
pub mod Reading
pub mod Text
