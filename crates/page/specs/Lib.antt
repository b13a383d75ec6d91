-- Numbers in bytes (`Bytes`), page sizes (`PageSize`), the pages of a store (`Pages`), and how a store grows (`Growth`).
pub mod Bytes
pub mod PageSize
pub mod Pages
pub mod Growth
