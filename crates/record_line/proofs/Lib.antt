-- Laws about the numbers of a line that come next (`FieldsLaws`), and about a line that is read byte by byte (`ReadingLaws`).
pub mod FieldsLaws
pub mod ReadingLaws
