-- One bit and all of them (`BitMapLaws`), and numbers marked one after another (`MarkingLaws`).
pub mod BitMapLaws
pub mod MarkingLaws
