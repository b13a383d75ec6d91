-- Laws about the definitions of this crate, for the proofs here and above.
pub mod ListPagesLaws
pub mod ReadingLaws
pub mod RoundLaws
pub mod RepeatsLaws
pub mod FillingLaws
pub mod IntoLaws
pub mod ShapeLaws
pub mod BelowLaws
pub mod FittingLaws
pub mod StoredLaws
pub mod ReadListLaws
