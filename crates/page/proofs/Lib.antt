-- Laws about the definitions of this crate, for the proofs here and above.
pub mod BytesLaws
pub mod PageSizeLaws
pub mod PagesLaws
pub mod GrowthLaws
