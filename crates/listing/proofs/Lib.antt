-- Laws about the definitions of this crate, for the proofs here and above.
pub mod DecimalLaws
pub mod LinesLaws
pub mod AccumulatedLaws
pub mod PutLaws
pub mod TextLaws
pub mod ListingLaws
pub mod ReadLaws
