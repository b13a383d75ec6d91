-- The proof of demand 3.
pub mod ReadersLaws
pub mod CallsLaws
pub mod WritesLaws
pub mod RollbackLaws
pub mod SeasonsLaws
pub mod BridgeLaws
pub mod HandedOutLaws
pub mod SizesLaws
pub mod Witness
