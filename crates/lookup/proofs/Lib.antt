-- Laws about the definitions of this crate, for the proofs here and above.
pub mod LookupLaws
