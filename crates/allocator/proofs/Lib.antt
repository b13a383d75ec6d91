-- Laws about the open save, for the proofs here and above.
pub mod SaveLaws
