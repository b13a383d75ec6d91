-- Laws about outcomes (`OutcomeLaws`, `NeverLaws`) and about what the functions of the C interface leave (`CalledLaws`), for the crates above.
pub mod OutcomeLaws
pub mod NeverLaws
pub mod CalledLaws
