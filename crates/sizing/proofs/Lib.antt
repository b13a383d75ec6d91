-- Laws about what is printed.
pub mod PrintLaws
