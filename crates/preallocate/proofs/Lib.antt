-- Laws about the plan of a finish, for the proofs here and above.
pub mod PagesForLaws
pub mod StepsLaws
pub mod FirstLaws
pub mod ShapelyLaws
pub mod PlanLaws
pub mod CasesLaws
pub mod SomeLaws
