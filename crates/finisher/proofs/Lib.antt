-- Laws about the finished save, for the proofs here and above.
pub mod TablesLaws
pub mod EncodeLaws
pub mod NewListLaws
pub mod PushLaws
pub mod FreshLaws
pub mod CountLaws
pub mod FinishLaws
pub mod NewShapeLaws
pub mod CarryLaws
pub mod JudgeLaws
pub mod KeptPageLaws
pub mod NewNumbersLaws
pub mod EncodedLaws
pub mod WritingLaws
pub mod ReadBackLaws
pub mod WrittenLaws
pub mod FinishedLaws
