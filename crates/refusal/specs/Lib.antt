-- What a call returns: an answer or a refusal (`Outcome`), and the number and values of every refusal (`Refusals`); what it
-- leaves (`Effect`), and where that is bytes at the start of a buffer (`Stored`).
pub mod Outcome
pub mod Refusals
pub mod Effect
pub mod Stored
