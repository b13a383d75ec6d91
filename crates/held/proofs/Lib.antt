-- Structs that hold one lent slice of bytes (`Holders`), their functions (`HeldLaws`), and functions with plain parameters above them
-- (`AskLaws`).
pub mod Holders
pub mod HeldLaws
pub mod AskLaws
