-- The open save (`OpenSave`), and the code's saves and answers as the definitions have them (`Answers`).
pub mod OpenSave
pub mod Answers
