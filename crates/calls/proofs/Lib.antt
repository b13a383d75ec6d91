-- What was handed out, as it is told (`SavesLaws`).
pub mod SavesLaws
