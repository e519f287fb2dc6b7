pub mod AnswerLaws
pub mod Backed
pub mod Shown
