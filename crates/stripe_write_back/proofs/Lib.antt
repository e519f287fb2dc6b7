pub mod WrittenOutLaws
pub mod KeepingLaws
