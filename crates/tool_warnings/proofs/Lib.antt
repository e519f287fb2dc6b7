pub mod UuidLaws
pub mod Joined
pub mod FrontLaws
pub mod NeededLaws
