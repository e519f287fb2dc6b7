pub mod Tallies
pub mod TallyLaws
pub mod Lanes
pub mod Gates
