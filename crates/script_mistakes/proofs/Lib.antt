pub mod NearestLaws
pub mod ReadLaws
pub mod PartLaws
