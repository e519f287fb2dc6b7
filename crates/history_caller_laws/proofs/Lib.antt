pub mod PlaceLaws
pub mod BeforeLaws
