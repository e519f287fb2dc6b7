pub mod AlikeLaws
pub mod PartLaws
pub mod RoomLaws
pub mod GainLaws
pub mod ReadLaws
pub mod ParityLaws
pub mod WriteLaws
pub mod StandLaws
