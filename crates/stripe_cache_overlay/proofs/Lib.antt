pub mod OverlaidLaws
