pub mod Finding
pub mod Recovering
pub use Rattle.array_reshaping_state.specs.reshape_progress_Course
pub use Rattle.array_reshaping_state.specs.crash_views_Regions
