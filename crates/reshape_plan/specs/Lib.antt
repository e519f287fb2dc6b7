pub mod Plans
pub use Rattle.reshape_geometry.specs.Geometry as reshape_geometry_Geometry
