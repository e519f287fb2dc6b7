pub mod Layout
pub mod Fixed
pub use Rattle.raid_types.specs.Search as raid_types_Search
pub use Rattle.raid_types.specs.Sectors as raid_types_Sectors
pub use Rattle.raid_types.specs.Shapes as raid_types_Shapes
pub use Rattle.raid_types.specs.declared.answers.Fault as raid_types_the_Fault
pub use Rattle.raid_types.specs.declared.answers.Fault.TheVariants as raid_types_the_Fault_TheVariants
pub use Rattle.raid_types.specs.declared.answers.Refusal as raid_types_the_Refusal
pub use Rattle.raid_types.specs.declared.places.Place as raid_types_the_Place
pub use Rattle.raid_types.specs.declared.places.RowRoles as raid_types_the_RowRoles
pub use Rattle.raid_types.specs.declared.places.Shape as raid_types_the_Shape
pub use Rattle.raid_types.specs.declared.places.Side as raid_types_the_Side
pub use Rattle.raid_types.specs.declared.places.Side.TheVariants as raid_types_the_Side_TheVariants
pub use Rattle.raid_types.specs.declared.places.Span as raid_types_the_Span
pub use Rattle.raid_types.specs.declared.status.Role as raid_types_the_Role
pub use Rattle.raid_types.specs.declared.status.Role.TheVariants as raid_types_the_Role_TheVariants
