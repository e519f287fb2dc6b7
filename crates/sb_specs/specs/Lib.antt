pub mod Reading
pub mod Same
pub mod Verdict
pub mod Election
pub mod Update
pub mod Writing
pub mod Updating
pub mod Outcome
pub mod Order
pub mod Reads
pub mod Held
pub mod Stages
pub mod Crash
pub mod Plans
pub mod Rounds
pub mod Found
pub mod Adding
pub mod Losing
pub use Rattle.bank.specs.Given as bank_Given
pub use Rattle.bank.specs.Tape as bank_Tape
pub use Rattle.bank.specs.declared.bank.Operation as bank_the_Operation
pub use Rattle.bank.specs.declared.bank.Operation.TheVariants as bank_the_Operation_TheVariants
pub use Rattle.bank.specs.raid_types_Sectors
pub use Rattle.bank.specs.raid_types_the_Fault
pub use Rattle.bank.specs.raid_types_the_Role
pub use Rattle.bank.specs.raid_types_the_Role_TheVariants
pub use Rattle.reshape_geometry.specs.Geometry as reshape_geometry_Geometry
pub use Rattle.reshape_geometry.specs.raid_types_Search
pub use Rattle.reshape_geometry.specs.raid_types_Shapes
pub use Rattle.reshape_geometry.specs.raid_types_the_Refusal
pub use Rattle.reshape_geometry.specs.raid_types_the_Refusal_TheVariants
pub use Rattle.reshape_geometry.specs.raid_types_the_Shape
pub use Rattle.raid_layout.specs.Layout as raid_layout_Layout
pub use Rattle.sb_codec.specs.Features as sb_codec_Features
pub use Rattle.sb_codec.specs.Kept as sb_codec_Kept
pub use Rattle.sb_codec.specs.Superblock as sb_codec_Superblock
pub use Rattle.sb_codec.specs.Writable as sb_codec_Writable
pub use Rattle.sb_codec.specs.declared.sb.Sb as sb_codec_the_Sb
