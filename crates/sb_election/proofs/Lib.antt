pub mod Decoded
pub mod LostSlots
pub mod Looked
pub mod RefusalOrder
pub mod Elected
pub use Rattle.sb_specs.proofs.ReadLists as sb_specs_ReadLists
pub use Rattle.sb_specs.proofs.Searches as sb_specs_Searches
pub use Rattle.sb_specs.proofs.ValidFields as sb_specs_ValidFields
pub use Rattle.sb_specs.proofs.reshape_geometry_ClosedForms
pub use Rattle.sb_specs.proofs.reshape_geometry_Valid
pub use Rattle.sb_specs.proofs.raid_layout_Limits
pub use Rattle.sb_specs.proofs.sb_codec_RoleTable
