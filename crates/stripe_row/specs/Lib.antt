pub mod Rows
pub mod Writes
pub mod Laws
pub use Rattle.raid_parity_simd.specs.raid_parity_Exponents
pub use Rattle.raid_parity_simd.specs.raid_parity_Fills
pub use Rattle.raid_parity_simd.specs.raid_parity_Parity
pub use Rattle.raid_parity_simd.specs.raid_parity_Rows
pub use Rattle.raid_parity_simd.specs.raid_gf256_Field
pub use Rattle.sb_specs.specs.Reading as sb_specs_Reading
pub use Rattle.sb_specs.specs.bank_Given
pub use Rattle.sb_specs.specs.bank_Tape
pub use Rattle.sb_specs.specs.bank_the_Operation
pub use Rattle.sb_specs.specs.declared.members.Members as sb_specs_the_Members
