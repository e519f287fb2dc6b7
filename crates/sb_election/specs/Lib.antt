pub use Rattle.sb_specs.specs.Election as sb_specs_Election
pub use Rattle.sb_specs.specs.Outcome as sb_specs_Outcome
pub use Rattle.sb_specs.specs.Reading as sb_specs_Reading
pub use Rattle.sb_specs.specs.Reads as sb_specs_Reads
pub use Rattle.sb_specs.specs.Update as sb_specs_Update
pub use Rattle.sb_specs.specs.Verdict as sb_specs_Verdict
pub use Rattle.sb_specs.specs.bank_Given
pub use Rattle.sb_specs.specs.bank_Tape
pub use Rattle.sb_specs.specs.bank_the_Operation
pub use Rattle.sb_specs.specs.declared.change.Change as sb_specs_the_Change
pub use Rattle.sb_specs.specs.declared.change.Give as sb_specs_the_Give
pub use Rattle.sb_specs.specs.declared.change.Give.TheVariants as sb_specs_the_Give_TheVariants
pub use Rattle.sb_specs.specs.declared.members.Members as sb_specs_the_Members
pub use Rattle.sb_specs.specs.reshape_geometry_Geometry
pub use Rattle.sb_specs.specs.sb_codec_Superblock
pub use Rattle.sb_specs.specs.sb_codec_the_Sb
