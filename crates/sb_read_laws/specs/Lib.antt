pub mod Said
pub mod Following
pub use Rattle.sb_specs.specs.Adding as sb_specs_Adding
pub use Rattle.sb_specs.specs.Losing as sb_specs_Losing
pub use Rattle.sb_specs.specs.declared.change.Give.TheVariants as sb_specs_the_Give_TheVariants
pub use Rattle.sb_specs.specs.declared.change.Change as sb_specs_the_Change
pub use Rattle.sb_specs.specs.declared.members.Members as sb_specs_the_Members
pub use Rattle.sb_specs.specs.Reading as sb_specs_Reading
pub use Rattle.sb_specs.specs.Update as sb_specs_Update
pub use Rattle.sb_specs.specs.Updating as sb_specs_Updating
pub use Rattle.sb_specs.specs.Outcome as sb_specs_Outcome
pub use Rattle.sb_specs.specs.Rounds as sb_specs_Rounds
pub use Rattle.sb_specs.specs.Held as sb_specs_Held
pub use Rattle.sb_specs.specs.Crash as sb_specs_Crash
pub use Rattle.sb_specs.specs.declared.change.Give as sb_specs_the_Give
pub use Rattle.sb_specs.specs.Writing as sb_specs_Writing
pub use Rattle.sb_specs.specs.Reads as sb_specs_Reads
pub use Rattle.sb_specs.specs.Stages as sb_specs_Stages
pub use Rattle.sb_specs.specs.Plans as sb_specs_Plans
pub use Rattle.sb_specs.specs.Found as sb_specs_Found
pub use Rattle.sb_specs.specs.Same as sb_specs_Same
pub use Rattle.sb_specs.specs.Verdict as sb_specs_Verdict
pub use Rattle.sb_specs.specs.Election as sb_specs_Election
pub use Rattle.sb_specs.specs.bank_Tape
pub use Rattle.sb_specs.specs.raid_layout_Layout
pub use Rattle.sb_specs.specs.raid_types_Search
pub use Rattle.sb_specs.specs.raid_types_Sectors
pub use Rattle.sb_specs.specs.raid_types_Shapes
pub use Rattle.sb_specs.specs.raid_types_the_Role
pub use Rattle.sb_specs.specs.raid_types_the_Role_TheVariants
pub use Rattle.sb_specs.specs.sb_codec_Features
pub use Rattle.sb_specs.specs.sb_codec_Superblock
pub use Rattle.sb_specs.specs.sb_codec_Writable
pub use Rattle.sb_specs.specs.sb_codec_the_Sb
