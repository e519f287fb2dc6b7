pub mod Turning
pub mod MakingWhole
pub use Rattle.sb_read_laws.specs.sb_codec_Superblock
pub use Rattle.sb_read_laws.specs.sb_codec_Writable
pub use Rattle.sb_read_laws.specs.sb_codec_the_Sb
