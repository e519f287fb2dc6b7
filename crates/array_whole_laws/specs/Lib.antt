pub mod Done
pub use Rattle.history_whole_laws.specs.Unfailed as history_whole_laws_Unfailed
pub use Rattle.history_whole_laws.specs.Whole as history_whole_laws_Whole
pub use Rattle.history_whole_laws.specs.history_the_Request_TheVariants
pub use Rattle.array_reply_specs.specs.Replies as array_reply_specs_Replies
