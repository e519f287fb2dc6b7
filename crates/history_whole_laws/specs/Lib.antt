pub mod Unfailed
pub mod Whole
pub use Rattle.history.specs.Epochs as history_Epochs
pub use Rattle.history.specs.Fits as history_Fits
pub use Rattle.history.specs.Flat as history_Flat
pub use Rattle.history.specs.Legal as history_Legal
pub use Rattle.history.specs.Transfers as history_Transfers
pub use Rattle.history.specs.World as history_World
pub use Rattle.history.specs.declared.events.Entry as history_the_Entry
pub use Rattle.history.specs.declared.events.Event as history_the_Event
pub use Rattle.history.specs.declared.events.Event.TheVariants as history_the_Event_TheVariants
pub use Rattle.history.specs.declared.events.LostCause.TheVariants as history_the_LostCause_TheVariants
pub use Rattle.history.specs.declared.events.Request.TheVariants as history_the_Request_TheVariants
pub use Rattle.history.specs.bank_Tape
pub use Rattle.history.specs.raid_types_Sectors
pub use Rattle.history.specs.raid_types_the_Refusal
pub use Rattle.history.specs.raid_types_the_Refusal_TheVariants
