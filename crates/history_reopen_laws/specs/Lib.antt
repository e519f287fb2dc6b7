pub mod Later
pub use Rattle.history.specs.CrashSafe as history_CrashSafe
pub use Rattle.history.specs.Epochs as history_Epochs
pub use Rattle.history.specs.Flat as history_Flat
pub use Rattle.history.specs.Growing as history_Growing
pub use Rattle.history.specs.Legal as history_Legal
pub use Rattle.history.specs.OneShape as history_OneShape
pub use Rattle.history.specs.Opened as history_Opened
pub use Rattle.history.specs.Reopened as history_Reopened
pub use Rattle.history.specs.Reshaped as history_Reshaped
pub use Rattle.history.specs.Sound as history_Sound
pub use Rattle.history.specs.Transfers as history_Transfers
pub use Rattle.history.specs.World as history_World
pub use Rattle.history.specs.bank_Given
pub use Rattle.history.specs.bank_Tape
pub use Rattle.history.specs.bank_the_Operation
pub use Rattle.history.specs.declared.events.Entry as history_the_Entry
pub use Rattle.history.specs.declared.events.Epoch as history_the_Epoch
pub use Rattle.history.specs.declared.events.Event as history_the_Event
pub use Rattle.history.specs.declared.events.Event.TheVariants as history_the_Event_TheVariants
pub use Rattle.history.specs.declared.events.LostCause.TheVariants as history_the_LostCause_TheVariants
pub use Rattle.history.specs.raid_types_the_Refusal
pub use Rattle.history.specs.raid_types_the_Refusal_TheVariants
pub use Rattle.history.specs.raid_types_the_Who
