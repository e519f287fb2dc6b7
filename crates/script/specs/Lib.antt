pub mod Appends
pub mod Grammar
pub mod Looks
pub mod Mistakes
pub mod Reading
pub mod Script
pub mod Seeds
pub mod Tables
pub mod Texts
pub use Rattle.history.specs.CrashSafe as history_CrashSafe
pub use Rattle.history.specs.Epochs as history_Epochs
pub use Rattle.history.specs.Fits as history_Fits
pub use Rattle.history.specs.Flat as history_Flat
pub use Rattle.history.specs.Growing as history_Growing
pub use Rattle.history.specs.Left as history_Left
pub use Rattle.history.specs.Legal as history_Legal
pub use Rattle.history.specs.Losses as history_Losses
pub use Rattle.history.specs.OneShape as history_OneShape
pub use Rattle.history.specs.Opened as history_Opened
pub use Rattle.history.specs.Plain as history_Plain
pub use Rattle.history.specs.Reopened as history_Reopened
pub use Rattle.history.specs.Reshaped as history_Reshaped
pub use Rattle.history.specs.Seen as history_Seen
pub use Rattle.history.specs.Sound as history_Sound
pub use Rattle.history.specs.Stands as history_Stands
pub use Rattle.history.specs.Transfers as history_Transfers
pub use Rattle.history.specs.World as history_World
pub use Rattle.history.specs.declared.events.Entry as history_the_Entry
pub use Rattle.history.specs.declared.events.Epoch as history_the_Epoch
pub use Rattle.history.specs.declared.events.Event as history_the_Event
pub use Rattle.history.specs.declared.events.Event.TheVariants as history_the_Event_TheVariants
pub use Rattle.history.specs.declared.events.LostCause as history_the_LostCause
pub use Rattle.history.specs.declared.events.LostCause.TheVariants as history_the_LostCause_TheVariants
pub use Rattle.history.specs.declared.events.Request as history_the_Request
pub use Rattle.history.specs.declared.events.Request.TheVariants as history_the_Request_TheVariants
pub use Rattle.history.specs.declared.events.StepKind.TheVariants as history_the_StepKind_TheVariants
pub use Rattle.history.specs.reshape_plan_Plans
pub use Rattle.history.specs.raid_types_the_Role
pub use Rattle.history.specs.raid_types_the_Role_TheVariants
pub use Rattle.history.specs.raid_types_the_Shape
pub use Rattle.history.specs.raid_types_the_Status
pub use Rattle.history.specs.sb_codec_Superblock
pub use Rattle.history.specs.sb_codec_the_Sb
pub use Rattle.history.specs.sb_specs_Reading
