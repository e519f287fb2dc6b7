-- What a window is whose sectors were read, by how far its section came in the backup.
use Rattle.std.specs.Prelude.{Bool, Option, Some, None, Result, Ok, Err}
use Rattle.stripe_region_read.specs.raid_types_the_Refusal.{Refusal}
use Rattle.reshape_progress.specs.raid_types_the_Refusal_TheVariants.{BackupFault}
use Rattle.stripe_region_read.specs.raid_types_the_Span.{Span}
use Rattle.reshape_progress.specs.bank_backup_the_SectionFault.{SectionFault}
use Rattle.reshape_progress.specs.bank_backup_the_SectionFault_TheVariants.{Before, Attempted}
use Rattle.reshape_progress.specs.reshape_request_the_Window.{Window}
use Rattle.reshape_progress.specs.reshape_request_the_Window_TheVariants.{Closed, Entered, Unsure}

-- why it isn't entered
abbrev pub refusal_in : {T : Type 0} → Result T SectionFault → Option Refusal
refusal_in (Ok x) = None
refusal_in (Err fault) = Some BackupFault

-- it is entered; or, where the header was tried, unsure; or none is under way
abbrev pub window_behind : {T : Type 0} → Span → Bool → Result T SectionFault → Window
window_behind span sectioned (Ok x) = Entered span 0 sectioned
window_behind span sectioned (Err Before) = Closed
window_behind span sectioned (Err Attempted) = Unsure span
