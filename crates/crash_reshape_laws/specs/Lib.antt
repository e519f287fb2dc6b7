pub mod Copies
pub mod Ends
pub mod LeftSound
pub mod Flushed
pub mod Grown
pub mod Plans
pub mod Runs
pub mod Takeovers
pub use Rattle.crash_safety_laws.specs.Safety as crash_safety_laws_Safety
pub use Rattle.crash_safety_laws.specs.Steady as crash_safety_laws_Steady
pub use Rattle.crash_safety_laws.specs.Updates as crash_safety_laws_Updates
pub use Rattle.crash_safety_laws.specs.Changing as crash_safety_laws_Changing
pub use Rattle.crash_safety_laws.specs.Giving as crash_safety_laws_Giving
pub use Rattle.crash_safety_laws.specs.Kinds as crash_safety_laws_Kinds
pub use Rattle.crash_safety_laws.specs.crash_views_Regions
pub use Rattle.crash_safety_laws.specs.crash_views_Views
pub use Rattle.crash_safety_laws.specs.crash_views_Windows
pub use Rattle.crash_safety_laws.specs.history_World
pub use Rattle.crash_safety_laws.specs.history_Stands
pub use Rattle.crash_safety_laws.specs.history_Sound
pub use Rattle.crash_safety_laws.specs.stripe_row_Rows
pub use Rattle.crash_safety_laws.specs.bank_backup_Section
pub use Rattle.crash_safety_laws.specs.bank_backup_Storing
pub use Rattle.crash_safety_laws.specs.bank_backup_Written
pub use Rattle.crash_safety_laws.specs.bank_backup_the_SectionFault_TheVariants
pub use Rattle.crash_safety_laws.specs.reshape_plan_Plans
pub use Rattle.crash_safety_laws.specs.stripe_region_laws_Regions
