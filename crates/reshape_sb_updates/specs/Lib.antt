pub mod Beginning
pub mod Ending
pub use Rattle.crash_reshape_laws.specs.Ends as crash_reshape_laws_Ends
pub use Rattle.crash_reshape_laws.specs.Plans as crash_reshape_laws_Plans
pub use Rattle.crash_reshape_laws.specs.Grown as crash_reshape_laws_Grown
pub use Rattle.crash_reshape_laws.specs.Takeovers as crash_reshape_laws_Takeovers
pub use Rattle.crash_reshape_laws.specs.bank_backup_Section
pub use Rattle.crash_reshape_laws.specs.bank_backup_Storing
pub use Rattle.crash_reshape_laws.specs.bank_backup_Written
pub use Rattle.crash_reshape_laws.specs.bank_backup_the_SectionFault_TheVariants
pub use Rattle.crash_reshape_laws.specs.reshape_plan_Plans
pub use Rattle.crash_reshape_laws.specs.stripe_region_laws_Regions
