pub mod MoreLess
pub mod Differences
pub mod BegunNewest
pub mod Counts
pub mod NewRoles
pub mod Taken
pub mod BegunPlan
pub mod EndedPlan
pub use Rattle.crash_reshape_laws.proofs.EndLaws as crash_reshape_laws_EndLaws
pub use Rattle.crash_reshape_laws.proofs.PlanPlaced as crash_reshape_laws_PlanPlaced
pub use Rattle.crash_reshape_laws.proofs.GrownStanding as crash_reshape_laws_GrownStanding
pub use Rattle.crash_reshape_laws.proofs.PlanRoles as crash_reshape_laws_PlanRoles
pub use Rattle.crash_reshape_laws.proofs.CopyRuns as crash_reshape_laws_CopyRuns
pub use Rattle.crash_reshape_laws.proofs.PastWindows as crash_reshape_laws_PastWindows
pub use Rattle.crash_reshape_laws.proofs.Takeovers as crash_reshape_laws_Takeovers
pub use Rattle.crash_reshape_laws.proofs.GrownLaws as crash_reshape_laws_GrownLaws
pub use Rattle.crash_reshape_laws.proofs.TakenShapes as crash_reshape_laws_TakenShapes
pub use Rattle.crash_reshape_laws.proofs.bank_backup_WrittenLaws
