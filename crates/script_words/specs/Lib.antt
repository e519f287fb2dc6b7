pub mod Keys
pub mod Layouts
pub mod Numbers
pub mod Shapes
pub mod Wishes
pub use Rattle.raid_types.specs.declared.wishes.Wish as raid_types_the_Wish
pub use Rattle.raid_types.specs.declared.wishes.WishedLayout as raid_types_the_WishedLayout
pub use Rattle.raid_types.specs.declared.wishes.WishedLayout.TheVariants as raid_types_the_WishedLayout_TheVariants
