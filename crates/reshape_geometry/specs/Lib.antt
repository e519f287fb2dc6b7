pub mod Geometry
pub use Rattle.raid_types.specs.Search as raid_types_Search
pub use Rattle.raid_types.specs.Shapes as raid_types_Shapes
pub use Rattle.raid_types.specs.declared.answers.Refusal as raid_types_the_Refusal
pub use Rattle.raid_types.specs.declared.answers.Refusal.TheVariants as raid_types_the_Refusal_TheVariants
pub use Rattle.raid_types.specs.declared.answers.ShapeField as raid_types_the_ShapeField
pub use Rattle.raid_types.specs.declared.answers.ShapeField.TheVariants as raid_types_the_ShapeField_TheVariants
pub use Rattle.raid_types.specs.declared.places.Shape as raid_types_the_Shape
pub use Rattle.raid_types.specs.declared.places.Side as raid_types_the_Side
pub use Rattle.raid_types.specs.declared.places.Side.TheVariants as raid_types_the_Side_TheVariants
pub use Rattle.raid_types.specs.declared.places.Span as raid_types_the_Span
pub use Rattle.raid_types.specs.declared.wishes.Phase as raid_types_the_Phase
pub use Rattle.raid_types.specs.declared.wishes.Phase.TheVariants as raid_types_the_Phase_TheVariants
pub use Rattle.raid_types.specs.declared.wishes.Plan as raid_types_the_Plan
pub use Rattle.raid_types.specs.declared.wishes.Wish as raid_types_the_Wish
pub use Rattle.raid_types.specs.declared.wishes.WishedLayout as raid_types_the_WishedLayout
pub use Rattle.raid_types.specs.declared.wishes.WishedLayout.TheVariants as raid_types_the_WishedLayout_TheVariants
