pub mod Demo
pub use Rattle.script.specs.Script as script_Script
pub use Rattle.script.specs.Seeds as script_Seeds
pub use Rattle.script.specs.declared.lines.Line as script_the_Line
pub use Rattle.script.specs.declared.lines.Line.TheVariants as script_the_Line_TheVariants
pub use Rattle.script.specs.declared.lines.Numbered as script_the_Numbered
pub use Rattle.script.specs.declared.reply.Lane as script_the_Lane
pub use Rattle.script.specs.declared.reply.Lane.TheVariants as script_the_Lane_TheVariants
