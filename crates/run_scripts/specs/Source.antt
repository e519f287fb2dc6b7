-- The text of a script: what is read from a source, or that of a demo.
use Rattle.std.specs.Prelude.{◌≡◌, ℕ, ◌+◌, ◌≤◌, List, [], ◌++◌, length, Option, Some, None}
use Rattle.run_session.specs.script_io_Causes.{HasRisen}
use Rattle.script_demo.specs.Demo.{demo_text}
use Rattle.run_scripts.specs.declared.text.TextFault.{TextFault}
use Rattle.run_scripts.specs.declared.text.TextFault.TheVariants.{Failed}

-- the most bytes that a script may have
abbrev pub longest_text : ℕ
longest_text = 1048576

-- the text is the front of what the source had left: all of it, unless it is too long, and then one byte more than the limit
pub record IsTextOf (tells : Type 0) (old new text : List ℕ) : Type 0 where
  pub within : length text ≤ longest_text + 1
  pub moved : tells → old ≡ text ++ new
  pub ended : tells → length text ≤ longest_text → new ≡ []

-- the text of a script: of a demo of this size its own, and else what was read of the source
abbrev pub IsTextFor : Option ℕ → Type 0 → List ℕ → List ℕ → List ℕ → Type 0
IsTextFor None tells old new text = IsTextOf tells old new text
IsTextFor (Some size) tells old new text = text ≡ demo_text size

-- one pull has moved so many bytes from the source to the text's end, and none only at the source's end
pub record IsPiece (tells : Type 0) (old new text longer : List ℕ) (room pulled : ℕ) : Type 0 where
  pub moved : tells → text ++ old ≡ longer ++ new
  pub count : length longer ≡ length text + pulled
  pub within : pulled ≤ room
  pub ended : tells → pulled ≡ 0 → new ≡ []

-- only a source whose count of failures rose is called failed
abbrev pub IsCaused : ℕ → ℕ → TextFault → Type 0
IsCaused before now fault = fault ≡ Failed → HasRisen before now
